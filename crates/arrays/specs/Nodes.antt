-- The nodes' next releases and waiting results, and what an instant's reads make of them. Assumes nothing.
use Rattle.std.specs.Prelude.{ℕ, zero, suc, ◌+◌, ◌*◌, ◌^◌, ◌≤◌, ◌<◌, min, Bool, false, cond, not, ◌&&◌, List, ◌≡◌, eqb, ℤ, get_or, length}
use Rattle.std.proofs.Math.Option.{Option, none}
use Rattle.rules.specs.Lists.{every}
use Rattle.rules.specs.Kinds.{signed, is_zero, result, inputs}
use Rattle.rules.specs.Instant.{Waiting, wait_for}
use Rattle.kinds.specs.Nodes.{never, waiting_by, Seen}
use Rattle.layout.specs.Views.{Shape, Cells, Wires, Pendings}
use Rattle.rings.specs.Rings.{Took, register_at}
use Rattle.arrays.specs.Taking.{port_of, Ported, at_port, all_hold, found, taken_at}

-- a node's next release and waiting result
abbrev pub pending_at : Pendings → ℕ → Seen
pending_at p n = record { next = get_or p.next n 0; due = get_or p.due n 0; value = get_or p.value n 0 }

abbrev pub waiting_at : Pendings → ℕ → Option Waiting
waiting_at p n = waiting_by (get_or p.due n 0) (get_or p.value n 0)

-- how many inputs node n has
abbrev pub inputs_at : Wires → ℕ → ℕ
inputs_at w n = inputs (get_or w.kind n 0)

-- node n is released at t
abbrev pub released_at : Pendings → ℕ → ℕ → Bool
released_at p t n = eqb (get_or p.next n 0) t

-- and goes ahead
abbrev pub ahead_at : Wires → Shape → Cells → Pendings → ℕ → ℕ → Bool
ahead_at w s x p t n = released_at p t n && all_hold s x w.input n (inputs_at w n)

-- the result of node n on what it finds
unfoldable pub result_at : Wires → Shape → Cells → ℕ → Option ℤ
result_at w s x n =
    result (get_or w.kind n 0) (signed (get_or w.constant n 0))
    (signed (found s x w.input n (inputs_at w n) 0))
    (signed (found s x w.input n (inputs_at w n) 1))
    (signed (found s x w.input n (inputs_at w n) 2))

-- what node n has waiting after the reads
unfoldable pub waiting_then : Wires → Shape → Cells → Pendings → ℕ → ℕ → Option Waiting
waiting_then w s x p t n =
    cond (released_at p t n)
    (cond (all_hold s x w.input n (inputs_at w n)) (wait_for (t + get_or w.deadline n 0) (result_at w s x n)) none)
    (cond (eqb (get_or p.due n 0) t) none (waiting_at p n))

-- node n's next release after the reads
abbrev pub next_then : Wires → Pendings → ℕ → ℕ → ℕ
next_then w p t n = cond (released_at p t n) (t + get_or w.period n 0) (get_or p.next n 0)

-- one of the first k nodes goes ahead and takes from channel c
unfoldable pub taken_below : Wires → Shape → Cells → Pendings → ℕ → ℕ → ℕ → Bool
taken_below w s x p t k c =
    not (every k (λ n. not (ahead_at w s x p t n && at_port w.input n (inputs_at w n) c))) && not (register_at s c)

-- the earlier of a node's next release and its due instant
abbrev pub soon_at : Pendings → ℕ → ℕ
soon_at p n = min (get_or p.next n 0) (get_or p.due n 0)

-- the earliest of these of the first k nodes, or a given instant
unfoldable pub soonest : Pendings → ℕ → ℕ → ℕ
soonest p from zero = from
soonest p from (suc k) = min (soonest p from k) (soon_at p k)

-- the pendings have an entry for each node
pub record Sized (p : Pendings) : Type 0 where
  pub nexts : length p.next ≡ 32
  pub dues : length p.due ≡ 32
  pub values : length p.value ≡ 32

-- the first k nodes have had their turn to read at t; the others are as they were
pub record ReadBelow (w : Wires) (s : Shape) (x : Cells) (p : Pendings) (t k : ℕ) (y : Cells) (q : Pendings) : Type 0 where
  pub took : Took s x (taken_below w s x p t k) y
  pub waits : (n : ℕ) → n < k → waiting_at q n ≡ waiting_then w s x p t n
  pub next : (n : ℕ) → n < k → get_or q.next n 0 ≡ next_then w p t n
  pub others : (n : ℕ) → k ≤ n → pending_at q n ≡ pending_at p n

-- a release of node n: what it takes, its next release, and what waits then
pub record Released (w : Wires) (s : Shape) (x : Cells) (n : ℕ) (before : Seen) (y : Cells) (r : Seen) : Type 0 where
  pub took : Took s x (taken_at s x w.input n (inputs_at w n)) y
  pub next : r.next ≡ before.next + get_or w.period n 0
  pub waits :
      waiting_by r.due r.value
      ≡ cond (all_hold s x w.input n (inputs_at w n)) (wait_for (before.next + get_or w.deadline n 0) (result_at w s x n)) none

-- node n has had its turn to read at t; the others are as they were
pub record Turned (w : Wires) (s : Shape) (x : Cells) (p : Pendings) (t n : ℕ) (y : Cells) (q : Pendings) (moment : ℕ) : Type 0 where
  pub took : Took s x (λ c. (ahead_at w s x p t n && at_port w.input n (inputs_at w n) c) && not (register_at s c)) y
  pub sized : Sized q
  pub waits : waiting_at q n ≡ waiting_then w s x p t n
  pub next : get_or q.next n 0 ≡ next_then w p t n
  pub others : (m : ℕ) → eqb m n ≡ false → pending_at q m ≡ pending_at p m
  pub soon : moment ≡ soon_at q n

-- a node's record and ports are such that it can be read
pub record Readable (channels : ℕ) (w : Wires) (n : ℕ) : Type 0 where
  pub kind : get_or w.kind n 0 < 12
  pub divisor : get_or w.kind n 0 ≡ 7 → is_zero (signed (get_or w.constant n 0)) ≡ false
  pub period : get_or w.period n 0 < 65536
  pub deadline : get_or w.deadline n 0 < 65536
  pub counted : get_or w.count n 0 ≡ inputs_at w n
  pub ports : Ported channels w.input n (inputs_at w n)

-- node n can be released, with this next release
pub record Releasable (channels : ℕ) (w : Wires) (n : ℕ) (before : Seen) : Type 0 where
  pub few : n < 32
  pub readable : Readable channels w n
  pub early : before.next < 2 ^ 24

-- no two nodes read the same channel
pub record Separate (nodes : ℕ) (w : Wires) : Type 0 where
  pub apart : (m n : ℕ) → m < n → n < nodes → (p q : ℕ) → p < inputs_at w m → q < inputs_at w n → eqb (port_of w.input m p) (port_of w.input n q) ≡ false

-- ---- Pairs of nodes

-- the earliest instant of pair g, nodes 2 g and 2 g + 1
unfoldable pub pair_soon : Pendings → ℕ → ℕ
pair_soon p g = min (min never (soon_at p (2 * g))) (soon_at p (2 * g + 1))

-- nodes that are not there are never released, and have nothing waiting
pub record Unused (nodes : ℕ) (p : Pendings) : Type 0 where
  pub next : (n : ℕ) → nodes ≤ n → n < 32 → get_or p.next n 0 ≡ never
  pub due : (n : ℕ) → nodes ≤ n → n < 32 → get_or p.due n 0 ≡ never

-- the earliest instant of each pair is kept
abbrev pub Paired : ℕ → List ℕ → Pendings → Type 0
Paired nodes soons p = (g : ℕ) → 2 * g < nodes → get_or soons g 0 ≡ pair_soon p g

-- no node was to be released before t, and no result was due
abbrev pub Ahead : ℕ → Pendings → ℕ → Type 0
Ahead nodes p t = (n : ℕ) → n < nodes → t ≤ soon_at p n
