-- The turns of a pair of nodes one after the other, of which the second may be a node that is not there. Assumes nothing.
use Prim.Native.Nat.{ℕ, suc, ◌+◌, ◌*◌, ◌^◌, ◌≤◌, ◌<◌, min}
use native.Mathlib.Omega.{arith}
use mathlib.Core.Path.{◌≡◌, refl, sym, ◌∙◌, ap, ap₂}
use lib.Dec.{ltb}
use lib.ListN.{length}
use borrow.Author.Tests.{ltb-true, ltb-false, ne_eqb}
use Rattle.rules.proofs.ListLaws.{by_test}
use Rattle.kinds.specs.Nodes.{never, Seen}
use Rattle.layout.specs.declared.Plan.{Plan}
use Rattle.layout.specs.declared.State.{State}
use Rattle.layout.specs.Views.{Cells, Pendings, nodes_of, pendings_of, soons_of}
use Rattle.arrays.specs.Nodes.{pending_at, soon_at, pair_soon, Unused}
use Rattle.arrays.specs.Instants.{AbleIn, Whole}
use Rattle.arrays.specs.Turns.{TurnedIn, ReadTo, PairTurned}
use Rattle.arrays.proofs.ReadLaws.{read_next}

-- a node whose next release and waiting result are as they were has the same earliest instant
pub soon_same : (p q : Pendings) (k : ℕ) → pending_at q k ≡ pending_at p k → soon_at q k ≡ soon_at p k
soon_same p q k same = ap (λ (a : Seen). min a.next a.due) same

module _ (p : Plan) (s : State) (t n : ℕ) (z : State) {m : ℕ} (able : AbleIn p) (whole : Whole p s) (early : t < 2 ^ 24) (few : n < 32) (turn : TurnedIn p s t n z m) where
  -- a node that is not there has no turn
  not_there : nodes_of p ≤ n → z ≡ s
  not_there past = turn.idle (λ e. omega (arith, whole.unused.next n past few)) (λ e. omega (arith, whole.unused.due n past few))

  pub turn_reads : (x : Cells) (q : Pendings) → ReadTo p t (min n (nodes_of p)) x q s → ReadTo p t (min (n + 1) (nodes_of p)) x q z
  turn_reads x q before =
      by_test (ltb n (nodes_of p))
      (λ e.
      let below : n < nodes_of p = ltb-true n (nodes_of p) e in
      let here : min n (nodes_of p) ≡ n = omega arith in
      let then : min (n + 1) (nodes_of p) ≡ suc n = omega arith in
      rw then (read_next able.separate below (able.readable n below) (rw here at before) turn.turned))
      (λ e.
      let past : nodes_of p ≤ n = ltb-false n (nodes_of p) e in
      let same : min (n + 1) (nodes_of p) ≡ min n (nodes_of p) = omega arith in
      rw (not_there past, same) before)

  still_unused : Unused (nodes_of p) (pendings_of z)
  still_unused =
      by_test (ltb n (nodes_of p))
      (λ e.
      let below : n < nodes_of p = ltb-true n (nodes_of p) e in
      record {
        next = λ k past within. ap (λ (a : Seen). a.next) (turn.turned.others k (ne_eqb k n (λ same. omega arith))) ∙ whole.unused.next k past within;
        due = λ k past within. ap (λ (a : Seen). a.due) (turn.turned.others k (ne_eqb k n (λ same. omega arith))) ∙ whole.unused.due k past within;
      })
      (λ e. rw (not_there (ltb-false n (nodes_of p) e)) whole.unused)

  pub turn_whole : Whole p z
  turn_whole =
      record {
        rings = turn.turned.took.rings;
        sized = turn.turned.sized;
        pairs = ap length turn.soons ∙ whole.pairs;
        unused = still_unused;
      }

-- pair g has had its turns up to node n
pub record PairTo (p : Plan) (s : State) (t g n : ℕ) (z : State) (soon : ℕ) : Type 0 where
  pub low : 2 * g ≤ n
  pub high : n ≤ 2 * g + 2
  pub whole : Whole p z
  pub read : (x : Cells) (q : Pendings) → ReadTo p t (2 * g) x q s → ReadTo p t (min n (nodes_of p)) x q z
  pub soons : soons_of z ≡ soons_of s
  pub others : (k : ℕ) → (2 * g ≤ k → n ≤ k) → pending_at (pendings_of z) k ≡ pending_at (pendings_of s) k
  pub none : n ≡ 2 * g → soon ≡ never
  pub one : n ≡ 2 * g + 1 → soon ≡ min never (soon_at (pendings_of z) (2 * g))
  pub both : n ≡ 2 * g + 2 → soon ≡ pair_soon (pendings_of z) g

pub pair_starts : (p : Plan) (s : State) (t g : ℕ) → 2 * g < nodes_of p → Whole p s → PairTo p s t g (2 * g) s never
pair_starts p s t g below whole =
    record {
      low = omega arith;
      high = omega arith;
      whole = whole;
      read = λ x q before.
          let here : min (2 * g) (nodes_of p) ≡ 2 * g = omega arith in
          rw here before;
      soons = refl;
      others = λ k h. refl;
      none = λ e. refl;
      one = λ e. absurd (omega arith);
      both = λ e. absurd (omega arith);
    }

pub pair_turn : (p : Plan) (s : State) (t g n : ℕ) (y z : State) {soon m then : ℕ} → AbleIn p → t < 2 ^ 24 → n < 32 → n < 2 * g + 2
    → PairTo p s t g n y soon → TurnedIn p y t n z m → then ≡ min soon m → PairTo p s t g (n + 1) z then
unfolding pair_soon
pair_turn p s t g n y z {soon} {m} {then} able early few within before turn least =
    let other : (k : ℕ) → (k ≡ n → ⊥) → pending_at (pendings_of z) k ≡ pending_at (pendings_of y) k = λ k h. turn.turned.others k (ne_eqb k n h) in
    record {
      low = omega (arith, before.low);
      high = omega arith;
      whole = turn_whole p y t n z able before.whole early few turn;
      read = λ x q start. turn_reads p y t n z able before.whole early few turn x q (before.read x q start);
      soons = turn.soons ∙ before.soons;
      others = λ k h.
          other k (λ same. omega (arith, before.low, h (omega (arith, before.low))))
          ∙ before.others k (λ low. omega (arith, h low));
      none = λ e. absurd (omega (arith, before.low));
      one = λ e.
          let here : n ≡ 2 * g = omega arith in
          let now : soon ≡ never = before.none here in
          least ∙ ap₂ min now (turn.turned.soon ∙ ap (soon_at (pendings_of z)) here);
      both = λ e.
          let here : n ≡ 2 * g + 1 = omega arith in
          let now : soon ≡ min never (soon_at (pendings_of y) (2 * g)) = before.one here in
          let same : soon_at (pendings_of z) (2 * g) ≡ soon_at (pendings_of y) (2 * g) = soon_same (pendings_of y) (pendings_of z) (2 * g) (other (2 * g) (λ e. omega arith)) in
          least ∙ ap₂ min (now ∙ ap (min never) (sym same)) (turn.turned.soon ∙ ap (soon_at (pendings_of z)) here);
    }

pub pair_ends : (p : Plan) (s : State) (t g n : ℕ) (z : State) {soon : ℕ} → 2 * g + 2 ≤ n → PairTo p s t g n z soon → PairTurned p s t g z soon
pair_ends p s t g n z past done =
    let here : n ≡ 2 * g + 2 = omega (arith, done.high) in
    record {
      whole = done.whole;
      read = rw here at done.read;
      soon = done.both here;
      others = λ k h. done.others k (λ low. omega (arith, h low));
    }
