-- What the turns of the nodes one after another do together: a node finds at its ports what was there before the first turn, since no
-- two nodes read the same channel. So each turn is as if it were the only one. Assumes nothing.
use Prim.Native.Nat.{ℕ, zero, suc, ◌<◌, min}
use native.Mathlib.Omega.{arith}
use native.Mathlib.Nat.{not-suc-le-zero}
use mathlib.Core.Bool.{true, false, not, ◌&&◌, and-false}
use mathlib.Core.List.{List}
use mathlib.Core.Path.{◌≡◌, refl, ◌∙◌, ap, ap₂}
use lib.Dec.{eqb, ltb}
use lib.ListN.{get_or}
use borrow.Author.Tests.{not-true, eqb-true, ltb-true, ltb-false, ne_eqb}
use Rattle.rules.specs.Lists.{every, is_empty}
use Rattle.rules.proofs.ListLaws.{by_test, true_or_false, and_left, and_right, every_all}
use Rattle.layout.specs.Views.{Shape, Cells, Wires, Pendings}
use Rattle.rings.specs.Rings.{Rings, Took, held_at, register_at}
use Rattle.arrays.specs.Taking.{port_of, at_port, all_hold, found}
use Rattle.arrays.specs.Nodes.{pending_at, waiting_at, inputs_at, ahead_at, result_at, waiting_then, next_then, taken_below, soon_at, soonest, Readable, Separate, Turned, ReadBelow}
use Rattle.kinds.specs.Nodes.{waiting_by, Seen}
use Rattle.rings.proofs.TookLaws.{took_none, took_ext, took_then, either_takes}
use Rattle.rules.proofs.Agreeing.{every_ext}

-- what a node finds is told by what stands at its ports
module _ (s : Shape) (x y : Cells) (input : List (List ℕ)) (n count : ℕ) (same : (p : ℕ) → p < count → held_at s y (port_of input n p) ≡ held_at s x (port_of input n p)) where
  all_hold_same : all_hold s y input n count ≡ all_hold s x input n count
  unfolding all_hold
  all_hold_same =
      every_ext count (λ p. not (is_empty (held_at s y (port_of input n p)))) (λ p. not (is_empty (held_at s x (port_of input n p)))) (λ p h. rw (same p h))

  found_same : (p : ℕ) → found s y input n count p ≡ found s x input n count p
  unfolding found
  found_same p = by_test (ltb p count) (λ e. rw (e, same p (ltb-true p count e))) (λ e. rw e)

-- the channels at a node's ports are at no port of a node before it
port_apart : {nodes : ℕ} {w : Wires} → Separate nodes w → (m n i : ℕ) → m < n → n < nodes → i < inputs_at w n → at_port w.input m (inputs_at w m) (port_of w.input n i) ≡ false
unfolding at_port
port_apart {nodes} {w} sep m n i below few h =
    ap not
    (every_all (inputs_at w m) (λ j. not (eqb (port_of w.input m j) (port_of w.input n i)))
    (λ j k. ap not (sep.apart m n below few j i k h)))

module _ {nodes : ℕ} (w : Wires) (s : Shape) (x : Cells) (p : Pendings) (t n : ℕ) (sep : Separate nodes w) (few : n < nodes) where
  -- so none of those takes from them
  free_port : (i : ℕ) → i < inputs_at w n → taken_below w s x p t n (port_of w.input n i) ≡ false
  unfolding taken_below
  free_port i h =
      rw (every_all n (λ m. not (ahead_at w s x p t m && at_port w.input m (inputs_at w m) (port_of w.input n i))) (λ m below. rw (port_apart sep m n i below few h, and-false)))

  -- and the node finds there what was there before their turns
  unread : {y : Cells} → Readable s.channels w n → Took s x (taken_below w s x p t n) y → (i : ℕ) → i < inputs_at w n → held_at s y (port_of w.input n i) ≡ held_at s x (port_of w.input n i)
  unread ready took i h = rw (free_port i h) at (took.taken (port_of w.input n i) (ready.ports.there i h))

  -- a channel that it takes from is one that none of those took from
  taken_once : (c : ℕ) → at_port w.input n (inputs_at w n) c ≡ true → taken_below w s x p t n c ≡ false
  unfolding at_port
  taken_once c h =
      by_test (taken_below w s x p t n c)
      (λ e.
      true_or_false
      (every_all (inputs_at w n) (λ i. not (eqb (port_of w.input n i) c))
      (λ i below.
      by_test (eqb (port_of w.input n i) c)
      (λ same. true_or_false (rw (← eqb-true (port_of w.input n i) c same) at e) (free_port i below))
      (λ other. ap not other)))
      (not-true (every (inputs_at w n) (λ i. not (eqb (port_of w.input n i) c))) h))
      (λ e. e)

-- before the first turn
pub read_none : {w : Wires} {s : Shape} {x : Cells} {p : Pendings} {t : ℕ} → Rings s x → ReadBelow w s x p t 0 x p
unfolding taken_below every
read_none rings =
    record {
      took = took_none rings;
      waits = λ n h. absurd (not-suc-le-zero h);
      next = λ n h. absurd (not-suc-le-zero h);
      others = λ n h. refl;
    }

-- what holds of each number below n and of n holds of each below suc n
below_suc : (P : ℕ → Type 0) (n : ℕ) → ((m : ℕ) → m < n → P m) → P n → (m : ℕ) → m < suc n → P m
below_suc P n below here m h =
    by_test (ltb m n) (λ e. below m (ltb-true m n e))
    (λ e.
    let same : m ≡ n = omega (arith, ltb-false m n e) in
    rw same here)

-- a turn leaves the nodes before it as they were
turned_below : {w : Wires} {s : Shape} {y z : Cells} {q r : Pendings} {t n m : ℕ} → Turned w s y q t n z r m → (k : ℕ) → k < n → pending_at r k ≡ pending_at q k
turned_below {n = n} turn k h = turn.others k (ne_eqb k n (λ e. omega arith))

-- one more node's turn
pub read_next : {nodes : ℕ} {w : Wires} {s : Shape} {x y z : Cells} {p q r : Pendings} {t n m : ℕ} → Separate nodes w → n < nodes → Readable s.channels w n → ReadBelow w s x p t n y q → Turned w s y q t n z r m → ReadBelow w s x p t (suc n) z r
unfolding waiting_then result_at taken_below every
read_next {nodes} {w} {s} {x} {y} {z} {p} {q} {r} {t} {n} {m} sep few ready below turn =
    let same = unread w s x p t n sep few ready below.took in
    let holds = all_hold_same s x y w.input n (inputs_at w n) same in
    let finds = found_same s x y w.input n (inputs_at w n) same in
    let before : pending_at q n ≡ pending_at p n = below.others n (omega arith) in
    let next_same : get_or q.next n 0 ≡ get_or p.next n 0 = ap (λ (a : Seen). a.next) before in
    let due_same : get_or q.due n 0 ≡ get_or p.due n 0 = ap (λ (a : Seen). a.due) before in
    let value_same : get_or q.value n 0 ≡ get_or p.value n 0 = ap (λ (a : Seen). a.value) before in
    record {
      took = took_ext
          (took_then below.took (rw (next_same, holds) at turn.took)
          (λ c h. taken_once w s x p t n sep few c (and_right (ahead_at w s x p t n) (at_port w.input n (inputs_at w n) c) (and_left (ahead_at w s x p t n && at_port w.input n (inputs_at w n) c) (not (register_at s c)) h))))
          (λ c. either_takes (every n (λ k. not (ahead_at w s x p t k && at_port w.input k (inputs_at w k) c))) (ahead_at w s x p t n && at_port w.input n (inputs_at w n) c) (not (register_at s c)));
      waits = below_suc (λ k. waiting_at r k ≡ waiting_then w s x p t k) n (λ k h. ap (λ (a : Seen). waiting_by a.due a.value) (turned_below turn k h) ∙ below.waits k h)
          (turn.waits ∙ rw (next_same, due_same, value_same, holds, finds 0, finds 1, finds 2));
      next = below_suc (λ k. get_or r.next k 0 ≡ next_then w p t k) n (λ k h. ap (λ (a : Seen). a.next) (turned_below turn k h) ∙ below.next k h) (turn.next ∙ rw next_same);
      others = λ k h. turn.others k (ne_eqb k n (λ e. omega arith)) ∙ below.others k (omega arith);
    }

-- the earliest instant of nodes that have the same
pub soonest_same : (p q : Pendings) (from k : ℕ) → ((m : ℕ) → m < k → soon_at q m ≡ soon_at p m) → soonest q from k ≡ soonest p from k
unfolding soonest
soonest_same p q from zero same = refl
soonest_same p q from (suc k) same = ap₂ min (soonest_same p q from k (λ m h. same m (omega arith))) (same k (omega arith))
