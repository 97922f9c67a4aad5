-- The results of the nodes written pair by pair: a node that is due goes on behind those before it, a pair that is not has none that is, and
-- nodes that are not there are never due. Assumes nothing.
use Prim.Native.Nat.{ℕ, ◌+◌, ◌*◌, ◌^◌, ◌≤◌, ◌<◌, min}
use native.Mathlib.Omega.{arith}
use mathlib.Core.Path.{◌≡◌, sym, subst, ◌∙◌}
use lib.Dec.{eqb, ltb}
use lib.ListN.{get_or}
use borrow.Author.Tests.{ltb-true, ltb-false, eqb-true, eqb-false}
use Rattle.rules.proofs.ListLaws.{by_test}
use Rattle.layout.specs.declared.Plan.{Plan}
use Rattle.layout.specs.declared.State.{State}
use Rattle.layout.specs.Views.{Cells, Pendings, nodes_of, channels_of, shape_of, ways_of, cells_of, pendings_of, soons_of}
use Rattle.arrays.specs.Writes.{WroteDue}
use Rattle.arrays.specs.Nodes.{soon_at, pair_soon}
use Rattle.arrays.specs.Instants.{RingsIn, Whole, Timely}
use Rattle.arrays.specs.Turns.{WroteAlong, WroteOn, WroteAll}
use Rattle.arrays.proofs.Dues.{none_due_law, due_turn, due_skip}
use Rattle.arrays.proofs.Kept.{pendings_kept}

-- the earliest instant of a pair is not later than that of each of its nodes
pub pair_soon_at : (q : Pendings) (g n : ℕ) → 2 * g ≤ n → n < 2 * g + 2 → pair_soon q g ≤ soon_at q n
unfolding pair_soon
pair_soon_at q g n low high =
    by_test (eqb n (2 * g))
    (λ e.
    let first : n ≡ 2 * g = eqb-true n (2 * g) e in
    rw first (omega arith))
    (λ e.
    let second : n ≡ 2 * g + 1 = omega (arith, eqb-false n (2 * g) e) in
    rw second (omega arith))

module _ {p : Plan} {s : State} {t : ℕ} (whole : Whole p s) where
  -- a node that is due is there
  pub due_there : t < 2 ^ 24 → (n : ℕ) → n < 32 → get_or (pendings_of s).due n 0 ≡ t → n < nodes_of p
  due_there early n h now =
      by_test (ltb n (nodes_of p)) (λ e. ltb-true n (nodes_of p) e)
      (λ e. absurd (omega (arith, whole.unused.due n (ltb-false n (nodes_of p) e) h)))

  -- no node is past, there or not
  pub none_past : Timely p s t → (n : ℕ) → n < 32 → t ≤ soon_at (pendings_of s) n
  none_past timely n h =
      by_test (ltb n (nodes_of p)) (λ e. timely.ahead n (ltb-true n (nodes_of p) e))
      (λ e.
      let out = ltb-false n (nodes_of p) e in
      omega (arith, timely.early, whole.unused.next n out h, whole.unused.due n out h))

  -- nor is a pair
  pub pair_from : Timely p s t → (g : ℕ) → g < 16 → t ≤ pair_soon (pendings_of s) g
  unfolding pair_soon
  pair_from timely g h =
      omega (arith, timely.early, none_past timely (2 * g) (omega arith), none_past timely (2 * g + 1) (omega arith))

  -- a pair whose instant is another has no node that is due
  pub pair_not_due : nodes_of p ≤ 32 → Timely p s t → (g : ℕ) → (get_or (soons_of s) g 0 ≡ t → ⊥) → (n : ℕ) → 2 * g ≤ n → n < 2 * g + 2 → n < nodes_of p → get_or (pendings_of s).due n 0 ≡ t → ⊥
  pair_not_due few timely g other n low high below now =
      let kept = timely.paired g (omega arith) in
      other (omega (arith, kept, pair_from timely g (omega arith), pair_soon_at (pendings_of s) g n low high))

-- behind the results up to n those of node n, which is due, are written; where it is not, there are none; so none behind the last node
module _ {p : Plan} {s y : State} {t k before full : ℕ} where
  pub on_due : {z : State} {r : ℕ} (n : ℕ) → n < nodes_of p → get_or (pendings_of s).due n 0 ≡ t
      → WroteOn p s t k (min n (nodes_of p)) before y full
      → WroteAlong p y (get_or (ways_of p).first n 0) (get_or (pendings_of s).value n 0) full z r
      → WroteOn p s t k (min (n + 1) (nodes_of p)) before z r
  on_due n below now on along =
      let here : min n (nodes_of p) ≡ n = omega arith in
      let there : min (n + 1) (nodes_of p) ≡ n + 1 = omega arith in
      record {
        wrote = λ x w. rw there (due_turn now along.least (rw here at (on.wrote x w)) along.wrote);
        rings = along.wrote.rings;
        few = omega (arith, along.least, on.few);
        nodes = along.nodes ∙ on.nodes;
      }

  pub on_skip : (n : ℕ) → (n < nodes_of p → get_or (pendings_of s).due n 0 ≡ t → ⊥)
      → WroteOn p s t k (min n (nodes_of p)) before y full
      → WroteOn p s t k (min (n + 1) (nodes_of p)) before y full
  on_skip n other on =
      by_test (ltb n (nodes_of p))
      (λ e.
      let below : n < nodes_of p = ltb-true n (nodes_of p) e in
      let here : min n (nodes_of p) ≡ n = omega arith in
      let there : min (n + 1) (nodes_of p) ≡ n + 1 = omega arith in
      record {
        wrote = λ x w. rw there (due_skip (other below) (rw here at (on.wrote x w)));
        rings = on.rings;
        few = on.few;
        nodes = on.nodes;
      })
      (λ e.
      let still : min (n + 1) (nodes_of p) ≡ min n (nodes_of p) = omega (arith, ltb-false n (nodes_of p) e) in
      rw still on)

-- what is written behind what is
module _ {p : Plan} {s : State} {t k before : ℕ} where
  pub on_then : {y z : State} {n m full r : ℕ} → WroteOn p s t k n before y full → WroteOn p y t n m full z r → WroteOn p s t k m before z r
  on_then {y} {z} {n} {m} {full} {r} on more =
      let same = pendings_kept s y on.nodes in
      record {
        wrote = λ x w.
            let due : ℕ → Cells → ℕ → Pendings → Type 0 = λ i c f q. WroteDue (shape_of p) x i t q.due q.value (ways_of p).first (ways_of p).follow c f in
            subst (due m (cells_of z) r) same (more.wrote x (subst (due n (cells_of y) full) (sym same) (on.wrote x w)));
        rings = more.rings;
        few = more.few;
        nodes = more.nodes ∙ on.nodes;
      }

  -- a pair: its results are written, or it has none that is due
  pub pair_due : {y z : State} {full r : ℕ} (g : ℕ) → 2 * g < nodes_of p
      → WroteOn p s t k (min (2 * g) (nodes_of p)) before y full
      → WroteOn p y t (2 * g) (min (2 * g + 2) (nodes_of p)) full z r
      → WroteOn p s t k (min (2 * (g + 1)) (nodes_of p)) before z r
  pair_due g below on more =
      let here : min (2 * g) (nodes_of p) ≡ 2 * g = omega arith in
      let there : 2 * (g + 1) ≡ 2 * g + 2 = omega arith in
      rw there (on_then (rw here at on) more)

  pub pair_skip : {y : State} {full : ℕ} (g : ℕ) → ((n : ℕ) → 2 * g ≤ n → n < 2 * g + 2 → n < nodes_of p → get_or (pendings_of s).due n 0 ≡ t → ⊥)
      → WroteOn p s t k (min (2 * g) (nodes_of p)) before y full
      → WroteOn p s t k (min (2 * (g + 1)) (nodes_of p)) before y full
  pair_skip g other on =
      let there : 2 * (g + 1) ≡ 2 * g + 1 + 1 = omega arith in
      rw there (on_skip (2 * g + 1) (other (2 * g + 1) (omega arith) (omega arith)) (on_skip (2 * g) (other (2 * g) (omega arith) (omega arith)) on))

pub on_all : {p : Plan} {s z : State} {t r : ℕ} → RingsIn p s → WroteOn p s t 0 (nodes_of p) (channels_of p) z r → WroteAll p s t z r
on_all {s = s} rings on = record { wrote = on.wrote (cells_of s) (none_due_law rings); few = on.few; nodes = on.nodes }
