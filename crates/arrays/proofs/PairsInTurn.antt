-- The reads of the pairs one after another, and the earliest instant of all nodes. Assumes nothing.
use Prim.Native.Nat.{ℕ, suc, ◌+◌, ◌*◌, ◌≤◌, ◌<◌, min}
use native.Mathlib.Numerals.{add-one}
use native.Mathlib.Omega.{arith}
use mathlib.Core.Path.{◌≡◌, sym, ◌∙◌, ap, ap₂}
use lib.Dec.{eqb, ltb}
use borrow.Author.Tests.{ltb-true, ltb-false, eqb-true, eqb-false}
use Rattle.rules.proofs.ListLaws.{by_test}
use Rattle.kinds.specs.Nodes.{never}
use Rattle.layout.specs.declared.Plan.{Plan}
use Rattle.layout.specs.declared.State.{State}
use Rattle.layout.specs.Views.{Pendings, nodes_of, cells_of, pendings_of, soons_of}
use Rattle.arrays.specs.Nodes.{pending_at, soon_at, soonest, pair_soon, Unused, Paired}
use Rattle.arrays.specs.Instants.{AbleIn, Whole, Timely}
use Rattle.arrays.specs.Turns.{ReadTo, PairRead}
use Rattle.arrays.proofs.ReadLaws.{read_none, soonest_same}
use Rattle.arrays.proofs.SoonLaws.{soonest_given}
use Rattle.arrays.proofs.PairWrites.{pair_from}
use Rattle.arrays.proofs.PairTurns.{soon_same}

-- the earliest of an instant that comes and of two nodes, or of one
with_one : (given a : ℕ) → given ≤ never → min given a ≡ min given (min (min never a) never)
with_one given a most = omega arith

with_both : (given a b : ℕ) → given ≤ never → min (min given a) b ≡ min given (min (min never a) b)
with_both given a b most =
    omega arith

-- the earliest instant of the nodes up to a pair and of the pair
pair_soonest : (q : Pendings) (nodes from g : ℕ) → from ≤ never → nodes ≤ 32 → 2 * g < nodes → Unused nodes q
    → soonest q from (min (2 * g + 2) nodes) ≡ min (soonest q from (2 * g)) (pair_soon q g)
unfolding soonest pair_soon
pair_soonest q nodes from g most few below unused =
    let given : soonest q from (2 * g) ≤ from = soonest_given q from (2 * g) in
    by_test (ltb (2 * g + 1) nodes)
    (λ e.
    let whole : min (2 * g + 2) nodes ≡ suc (suc (2 * g)) = omega (arith, ltb-true (2 * g + 1) nodes e) in
    rw (whole, add-one (2 * g)) (with_both (soonest q from (2 * g)) (soon_at q (2 * g)) (soon_at q (suc (2 * g))) (omega arith)))
    (λ e.
    let past : nodes ≤ 2 * g + 1 = ltb-false (2 * g + 1) nodes e in
    let whole : min (2 * g + 2) nodes ≡ suc (2 * g) = omega arith in
    let rest : soon_at q (2 * g + 1) ≡ never = omega (arith, unused.next (2 * g + 1) past (omega arith), unused.due (2 * g + 1) past (omega arith)) in
    rw (whole, rest) (with_one (soonest q from (2 * g)) (soon_at q (2 * g)) (omega arith)))

-- another pair than g has the same earliest instant where only the nodes of pair g have had a turn
pair_same : (q r : Pendings) (g h : ℕ) → (h ≡ g → ⊥) → ((k : ℕ) → (2 * g ≤ k → 2 * g + 2 ≤ k) → pending_at r k ≡ pending_at q k) → pair_soon q h ≡ pair_soon r h
unfolding pair_soon
pair_same q r g h other same =
    let soon : (k : ℕ) → (2 * g ≤ k → 2 * g + 2 ≤ k) → soon_at q k ≡ soon_at r k = λ k apart. sym (soon_same q r k (same k apart)) in
    ap₂ min (ap (min never) (soon (2 * h) (λ low. omega (arith, other)))) (soon (2 * h + 1) (λ low. omega (arith, other)))

-- the first g pairs are read
pub record PairsRead (p : Plan) (s : State) (t from g : ℕ) (z : State) (r : ℕ) : Type 0 where
  pub whole : Whole p z
  pub read : ReadTo p t (min (2 * g) (nodes_of p)) (cells_of s) (pendings_of s) z
  pub paired : Paired (nodes_of p) (soons_of z) (pendings_of z)
  pub soon : r ≡ soonest (pendings_of z) from (min (2 * g) (nodes_of p))

pub pairs_none : (p : Plan) (s : State) (t from : ℕ) → Whole p s → Timely p s t → PairsRead p s t from 0 s from
unfolding soonest
pairs_none p s t from whole timely =
    let none : min (2 * 0) (nodes_of p) ≡ 0 = omega arith in
    record {
      whole = whole;
      read = rw none (read_none whole.rings);
      paired = timely.paired;
      soon = rw none;
    }

module _ (p : Plan) (s : State) (t from g : ℕ) (z : State) {soon : ℕ} (able : AbleIn p) (timely : Timely p s t) (below : 2 * g < nodes_of p) (so_far : PairsRead p s t from g z soon) where
  before_pair : min (2 * g) (nodes_of p) ≡ 2 * g
  before_pair = omega arith

  -- the pair's nodes are as they were, so none of their instants is past
  pub pair_ahead : Whole p s → t ≤ pair_soon (pendings_of z) g
  unfolding pair_soon
  pair_ahead whole =
      let same : (k : ℕ) → 2 * g ≤ k → soon_at (pendings_of z) k ≡ soon_at (pendings_of s) k = λ k h. soon_same (pendings_of s) (pendings_of z) k (so_far.read.others k (omega arith)) in
      rw (same (2 * g) (omega arith), same (2 * g + 1) (omega arith)) (pair_from whole timely g (omega (arith, able.few)))

  pub pairs_next : (y : State) {m then : ℕ} → from ≤ never → PairRead p z t g y m → then ≡ min soon m → PairsRead p s t from (g + 1) y then
  pairs_next y {m} {then} most pair least =
      let all : min (2 * (g + 1)) (nodes_of p) ≡ min (2 * g + 2) (nodes_of p) = omega arith in
      let earlier : soonest (pendings_of y) from (2 * g) ≡ soonest (pendings_of z) from (2 * g) = soonest_same (pendings_of z) (pendings_of y) from (2 * g) (λ k h. soon_same (pendings_of z) (pendings_of y) k (pair.turned.others k (λ low. absurd (omega arith)))) in
      let before : soon ≡ soonest (pendings_of z) from (2 * g) = rw before_pair at so_far.soon in
      record {
        whole = pair.turned.whole;
        read = rw all (pair.turned.read (cells_of s) (pendings_of s) (rw before_pair at so_far.read));
        paired = λ h there.
            by_test (eqb h g)
            (λ e. rw (eqb-true h g e) (pair.held ∙ pair.turned.soon))
            (λ e. pair.others h e ∙ so_far.paired h there ∙ pair_same (pendings_of z) (pendings_of y) g h (eqb-false h g e) pair.turned.others);
        soon = rw all (least ∙ ap₂ min (before ∙ sym earlier) pair.turned.soon ∙ sym (pair_soonest (pendings_of y) (nodes_of p) from g most able.few below pair.turned.whole.unused));
      }
