-- A network inside a larger one: its nodes read the same channels there, and its channels have the same ends. Assumes nothing.
use Prim.Native.Nat.{ℕ, ◌≤◌, ◌<◌}
use native.Mathlib.Omega.{arith}
use mathlib.Core.Bool.{false}
use mathlib.Core.Path.{◌≡◌, refl, sym, ◌∙◌}
use lib.Dec.{eqb}
use lib.ListN.{length}
use borrow.Author.Tests.{eq-eqb}
use Rattle.rules.specs.Lists.{count}
use Rattle.rules.specs.Network.{Network, Obeys, channel_of, serves}
use Rattle.rules.proofs.Checks.{served}
use Rattle.rules.proofs.ListLaws.{and_both, by_test, true_or_false}
use Rattle.theorems.specs.Demand.{Extends}
use Rattle.theorems.proofs.Front.{none_behind}

-- both networks obey their own rules, B extends A, and no channel that only B has is read by a node of A
pub record Inside (A B : Network) : Type 0 where
  pub inner : Obeys A
  pub outer : Obeys B
  pub extends : Extends A B
  pub elsewhere : (n : ℕ) → n < length A.nodes → (c : ℕ) → length A.channels ≤ c → c < length B.channels
      → eqb (channel_of B c).reader n ≡ false

pub inside : (A B : Network) → Obeys A → Obeys B → Extends A B → Inside A B
inside A B obeys_a obeys_b extends =
    record {
      inner = obeys_a;
      outer = obeys_b;
      extends = extends;
      elsewhere = λ n node c new below.
          by_test (eqb (channel_of B c).reader n)
          (λ e.
          let p = (channel_of B c).port in
          let two = (obeys_b.in_bits c below).port in
          let farther : n < length B.nodes = omega (arith, extends.more_nodes) in
          let counts : count (length B.channels) (serves B n p) ≡ count (length A.channels) (serves A n p) =
          served B n (obeys_b.ports n farther) p two ∙ rw (extends.same_node n node) (sym (served A n (obeys_a.ports n node) p two))
          in
          let none =
          none_behind (length A.channels) (length B.channels) (serves A n p) (serves B n p)
          (λ i h. rw (extends.same_channel i h)) counts c new below
          in
          true_or_false (and_both e (eq-eqb p p refl)) none)
          (λ e. e);
    }
