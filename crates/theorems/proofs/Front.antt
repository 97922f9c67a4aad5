-- Counts, tests of every number and the lowest number with a property, over a range and over a longer one of which it is the front.
-- Assumes nothing.
use Prim.Native.Nat.{ℕ, ◌≤◌, ◌<◌}
use native.Mathlib.Omega.{arith}
use mathlib.Core.Bool.{Bool, true, false}
use mathlib.Core.Path.{◌≡◌, sym, ◌∙◌}
use lib.Dec.{ltb}
use borrow.Author.Tests.{ltb-true, ltb-false}
use Rattle.rules.specs.Lists.{count, every, lowest}
use Rattle.rules.proofs.ListLaws.{by_test, true_or_false, every_at, every_all, lowest_is, lowest_only, lowest_none}
use Rattle.rules.proofs.Agreeing.{count_ext, count_more}

module _ (a b : ℕ) (f g : ℕ → Bool) (same : (i : ℕ) → i < a → g i ≡ f i) where
  -- where the counts are equal, no number behind the front has the property
  pub none_behind : count b g ≡ count a f → (c : ℕ) → a ≤ c → c < b → g c ≡ false
  none_behind counts c behind below =
      by_test (g c) (λ e. absurd (omega (arith, count_more b a c g behind below e, count_ext a g f same))) (λ e. e)

  -- where all behind the front pass, every number passes if the front does
  pub every_front : a ≤ b → ((i : ℕ) → a ≤ i → i < b → g i ≡ true) → every b g ≡ every a f
  every_front longer behind =
      by_test (every a f)
      (λ e.
      every_all b g
      (λ i h.
      by_test (ltb i a) (λ l. same i (ltb-true i a l) ∙ every_at a f e i (ltb-true i a l))
      (λ l. behind i (ltb-false i a l) h))
      ∙ sym e)
      (λ e.
      by_test (every b g)
      (λ all.
      true_or_false
      (every_all a f
      (λ i h.
      let further : i < b = omega arith in
      sym (same i h) ∙ every_at b g all i further))
      e)
      (λ not_all. not_all ∙ sym e))

  -- the lowest number is that of the front, where the front has one
  pub lowest_front : a ≤ b → lowest a f < a → lowest b g ≡ lowest a f
  lowest_front longer found =
      let low = lowest_is a f in
      lowest_only
      (record {
        most = omega arith;
        without = λ i h.
            let front : i < a = omega arith in
            same i front ∙ low.without i h;
        found = λ h. same (lowest a f) found ∙ low.found found;
      })

  -- where neither the front nor what is behind has one, there is none
  pub lowest_nowhere : ((i : ℕ) → a ≤ i → i < b → g i ≡ false) → a ≤ lowest a f → lowest b g ≡ b
  lowest_nowhere behind unfound =
      lowest_none b g
      (λ i h.
      by_test (ltb i a)
      (λ l.
      let front : i < lowest a f = omega (arith, ltb-true i a l) in
      same i (ltb-true i a l) ∙ (lowest_is a f).without i front)
      (λ l. behind i (ltb-false i a l) h))
