-- What `from_fn` makes where each call answers a function of its index: the list of these. Assumes nothing.
use Prim.Native.Nat.{ℕ, zero, suc, ◌+◌, ◌≤◌, ◌<◌}
use native.Mathlib.Omega.{arith}
use mathlib.Core.List.{List, map}
use mathlib.Core.Path.{◌≡◌, sym, ◌∙◌}
use lib.Dec.{eqb}
use lib.ListN.{get_or, get_or-map, length-map}
use borrow.Author.Tests.{eqb-true, eqb-false}
use denote.Param.Members.{Mut, Called}
use Rattle.std.specs.Array.{IsFromFnResult, IsFromFnResultFrom}
use Rattle.rules.specs.Lists.{tab}
use Rattle.rules.proofs.ListLaws.{by_test, tab_get_or}

-- `keeps` is what the calls keep of the closure, and `see` how an answer is seen
module _ {F B C : Type 0} {g : Mut F (ℕ × Unit {0}) B} (keeps : F → Type 0) (see : B → C) (f : ℕ → C) (call : (p q : F) (i : ℕ) (y : B) → keeps p → Called g p (i, tt) y q → (see y ≡ f i) × keeps q) where
  made_at : (n i : ℕ) (p : F) (ys : List B) → keeps p → IsFromFnResultFrom g p ys i n → (k : ℕ) (d : B) → i ≤ k → k < i + n → f k ≡ see (get_or ys k d)
  made_at zero i p ys holds made k d low high = absurd (omega arith)
  made_at (suc n) i p ys holds made k d low high =
      let here = call p made.0 i made.1 holds made.3 in
      by_test (eqb k i)
      (λ e. rw (eqb-true k i e, made.2.1 d) (sym here.0))
      (λ e. made_at n (i + 1) made.0 ys here.1 made.4 k d (omega (arith, eqb-false k i e)) (omega arith))

  pub tabled_seen : {n : ℕ} {p : F} {ys : List B} → B → IsFromFnResult g p ys n → keeps p → map see ys ≡ tab n f
  tabled_seen {n} {p} {ys} d made holds =
      sym
      (tab_get_or (map see ys) n f (see d) (length-map ys see ∙ made.long)
      (λ i h. made_at n 0 p ys holds made.each i d (omega arith) (omega arith) ∙ sym (get_or-map see ys i d)))

-- where it is seen as it is
module _ {F B : Type 0} {g : Mut F (ℕ × Unit {0}) B} (keeps : F → Type 0) (f : ℕ → B) (call : (p q : F) (i : ℕ) (y : B) → keeps p → Called g p (i, tt) y q → (y ≡ f i) × keeps q) where
  pub tabled : {n : ℕ} {p : F} {ys : List B} → B → IsFromFnResult g p ys n → keeps p → ys ≡ tab n f
  tabled {n} {p} {ys} d made holds =
      sym (tab_get_or ys n f d made.long (λ i h. made_at keeps (λ y. y) f call n 0 p ys holds made.each i d (omega arith) (omega arith)))
