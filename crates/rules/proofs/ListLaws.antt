-- Laws of the lists made by index, of sums and counts, and of the lowest number with a property. Assumes nothing.
use Prim.Native.Nat.{ℕ, zero, suc, ◌+◌, ◌≤◌, ◌<◌, zero-le}
use native.Mathlib.Nat.{le_of_suc-le-suc, not-suc-le-zero, zero-add, suc-add, add-suc, add-zero}
use native.Mathlib.Omega.{arith}
use mathlib.Core.Bool.{Bool, true, false, cond, ◌&&◌}
use mathlib.Core.List.{List}
use mathlib.Core.Path.{◌≡◌, refl, sym, ◌∙◌, ap, ap₂}
use lib.Dec.{ltb}
use lib.ListN.{length, get_or}
use lib.Seq.{ext_get_or}
use borrow.Author.Tests.{ltb-true, ltb-false}
use Rattle.rules.specs.Lists.{tab_from, tab, total, every, lowest}

-- both tests of a conjunction pass
pub and_left : (a b : Bool) → (a && b) ≡ true → a ≡ true
and_left true b h = refl
and_left false b h = h

pub and_right : (a b : Bool) → (a && b) ≡ true → b ≡ true
and_right true b h = h
and_right false b h = let z : ◌≡◌ {A = ℕ} 0 1 = cc in absurd (omega arith)

pub and_both : {a b : Bool} → a ≡ true → b ≡ true → (a && b) ≡ true
and_both {a} {b} h k = rw (h, k)

module _ {A : Type 0} where
  length_tab_from : (f : ℕ → A) (i n : ℕ) → length (tab_from f i n) ≡ n
  unfolding tab_from
  length_tab_from f i zero = refl
  length_tab_from f i (suc n) = ap suc (length_tab_from f (suc i) n)

  get_or_tab_from : (f : ℕ → A) (i n k : ℕ) (d : A) → k < n → get_or (tab_from f i n) k d ≡ f (i + k)
  unfolding tab_from
  get_or_tab_from f i zero k d h = absurd (not-suc-le-zero h)
  get_or_tab_from f i (suc n) zero d h = ap f (sym (add-zero i))
  get_or_tab_from f i (suc n) (suc k) d h = get_or_tab_from f (suc i) n k d (le_of_suc-le-suc h) ∙ ap f (suc-add i k ∙ sym (add-suc i k))

  pub length_tab : (n : ℕ) (f : ℕ → A) → length (tab n f) ≡ n
  unfolding tab
  length_tab n f = length_tab_from f 0 n

  pub get_or_tab : (n : ℕ) (f : ℕ → A) (i : ℕ) (d : A) → i < n → get_or (tab n f) i d ≡ f i
  unfolding tab
  get_or_tab n f i d h = get_or_tab_from f 0 n i d h ∙ ap f (zero-add i)

  -- lists made by index are equal where their entries are
  pub tab_ext : (n : ℕ) (f g : ℕ → A) (d : A) → ((i : ℕ) → i < n → f i ≡ g i) → tab n f ≡ tab n g
  tab_ext n f g d same =
      ext_get_or d (tab n f) (tab n g) (length_tab n f ∙ sym (length_tab n g))
      (λ i h.
      let below : i < n = rw length_tab at h in
      get_or_tab n f i d below ∙ same i below ∙ sym (get_or_tab n g i d below))

  -- a list is made by index of its own entries
  pub tab_get_or : (l : List A) (n : ℕ) (f : ℕ → A) (d : A) → length l ≡ n → ((i : ℕ) → i < n → f i ≡ get_or l i d) → tab n f ≡ l
  tab_get_or l n f d len same =
      ext_get_or d (tab n f) l (length_tab n f ∙ sym len)
      (λ i h.
      let below : i < n = rw length_tab at h in
      get_or_tab n f i d below ∙ same i below)

-- by the two outcomes of a test
pub by_test : {P : Type 0} (b : Bool) → (b ≡ true → P) → (b ≡ false → P) → P
by_test true passed failed = passed refl
by_test false passed failed = failed refl

pub true_or_false : {P : Type 0} {b : Bool} → b ≡ true → b ≡ false → P
true_or_false h k = let z : ◌≡◌ {A = ℕ} 0 1 = cc in absurd (omega arith)

-- what every says of each number, and what it takes
pub every_at : (n : ℕ) (f : ℕ → Bool) → every n f ≡ true → (i : ℕ) → i < n → f i ≡ true
unfolding every
every_at zero f h i below = absurd (not-suc-le-zero below)
every_at (suc n) f h i below =
    by_test (ltb i n) (λ e. every_at n f (and_left (every n f) (f n) h) i (ltb-true i n e))
    (λ e.
    let same : i ≡ n = omega (arith, ltb-false i n e) in
    ap f same ∙ and_right (every n f) (f n) h)

pub every_all : (n : ℕ) (f : ℕ → Bool) → ((i : ℕ) → i < n → f i ≡ true) → every n f ≡ true
unfolding every
every_all zero f h = refl
every_all (suc n) f h = and_both (every_all n f (λ i below. h i (omega arith))) (h n (omega arith))

-- k is the lowest number below n with the property f, or n where there is none
pub record IsLowest (n : ℕ) (f : ℕ → Bool) (k : ℕ) : Type 0 where
  pub most : k ≤ n
  pub without : (i : ℕ) → i < k → f i ≡ false
  pub found : k < n → f k ≡ true

lowest_next : (n : ℕ) (f : ℕ → Bool) (l : ℕ) → IsLowest n f l → IsLowest (suc n) f (cond (ltb l n) l (cond (f n) n (suc n)))
lowest_next n f l low =
    by_test (ltb l n)
    (λ e.
    rw e
    (record {
      most = omega (arith, ltb-true l n e, low.most);
      without = low.without;
      found = λ h. low.found (ltb-true l n e);
    }))
    (λ e.
    let same : l ≡ n = omega (arith, ltb-false l n e, low.most) in
    by_test (f n)
    (λ y.
    rw (e, y)
    (record { most = omega arith; without = λ i h. low.without i (omega arith); found = λ h. y }))
    (λ y.
    rw (e, y)
    (record {
      most = omega arith;
      without = λ i h.
          by_test (ltb i n) (λ g. low.without i (omega (arith, ltb-true i n g)))
          (λ g.
          let last : i ≡ n = omega (arith, ltb-false i n g) in
          ap f last ∙ y);
      found = λ h. absurd (omega arith);
    })))

pub lowest_is : (n : ℕ) (f : ℕ → Bool) → IsLowest n f (lowest n f)
unfolding lowest
lowest_is zero f =
    record { most = zero-le; without = λ i h. absurd (not-suc-le-zero h); found = λ h. absurd (not-suc-le-zero h) }
lowest_is (suc n) f = lowest_next n f (lowest n f) (lowest_is n f)

-- there is only one
lowest_unique : {n : ℕ} {f : ℕ → Bool} {j k : ℕ} → IsLowest n f j → IsLowest n f k → k ≤ j
lowest_unique {n} {f} {j} {k} a b =
    by_test (ltb j k)
    (λ e. true_or_false (a.found (omega (arith, ltb-true j k e, b.most))) (b.without j (ltb-true j k e)))
    (λ e. ltb-false j k e)

pub lowest_only : {n : ℕ} {f : ℕ → Bool} {k : ℕ} → IsLowest n f k → lowest n f ≡ k
lowest_only {n} {f} {k} low =
    omega (arith, lowest_unique (lowest_is n f) low, lowest_unique low (lowest_is n f))

-- no number below n has the property
pub lowest_none : (n : ℕ) (f : ℕ → Bool) → ((i : ℕ) → i < n → f i ≡ false) → lowest n f ≡ n
lowest_none n f none = lowest_only (record { most = omega arith; without = none; found = λ h. absurd (omega arith) })

-- equal parts have equal sums
pub total_ext : (n : ℕ) (f g : ℕ → ℕ) → ((i : ℕ) → i < n → f i ≡ g i) → total n f ≡ total n g
unfolding total
total_ext zero f g same = refl
total_ext (suc n) f g same = ap₂ ◌+◌ (total_ext n f g (λ i h. same i (omega arith))) (same n (omega arith))
