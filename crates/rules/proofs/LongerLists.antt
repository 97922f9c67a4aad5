-- Laws of the entries of a list, of its last entry, and of a list with one entry more at its end: its length, its sum, and what holds of
-- all its entries. Assumes nothing.
use Prim.Native.Nat.{ℕ, zero, suc, ◌+◌, ◌≤◌, ◌<◌}
use native.Mathlib.Nat.{zero-add, add-zero, suc-add, add-suc}
use native.Mathlib.Omega.{arith}
use mathlib.Core.List.{List, [], ◌∷◌, ◌++◌, append-nil, append_assoc}
use mathlib.Core.Path.{◌≡◌, refl, ap, ap₂, ◌∙◌}
use lib.Dec.{ltb}
use lib.ListN.{length, get_or, length-append, get_or-append, get_or-eq_default}
use lib.Seq.{get_or-append_seam, get_or_at}
use borrow.Author.Tests.{ltb-true, ltb-false}
use Rattle.rules.specs.Lists.{tab_from, tab, joined, last_of, total}
use Rattle.rules.proofs.ListLaws.{by_test, total_ext}

module _ {A : Type 0} where
  pub length_more : (l : List A) (x : A) → length (l ++ (x ∷ [])) ≡ suc (length l)
  length_more l x = simp length-append (omega arith)

  -- the sum over a list with one entry more
  pub total_more : (f : A → ℕ) (l : List A) (x d : A) → total (length (l ++ (x ∷ []))) (λ i. f (get_or (l ++ (x ∷ [])) i d)) ≡ total (length l) (λ i. f (get_or l i d)) + f x
  unfolding total
  total_more f l x d =
      rw (length_more l x)
      (ap₂ ◌+◌ (total_ext (length l) _ _ (λ i h. ap f (get_or-append l (x ∷ []) d i h))) (ap f (get_or-append_seam l x [] d)))

  -- a list made by index, and lists one after another, with one more
  tab_from_more : (f : ℕ → A) (i n : ℕ) → tab_from f i (suc n) ≡ tab_from f i n ++ (f (i + n) ∷ [])
  unfolding tab_from
  tab_from_more f i zero = rw (add-zero i)
  tab_from_more f i (suc n) = ap (λ rest. f i ∷ rest) (tab_from_more f (suc i) n ∙ rw (suc-add i n, add-suc i n))

  pub tab_more : (n : ℕ) (f : ℕ → A) → tab (suc n) f ≡ tab n f ++ (f n ∷ [])
  unfolding tab
  tab_more n f = tab_from_more f 0 n ∙ rw (zero-add n)

  pub joined_more : (ls : List (List A)) (l : List A) → joined (ls ++ (l ∷ [])) ≡ joined ls ++ l
  unfolding joined
  joined_more [] l = append-nil l
  joined_more (first ∷ ls) l = rw (joined_more ls l, append_assoc)

  -- a list of one entry is its last entry, and any other one has one
  pub last_of_one : (l : List A) → length l ≡ 1 → last_of l ≡ l
  unfolding last_of
  last_of_one [] h = refl
  last_of_one (x ∷ []) h = refl
  last_of_one (x ∷ y ∷ ys) h = absurd (omega arith)

  pub length_last : (l : List A) → 1 ≤ length l → length (last_of l) ≡ 1
  unfolding last_of
  length_last [] h = absurd (omega arith)
  length_last (x ∷ []) h = refl
  length_last (x ∷ y ∷ ys) h = length_last (y ∷ ys) (omega arith)

  -- what each of n entries has, and what stands behind them
  pub at_any : (P : ℕ → A → Type 0) (l : List A) (d : A) (n : ℕ) → length l ≡ n
      → ((i : ℕ) → i < n → P i (get_or l i d)) → ((i : ℕ) → P i d) → (i : ℕ) → P i (get_or l i d)
  at_any P l d n len each behind i =
      by_test (ltb i n) (λ e. each i (ltb-true i n e))
      (λ e.
      let past : length l ≤ i = omega (arith, ltb-false i n e) in
      rw (get_or-eq_default l d past) (behind i))

-- what relates the entries of two lists, and one entry more of each, relates the entries of the longer lists
pub pairs_more : {A B : Type 0} (R : A → B → Type 0) (l : List A) (m : List B) (x d : A) (y e : B) → length m ≡ length l → ((i : ℕ) → i < length l → R (get_or l i d) (get_or m i e)) → R x y → (i : ℕ) → i < length (l ++ (x ∷ [])) → R (get_or (l ++ (x ∷ [])) i d) (get_or (m ++ (y ∷ [])) i e)
pairs_more R l m x d y e same all new i h =
    by_test (ltb i (length l))
    (λ t.
    let below : i < length l = ltb-true i (length l) t in
    let there : i < length m = omega arith in
    rw (get_or-append l (x ∷ []) d i below, get_or-append m (y ∷ []) e i there) (all i below))
    (λ t.
    let last : length l ≡ i = omega (arith, ltb-false i (length l) t, length_more l x) in
    rw (get_or_at l x [] d i last, get_or_at m y [] e i (same ∙ last)) new)

-- a property of every entry, and of one entry more, holds of every entry of the longer list
pub entries_more : {A : Type 0} (P : A → Type 0) (l : List A) (x d : A) → ((i : ℕ) → i < length l → P (get_or l i d)) → P x → (i : ℕ) → i < length (l ++ (x ∷ [])) → P (get_or (l ++ (x ∷ [])) i d)
entries_more P l x d all new = pairs_more (λ a b. P a) l l x d x d refl all new
