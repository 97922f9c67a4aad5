-- What the other files share: lists made by index, sums, counts and the lowest number with a property. Assumes nothing.
use Rattle.std.specs.Prelude.{ℕ, zero, suc, ◌+◌, Bool, true, false, cond, ◌&&◌, List, [], ◌∷◌, ◌++◌, ltb}

module _ {A : Type 0} where
  -- n entries: f i, f (i + 1), ..
  unfoldable pub tab_from : (ℕ → A) → ℕ → ℕ → List A
  tab_from f i zero = []
  tab_from f i (suc n) = f i ∷ tab_from f (suc i) n

  -- n entries: f 0, f 1, ..
  unfoldable pub tab : ℕ → (ℕ → A) → List A
  tab n f = tab_from f 0 n

  -- the lists one after another
  unfoldable pub joined : List (List A) → List A
  joined [] = []
  joined (l ∷ ls) = l ++ joined ls

  -- the last entry alone
  unfoldable pub last_of : List A → List A
  last_of [] = []
  last_of (x ∷ []) = x ∷ []
  last_of (x ∷ y ∷ ys) = last_of (y ∷ ys)

  -- there is no entry
  abbrev pub is_empty : List A → Bool
  is_empty [] = true
  is_empty (x ∷ xs) = false

-- f 0 + f 1 + .., below n
unfoldable pub total : ℕ → (ℕ → ℕ) → ℕ
total zero f = 0
total (suc n) f = total n f + f n

-- how many numbers below n have the property f
unfoldable pub count : ℕ → (ℕ → Bool) → ℕ
count n f = total n (λ i. cond (f i) 1 0)

-- every number below n has the property f
unfoldable pub every : ℕ → (ℕ → Bool) → Bool
every zero f = true
every (suc n) f = every n f && f n

-- the lowest number below n with the property f, or n where there is none
unfoldable pub lowest : ℕ → (ℕ → Bool) → ℕ
lowest zero f = 0
lowest (suc n) f =
    let l = lowest n f in
    cond (ltb l n) l (cond (f n) n (suc n))
