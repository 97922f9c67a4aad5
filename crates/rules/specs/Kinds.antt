-- Node kinds. Assumes nothing.
use Rattle.std.specs.Prelude.{ℕ, ◌+◌, ◌-◌, ◌%◌, ◌^◌, Bool, true, false, cond, not, ◌||◌, List, [], ◌∷◌, eqb, ℤ, pos, negsuc, get_or}
use Rattle.std.proofs.Math.Option.{Option, none, some}
use Rattle.std.specs.Int.Count.{ones_in, count_leading_zeros}
use Rattle.std.specs.Int.Signed.{lt_z, quot_z}
use Rattle.std.specs.Int.{w32}
use Rattle.std.proofs.Common.{to_z, of_z}

-- the token that 32 bits stand for, in two's complement: the language's own reading of an i32
abbrev pub signed : ℕ → ℤ
signed n = to_z w32 n

-- the 32 bits of a token
abbrev pub pattern : ℤ → ℕ
pattern a = of_z w32 a

-- the token is 0
abbrev pub is_zero : ℤ → Bool
is_zero (pos n) = eqb n 0
is_zero (negsuc n) = false

-- a + b, going round at 2 to the power 32
unfoldable pub sum : ℤ → ℤ → ℤ
sum a b = signed ((pattern a + pattern b) % 2 ^ 32)

-- a − b, going round at 2 to the power 32
unfoldable pub difference : ℤ → ℤ → ℤ
difference a b = signed ((pattern a + (2 ^ 32 - pattern b)) % 2 ^ 32)

unfoldable pub smaller : ℤ → ℤ → ℤ
smaller a b = cond (lt_z b a) b a

unfoldable pub larger : ℤ → ℤ → ℤ
larger a b = cond (lt_z a b) b a

-- a divided by k, toward zero; the one quotient that 32 bits do not hold, −2,147,483,648 by −1, goes round to −2,147,483,648
unfoldable pub quotient : ℤ → ℤ → ℤ
quotient a k = signed (pattern (quot_z a k))

-- ones in a's 32 bits
unfoldable pub ones : ℤ → ℤ
ones a = pos (ones_in 32 (pattern a))

-- first beam: zero bits above a's highest one, 32 if a is 0
unfoldable pub first_beam : ℤ → ℤ
first_beam a = pos (count_leading_zeros 32 (pattern a))

-- how many inputs each kind has, kind 0 first
abbrev pub input_counts : List ℕ
input_counts = 0 ∷ 1 ∷ 1 ∷ 2 ∷ 2 ∷ 2 ∷ 2 ∷ 1 ∷ 3 ∷ 2 ∷ 1 ∷ 1 ∷ []

unfoldable pub inputs : ℕ → ℕ
inputs kind = get_or input_counts kind 0

-- each kind's result, kind 0 first; none where it is absent
abbrev pub results : ℤ → ℤ → ℤ → ℤ → List (Option ℤ)
results k a b c =
    some k
    ∷ some a
    ∷ some (sum a k)
    ∷ some (sum a b)
    ∷ some (difference a b)
    ∷ some (smaller a b)
    ∷ some (larger a b)
    ∷ some (quotient a k)
    ∷ some (cond (is_zero a) c b)
    ∷ cond (is_zero a) none (some b)
    ∷ some (ones a)
    ∷ some (first_beam a)
    ∷ []

-- the result of a kind with constant k on the inputs a, b and c
unfoldable pub result : ℕ → ℤ → ℤ → ℤ → ℤ → Option ℤ
result kind k a b c = get_or (results k a b c) kind none

-- the constants that a kind may have: any for 0 and 2, any but 0 for 7, and 0 for the others
unfoldable pub constant_ok : ℕ → ℤ → Bool
constant_ok kind k = cond (eqb kind 0 || eqb kind 2) true (cond (eqb kind 7) (not (is_zero k)) (is_zero k))
