-- Laws of the kinds: the bits of a token and back, and that every result of tokens is a token. Assumes nothing.
use Prim.Native.Nat.{ℕ, zero, suc, ◌+◌, ◌-◌, ◌/◌, ◌%◌, ◌^◌, ◌≤◌, ◌<◌}
use native.Mathlib.Nat.{div-le_self}
use native.Mathlib.Omega.{arith}
use mathlib.Core.Bool.{Bool, true, false, cond}
use mathlib.Core.List.{List, [], ◌∷◌}
use mathlib.Core.Option.{Option, none, some}
use mathlib.Core.Path.{◌≡◌, refl, subst}
use lib.Count.{ones_in, leading_le}
use lib.Dec.{eqb}
use lib.IntN.{ℤ, pos, negsuc, neg_ℤ}
use lib.ListN.{get_or}
use lib.Signed.{lt_z, quot_z}
use mir.Syntax.{w32}
use mir.Val.{SFits}
use mir.ValLaws.{to_z-Fits, of_z_fits, to_z-of_z, of_z-to_z, Fits-wrap}
use borrow.Author.Tests.{ne_eqb}
use Rattle.rules.specs.Kinds.{signed, pattern, is_zero, sum, difference, smaller, larger, quotient, ones, first_beam, results, result}

pub signed_fits : (n : ℕ) → n < 2 ^ 32 → SFits w32 (signed n)
signed_fits n h = to_z-Fits w32 n (record { fits = h })

pub pattern_below : (a : ℤ) → SFits w32 a → pattern a < 2 ^ 32
pattern_below a f = (of_z_fits w32 a f).fits

pub signed_pattern : (a : ℤ) → SFits w32 a → signed (pattern a) ≡ a
signed_pattern a f = to_z-of_z w32 a f

pub pattern_signed : (n : ℕ) → n < 2 ^ 32 → pattern (signed n) ≡ n
pattern_signed n h = of_z-to_z w32 n (record { fits = h })

-- a token is 0 where its bits are, and where the bits are that stand for it
pub zero_by_bits : (a : ℤ) → SFits w32 a → eqb (pattern a) 0 ≡ is_zero a
zero_by_bits (pos n) f = refl
zero_by_bits (negsuc n) f = ne_eqb (pattern (negsuc n)) 0 (λ e. omega (arith, f.sfits))

pub zero_of_bits : (n : ℕ) → n < 2 ^ 32 → is_zero (signed n) ≡ eqb n 0
zero_of_bits n h = rw (← zero_by_bits (signed n) (signed_fits n h), pattern_signed n h)

-- what goes round is a token
pub round_fits : (n : ℕ) → SFits w32 (signed (n % 2 ^ 32))
round_fits n = to_z-Fits w32 (n % 2 ^ 32) (Fits-wrap w32 n)

-- a choice of two has what both have
pub either_has : {A : Type 0} (P : A → Type 0) (test : Bool) {a b : A} → P a → P b → P (cond test a b)
either_has P true pa pb = pa
either_has P false pa pb = pb

-- the bits of a number that is not above 0
pattern_negative : (r : ℕ) → pattern (neg_ℤ (pos r)) < 2 ^ 32
pattern_negative zero = omega arith
pattern_negative (suc r) = omega arith

pattern_quotient : (a k : ℤ) → SFits w32 a → pattern (quot_z a k) < 2 ^ 32
pattern_quotient (pos a) (pos b) f = omega (arith, div-le_self a b, f.sfits)
pattern_quotient (pos a) (negsuc b) f = pattern_negative (a / suc b)
pattern_quotient (negsuc a) (pos b) f = pattern_negative (suc a / b)
pattern_quotient (negsuc a) (negsuc b) f = omega (arith, div-le_self (suc a) (suc b), f.sfits)

ones_in_le : (d n : ℕ) → ones_in d n ≤ d
unfolding ones_in
ones_in_le zero n = omega arith
ones_in_le (suc d) n = omega (arith, ones_in_le d (n / 2))

count_fits : {n : ℕ} → n ≤ 32 → SFits w32 (pos n)
count_fits h = record { sfits = omega arith }

-- an entry that is no result, or a token
abbrev Fitting : Option ℤ → Type 0
Fitting none = Unit {0}
Fitting (some v) = SFits w32 v

infixr 20 ◌along◌
data AllFitting : List (Option ℤ) → Type 0 where
  nothing : AllFitting []
  ◌along◌ : {entry : Option ℤ} {entries : List (Option ℤ)} → Fitting entry → AllFitting entries → AllFitting (entry ∷ entries)

fitting_at : {entries : List (Option ℤ)} → AllFitting entries → (i : ℕ) → Fitting (get_or entries i none)
fitting_at nothing i = tt
fitting_at (first along rest) zero = first
fitting_at (first along rest) (suc i) = fitting_at rest i

results_fit : (k a b c : ℤ) → SFits w32 k → SFits w32 a → SFits w32 b → SFits w32 c → AllFitting (results k a b c)
unfolding sum difference smaller larger quotient ones first_beam
results_fit k a b c fk fa fb fc =
    fk
    along fa
    along round_fits (pattern a + pattern k)
    along round_fits (pattern a + pattern b)
    along round_fits (pattern a + (2 ^ 32 - pattern b))
    along either_has (SFits w32) (lt_z b a) fb fa
    along either_has (SFits w32) (lt_z a b) fb fa
    along signed_fits (pattern (quot_z a k)) (pattern_quotient a k fa)
    along either_has (SFits w32) (is_zero a) fc fb
    along either_has Fitting (is_zero a) tt fb
    along count_fits (ones_in_le 32 (pattern a))
    along count_fits (leading_le 32 (pattern a))
    along nothing

-- the result of a kind on tokens is a token
pub result_fits : (kind : ℕ) (k a b c v : ℤ) → SFits w32 k → SFits w32 a → SFits w32 b → SFits w32 c → result kind k a b c ≡ some v → SFits w32 v
unfolding result
result_fits kind k a b c v fk fa fb fc e = subst Fitting e (fitting_at (results_fit k a b c fk fa fb fc) kind)
