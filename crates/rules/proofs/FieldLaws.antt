-- Laws of fields of bits: a bit is 0 or 1, a field of so many bits is below that power of 2, a field is its front bits and its back
-- bits, and one of 32 bits stands for a token. Assumes nothing.
use Prim.Native.Nat.{ℕ, zero, suc, ◌+◌, ◌*◌, ◌^◌, ◌<◌}
use native.Mathlib.Nat.{add-zero, add-suc, add_assoc, mul_assoc, pow-suc}
use native.Mathlib.Omega.{arith}
use mathlib.Core.List.{List}
use mathlib.Core.Path.{◌≡◌}
use mir.Syntax.{w32}
use mir.Val.{SFits}
use Rattle.rules.specs.Kinds.{signed}
use Rattle.rules.specs.Table.{bit_at, field_at}
use Rattle.rules.proofs.KindLaws.{signed_fits}

pub bit_below : (s : List ℕ) (i : ℕ) → bit_at s i < 2
bit_below s i = omega arith

pub field_below : (s : List ℕ) (at width : ℕ) → field_at s at width < 2 ^ width
unfolding field_at
field_below s at zero = omega arith
field_below s at (suc width) =
    let front : field_at s at width < 2 ^ width = field_below s at width in
    rw pow-suc (omega (arith, bit_below s (at + width)))

-- a field is its front bits and its back bits
pub field_append : (s : List ℕ) (at a b : ℕ) → field_at s at (a + b) ≡ field_at s at a * 2 ^ b + field_at s (at + a) b
unfolding field_at
field_append s at a zero = rw (add-zero a) (omega arith)
field_append s at a (suc b) =
    let shorter : field_at s at (a + b) ≡ field_at s at a * 2 ^ b + field_at s (at + a) b = field_append s at a b in
    rw (add-suc a b, pow-suc 2 b, ← mul_assoc (field_at s at a) (2 ^ b) 2, add_assoc at a b) (omega arith)

-- the token that a field of 32 bits stands for is one of 32 bits
pub token_fits_law : (s : List ℕ) (at : ℕ) → SFits w32 (signed (field_at s at 32))
token_fits_law s at = signed_fits (field_at s at 32) (field_below s at 32)
