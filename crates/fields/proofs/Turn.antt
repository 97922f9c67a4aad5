-- What a turn of `value_at` does: one bit more, found without the sum of the field's bit and the turn, which may not fit. Assumes nothing.
use Prim.Native.Nat.{ℕ, ◌+◌, ◌-◌, ◌*◌, ◌/◌, ◌%◌, ◌^◌, ◌≤◌, ◌<◌}
use native.Mathlib.Numerals.{add-one}
use native.Mathlib.Omega.{arith}
use mathlib.Core.List.{List}
use mathlib.Core.Path.{◌≡◌, ◌∙◌}
use lib.ListN.{get_or}
use lib.Pow.{pow_mono}
use Rattle.rules.specs.Table.{bit_at, field_at}
use Rattle.rules.proofs.FieldLaws.{field_below}

-- bit i of the field that starts at a bit
bit_of : (s : List ℕ) (at i : ℕ) → get_or s (at / 8 + (at % 8 + i) / 8) 0 / 2 ^ (7 - (at % 8 + i) % 8) % 2 ≡ bit_at s (at + i)
bit_of s at i =
    let byte : at / 8 + (at % 8 + i) / 8 ≡ (at + i) / 8 = omega arith in
    let place : (at % 8 + i) % 8 ≡ (at + i) % 8 = omega arith in
    rw (byte, place)

pub field_turn : (s : List ℕ) (at i value bit : ℕ) → value ≡ field_at s at i → bit ≡ get_or s (at / 8 + (at % 8 + i) / 8) 0 / 2 ^ (7 - (at % 8 + i) % 8) % 2 → value * 2 + bit ≡ field_at s at (i + 1)
unfolding field_at
field_turn s at i value bit v b =
    let low : bit ≡ bit_at s (at + i) = b ∙ bit_of s at i in
    rw add-one (omega arith)

-- twice a field of fewer than 32 bits, and a bit, fit 32 bits
pub field_room : (s : List ℕ) (at i : ℕ) → i < 32 → field_at s at i * 2 + 1 < 2 ^ 32
field_room s at i h =
    let below : field_at s at i < 2 ^ i = field_below s at i in
    let most : 2 ^ i ≤ 2 ^ 31 = pow_mono {j = 31} (omega arith) in
    omega arith
