-- Laws of bytes: eight bytes are the number that their bits make. Assumes nothing.
use Rattle.std.proofs.Common.{ℕ, zero, suc, ◌+◌, ◌-◌, ◌*◌, ◌/◌, ◌%◌, ◌^◌, ◌<◌, List, length, get_or, take, drop, ◌≡◌, refl, ◌∙◌, ap, ap₂, arith, add-one}
use Rattle.std.proofs.lemmas.List.{get_or-take, get_or-drop, drop-drop}
use Rattle.std.proofs.Math.ListN.{set}
use Rattle.std.proofs.Math.Seq.{take-suc-set}
use Rattle.std.specs.Int.{w64, from_be_bytes}
use Rattle.std.specs.Simd.{first_chunks}
use Rattle.rules.specs.Table.{bit_at, field_at}
use Rattle.rules.specs.Listing.{bytes_at}
use Rattle.rules.specs.Lists.{tab}
use Rattle.rules.proofs.LongerLists.{tab_more}
use Rattle.rules.proofs.FieldLaws.{field_append}

bit_of_byte : (s : List ℕ) (i k : ℕ) → k < 8 → bit_at s (8 * i + k) ≡ get_or s i 0 / 2 ^ (7 - k) % 2
bit_of_byte s i k h =
    let byte : (8 * i + k) / 8 ≡ i = omega arith in
    let bit : (8 * i + k) % 8 ≡ k = omega arith in
    ap₂ (λ b j. get_or s b 0 / 2 ^ (7 - j) % 2) byte bit

byte_field : (s : List ℕ) (i : ℕ) → get_or s i 0 < 256 → field_at s (8 * i) 8 ≡ get_or s i 0
unfolding field_at
byte_field s i h =
    let b0 = bit_of_byte s i 0 (omega arith) in
    let b1 = bit_of_byte s i 1 (omega arith) in
    let b2 = bit_of_byte s i 2 (omega arith) in
    let b3 = bit_of_byte s i 3 (omega arith) in
    let b4 = bit_of_byte s i 4 (omega arith) in
    let b5 = bit_of_byte s i 5 (omega arith) in
    let b6 = bit_of_byte s i 6 (omega arith) in
    let b7 = bit_of_byte s i 7 (omega arith) in
    rw (b0, b1, b2, b3, b4, b5, b6, b7) (omega arith)

-- a number's bytes are the first one and the others
bytes_field : (s : List ℕ) (i next n : ℕ) → next ≡ i + 1 → get_or s i 0 < 256 → field_at s (8 * i) (8 + n) ≡ get_or s i 0 * 2 ^ n + field_at s (8 * next) n
bytes_field s i next n e h =
    let behind : 8 * i + 8 ≡ 8 * next = omega arith in
    field_append s (8 * i) 8 n ∙ ap₂ (λ b at. b * 2 ^ n + field_at s at n) (byte_field s i h) behind

no_bits : (s : List ℕ) (at : ℕ) → field_at s at 0 ≡ 0
unfolding field_at
no_bits s at = refl

-- eight bytes in a row are the number that they make, the most significant first
pub eight_bytes : (s : List ℕ) (i : ℕ) → ((k : ℕ) → get_or s k 0 < 256) → from_be_bytes w64 (take 8 (drop i s)) ≡ bytes_at s i 8
eight_bytes s i fit =
    let byte = λ (k : ℕ) (h : k < 8). get_or-take 8 (drop i s) k 0 h ∙ get_or-drop i s k 0 in
    let at : i + 0 ≡ i = omega arith in
    let b0 = rw at at (byte 0 (omega arith)) in
    let f0 = bytes_field s i (i + 1) 56 refl (fit i) in
    let f1 = bytes_field s (i + 1) (i + 2) 48 (omega arith) (fit (i + 1)) in
    let f2 = bytes_field s (i + 2) (i + 3) 40 (omega arith) (fit (i + 2)) in
    let f3 = bytes_field s (i + 3) (i + 4) 32 (omega arith) (fit (i + 3)) in
    let f4 = bytes_field s (i + 4) (i + 5) 24 (omega arith) (fit (i + 4)) in
    let f5 = bytes_field s (i + 5) (i + 6) 16 (omega arith) (fit (i + 5)) in
    let f6 = bytes_field s (i + 6) (i + 7) 8 (omega arith) (fit (i + 6)) in
    let f7 = bytes_field s (i + 7) (i + 8) 0 (omega arith) (fit (i + 7)) in
    omega (arith, byte 1 (omega arith), byte 2 (omega arith), byte 3 (omega arith), byte 4 (omega arith), byte 5 (omega arith), byte 6 (omega arith), byte 7 (omega arith), no_bits s (8 * (i + 8)))

pub first_chunks_at : (s : List ℕ) (k i : ℕ) (d : List ℕ) → i < k → get_or (first_chunks 8 k s) i d ≡ take 8 (drop (8 * i) s)
first_chunks_at s zero i d h = absurd (omega arith)
first_chunks_at s (suc k) zero d h = refl
first_chunks_at s (suc k) (suc i) d h =
    let behind : 8 + 8 * i ≡ 8 * suc i = omega arith in
    first_chunks_at (drop 8 s) k i d (omega arith)
    ∙ ap (take 8) (drop-drop (8 * i) 8 s ∙ ap (λ n. drop n s) behind)

-- one arrival more in the list: the number of the next chunk
pub arrival_more : (s arrivals : List ℕ) (i : ℕ) (d : List ℕ) {chunks : List (List ℕ)} {arrival : ℕ} → ((k : ℕ) → get_or s k 0 < 256) → chunks ≡ first_chunks 8 (length s / 8) s → i < length s / 8 → i < length arrivals → arrival ≡ from_be_bytes w64 (get_or chunks i d) → take i arrivals ≡ tab i (λ k. bytes_at s (8 * k) 8) → take (i + 1) (set arrivals i arrival) ≡ tab (i + 1) (λ k. bytes_at s (8 * k) 8)
arrival_more s arrivals i d {chunks} {arrival} fit e h room is before =
    let number : from_be_bytes w64 (get_or chunks i d) ≡ bytes_at s (8 * i) 8 =
    ap (λ l. from_be_bytes w64 (get_or l i d)) e
    ∙ ap (from_be_bytes w64) (first_chunks_at s (length s / 8) i d h)
    ∙ eight_bytes s (8 * i) fit in
    rw (add-one, tab_more i (λ k. bytes_at s (8 * k) 8), ← before, ← number, ← is) (take-suc-set arrivals i arrival room)
