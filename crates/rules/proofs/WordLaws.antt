-- What a word is made of is what is read from it; and lists that rise, each entry's place below the next one's. Assumes nothing.
use Prim.Native.Nat.{ℕ, zero, suc, ◌+◌, ◌%◌, ◌^◌, ◌≤◌, ◌<◌}
use native.Mathlib.Nat.{le_of_suc-le-suc, not-suc-le-zero, le_refl, le_trans}
use native.Mathlib.Omega.{arith}
use mathlib.Core.List.{List, [], ◌∷◌, ◌++◌}
use mathlib.Core.Path.{◌≡◌, ap, ◌∙◌}
use lib.IntN.{ℤ}
use lib.ListN.{length, get_or}
use mir.Syntax.{w32}
use mir.Val.{SFits}
use Rattle.rules.specs.Lists.{tab_from, joined}
use Rattle.rules.specs.Kinds.{signed, pattern}
use Rattle.rules.specs.Instant.{word, time_in, channel_in, value_in}
use Rattle.rules.proofs.KindLaws.{pattern_below, signed_pattern}

-- what a word is made of is what is read from it
pub time_of_word : (c t : ℕ) (v : ℤ) → t < 2 ^ 24 → SFits w32 v → time_in (word c t v) ≡ t
time_of_word c t v h fits = omega (arith, pattern_below v fits)

pub channel_of_word : (c t : ℕ) (v : ℤ) → t < 2 ^ 24 → SFits w32 v → channel_in (word c t v) ≡ c
channel_of_word c t v h fits = omega (arith, pattern_below v fits)

pub value_of_word : (c t : ℕ) (v : ℤ) → t < 2 ^ 24 → SFits w32 v → value_in (word c t v) ≡ v
value_of_word c t v h fits =
    let bits : word c t v % 2 ^ 32 ≡ pattern v = omega (arith, pattern_below v fits) in
    ap signed bits ∙ signed_pattern v fits

pub word_fits : (c t : ℕ) (v : ℤ) → c < 2 ^ 8 → t < 2 ^ 24 → SFits w32 v → word c t v < 2 ^ 64
word_fits c t v few h fits = omega (arith, pattern_below v fits)

-- the entries are 64-bit numbers whose places rise, from low on and below high
pub data Rising (place : ℕ → ℕ) : ℕ → ℕ → List ℕ → Type 0 where
  over : {low high : ℕ} → low ≤ high → Rising place low high []
  next : {low high w : ℕ} {ws : List ℕ} → w < 2 ^ 64 → low ≤ place w → Rising place (suc (place w)) high ws → Rising place low high (w ∷ ws)

module _ {place : ℕ → ℕ} where
  pub rising_within : {lower low high higher : ℕ} {l : List ℕ} → lower ≤ low → high ≤ higher → Rising place low high l → Rising place lower higher l
  rising_within {lower = lower} {higher = higher} h k (over up) = over (le_trans h (le_trans up k))
  rising_within {lower = lower} {higher = higher} h k (next {w = w} fits up r) = next fits (le_trans h up) (rising_within {lower = suc (place w)} {higher = higher} (le_refl (suc (place w))) k r)

  pub rising_append : {low middle high : ℕ} {a b : List ℕ} → Rising place low middle a → Rising place middle high b → Rising place low high (a ++ b)
  rising_append {high = high} (over up) s = rising_within up (le_refl high) s
  rising_append (next fits up r) s = next fits up (rising_append r s)

  -- lists that rise one above another, joined
  pub rising_joined : (f : ℕ → List ℕ) (base limit : ℕ) → ((c : ℕ) → c < limit → Rising place (base + c) (base + suc c) (f c))
      → (i n : ℕ) → i + n ≡ limit → Rising place (base + i) (base + limit) (joined (tab_from f i n))
  unfolding joined tab_from
  rising_joined f base limit each i zero h = over {low = base + i} {high = base + limit} (omega arith)
  rising_joined f base limit each i (suc n) h =
      rising_append (each i (omega arith)) (rising_joined f base limit each (suc i) n (omega arith))

  rising_above : {low high : ℕ} {l : List ℕ} → Rising place low high l → (i : ℕ) → i < length l → low ≤ place (get_or l i 0)
  rising_above (over up) i h = absurd (not-suc-le-zero h)
  rising_above (next fits up r) zero h = up
  rising_above (next fits up r) (suc i) h = omega (arith, rising_above r i (le_of_suc-le-suc h))

  -- of two entries the later one's place is the higher
  pub rising_at : {low high : ℕ} {l : List ℕ} → Rising place low high l → (i j : ℕ) → i < j → j < length l → place (get_or l i 0) < place (get_or l j 0)
  rising_at (over up) i j before h = absurd (not-suc-le-zero h)
  rising_at (next fits up r) i zero before h = absurd (not-suc-le-zero before)
  rising_at (next fits up r) zero (suc j) before h = rising_above r j (le_of_suc-le-suc h)
  rising_at (next fits up r) (suc i) (suc j) before h = rising_at r i j (le_of_suc-le-suc before) (le_of_suc-le-suc h)

  pub rising_fits : {low high : ℕ} {l : List ℕ} → Rising place low high l → (i : ℕ) → i < length l → get_or l i 0 < 2 ^ 64
  rising_fits (over up) i h = absurd (not-suc-le-zero h)
  rising_fits (next fits up r) zero h = fits
  rising_fits (next fits up r) (suc i) h = rising_fits r i (le_of_suc-le-suc h)
