-- What is written in an instant: the results that are due, the arrivals, and the words. Assumes nothing.
use Rattle.std.specs.Prelude.{ℕ, zero, suc, ◌+◌, ◌-◌, ◌%◌, ◌^◌, ◌≤◌, ◌<◌, Bool, true, false, cond, ◌&&◌, List, [], ◌∷◌, ◌++◌, ◌≡◌, eqb, leb, ltb, length, get_or, take}
use Rattle.rules.specs.Lists.{lowest}
use Rattle.rules.specs.Kinds.{signed}
use Rattle.rules.specs.Instant.{channel_in, time_in, word}
use Rattle.kinds.specs.Nodes.{never}
use Rattle.layout.specs.Views.{Shape, Cells}
use Rattle.rings.specs.Rings.{Rings, Wrote, to_each}

-- the lowest number from k on and below n with the property f, or 64 where there is none
unfoldable pub next_from : ℕ → (ℕ → Bool) → ℕ → ℕ
next_from n f k = let l = lowest n (λ i. leb k i && f i) in cond (ltb l n) l 64

-- the channels with a property in order: the first one, and behind each the next one; 64 behind the last
pub record Walk (channels : ℕ) (follow : List ℕ) (first : ℕ) (mine : ℕ → Bool) : Type 0 where
  pub starts : first ≡ next_from channels mine 0
  pub goes_on : (c : ℕ) → c < channels → mine c ≡ true → get_or follow c 0 ≡ next_from channels mine (suc c)

-- a walk stays among the channels and goes up, whatever its property
pub record Climbs (channels : ℕ) (follow : List ℕ) (first : ℕ) : Type 0 where
  pub few : channels ≤ 64
  pub from : first < 64 → first < channels
  pub stays : (c : ℕ) → c < channels → get_or follow c 0 < 64 → get_or follow c 0 < channels
  pub up : (c : ℕ) → c < channels → c < get_or follow c 0

-- the results of the first n nodes that are due at t, for channel c; mine m is the property of node m's channels
unfoldable pub due_below : ℕ → ℕ → List ℕ → List ℕ → (ℕ → ℕ → Bool) → ℕ → List ℕ
due_below zero t due value mine c = []
due_below (suc n) t due value mine c =
    due_below n t due value mine c ++ cond (eqb (get_or due n 0) t) (to_each (mine n) (get_or value n 0) c) []

-- the values on channel c of k arrivals from index i on
unfoldable pub values_on : List ℕ → ℕ → ℕ → ℕ → List ℕ
values_on arrivals i zero c = []
values_on arrivals i (suc k) c =
    values_on arrivals i k c ++ cond (eqb (channel_in (get_or arrivals (i + k) 0)) c) (get_or arrivals (i + k) 0 % 2 ^ 32 ∷ []) []

-- the time of the arrival at an index, or never
abbrev pub arrival_at : List ℕ → ℕ → ℕ
arrival_at arrivals i = cond (ltb i (length arrivals)) (time_in (get_or arrivals i 0)) never

-- the words of the channels below c with a property whose writers have a result due at t
unfoldable pub words_below : ℕ → ℕ → List ℕ → List ℕ → List ℕ → (ℕ → Bool) → List ℕ
words_below zero t writer due value outs = []
words_below (suc c) t writer due value outs =
    words_below c t writer due value outs
    ++ cond (outs c && (ltb (get_or writer c 0) 32 && eqb (get_or due (get_or writer c 0) 0) t)) (word c t (signed (get_or value (get_or writer c 0) 0)) ∷ []) []

-- a token is written to each channel of a walk
pub record WroteWalk (s : Shape) (x : Cells) (follow : List ℕ) (first v : ℕ) (y : Cells) (full : ℕ) : Type 0 where
  pub rings : Rings s y
  pub wrote : (mine : ℕ → Bool) → Walk s.channels follow first mine → Wrote s x (to_each mine v) y full

-- the results of the first n nodes that are due are written
pub record WroteDue (s : Shape) (x : Cells) (n t : ℕ) (due value first follow : List ℕ) (y : Cells) (full : ℕ) : Type 0 where
  pub rings : Rings s y
  pub wrote : (mine : ℕ → ℕ → Bool) → ((m : ℕ) → m < n → Walk s.channels follow (get_or first m 0) (mine m)) → Wrote s x (due_below n t due value mine) y full

-- the arrivals from an index on that are stamped t are written, up to the next one that is not
pub record WroteArrivals (s : Shape) (x : Cells) (arrivals : List ℕ) (from t : ℕ) (y : Cells) (next full : ℕ) : Type 0 where
  pub on : from ≤ next
  pub within : next ≤ length arrivals
  pub stamped : (i : ℕ) → from ≤ i → i < next → time_in (get_or arrivals i 0) ≡ t
  pub stops : next < length arrivals → eqb (time_in (get_or arrivals next 0)) t ≡ false
  pub wrote : Wrote s x (values_on arrivals from (next - from)) y full

-- the words of a walk's channels stand first in a list
pub record Gathered (channels t : ℕ) (follow : List ℕ) (first : ℕ) (writer due value words : List ℕ) (count : ℕ) : Type 0 where
  pub few : count ≤ channels
  pub gathers : (outs : ℕ → Bool) → Walk channels follow first outs → take count words ≡ words_below channels t writer due value outs
