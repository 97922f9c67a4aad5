-- What the channels of an obeying network hold before the first instant: a ring that begins at its base does not go round, and its places
-- are the 32 bits of its channel's initial tokens. Assumes nothing.
use Prim.Native.Nat.{ℕ, zero, suc, ◌+◌, ◌≤◌, ◌<◌}
use native.Mathlib.Nat.{zero-add, add-zero}
use native.Mathlib.Omega.{arith}
use mathlib.Core.List.{List, [], ◌∷◌, map}
use mathlib.Core.Path.{◌≡◌, refl, sym, ◌∙◌, ap, ap₂}
use lib.IntN.{ℤ, pos}
use lib.ListN.{length, get_or, length-append, get_or-append}
use lib.Seq.{get_or-append-add}
use Rattle.rules.specs.declared.Channel.{Channel}
use Rattle.rules.specs.Lists.{total}
use Rattle.rules.specs.Kinds.{signed, pattern}
use Rattle.rules.specs.Network.{Network, Obeys, channel_among, capacities}
use Rattle.rules.proofs.Checks.{fields_of}
use Rattle.rules.proofs.KindLaws.{signed_pattern}
use Rattle.rules.proofs.TokenLaws.{AllFit}
use Rattle.table.specs.Laid.{places, all_places, padded}
use Rattle.table.proofs.Places.{length_places, length_padded}
use Rattle.rings.specs.Rings.{queue_of}
use Rattle.rings.proofs.RingLaws.{wrapped_low}
use Rattle.setup.proofs.StartRings.{capacities_climb}

-- the tokens of bits that stand for tokens
pub signed_patterns : (l : List ℤ) → AllFit l → map signed (map pattern l) ≡ l
signed_patterns [] fit = refl
signed_patterns (x ∷ xs) fit =
    ap₂ ◌∷◌ (signed_pattern x (fit.at 0)) (signed_patterns xs (record { at = λ i. fit.at (suc i) }))

-- a ring that does not go round holds the tokens at its places in order
pub queue_straight : (l tokens : List ℕ) (base capacity head : ℕ) → head + length l ≤ capacity → ((i : ℕ) → i < length l → get_or tokens (base + (head + i)) 0 ≡ get_or l i 0) → queue_of tokens base capacity head (length l) ≡ l
unfolding queue_of
queue_straight [] tokens base capacity head within stand = refl
queue_straight (x ∷ []) tokens base capacity head within stand =
    ap (λ (v : ℕ). v ∷ []) (rw add-zero at (stand 0 (omega arith)))
queue_straight (x ∷ y ∷ l) tokens base capacity head within stand =
    rw (wrapped_low capacity (suc head) (omega arith))
    (ap₂ ◌∷◌ (rw add-zero at (stand 0 (omega arith)))
    (queue_straight (y ∷ l) tokens base capacity (suc head) (omega arith)
    (λ i h.
    let place : base + (suc head + i) ≡ base + (head + suc i) = omega arith in
    rw place (stand (suc i) (omega arith)))))

-- a sum from its first part on
pub total_front : (n : ℕ) (f : ℕ → ℕ) → total (suc n) f ≡ f 0 + total n (λ i. f (suc i))
unfolding total
total_front zero f = omega arith
total_front (suc n) f = omega (arith, total_front n f)

-- the capacities of the first c of these channels together
abbrev capacities_of : List Channel → ℕ → ℕ
capacities_of chs c = total c (λ d. (channel_among chs d).capacity)

-- each channel's tokens are within its capacity
abbrev Within : List Channel → List (List ℤ) → Type 0
Within chs tokens = (d : ℕ) → d < length chs → length (get_or tokens d []) ≤ (channel_among chs d).capacity

length_all : (chs : List Channel) (tokens : List (List ℤ)) → length tokens ≡ length chs → Within chs tokens → length (all_places chs tokens) ≡ capacities_of chs (length chs)
unfolding all_places
length_all [] tokens same within = unfold total in refl
length_all (ch ∷ chs) [] same within = absurd (omega arith)
length_all (ch ∷ chs) (held ∷ tokens) same within =
    let rest : length tokens ≡ length chs = omega arith in
    rw (length-append, length_places ch held (within 0 (omega arith)), length_all chs tokens rest (λ d h. within (suc d) (omega arith)))
    (sym (total_front (length chs) (λ d. (channel_among (ch ∷ chs) d).capacity)))

place_at : (ch : Channel) (held : List ℤ) (i : ℕ) → i < length held → get_or (places ch held) i (pos 0) ≡ get_or held i (pos 0)
unfolding places
place_at ch held i h = get_or-append held _ (pos 0) i h

-- among all places, channel c's tokens stand behind the capacities of the channels before it
places_at : (chs : List Channel) (tokens : List (List ℤ)) → length tokens ≡ length chs → Within chs tokens → (c : ℕ) → c < length chs → (i : ℕ) → i < length (get_or tokens c []) → get_or (all_places chs tokens) (capacities_of chs c + i) (pos 0) ≡ get_or (get_or tokens c []) i (pos 0)
unfolding all_places total
places_at [] tokens same within c h i k = absurd (omega arith)
places_at (ch ∷ chs) [] same within c h i k = absurd (omega arith)
places_at (ch ∷ chs) (held ∷ tokens) same within zero h i k =
    let size : length (places ch held) ≡ ch.capacity = length_places ch held (within 0 (omega arith)) in
    let there : i < length (places ch held) = omega (arith, within 0 (omega arith)) in
    rw zero-add (get_or-append (places ch held) (all_places chs tokens) (pos 0) i there ∙ place_at ch held i k)
places_at (ch ∷ chs) (held ∷ tokens) same within (suc c) h i k =
    let rest : length tokens ≡ length chs = omega arith in
    let size : length (places ch held) ≡ ch.capacity = length_places ch held (within 0 (omega arith)) in
    let place : capacities_of (ch ∷ chs) (suc c) + i ≡ length (places ch held) + (capacities_of chs c + i)
    = omega (arith, total_front c (λ d. (channel_among (ch ∷ chs) d).capacity)) in
    rw place
    (get_or-append-add (places ch held) (all_places chs tokens) (capacities_of chs c + i) (pos 0)
    ∙ places_at chs tokens rest (λ d below. within (suc d) (omega arith)) c (omega arith) i k)

-- the places of an obeying network
module _ (net : Network) (obeys : Obeys net) where
  tokens_within : Within net.channels net.tokens
  tokens_within d h = omega (arith, obeys.initially d h, (fields_of net obeys d h).within)

  length_net : length (all_places net.channels net.tokens) ≡ capacities net (length net.channels)
  unfolding capacities
  length_net = length_all net.channels net.tokens obeys.held tokens_within

  pub all_places_law : length (padded 1024 (all_places net.channels net.tokens)) ≡ 1024
  all_places_law = length_padded 1024 (all_places net.channels net.tokens) (omega (arith, length_net, obeys.together))

  -- channel c's tokens stand from its base on
  pub tokens_at : (c : ℕ) → c < length net.channels → (i : ℕ) → i < length (get_or net.tokens c []) → get_or (padded 1024 (all_places net.channels net.tokens)) (capacities net c + i) (pos 0) ≡ get_or (get_or net.tokens c []) i (pos 0)
  unfolding padded capacities
  tokens_at c h i k =
      let there : capacities net c + i < length (all_places net.channels net.tokens)
      = omega (arith, length_net, capacities_climb net c (length net.channels) h, tokens_within c h) in
      get_or-append (all_places net.channels net.tokens) _ (pos 0) (capacities net c + i) there
      ∙ places_at net.channels net.tokens obeys.held tokens_within c h i k
