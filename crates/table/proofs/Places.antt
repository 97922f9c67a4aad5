-- The places of the channels, one channel after another: how many there are, the places with one channel more, and that a store of its
-- tokens behind them lays those out. Assumes nothing.
use Prim.Native.Nat.{ℕ, ◌+◌, ◌-◌, ◌≤◌}
use native.Mathlib.Omega.{arith}
use mathlib.Core.List.{List, [], ◌∷◌, ◌++◌, append_assoc, append-nil}
use mathlib.Core.Path.{◌≡◌, refl, sym}
use lib.IntN.{ℤ, pos}
use lib.ListN.{length, take, drop, replicate, length-append, length-replicate, replicate-append-replicate}
use lib.Seq.{take_at, drop_at}
use Rattle.std.proofs.lemmas.List.{drop-replicate}
use Rattle.rules.specs.declared.Channel.{Channel}
use Rattle.table.specs.Laid.{places, all_places, padded}

pub length_places : (ch : Channel) (held : List ℤ) → length held ≤ ch.capacity → length (places ch held) ≡ ch.capacity
unfolding places
length_places ch held within = simp (length-append, length-replicate) (omega arith)

-- the places of one channel more
pub places_more : (chs : List Channel) (tokens : List (List ℤ)) (ch : Channel) (held : List ℤ) → length tokens ≡ length chs → all_places (chs ++ (ch ∷ [])) (tokens ++ (held ∷ [])) ≡ all_places chs tokens ++ places ch held
unfolding all_places
places_more [] [] ch held same = append-nil (places ch held)
places_more [] (first ∷ tokens) ch held same = absurd (omega arith)
places_more (front ∷ chs) [] ch held same = absurd (omega arith)
places_more (front ∷ chs) (first ∷ tokens) ch held same =
    let rest : length tokens ≡ length chs = omega arith in
    rw (places_more chs tokens ch held rest) (sym (append_assoc (places front first) (all_places chs tokens) (places ch held)))

pub length_padded : (n : ℕ) (l : List ℤ) → length l ≤ n → length (padded n l) ≡ n
unfolding padded
length_padded n l within = simp (length-append, length-replicate) (omega arith)

-- the tokens of one channel more, stored behind the places of the others
pub stored_places : (chs : List Channel) (tokens : List (List ℤ)) (ch : Channel) (held : List ℤ) (base count : ℕ) → base ≡ length (all_places chs tokens) → length tokens ≡ length chs → length held ≡ count → count ≤ ch.capacity → base + ch.capacity ≤ 1024 → take base (padded 1024 (all_places chs tokens)) ++ (held ++ drop count (drop base (padded 1024 (all_places chs tokens)))) ≡ padded 1024 (all_places (chs ++ (ch ∷ [])) (tokens ++ (held ∷ [])))
unfolding padded places
stored_places chs tokens ch held base count start same long within enough =
    let l = all_places chs tokens in
    let spare = ch.capacity - length held in
    let longer : length (l ++ (held ++ replicate spare (pos 0))) ≡ length l + (length held + spare) = simp (length-append, length-replicate) in
    let covered : 1024 - length l - count ≡ spare + (1024 - length (l ++ (held ++ replicate spare (pos 0)))) = omega arith in
    rw (start, take_at l _ (length l) refl, drop_at l _ (length l) refl, drop-replicate, places_more chs tokens ch held same, covered)
    (simp (← replicate-append-replicate, append_assoc))
