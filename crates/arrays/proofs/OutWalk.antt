-- The words gathered over a walk of the channels with a property: how far they go at each channel of the walk, what its turn adds, and
-- that behind the last one they are all there. Assumes nothing.
use Prim.Native.Nat.{ℕ, zero, suc, ◌+◌, ◌≤◌, ◌<◌, min}
use native.Mathlib.Numerals.{add-one}
use native.Mathlib.Omega.{arith}
use mathlib.Core.Bool.{Bool, true, false, cond, ◌&&◌, and-false}
use mathlib.Core.List.{List, [], ◌∷◌, ◌++◌, append-nil}
use mathlib.Core.Path.{◌≡◌, sym, ◌∙◌}
use lib.Dec.{leb, ltb, eqb}
use lib.ListN.{length, get_or, take, set, length-set}
use lib.Seq.{take-suc-set}
use borrow.Author.Tests.{leb-true, leb-false, lt-ltb, le-ltb, eq-eqb, ne_eqb}
use Rattle.rules.specs.Kinds.{signed}
use Rattle.rules.specs.Instant.{word}
use Rattle.rules.proofs.ListLaws.{by_test}
use Rattle.arrays.specs.Writes.{Walk, Climbs, words_below}
use Rattle.arrays.proofs.WalkLaws.{IsNext, starts_at, goes_on_law}

module _ (t : ℕ) (writer due value : List ℕ) where
  -- the writer of channel c has a result due
  abbrev due_at : ℕ → Bool
  due_at c = ltb (get_or writer c 0) 32 && eqb (get_or due (get_or writer c 0) 0) t

  abbrev word_at : ℕ → ℕ
  word_at c = word c t (signed (get_or value (get_or writer c 0) 0))

  -- the turn at channel c adds its word, if its writer has a result due
  pub record Adds (c : ℕ) (words : List ℕ) (count : ℕ) (new : List ℕ) (more : ℕ) : Type 0 where
    pub places : length new ≡ 64
    pub most : more ≤ suc count
    pub adds : take more new ≡ take count words ++ cond (due_at c) (word_at c ∷ []) []

  -- the walk has come to channel c, and the words of the channels before it stand first in a list
  pub record GatheredTo (channels : ℕ) (follow : List ℕ) (first : ℕ) (words : List ℕ) (count c : ℕ) : Type 0 where
    pub few : count ≤ min c channels
    pub among : c < 64 → c < channels
    pub places : length words ≡ 64
    pub on : (outs : ℕ → Bool) → Walk channels follow first outs → c < 64 → outs c ≡ true
    pub gathers : (outs : ℕ → Bool) → Walk channels follow first outs → take count words ≡ words_below (min c channels) t writer due value outs

  -- channels without the property have no words
  words_over : (outs : ℕ → Bool) (k m : ℕ) → k ≤ m → ((i : ℕ) → k ≤ i → i < m → outs i ≡ false) → words_below m t writer due value outs ≡ words_below k t writer due value outs
  unfolding words_below
  words_over outs k zero most none =
      let same : k ≡ 0 = omega arith in
      rw same
  words_over outs k (suc m) most none =
      by_test (leb k m)
      (λ e.
      let from : k ≤ m = leb-true k m e in
      rw (none m from (omega arith))
      (append-nil (words_below m t writer due value outs)
      ∙ words_over outs k m from (λ i above below. none i above (omega arith))))
      (λ e.
      let same : k ≡ suc m = omega (arith, leb-false k m e) in
      rw same)

module _ {t : ℕ} {writer due value : List ℕ} {c : ℕ} {words : List ℕ} {count : ℕ} where
  pub adds_word : {w : ℕ} → length words ≡ 64 → count < 64 → get_or writer c 0 < 32 → get_or due (get_or writer c 0) 0 ≡ t → w ≡ word_at t writer due value c → Adds t writer due value c words count (set words count w) (count + 1)
  adds_word {w} places room known now is =
      record {
        places = simp length-set places;
        most = omega arith;
        adds = rw (lt-ltb (get_or writer c 0) 32 known, eq-eqb (get_or due (get_or writer c 0) 0) t now, ← is, add-one) (take-suc-set words count w (omega arith));
      }

  adds_none : length words ≡ 64 → due_at t writer due value c ≡ false → Adds t writer due value c words count words count
  adds_none places e = record { places = places; most = omega arith; adds = rw e (sym (append-nil (take count words))) }

  pub adds_none_due : length words ≡ 64 → (get_or due (get_or writer c 0) 0 ≡ t → ⊥) → Adds t writer due value c words count words count
  adds_none_due places later = adds_none places (rw (ne_eqb (get_or due (get_or writer c 0) 0) t later) (and-false (ltb (get_or writer c 0) 32)))

  pub adds_none_written : length words ≡ 64 → 32 ≤ get_or writer c 0 → Adds t writer due value c words count words count
  adds_none_written places outside = adds_none places (rw (le-ltb (get_or writer c 0) 32 outside))

module _ {t : ℕ} {writer due value : List ℕ} {channels : ℕ} {follow : List ℕ} {first : ℕ} (climbs : Climbs channels follow first) where
  pub gathered_none : {words : List ℕ} → length words ≡ 64 → GatheredTo t writer due value channels follow first words 0 first
  unfolding words_below
  gathered_none places =
      record {
        few = omega arith;
        among = climbs.from;
        places = places;
        on = λ outs walk. (starts_at outs walk).holds;
        gathers = λ outs walk. sym (words_over t writer due value outs 0 (min first channels) (omega arith) (starts_at outs walk).without);
      }

  module _ {words : List ℕ} {count c : ℕ} (so : GatheredTo t writer due value channels follow first words count c) where
    pub gathered_turn : {new : List ℕ} {more : ℕ} → c < 64 → Adds t writer due value c words count new more → GatheredTo t writer due value channels follow first new more (get_or follow c 0)
    unfolding words_below
    gathered_turn inside turn =
        let here : c < channels = so.among inside in
        let up : c < get_or follow c 0 = climbs.up c here in
        let next : (outs : ℕ → Bool) → Walk channels follow first outs → IsNext channels outs (suc c) (get_or follow c 0)
        = λ outs walk. goes_on_law outs c walk here (so.on outs walk inside) in
        let reached : min c channels ≡ c = omega arith in
        record {
          few = omega (arith, so.few, turn.most);
          among = climbs.stays c here;
          places = turn.places;
          on = λ outs walk. (next outs walk).holds;
          gathers = λ outs walk.
              let before : take count words ≡ words_below c t writer due value outs = rw reached at (so.gathers outs walk) in
              rw (words_over t writer due value outs (suc c) (min (get_or follow c 0) channels) (omega arith) (next outs walk).without, so.on outs walk inside, turn.adds, before);
        }
