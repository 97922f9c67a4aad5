-- The words of every run stand by time, and within an instant by channel, at most one for each. Assumes nothing.
use Prim.Native.Nat.{ℕ, zero, suc, ◌+◌, ◌-◌, ◌*◌, ◌^◌, ◌≤◌, ◌<◌}
use native.Mathlib.Nat.{not-suc-le-zero, le_refl, le_of_eq, zero-add}
use native.Mathlib.Omega.{arith}
use mathlib.Core.Bool.{cond}
use mathlib.Core.List.{List, [], map, append-nil}
use mathlib.Core.Option.{Option, none, some}
use mathlib.Core.Path.{◌≡◌, refl, sym}
use mathlib.Core.Logic.{◌⊎◌, inl, inr}
use lib.Dec.{eqb, ltb}
use lib.IntN.{ℤ}
use lib.ListN.{length, get_or}
use mir.Syntax.{w32}
use mir.Val.{SFits}
use borrow.Author.Tests.{ltb-true, ltb-false}
use Rattle.rules.specs.Lists.{tab}
use Rattle.rules.specs.Network.{Network, Obeys, channel_of, is_out}
use Rattle.rules.specs.Instant.{word, time_in, channel_in, Waiting, State, waiting_of, due_now, written, out_words, Step, Reached, running, halted, stepped, onward, reached}
use Rattle.rules.specs.Refusals.{outcome, run, words_of}
use Rattle.rules.proofs.Checks.{few_channels}
use Rattle.rules.proofs.InstantLaws.{Comes, instant_comes}
use Rattle.rules.proofs.ListLaws.{by_test}
use Rattle.rules.proofs.RunCases.{by_run}
use Rattle.rules.proofs.Sound.{Sound}
use Rattle.rules.proofs.Reach.{sound}
use Rattle.rules.proofs.Arrivals.{Faultless, nothing_arrives_out}
use Rattle.rules.proofs.WordLaws.{time_of_word, channel_of_word, word_fits, Rising, over, next, rising_within, rising_append, rising_joined, rising_at, rising_fits}

-- v stands before w: by time, and within an instant by channel
abbrev pub Before : ℕ → ℕ → Type 0
Before v w = (time_in v < time_in w) ⊎ ((time_in v ≡ time_in w) × (channel_in v < channel_in w))

-- the words are 64-bit numbers that stand by time, and within an instant by channel, at most one for each
pub record Ordered (words : List ℕ) : Type 0 where
  pub fit : (i : ℕ) → i < length words → get_or words i 0 < 2 ^ 64
  pub before : (i j : ℕ) → i < j → j < length words → Before (get_or words i 0) (get_or words j 0)

-- a word's place in the order: its time first, then its channel, which has 8 bits
abbrev stamp : ℕ → ℕ
stamp w = time_in w * 2 ^ 8 + channel_in w

by_stamp : (v w : ℕ) → v < 2 ^ 64 → w < 2 ^ 64 → stamp v < stamp w → Before v w
by_stamp v w small little h =
    by_test (ltb (time_in v) (time_in w)) (λ e. inl (ltb-true (time_in v) (time_in w) e))
    (λ e.
    let late : time_in w ≤ time_in v = ltb-false (time_in v) (time_in w) e in
    let same : time_in v ≡ time_in w = omega arith in
    let lower : channel_in v < channel_in w = omega arith in
    inr (same, lower))

rising_ordered : {low high : ℕ} {words : List ℕ} → Rising stamp low high words → Ordered words
rising_ordered {words = words} r =
    record {
      fit = rising_fits r;
      before = λ i j h k.
          by_stamp (get_or words i 0) (get_or words j 0) (rising_fits r i (omega arith)) (rising_fits r j k) (rising_at r i j h k);
    }

stamp_of_word : (c t : ℕ) (v : ℤ) → t < 2 ^ 24 → SFits w32 v → stamp (word c t v) ≡ t * 2 ^ 8 + c
stamp_of_word c t v h fits = rw (time_of_word c t v h fits, channel_of_word c t v h fits)

-- words in the place of instant t and channel c: at most one
abbrev InPlace : ℕ → ℕ → List ℕ → Type 0
InPlace t c words = Rising stamp (t * 2 ^ 8 + c) (t * 2 ^ 8 + suc c) words

none_in_place : (t c : ℕ) → InPlace t c []
none_in_place t c = over {low = t * 2 ^ 8 + c} {high = t * 2 ^ 8 + suc c} (omega arith)

due_in_place : (t c : ℕ) (o : Option Waiting) → c < 2 ^ 8 → t < 2 ^ 24 → ((w : Waiting) → o ≡ some w → SFits w32 w.value) → InPlace t c (map (word c t) (due_now o t))
due_in_place t c none few h fits = none_in_place t c
due_in_place t c (some w) few h fits =
    let same = stamp_of_word c t w.value h (fits w refl) in
    let up : suc (stamp (word c t w.value)) ≤ t * 2 ^ 8 + suc c = omega arith in
    by_test (eqb w.due t) (λ e. rw e (next (word_fits c t w.value few h (fits w refl)) (le_of_eq (sym same)) (over up))) (λ e. rw e (none_in_place t c))

-- words in order, all of instants before t
abbrev Earlier : ℕ → List ℕ → Type 0
Earlier t words = Rising stamp 0 (t * 2 ^ 8) words

before_next : {words : List ℕ} (t : ℕ) → Earlier t words → Earlier (suc t) words
before_next t r =
    let on : t * 2 ^ 8 ≤ suc t * 2 ^ 8 = omega arith in
    rising_within (le_refl 0) on r

module _ (net : Network) (arrivals : List ℕ) (obeys : Obeys net) (faultless : Faultless net arrivals) where
  module _ (t : ℕ) (early : t < 2 ^ 24) (st : State) (s : Sound net t st) where
    channel_in_place : (c : ℕ) → c < length net.channels → InPlace t c (cond (is_out (channel_of net c)) (map (word c t) (written net arrivals t st c)) [])
    unfolding written
    channel_in_place c below =
        let writer = (channel_of net c).writer in
        let due = waiting_of st writer in
        let few : c < 2 ^ 8 = omega (arith, few_channels net obeys) in
        by_test (is_out (channel_of net c))
        (λ e. rw (e, nothing_arrives_out net arrivals obeys faultless t c below e, append-nil (due_now due t)) (due_in_place t c due few early (s.value_fits writer)))
        (λ e. rw e (none_in_place t c))

    -- an instant's words rise, above those of the instants before
    instant_rising : Rising stamp (t * 2 ^ 8) (suc t * 2 ^ 8) (out_words net arrivals t st)
    unfolding out_words tab
    instant_rising =
        let n = length net.channels in
        let few = few_channels net obeys in
        let low : t * 2 ^ 8 ≤ t * 2 ^ 8 + 0 = omega arith in
        let high : t * 2 ^ 8 + n ≤ suc t * 2 ^ 8 = omega arith in
        rising_within low high (rising_joined _ (t * 2 ^ 8) n channel_in_place 0 n (zero-add n))

    step_before : {room : ℕ} {step : Step} (words : List ℕ) → Earlier t words → Comes net arrivals room t st step → Earlier (suc t) (words_of (outcome (stepped words t step)))
    step_before words r (Comes.full c below found) = before_next t r
    step_before words r Comes.crowded = before_next t r
    step_before words r (Comes.on under fits) = rising_append r instant_rising

  reached_before : (room t : ℕ) → t ≤ 2 ^ 24 → Earlier t (words_of (outcome (reached net arrivals room t)))
  unfolding reached
  reached_before room zero h = over (le_refl 0)
  reached_before room (suc t) h = step (reached net arrivals room t) refl (reached_before room t (omega arith))
    where
      step : (r : Reached) → reached net arrivals room t ≡ r → Earlier t (words_of (outcome r)) → Earlier (suc t) (words_of (outcome (onward net arrivals room t r)))
      step (running words st) e r =
          unfold onward in step_before t h st (sound net arrivals room t words st obeys e) words r (instant_comes net arrivals (room - length words) t st)
      step (halted words number i channel) e r = unfold onward in before_next t r

none_ordered : Ordered []
none_ordered = record { fit = λ i h. absurd (not-suc-le-zero h); before = λ i j before h. absurd (not-suc-le-zero h) }

-- the words of every run, for every input
pub run_ordered : (table : List ℕ) (horizon : ℕ) (arrivals : List ℕ) (room : ℕ) → Ordered (words_of (run table horizon arrivals room))
run_ordered table horizon arrivals room =
    by_run (λ o. Ordered (words_of o)) table horizon arrivals room (λ number place e. none_ordered) none_ordered (λ place. none_ordered)
    (λ net obeys soon faultless. rising_ordered (reached_before net arrivals obeys faultless room (suc horizon) (omega arith)))
