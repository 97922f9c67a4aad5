-- The entries of an instant's states, what an instant that goes on says, and how a run came to the state that it reaches. Assumes nothing.
use Prim.Native.Nat.{ℕ, suc, ◌-◌, ◌≤◌, ◌<◌}
use native.Mathlib.Omega.{arith}
use mathlib.Core.Bool.{true, false}
use mathlib.Core.List.{List, []}
use mathlib.Core.Option.{none}
use mathlib.Core.Path.{◌≡◌, refl}
use lib.Dec.{ltb}
use lib.IntN.{ℤ}
use lib.ListN.{length}
use borrow.Author.Tests.{ltb-true, ltb-false}
use Rattle.rules.specs.Lists.{lowest}
use Rattle.rules.specs.Network.{Network, channel_of}
use Rattle.rules.specs.Instant.{State, waiting_of, held_in, written, keeping, waiting_after, held_after, Step, stops, goes, after_writes, overfull, out_words, after_reads, judged, instant, Reached, running, halted, stepped, onward, reached}
use Rattle.rules.proofs.ListLaws.{length_tab, get_or_tab, by_test, lowest_is}

-- the state after the writes and after the reads, entry by entry
module _ (net : Network) (arrivals : List ℕ) (t : ℕ) (st : State) where
  pub length_writes : length (after_writes net arrivals t st) ≡ length net.channels
  unfolding after_writes
  length_writes =
      length_tab (length net.channels) (λ c. keeping (channel_of net c) (held_in st.held c) (written net arrivals t st c))

  pub writes_at : (c : ℕ) → c < length net.channels
      → held_in (after_writes net arrivals t st) c ≡ keeping (channel_of net c) (held_in st.held c) (written net arrivals t st c)
  unfolding after_writes
  writes_at c below =
      get_or_tab (length net.channels) (λ d. keeping (channel_of net d) (held_in st.held d) (written net arrivals t st d)) c [] below

module _ (net : Network) (held : List (List ℤ)) (t : ℕ) (st : State) where
  pub length_waiting : length (after_reads net held t st).waiting ≡ length net.nodes
  unfolding after_reads
  length_waiting = length_tab (length net.nodes) (waiting_after net held t st)

  pub waiting_at_law : (n : ℕ) → n < length net.nodes → waiting_of (after_reads net held t st) n ≡ waiting_after net held t st n
  unfolding after_reads
  waiting_at_law n below = get_or_tab (length net.nodes) (waiting_after net held t st) n none below

  pub length_held : length (after_reads net held t st).held ≡ length net.channels
  unfolding after_reads
  length_held = length_tab (length net.channels) (held_after net held t)

  pub held_at_law : (c : ℕ) → c < length net.channels → held_in (after_reads net held t st).held c ≡ held_after net held t c
  unfolding after_reads
  held_at_law c below = get_or_tab (length net.channels) (held_after net held t) c [] below

-- what instant t comes to: a channel is overfull, or the words do not fit, or neither, and it goes on with the words to the next state
pub data Comes (net : Network) (arrivals : List ℕ) (room t : ℕ) (st : State) : Step → Type 0 where
  full : (c : ℕ) → c < length net.channels → overfull net (after_writes net arrivals t st) c ≡ true → Comes net arrivals room t st (stops 11 c)
  crowded : Comes net arrivals room t st (stops 12 0)
  on : ((c : ℕ) → c < length net.channels → overfull net (after_writes net arrivals t st) c ≡ false)
      → length (out_words net arrivals t st) ≤ room
      → Comes net arrivals room t st (goes (out_words net arrivals t st) (after_reads net (after_writes net arrivals t st) t st))

pub instant_comes : (net : Network) (arrivals : List ℕ) (room t : ℕ) (st : State) → Comes net arrivals room t st (instant net arrivals room t st)
unfolding instant judged
instant_comes net arrivals room t st =
    let n = length net.channels in
    let held = after_writes net arrivals t st in
    let words = out_words net arrivals t st in
    let lowest_full_law = lowest n (overfull net held) in
    let low = lowest_is n (overfull net held) in
    by_test (ltb lowest_full_law n)
    (λ over.
    let below = ltb-true lowest_full_law n over in
    rw over (full lowest_full_law below (low.found below)))
    (λ under.
    by_test (ltb room (length words)) (λ over. rw (under, over) crowded)
    (λ has_room.
    rw (under, has_room) (on (λ c below. low.without c (omega (arith, ltb-false lowest_full_law n under))) (ltb-false room (length words) has_room))))

-- instant t goes on with these words to the next state: no channel is overfull, and the words have room
pub record Goes (net : Network) (arrivals : List ℕ) (room t : ℕ) (st : State) (said : List ℕ) (next : State) : Type 0 where
  pub not_overfull : (c : ℕ) → c < length net.channels → overfull net (after_writes net arrivals t st) c ≡ false
  pub fits : length said ≤ room
  pub after : next ≡ after_reads net (after_writes net arrivals t st) t st

module _ (net : Network) (arrivals : List ℕ) (room t : ℕ) (st : State) (words : List ℕ) (after : State) where
  comes_on : {step : Step} → Comes net arrivals room t st step → step ≡ goes words after → Goes net arrivals room t st words after
  comes_on (full c below over) e = let z : ◌≡◌ {A = ℕ} 0 1 = cc in absurd (omega arith)
  comes_on crowded e = let z : ◌≡◌ {A = ℕ} 0 1 = cc in absurd (omega arith)
  comes_on (on under fits) e =
      let its : out_words net arrivals t st ≡ words = cc in
      record { not_overfull = under; fits = rw its at fits; after = cc }

  pub instant_goes : instant net arrivals room t st ≡ goes words after → Goes net arrivals room t st words after
  instant_goes e = comes_on (instant_comes net arrivals room t st) e

-- a run that goes on after instant t was running before it, and instant t went on
pub record Came (net : Network) (arrivals : List ℕ) (room t : ℕ) (st : State) : Type 0 where
  pub before : List ℕ
  pub more : List ℕ
  pub old : State
  pub running : reached net arrivals room t ≡ running before old
  pub goes : Goes net arrivals (room - length before) t old more st

module _ (net : Network) (arrivals : List ℕ) (room t : ℕ) (words : List ℕ) (st : State) where
  came_by_step : (before : List ℕ) (old : State) → reached net arrivals room t ≡ running before old
      → (step : Step) → instant net arrivals (room - length before) t old ≡ step → stepped before t step ≡ running words st
      → Came net arrivals room t st
  came_by_step before old r (stops number channel) i e = let z : ◌≡◌ {A = ℕ} 0 1 = cc in absurd (omega arith)
  came_by_step before old r (goes more after) i e =
      let same : after ≡ st = cc in
      record {
        before = before;
        more = more;
        old = old;
        running = r;
        goes = rw (← same) (instant_goes net arrivals (room - length before) t old more after i);
      }

  came_by : (earlier : Reached) → reached net arrivals room t ≡ earlier → onward net arrivals room t earlier ≡ running words st
      → Came net arrivals room t st
  unfolding onward
  came_by (running before old) r e = came_by_step before old r (instant net arrivals (room - length before) t old) refl e
  came_by (halted before number i channel) r e = let z : ◌≡◌ {A = ℕ} 0 1 = cc in absurd (omega arith)

  pub reached_came : reached net arrivals room (suc t) ≡ running words st → Came net arrivals room t st
  unfolding reached
  reached_came e = came_by (reached net arrivals room t) refl e
