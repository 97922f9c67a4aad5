-- Idle instants: an instant at which no waiting result is due, no node is released and no arrival stands changes nothing and writes
-- nothing, so a run stands still over any number of them. Assumes nothing.
use Prim.Native.Nat.{ℕ, zero, suc, ◌+◌, ◌-◌, ◌<◌, zero-le}
use native.Mathlib.Nat.{add-suc, add-zero}
use native.Mathlib.Omega.{arith}
use mathlib.Core.Bool.{true, false}
use mathlib.Core.List.{List, [], append-nil}
use mathlib.Core.Option.{Option, none, some}
use mathlib.Core.Path.{◌≡◌, refl, sym}
use lib.Dec.{eqb}
use lib.IntN.{ℤ}
use lib.ListN.{length, get_or}
use borrow.Author.Tests.{le-ltb}
use Rattle.rules.specs.declared.Channel.{Channel}
use Rattle.rules.specs.Lists.{tab_from, tab, joined, lowest}
use Rattle.rules.specs.Network.{Network, Obeys, channel_of, is_register, is_out}
use Rattle.rules.specs.Instant.{time_in, Waiting, State, waiting_of, held_in, is_due, due_now, arriving, written, keeping, after_writes, overfull, out_words, goes_ahead, waiting_after, held_after, after_reads, goes, judged, instant, running, onward, reached}
use Rattle.rules.proofs.Arrivals.{nothing_arrives}
use Rattle.rules.proofs.ListLaws.{tab_get_or, by_test, lowest_none}
use Rattle.rules.proofs.LongerLists.{last_of_one}
use Rattle.rules.proofs.Sound.{Sound, Idle}
use Rattle.rules.proofs.Reach.{sound}

-- empty lists one after another
joined_empties : {A : Type 0} (f : ℕ → List A) (i n : ℕ) → ((k : ℕ) → f k ≡ []) → joined (tab_from f i n) ≡ []
unfolding tab_from joined
joined_empties f i zero empty = refl
joined_empties f i (suc n) empty = rw (empty i) (joined_empties f (suc i) n empty)

-- an arrival list has nothing for an instant at which no arrival stands
pub nothing_arrives_at : (arrivals : List ℕ) (t c : ℕ) → ((i : ℕ) → i < length arrivals → eqb (time_in (get_or arrivals i 0)) t ≡ false) → arriving arrivals t c ≡ []
nothing_arrives_at arrivals t c absent = nothing_arrives arrivals t c (λ i h. rw (absent i h))

not_due_yet : (w : Option Waiting) (t : ℕ) → is_due w t ≡ false → due_now w t ≡ []
not_due_yet none t h = refl
not_due_yet (some w) t h = rw h

-- a channel to which nothing is written keeps what it holds
keeping_none : (ch : Channel) (old : List ℤ) → (is_out ch ≡ true → old ≡ []) → (is_register ch ≡ true → length old ≡ 1) → keeping ch old [] ≡ old
unfolding keeping
keeping_none ch old out register =
    by_test (is_out ch) (λ e. rw e (sym (out e)))
    (λ e. by_test (is_register ch) (λ r. rw (e, r, append-nil) (last_of_one old (register r))) (λ r. rw (e, r) (append-nil old)))

module _ (net : Network) (arrivals : List ℕ) (t : ℕ) (st : State) (well : Sound net t st) (idle : Idle net arrivals t st) where
  nothing_written : (c : ℕ) → written net arrivals t st c ≡ []
  unfolding written
  nothing_written c =
      rw (not_due_yet (waiting_of st (channel_of net c).writer) t (idle.none_due (channel_of net c).writer))
      (nothing_arrives_at arrivals t c idle.no_arrival)

  nothing_held_anew : after_writes net arrivals t st ≡ st.held
  unfolding after_writes
  nothing_held_anew =
      tab_get_or st.held (length net.channels) _ [] well.channels
      (λ c below.
      rw (nothing_written c)
      (keeping_none (channel_of net c) (held_in st.held c) (well.out c below) (well.register c below)))

  no_words : out_words net arrivals t st ≡ []
  unfolding out_words tab
  no_words =
      joined_empties _ 0 (length net.channels)
      (λ c. by_test (is_out (channel_of net c)) (λ e. rw (e, nothing_written c)) (λ e. rw e))

  none_overfull : lowest (length net.channels) (overfull net st.held) ≡ length net.channels
  none_overfull =
      lowest_none (length net.channels) (overfull net st.held)
      (λ c below.
      by_test (is_register (channel_of net c)) (λ e. rw e)
      (λ e. rw (e, le-ltb (channel_of net c).capacity (length (held_in st.held c)) (well.queue c below e))))

  none_goes_ahead : (held : List (List ℤ)) (n : ℕ) → goes_ahead net held t n ≡ false
  unfolding goes_ahead
  none_goes_ahead held n = rw (idle.none_released n)

  waits_on : (n : ℕ) → waiting_after net st.held t st n ≡ waiting_of st n
  unfolding waiting_after
  waits_on n = rw (none_goes_ahead st.held n, idle.none_due n)

  holds_on : (c : ℕ) → held_after net st.held t c ≡ held_in st.held c
  unfolding held_after
  holds_on c =
      rw (none_goes_ahead st.held (channel_of net c).reader)
      (by_test (is_register (channel_of net c)) (λ e. rw e) (λ e. rw e))

  all_wait_on : tab (length net.nodes) (waiting_after net st.held t st) ≡ st.waiting
  all_wait_on = tab_get_or st.waiting (length net.nodes) _ none well.nodes (λ n below. waits_on n)

  all_hold_on : tab (length net.channels) (held_after net st.held t) ≡ st.held
  all_hold_on = tab_get_or st.held (length net.channels) _ [] well.channels (λ c below. holds_on c)

  nothing_read : after_reads net st.held t st ≡ st
  unfolding after_reads
  nothing_read = λ i. record { waiting = all_wait_on i; held = all_hold_on i }

  idle_judged : (room : ℕ) → judged net room t st st.held [] ≡ goes [] st
  unfolding judged
  idle_judged room =
      let all : ℕ = length net.channels in
      rw (none_overfull, le-ltb all all (omega arith), le-ltb room 0 zero-le, nothing_read)

-- an instant at which nothing happens changes nothing and writes nothing
pub idle_instant : (net : Network) (arrivals : List ℕ) (room t : ℕ) (st : State) → Sound net t st → Idle net arrivals t st → instant net arrivals room t st ≡ goes [] st
unfolding instant
idle_instant net arrivals room t st well idle =
    rw (nothing_held_anew net arrivals t st well idle, no_words net arrivals t st well idle)
    (idle_judged net arrivals t st well idle room)

-- a run stands still over an idle instant
pub idle_reached : (net : Network) (arrivals : List ℕ) (room t : ℕ) (words : List ℕ) (st : State) → Obeys net → reached net arrivals room t ≡ running words st → Idle net arrivals t st → reached net arrivals room (suc t) ≡ running words st
unfolding reached onward
idle_reached net arrivals room t words st obeys here idle =
    rw (here, idle_instant net arrivals (room - length words) t st (sound net arrivals room t words st obeys here) idle, append-nil)

-- and over any number of them
pub idle_stretch : (net : Network) (arrivals : List ℕ) (room t : ℕ) (words : List ℕ) (st : State) → Obeys net → reached net arrivals room t ≡ running words st → (k : ℕ) → ((i : ℕ) → i < k → Idle net arrivals (t + i) st) → reached net arrivals room (t + k) ≡ running words st
idle_stretch net arrivals room t words st obeys here zero idle = rw add-zero here
idle_stretch net arrivals room t words st obeys here (suc k) idle =
    rw add-suc
    (idle_reached net arrivals room (t + k) words st obeys
    (idle_stretch net arrivals room t words st obeys here k (λ i h. idle i (omega arith)))
    (idle k (omega arith)))
