-- Every state that a run reaches is sound: the state at the start is, and an instant that goes on leads from a sound state to a sound one.
-- Assumes nothing.
use Prim.Native.Nat.{ℕ, zero, suc, ◌<◌}
use mathlib.Core.Bool.{false}
use mathlib.Core.List.{List, []}
use mathlib.Core.Option.{Option, none}
use mathlib.Core.Path.{◌≡◌, subst}
use lib.ListN.{length}
use Rattle.rules.specs.Network.{Network, Obeys, node_of, channel_of}
use Rattle.rules.specs.Instant.{Waiting, State, waiting_of, held_in, at_start, due_now, arriving, written, after_writes, overfull, goes_ahead, held_after, after_reads, running, reached}
use Rattle.rules.proofs.Checks.{fields_of}
use Rattle.rules.proofs.InstantLaws.{length_writes, writes_at, length_waiting, waiting_at_law, length_held, held_at_law, Came, reached_came}
use Rattle.rules.proofs.ListLaws.{length_tab, get_or_tab}
use Rattle.rules.proofs.LongerLists.{at_any}
use Rattle.rules.proofs.Sound.{Sound}
use Rattle.rules.proofs.TokenLaws.{AllFit, none_fit, append_fit, arriving_fit, Holds, initial_holds, writes_hold, reads_hold}
use Rattle.rules.proofs.WaitLaws.{Waits, entry_waits, due_fit, waits_after}

-- a state is sound by its entries
sound_by : (net : Network) (t : ℕ) (st : State) → length st.waiting ≡ length net.nodes → length st.held ≡ length net.channels
    → ((n : ℕ) → n < length net.nodes → Waits (node_of net n) t (waiting_of st n))
    → ((c : ℕ) → c < length net.channels → Holds (channel_of net c) (held_in st.held c)) → Sound net t st
sound_by net t st nodes channels waits holds =
    let waiting = at_any (λ n. Waits (node_of net n) t) st.waiting none (length net.nodes) nodes waits (λ n. tt) in
    let fit = at_any (λ c. AllFit) st.held [] (length net.channels) channels (λ c below. (holds c below).fit) (λ c. none_fit) in
    record {
      nodes = nodes;
      channels = channels;
      due = λ n w e. (subst (Waits (node_of net n) t) e (waiting n)).0;
      value_fits = λ n w e. (subst (Waits (node_of net n) t) e (waiting n)).1;
      register = λ c below. (holds c below).register;
      queue = λ c below. (holds c below).queue;
      out = λ c below. (holds c below).out;
      token_fits = λ c. (fit c).at;
    }

pub start_sound : (net : Network) → Obeys net → Sound net 0 (at_start net)
unfolding at_start
start_sound net obeys =
    sound_by net 0 (at_start net) (length_tab (length net.nodes) (λ n. none)) obeys.held
    (λ n below. rw (get_or_tab {A = Option Waiting} (length net.nodes) (λ m. none) n none below) tt)
    (λ c below.
    initial_holds (channel_of net c) (held_in net.tokens c) (fields_of net obeys c below) (obeys.initially c below)
    (record { at = obeys.token_fits c }))

-- what a sound state's nodes have waiting, and what its channels hold
module _ (net : Network) (t : ℕ) (st : State) (before : Sound net t st) where
  pub sound_waits : (n : ℕ) → Waits (node_of net n) t (waiting_of st n)
  sound_waits n = entry_waits (node_of net n) t (waiting_of st n) (before.due n) (before.value_fits n)

  pub sound_holds : (c : ℕ) → c < length net.channels → Holds (channel_of net c) (held_in st.held c)
  sound_holds c below =
      record {
        register = before.register c below;
        queue = before.queue c below;
        out = before.out c below;
        fit = record { at = before.token_fits c };
      }

  pub written_fit : (arrivals : List ℕ) (c : ℕ) → AllFit (written net arrivals t st c)
  unfolding written
  written_fit arrivals c =
      let writer = (channel_of net c).writer in
      append_fit (due_now (waiting_of st writer) t) (arriving arrivals t c)
      (due_fit (node_of net writer) t (waiting_of st writer) (sound_waits writer)) (arriving_fit arrivals t c)

-- one instant, from a sound state, in which no channel is overfull
module _ (net : Network) (arrivals : List ℕ) (t : ℕ) (st : State) (obeys : Obeys net) (before : Sound net t st)
    (under : (c : ℕ) → c < length net.channels → overfull net (after_writes net arrivals t st) c ≡ false) where
  pub after_writes_holds : (c : ℕ) → c < length net.channels → Holds (channel_of net c) (held_in (after_writes net arrivals t st) c)
  after_writes_holds c below =
      let entry = writes_at net arrivals t st c below in
      rw entry
      (writes_hold (channel_of net c) (held_in st.held c) (written net arrivals t st c) (fields_of net obeys c below)
      (sound_holds net t st before c below) (written_fit net t st before arrivals c) (rw entry at (under c below)))

  pub after_writes_fit : (c : ℕ) → AllFit (held_in (after_writes net arrivals t st) c)
  after_writes_fit =
      at_any (λ c. AllFit) (after_writes net arrivals t st) [] (length net.channels) (length_writes net arrivals t st)
      (λ c below. (after_writes_holds c below).fit) (λ c. none_fit)

  after_reads_holds : (c : ℕ) → c < length net.channels → Holds (channel_of net c) (held_after net (after_writes net arrivals t st) t c)
  unfolding held_after
  after_reads_holds c below =
      let held = after_writes net arrivals t st in
      reads_hold (channel_of net c) (goes_ahead net held t (channel_of net c).reader) (held_in held c) (after_writes_holds c below)

  pub after_reads_sound : Sound net (suc t) (after_reads net (after_writes net arrivals t st) t st)
  after_reads_sound =
      let held = after_writes net arrivals t st in
      sound_by net (suc t) (after_reads net held t st) (length_waiting net held t st) (length_held net held t st)
      (λ n below.
      rw (waiting_at_law net held t st n below) (waits_after net held t st n obeys after_writes_fit below (sound_waits net t st before n)))
      (λ c below. rw (held_at_law net held t st c below) (after_reads_holds c below))

-- every state that a run reaches is sound
pub sound : (net : Network) (arrivals : List ℕ) (room t : ℕ) (words : List ℕ) (st : State) → Obeys net → reached net arrivals room t ≡ running words st → Sound net t st
unfolding reached
sound net arrivals room zero words st obeys e =
    let same : at_start net ≡ st = cc in
    rw (← same) (start_sound net obeys)
sound net arrivals room (suc t) words st obeys e =
    let came : Came net arrivals room t st = reached_came net arrivals room t words st e in
    let before = sound net arrivals room t came.before came.old obeys came.running in
    rw came.goes.after (after_reads_sound net arrivals t came.old obeys before came.goes.not_overfull)
