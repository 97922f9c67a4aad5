-- All the writes of an instant, one writer after another: whatever the order, each channel holds and has had written what the rules say,
-- and what was written waits no more. Assumes nothing.
use Prim.Native.Nat.{ℕ, ◌<◌}
use mathlib.Core.Bool.{true, false, cond, ◌&&◌}
use mathlib.Core.List.{List, [], ◌++◌}
use mathlib.Core.Option.{none}
use mathlib.Core.Path.{◌≡◌, refl, ap, sym, ◌∙◌}
use lib.Dec.{eqb}
use lib.IntN.{ℤ}
use lib.ListN.{length, get_or}
use borrow.Author.Tests.{eqb-true, eq-eqb}
use Rattle.rules.specs.Network.{Network, Obeys, end_ok, channel_of, outside}
use Rattle.rules.specs.Instant.{State, waiting_of, held_in, is_due, keeping, written, after_writes}
use Rattle.rules.proofs.Arrivals.{Faultless}
use Rattle.rules.proofs.Checks.{fields_of, end_node}
use Rattle.rules.proofs.ListLaws.{by_test, length_tab, get_or_tab, tab_get_or}
use Rattle.rules.proofs.Sound.{Sound}
use Rattle.theorems.specs.Turns.{times, Turn, wrote_to, begin, brings, write, write_all, Orders, Fair}
use Rattle.theorems.proofs.Brought.{brings_written}
use Rattle.theorems.proofs.Cells.{Sized, Sizes, Cell, sized_after, cell_updated}

-- the entries after one writer's turn
module _ (net : Network) (arrivals : List ℕ) (t : ℕ) where
  write_sizes : Sizes net (write net arrivals t)
  unfolding write
  write_sizes now n = record { nodes = length_tab (length net.nodes) _; channels = length_tab (length net.channels) _ }

  write_waiting : (now : Turn) (n m : ℕ) → m < length net.nodes
      → get_or (write net arrivals t now n).waiting m none
      ≡ cond (eqb m n && is_due (get_or now.waiting m none) t) none (get_or now.waiting m none)
  unfolding write
  write_waiting now n m below = get_or_tab (length net.nodes) _ m none below

  write_held : (now : Turn) (n c : ℕ) → c < length net.channels
      → held_in (write net arrivals t now n).held c
      ≡ cond (eqb (channel_of net c).writer n)
      (keeping (channel_of net c) (held_in now.held c) (brings net arrivals t now n c)) (held_in now.held c)
  unfolding write
  write_held now n c below = get_or_tab (length net.channels) _ c [] below

  write_wrote : (now : Turn) (n c : ℕ) → c < length net.channels
      → wrote_to (write net arrivals t now n) c
      ≡ cond (eqb (channel_of net c).writer n) (wrote_to now c ++ brings net arrivals t now n c) (wrote_to now c)
  unfolding write
  write_wrote now n c below = get_or_tab (length net.channels) _ c [] below

  -- what a node has waiting, and what its own turn makes of it
  waiting_cell : (m : ℕ) → m < length net.nodes
      → Cell net (write net arrivals t) m (λ now. get_or now.waiting m none)
      (λ now. cond (is_due (get_or now.waiting m none) t) none (get_or now.waiting m none))
  waiting_cell m below =
      record {
        updates = λ now. write_waiting now m m below ∙ rw (eq-eqb m m refl);
        leaves = λ now n other. write_waiting now n m below ∙ rw other;
        same = λ now n sized other. rw (write_waiting now n m below, other);
      }

  -- what a writer brings is not changed by another's turn
  brings_same : (now : Turn) (n w c : ℕ) → end_ok (length net.nodes) w ≡ true → eqb w n ≡ false
      → brings net arrivals t (write net arrivals t now n) w c ≡ brings net arrivals t now w c
  unfolding brings
  brings_same now n w c ok other =
      by_test (eqb w outside) (λ e. rw e)
      (λ e. rw (e, write_waiting now n w (end_node (length net.nodes) w ok e), other))

  -- what is kept of a channel's words, whichever way they are joined to what is there: its writer's turn joins what the writer brings
  writer_cell : (w c : ℕ) → end_ok (length net.nodes) w ≡ true → (get : Turn → List ℤ) (join : List ℤ → List ℤ → List ℤ)
      → ((now : Turn) (n : ℕ) → get (write net arrivals t now n) ≡ cond (eqb w n) (join (get now) (brings net arrivals t now n c)) (get now))
      → Cell net (write net arrivals t) w get (λ now. join (get now) (brings net arrivals t now w c))
  writer_cell w c ok get join entry =
      record {
        updates = λ now. entry now w ∙ rw (eq-eqb w w refl);
        leaves = λ now n other. entry now n ∙ rw other;
        same = λ now n sized other. rw (entry now n, other, brings_same now n w c ok other);
      }

-- a writer stands exactly once in a fair order
writer_once : (net : Network) (orders : Orders) → Fair net orders → (w : ℕ)
    → end_ok (length net.nodes) w ≡ true → times w orders.writes ≡ 1
writer_once net orders fair w ok =
    by_test (eqb w outside) (λ e. rw (eqb-true w outside e) fair.outside_once) (λ e. fair.writes_once w (end_node (length net.nodes) w ok e))

-- the writes of an instant, from a sound state
module _ (net : Network) (arrivals : List ℕ) (t : ℕ) (st : State) (orders : Orders) (before : Sound net t st) where
  begin_sized : Sized net (begin net st)
  unfolding begin
  begin_sized = record { nodes = before.nodes; channels = before.channels }

  pub writes_sized : Sized net (write_all net arrivals t orders.writes st)
  unfolding write_all
  writes_sized = sized_after net (write net arrivals t) (write_sizes net arrivals t) orders.writes (begin net st) begin_sized

  -- in a fair order
  module _ (fair : Fair net orders) where
    pub writes_waiting : (n : ℕ) → n < length net.nodes
        → get_or (write_all net arrivals t orders.writes st).waiting n none ≡ cond (is_due (waiting_of st n) t) none (waiting_of st n)
    unfolding write_all begin
    writes_waiting n below =
        cell_updated (waiting_cell net arrivals t n below) (write_sizes net arrivals t) orders.writes (begin net st) begin_sized (fair.writes_once n below)

    module _ (obeys : Obeys net) (faultless : Faultless net arrivals) where
      channel_written : (c : ℕ) → c < length net.channels → (get : Turn → List ℤ) (join : List ℤ → List ℤ → List ℤ)
          → ((now : Turn) (n : ℕ)
          → get (write net arrivals t now n) ≡ cond (eqb (channel_of net c).writer n) (join (get now) (brings net arrivals t now n c)) (get now))
          → get (write_all net arrivals t orders.writes st) ≡ join (get (begin net st)) (written net arrivals t st c)
      unfolding write_all
      channel_written c below get join entry =
          let w = (channel_of net c).writer in
          let ok = (fields_of net obeys c below).writer in
          cell_updated (writer_cell net arrivals t w c ok get join entry) (write_sizes net arrivals t) orders.writes (begin net st) begin_sized (writer_once net orders fair w ok)
          ∙ ap (join (get (begin net st))) (brings_written net arrivals t st obeys faultless before c)

      pub writes_held : (write_all net arrivals t orders.writes st).held ≡ after_writes net arrivals t st
      unfolding after_writes begin
      writes_held =
          sym
          (tab_get_or (write_all net arrivals t orders.writes st).held (length net.channels) _ [] writes_sized.channels
          (λ c below.
          sym (channel_written c below (λ now. held_in now.held c) (keeping (channel_of net c)) (λ now n. write_held net arrivals t now n c below))))

      pub writes_wrote : (c : ℕ) → c < length net.channels
          → wrote_to (write_all net arrivals t orders.writes st) c ≡ written net arrivals t st c
      unfolding begin
      writes_wrote c below =
          channel_written c below (λ now. wrote_to now c) (λ old new. old ++ new) (λ now n. write_wrote net arrivals t now n c below)
          ∙ rw (get_or_tab {A = List ℤ} (length net.channels) (λ d. []) c [] below)
