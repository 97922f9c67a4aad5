-- All the reads of an instant, one reader after another, from what stands after the writes: whatever the order, each node has waiting and
-- each channel holds what the rules say. Assumes nothing.
use Prim.Native.Nat.{ℕ, ◌+◌, ◌≤◌, ◌<◌}
use native.Mathlib.Omega.{arith}
use mathlib.Core.Bool.{false, cond, not, ◌&&◌, and-false}
use mathlib.Core.List.{List, []}
use mathlib.Core.Option.{none}
use mathlib.Core.Path.{◌≡◌, refl, sym, ◌∙◌}
use lib.Dec.{eqb}
use lib.IntN.{ℤ}
use lib.ListN.{length, get_or, drop}
use borrow.Author.Tests.{eqb-true, eq-eqb, le-ltb}
use Rattle.rules.specs.Network.{Network, Obeys, node_of, channel_of, is_register, outside}
use Rattle.rules.specs.Instant.{State, waiting_of, held_in, is_due, ready, result_of, wait_for, goes_ahead, waiting_after, held_after, after_reads}
use Rattle.rules.proofs.Checks.{few_nodes, fields_of, end_node}
use Rattle.rules.proofs.ListLaws.{by_test, length_tab, get_or_tab, tab_get_or}
use Rattle.theorems.specs.Turns.{Turn, reading, in_turn, read_all, Orders, Fair}
use Rattle.theorems.proofs.Cells.{Sized, Sizes, Cell, unchanged, sized_after, cell_updated}
use Rattle.theorems.proofs.Locality.{locality}

-- who is no node does not go ahead
nobody_ahead : (net : Network) (held : List (List ℤ)) (t n : ℕ) → length net.nodes ≤ n → goes_ahead net held t n ≡ false
unfolding goes_ahead
nobody_ahead net held t n past = rw (le-ltb n (length net.nodes) past)

-- the entries after one reader's turn
module _ (net : Network) (t : ℕ) where
  reading_sizes : Sizes net (reading net t)
  unfolding reading
  reading_sizes now n = record { nodes = length_tab (length net.nodes) _; channels = length_tab (length net.channels) _ }

  reading_waiting : (now : Turn) (n m : ℕ) → m < length net.nodes
      → get_or (reading net t now n).waiting m none
      ≡ cond (eqb m n && goes_ahead net now.held t n)
      (wait_for (t + (node_of net n).deadline) (result_of net now.held n)) (get_or now.waiting m none)
  unfolding reading goes_ahead
  reading_waiting now n m below = get_or_tab (length net.nodes) _ m none below

  reading_held : (now : Turn) (n c : ℕ) → c < length net.channels
      → held_in (reading net t now n).held c
      ≡ cond (eqb (channel_of net c).reader n && not (is_register (channel_of net c)) && goes_ahead net now.held t n)
      (drop 1 (held_in now.held c)) (held_in now.held c)
  unfolding reading goes_ahead
  reading_held now n c below = get_or_tab (length net.channels) _ c [] below

  -- another's turn leaves what a reader finds
  held_kept : (now : Turn) (n c : ℕ) → c < length net.channels → eqb (channel_of net c).reader n ≡ false
      → held_in (reading net t now n).held c ≡ held_in now.held c
  held_kept now n c below other = reading_held now n c below ∙ rw other

  -- so a node that has yet to read is ready alike, and has the same result, before and after another's turn
  finds_same : (now : Turn) (n m : ℕ) → Sized net now → eqb m n ≡ false
      → (ready net (reading net t now n).held m ≡ ready net now.held m)
      × (result_of net (reading net t now n).held m ≡ result_of net now.held m)
  finds_same now n m sized other =
      locality net net m now.held (reading net t now n).held
      (record {
        length_a = sized.channels;
        length_b = (reading_sizes now n).channels;
        node = refl;
        more = omega arith;
        channel = λ c below. refl;
        elsewhere = λ c new below. absurd (omega arith);
        held = λ c below reads. held_kept now n c below (rw reads other);
      })

  waiting_cell : (m : ℕ) → m < length net.nodes
      → Cell net (reading net t) m (λ now. get_or now.waiting m none)
      (λ now. cond (goes_ahead net now.held t m) (wait_for (t + (node_of net m).deadline) (result_of net now.held m)) (get_or now.waiting m none))
  unfolding goes_ahead
  waiting_cell m below =
      record {
        updates = λ now. reading_waiting now m m below ∙ rw (eq-eqb m m refl);
        leaves = λ now n other. reading_waiting now n m below ∙ rw other;
        same = λ now n sized other.
            rw ((finds_same now n m sized other).0, (finds_same now n m sized other).1, reading_waiting now n m below, other);
      }

  held_cell : (c : ℕ) → c < length net.channels
      → Cell net (reading net t) (channel_of net c).reader (λ now. held_in now.held c) (λ now. held_after net now.held t c)
  unfolding held_after goes_ahead
  held_cell c below =
      let r = (channel_of net c).reader in
      record {
        updates = λ now. reading_held now r c below ∙ rw (eq-eqb r r refl);
        leaves = λ now n other. held_kept now n c below other;
        same = λ now n sized other. rw ((finds_same now n r sized other).0, held_kept now n c below other);
      }

  -- no turn takes from a channel whose reader is no node
  unread : (now : Turn) (n c : ℕ) → c < length net.channels → length net.nodes ≤ (channel_of net c).reader
      → held_in (reading net t now n).held c ≡ held_in now.held c
  unread now n c below past =
      by_test (eqb (channel_of net c).reader n)
      (λ e.
      let nobody : length net.nodes ≤ n = omega (arith, eqb-true (channel_of net c).reader n e) in
      reading_held now n c below ∙ simp (nobody_ahead net now.held t n nobody, and-false))
      (λ e. held_kept now n c below e)

-- the reads of an instant, in a fair order, from what the writes left
module _ (net : Network) (t : ℕ) (st : State) (orders : Orders) (now : Turn) (obeys : Obeys net) (fair : Fair net orders) (sized : Sized net now)
    (left : (n : ℕ) → n < length net.nodes → get_or now.waiting n none ≡ cond (is_due (waiting_of st n) t) none (waiting_of st n)) where
  reads_sized : Sized net (in_turn (reading net t) now orders.reads)
  reads_sized = sized_after net (reading net t) (reading_sizes net t) orders.reads now sized

  reads_waiting : (n : ℕ) → n < length net.nodes
      → get_or (in_turn (reading net t) now orders.reads).waiting n none ≡ waiting_after net now.held t st n
  unfolding waiting_after
  reads_waiting n below =
      cell_updated (waiting_cell net t n below) (reading_sizes net t) orders.reads now sized (fair.reads_once n below)
      ∙ rw (left n below)

  -- a channel that the outside reads stays as it is, here and by the rules; any other has its reader's turn
  reads_held : (c : ℕ) → c < length net.channels
      → held_in (in_turn (reading net t) now orders.reads).held c ≡ held_after net now.held t c
  unfolding held_after
  reads_held c below =
      let r = (channel_of net c).reader in
      let nodes = length net.nodes in
      by_test (eqb r outside)
      (λ e.
      let past : nodes ≤ r = omega (arith, few_nodes net obeys, eqb-true r outside e) in
      unchanged (reading net t) (λ late. held_in late.held c) (λ late n. unread net t late n c below past) orders.reads now
      ∙ sym (simp (nobody_ahead net now.held t r past, and-false)))
      (λ e.
      cell_updated (held_cell net t c below) (reading_sizes net t) orders.reads now sized
      (fair.reads_once r (end_node nodes r (fields_of net obeys c below).reader e)))

  pub reads_done : read_all net t orders.reads now ≡ after_reads net now.held t st
  unfolding read_all after_reads
  reads_done =
      let after = in_turn (reading net t) now orders.reads in
      rw (
        tab_get_or after.waiting (length net.nodes) (waiting_after net now.held t st) none reads_sized.nodes (λ n h. sym (reads_waiting n h)),
        tab_get_or after.held (length net.channels) (held_after net now.held t) [] reads_sized.channels (λ c h. sym (reads_held c h)),
      )
