-- Worked instances of demand 3: what is supposed of case L and its extensions holds, so that the promise does; but one extension, which
-- feeds a node of case L, is not accepted, and of it the promise is false. The runs are in AllRuns. Assumes nothing.
use Prim.Native.Nat.{ℕ, zero, suc, ◌<◌, zero-le, suc-le-suc}
use native.Mathlib.Omega.{arith}
use mathlib.Core.Bool.{false}
use mathlib.Core.List.{List, []}
use mathlib.Core.Path.{◌≡◌, refl, ap}
use lib.Dec.{eqb}
use lib.ListN.{length, get_or}
use borrow.Author.Tests.{ne_eqb}
use Rattle.rules.specs.Lists.{tab_from, tab, joined, last_of, total, count, every, lowest}
use Rattle.rules.specs.Kinds.{sum, inputs, result, constant_ok}
use Rattle.rules.specs.Network.{Network, counts_ok, node_ok, channel_ok, ports_ok}
use Rattle.rules.specs.Table.{read, refusal, field_at, header_at, node_at, node_piece, nodes_up_to, channel_at, token_piece, tokens_up_to, with_channel, channel_piece, channels_up_to, ends_at, faulty_node, network}
use Rattle.rules.specs.Instant.{channel_in, at_start, arriving, written, keeping, after_writes, out_words, ready, goes_ahead, input_at, result_of, waiting_after, held_after, after_reads, judged, instant, onward, reached}
use Rattle.rules.specs.Refusals.{arrival_faulty, faulty_arrival, allowed, ended, run_from, run}
use Rattle.rules.specs.Bench.{two_together, one_empty, full_queue}
use Rattle.rules.proofs.Arrivals.{nothing_arrives_on}
use Rattle.theorems.specs.Turns.{times, Orders, Fair, begin, brings, write, reading, in_turn, words_out, read_all, judged_turn, write_all, instant_in_turn, onward_in_turn, reached_in_turn, adds_in_turn, history_in_turn}
use Rattle.theorems.specs.Demand.{Extends, Agree, on, Promised}
use Rattle.theorems.specs.Instances.{table_l, case_l, wider, table_wider, arrivals_wider, filling, table_filling, feeding, table_feeding, alone, rising, falling, three_rising, three_falling, three_mixed, by_turns, words_l}
use Rattle.theorems.proofs.InstanceLaws.{fair_if, fair_by_turns, more_extends}
use Rattle.theorems.proofs.Promise.{demand}

-- three of the networks are accepted; the one whose new channel feeds an old node is refused
pub tables : (network table_l ≡ read case_l) × (network table_wider ≡ read wider) × (network table_filling ≡ read filling)
    × (network table_feeding ≡ refusal 8 0)
unfolding total count every lowest inputs constant_ok counts_ok node_ok channel_ok ports_ok field_at header_at node_at node_piece nodes_up_to channel_at token_piece tokens_up_to with_channel channel_piece channels_up_to ends_at faulty_node network
tables = (refl, refl, refl, refl)

-- the words of the runs of case L are those of the rules
pub words_of_rules : run table_l 30 [] 2048 ≡ ended words_l
unfolding run run_from allowed faulty_arrival tab_from tab joined last_of every lowest sum inputs result at_start arriving written keeping after_writes out_words ready goes_ahead input_at result_of waiting_after held_after after_reads judged instant onward reached
words_of_rules = rw tables.0

-- the orders of the runs are fair to their networks
pub fair_orders : Fair case_l rising × Fair case_l falling × ((t : ℕ) → Fair case_l (by_turns falling rising t)) × Fair wider three_falling
    × Fair wider three_mixed × ((t : ℕ) → Fair wider (by_turns three_rising three_mixed t)) × Fair filling three_falling × Fair feeding three_rising
    × Fair two_together rising × Fair one_empty alone × Fair full_queue alone
unfolding every times
fair_orders =
    let up = fair_if case_l rising refl refl refl in
    let down = fair_if case_l falling refl refl refl in
    let mixed = fair_if wider three_mixed refl refl refl in (
      up,
      down,
      fair_by_turns case_l falling rising down up,
      fair_if wider three_falling refl refl refl,
      mixed,
      fair_by_turns wider three_rising three_mixed (fair_if wider three_rising refl refl refl) mixed,
      fair_if filling three_falling refl refl refl,
      fair_if feeding three_rising refl refl refl,
      fair_if two_together rising refl refl refl,
      fair_if one_empty alone refl refl refl,
      fair_if full_queue alone refl refl refl,
    )

pub extensions : Extends case_l wider × Extends case_l filling × Extends case_l feeding
extensions = (more_extends case_l _ _ _ refl, more_extends case_l _ _ _ refl, more_extends case_l _ _ _ refl)

-- what arrives on the register is not on case L's channels
register_only : (c : ℕ) → c < 4 → (i : ℕ) → i < 1 → eqb (channel_in (get_or arrivals_wider i 0)) c ≡ false
register_only c below zero first = ne_eqb 5 c (λ e. omega arith)
register_only c below (suc i) first = absurd (omega arith)

wider_agrees : Agree case_l 30 [] arrivals_wider
unfolding arriving
wider_agrees = record { same = λ c below t h. nothing_arrives_on arrivals_wider t c (register_only c below) }

-- so the promise holds of case L and the wider network, and of case L and the filling one, in whatever fair orders
pub promised : (orders_a orders_b : ℕ → Orders) (room_a room_b : ℕ) → ((t : ℕ) → Fair case_l (orders_a t))
    → (((t : ℕ) → Fair wider (orders_b t)) → Promised case_l wider 30 [] arrivals_wider orders_a orders_b room_a room_b)
    × (((t : ℕ) → Fair filling (orders_b t)) → Promised case_l filling 30 [] [] orders_a orders_b room_a room_b)
unfolding faulty_arrival arrival_faulty lowest
promised orders_a orders_b room_a room_b fairA = (
  λ fair_b.
      demand table_l table_wider case_l wider 30 [] arrivals_wider orders_a orders_b room_a room_b tables.0 tables.1 extensions.0 refl refl
      wider_agrees fairA fair_b,
  λ fair_b.
      demand table_l table_filling case_l filling 30 [] [] orders_a orders_b room_a room_b tables.0 tables.2 extensions.1 refl refl
      (record { same = λ c below t h. refl }) fairA fair_b,
)

-- of case L and the feeding network, of which all is true but that its table is accepted, it is false: at 3 node 0 writes in the one alone
pub not_promised : ¬ Promised case_l feeding 30 [] [] (λ t. rising) (λ t. three_rising) 2048 2048
unfolding tab_from tab joined last_of every lowest sum inputs result at_start arriving keeping ready input_at result_of begin brings write reading in_turn words_out read_all judged_turn write_all instant_in_turn onward_in_turn reached_in_turn adds_in_turn history_in_turn
not_promised says =
    let fewer : ◌≡◌ {A = ℕ} 0 1 = ap length (says.same 3 (omega arith) on on 0 (suc-le-suc zero-le)) in
    absurd (omega arith)

-- so without the acceptance of B the demand would be false
pub acceptance_needed : ¬ ((table_a : List ℕ) (A B : Network) (T : ℕ) (arrivals_a arrivals_b : List ℕ) (orders_a orders_b : ℕ → Orders) (room_a room_b : ℕ)
    → network table_a ≡ read A
    → Extends A B
    → faulty_arrival A arrivals_a ≡ length arrivals_a
    → faulty_arrival B arrivals_b ≡ length arrivals_b
    → Agree A T arrivals_a arrivals_b
    → ((t : ℕ) → Fair A (orders_a t))
    → ((t : ℕ) → Fair B (orders_b t))
    → Promised A B T arrivals_a arrivals_b orders_a orders_b room_a room_b)
unfolding faulty_arrival lowest
acceptance_needed claim =
    not_promised
    (claim table_l case_l feeding 30 [] [] (λ t. rising) (λ t. three_rising) 2048 2048 tables.0 extensions.2 refl refl
    (record { same = λ c below t h. refl }) (λ t. fair_orders.0) (λ t. fair_orders.7))
