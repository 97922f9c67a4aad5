-- Demand 3: the networks, the arrival lists and the runs that it speaks of, and what is promised of them. Assumes nothing.
use Rattle.std.specs.Prelude.{ℕ, suc, ◌≤◌, ◌<◌, List, [], ◌≡◌, get_or, length}
use Rattle.rules.specs.Network.{Network, node_of, channel_of}
use Rattle.rules.specs.Table.{read, network}
use Rattle.rules.specs.Instant.{arriving, Reached, running, halted, history}
use Rattle.rules.specs.Refusals.{faulty_arrival}
use Rattle.theorems.specs.Turns.{Orders, Fair, reached_in_turn, history_in_turn}

-- B's first nodes and channels are A's, records and initial tokens equal
pub record Extends (A B : Network) : Type 0 where
  pub more_nodes : length A.nodes ≤ length B.nodes
  pub more_channels : length A.channels ≤ length B.channels
  pub same_node : (n : ℕ) → n < length A.nodes → node_of B n ≡ node_of A n
  pub same_channel : (c : ℕ) → c < length A.channels → channel_of B c ≡ channel_of A c
  pub same_tokens : (c : ℕ) → c < length A.channels → get_or B.tokens c [] ≡ get_or A.tokens c []

-- the arrival lists agree on A's channels up to T, channel by channel and instant by instant
pub record Agree (A : Network) (T : ℕ) (arrivals_a arrivals_b : List ℕ) : Type 0 where
  pub same : (c : ℕ) → c < length A.channels → (t : ℕ) → t ≤ T → arriving arrivals_b t c ≡ arriving arrivals_a t c

-- a run that has come so far has not stopped
pub data Runs : Reached → Type 0 where
  on : {words : List ℕ} {st : Rattle.rules.specs.Instant.State} → Runs (running words st)

-- a run that has come so far has stopped
pub data Stopped : Reached → Type 0 where
  short : {words : List ℕ} {number instant channel : ℕ} → Stopped (halted words number instant channel)

-- what is promised of two runs, nodes one after another; `suc t` is the moment after instant t, and `end` any moment
pub record Promised (A B : Network) (T : ℕ) (arrivals_a arrivals_b : List ℕ) (orders_a orders_b : ℕ → Orders) (room_a room_b : ℕ) : Type 0 where
  pub same :
      (t : ℕ)
      → t ≤ T
      → Runs (reached_in_turn A arrivals_a orders_a room_a (suc t))
      → Runs (reached_in_turn B arrivals_b orders_b room_b (suc t))
      → (c : ℕ)
      → c < length A.channels
      → history_in_turn B arrivals_b orders_b room_b c (suc t) ≡ history_in_turn A arrivals_a orders_a room_a c (suc t)
  pub of_a : (c : ℕ) → c < length A.channels → (t : ℕ) → history_in_turn A arrivals_a orders_a room_a c t ≡ history A arrivals_a room_a c t
  pub of_b : (c : ℕ) → c < length B.channels → (t : ℕ) → history_in_turn B arrivals_b orders_b room_b c t ≡ history B arrivals_b room_b c t
  pub stops_too :
      (end : ℕ) (words : List ℕ) (t c : ℕ)
      → reached_in_turn A arrivals_a orders_a room_a end ≡ halted words 11 t c
      → t ≤ T
      → Stopped (reached_in_turn B arrivals_b orders_b room_b (suc t))

-- The whole demand, phrase by phrase. The hypotheses:
--   "an accepted network A and an accepted network B": each is what some table's bytes are read as, by `network`;
--   "whose first nodes and channels are A's, records and initial tokens equal": `Extends A B`;
--   "with accepted arrival lists": in neither list an arrival is faulty, which is to say that no run is refused by 10;
--   "that agree on A's channels up to T": `Agree`, channel by channel and instant by instant;
--   "every millisecond take its nodes one after another in any order": at each instant the orders are any that are `Fair`, in which each
--   node stands once; "all writes kept before all reads, each node working on the channels as the one before left them": the semantics of
--   Turns, by `reached_in_turn` and `history_in_turn`; "the two runs choosing separately": `orders_a` and `orders_b`.
-- The conclusions:
--   "at each moment t up to T at or before which neither run has stopped, the words written to each of A's channels so far are the same, in
--   the same order": `same`; "and equal to those of the rules": `of_a` and `of_b`;
--   "if A's run stops at or before T for a full queue, B's has stopped by then too": `stops_too`, where t is the instant of A's stop.
-- "Run each to a horizon of at least T": a horizon plays no part. A run to a horizon is what is reached after that instant, and what is
-- reached and written by an earlier moment does not depend on it. So runs to any horizons of at least T are covered, and `stops_too`
-- holds at whatever moment the stop is seen.
-- Where the text could be read in two ways, the weaker hypothesis and the stronger conclusion are taken: the orders may differ from instant
-- to instant, whatever the choice hangs on, and for writing and reading; the outside takes its turn anywhere among the writers; numbers
-- that are nobody's may stand in the orders; the rooms for output words are any, so that either run may stop by 12; the words written are
-- equal with their instants; and they are those of the rules at every moment, stopped or not, on all of B's channels too.
abbrev pub Demand : Type 0
Demand =
    (table_a table_b : List ℕ) (A B : Network) (T : ℕ) (arrivals_a arrivals_b : List ℕ) (orders_a orders_b : ℕ → Orders) (room_a room_b : ℕ)
    → network table_a ≡ read A
    → network table_b ≡ read B
    → Extends A B
    → faulty_arrival A arrivals_a ≡ length arrivals_a
    → faulty_arrival B arrivals_b ≡ length arrivals_b
    → Agree A T arrivals_a arrivals_b
    → ((t : ℕ) → Fair A (orders_a t))
    → ((t : ℕ) → Fair B (orders_b t))
    → Promised A B T arrivals_a arrivals_b orders_a orders_b room_a room_b
