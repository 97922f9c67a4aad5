-- Worked instances of demand 3: case L's network, three networks that have one node more, orders for them, and a small network for each
-- slip that the turns could make. Assumes nothing.
use Rattle.std.specs.Prelude.{ℕ, suc, ◌%◌, cond, List, [], ◌∷◌, ◌++◌, eqb, ℤ, pos, take, drop}
use Rattle.rules.specs.declared.Node.{Node}
use Rattle.rules.specs.declared.Channel.{Channel}
use Rattle.rules.specs.Lists.{tab}
use Rattle.rules.specs.Network.{Network, outside}
use Rattle.rules.specs.Instant.{word, Written}
use Rattle.rules.specs.Refusals.{Outcome, stopped, ended, outcome}
use Rattle.rules.specs.Bench.{input_l, node, queue, register, to_outside, two_together, one_empty, full_queue}
use Rattle.theorems.specs.Turns.{Orders, reached_in_turn, history_in_turn}

-- case L's table, between the length and the horizon of its input, and the network that it says
abbrev pub table_l : List ℕ
table_l = take 39 (drop 2 input_l)

abbrev pub case_l : Network
case_l =
    record {
      nodes = node 2 5 3 (pos 1) ∷ node 2 6 4 (pos 10) ∷ [];
      channels = queue 0 1 0 4 0 ∷ queue 1 0 0 4 1 ∷ to_outside 0 ∷ to_outside 1 ∷ [];
      tokens = [] ∷ (pos 100 ∷ []) ∷ [] ∷ [] ∷ [];
    }

-- a network with more nodes and channels behind its own
abbrev pub more : Network → List Node → List Channel → List (List ℤ) → Network
more net nodes channels tokens =
    record { nodes = net.nodes ++ nodes; channels = net.channels ++ channels; tokens = net.tokens ++ tokens }

-- case L with a sum of node 0's results and a register from the outside
abbrev pub wider : Network
wider =
    more case_l (node 3 4 2 (pos 0) ∷ []) (queue 0 2 0 8 0 ∷ register outside 2 1 ∷ to_outside 2 ∷ []) ([] ∷ (pos 1000 ∷ []) ∷ [] ∷ [])

abbrev pub table_wider : List ℕ
table_wider =
    16 ∷ 195 ∷ 128 ∷ 16 ∷ 0 ∷ 40 ∷ 0 ∷ 24 ∷ 0 ∷ 0 ∷ 0 ∷ 8 ∷ 128 ∷ 1 ∷ 128 ∷ 1 ∷ 0 ∷ 0 ∷ 0 ∷ 2
    ∷ 134 ∷ 0 ∷ 8 ∷ 0 ∷ 4 ∷ 0 ∷ 0 ∷ 0 ∷ 0 ∷ 0 ∷ 16 ∷ 32 ∷ 0 ∷ 32 ∷ 1 ∷ 0 ∷ 128 ∷ 0 ∷ 0 ∷ 50
    ∷ 0 ∷ 252 ∷ 2 ∷ 0 ∷ 15 ∷ 224 ∷ 16 ∷ 0 ∷ 2 ∷ 4 ∷ 0 ∷ 254 ∷ 18 ∷ 4 ∷ 8 ∷ 0 ∷ 0 ∷ 31 ∷ 64 ∷ 47
    ∷ 192 ∷ 32 ∷ 0
    ∷ []

-- 2000 arrives at 9 on the register, which is none of case L's channels
abbrev pub arrivals_wider : List ℕ
arrivals_wider = word 5 9 (pos 2000) ∷ []

-- case L with a queue of node 0's results that has room for one and is read at 0 and at 30
abbrev pub filling : Network
filling = more case_l (node 1 30 30 (pos 0) ∷ []) (queue 0 2 0 1 0 ∷ []) ([] ∷ [])

abbrev pub table_filling : List ℕ
table_filling =
    16 ∷ 194 ∷ 128 ∷ 16 ∷ 0 ∷ 40 ∷ 0 ∷ 24 ∷ 0 ∷ 0 ∷ 0 ∷ 8 ∷ 128 ∷ 1 ∷ 128 ∷ 1 ∷ 0 ∷ 0 ∷ 0 ∷ 2
    ∷ 130 ∷ 0 ∷ 60 ∷ 0 ∷ 60 ∷ 0 ∷ 0 ∷ 0 ∷ 0 ∷ 0 ∷ 16 ∷ 32 ∷ 0 ∷ 32 ∷ 1 ∷ 0 ∷ 128 ∷ 0 ∷ 0 ∷ 50
    ∷ 0 ∷ 252 ∷ 2 ∷ 0 ∷ 15 ∷ 224 ∷ 16 ∷ 0 ∷ 2 ∷ 0 ∷ 128
    ∷ []

-- case L with a constant that feeds node 0, whose port 0 is then served twice
abbrev pub feeding : Network
feeding = more case_l (node 0 8 8 (pos 7) ∷ []) (queue 2 0 0 4 0 ∷ []) ([] ∷ [])

abbrev pub table_feeding : List ℕ
table_feeding =
    16 ∷ 194 ∷ 128 ∷ 16 ∷ 0 ∷ 40 ∷ 0 ∷ 24 ∷ 0 ∷ 0 ∷ 0 ∷ 8 ∷ 128 ∷ 1 ∷ 128 ∷ 1 ∷ 0 ∷ 0 ∷ 0 ∷ 2
    ∷ 128 ∷ 0 ∷ 16 ∷ 0 ∷ 16 ∷ 0 ∷ 0 ∷ 0 ∷ 14 ∷ 0 ∷ 16 ∷ 32 ∷ 0 ∷ 32 ∷ 1 ∷ 0 ∷ 128 ∷ 0 ∷ 0 ∷ 50
    ∷ 0 ∷ 252 ∷ 2 ∷ 0 ∷ 15 ∷ 224 ∷ 16 ∷ 0 ∷ 128 ∷ 2 ∷ 0
    ∷ []

-- Orders: by rising and by falling numbers, for one, two and three nodes, and two others

abbrev pub alone : Orders
alone = record { writes = 0 ∷ outside ∷ []; reads = 0 ∷ [] }

abbrev pub rising : Orders
rising = record { writes = 0 ∷ 1 ∷ outside ∷ []; reads = 0 ∷ 1 ∷ [] }

abbrev pub falling : Orders
falling = record { writes = outside ∷ 1 ∷ 0 ∷ []; reads = 1 ∷ 0 ∷ [] }

abbrev pub three_rising : Orders
three_rising = record { writes = 0 ∷ 1 ∷ 2 ∷ outside ∷ []; reads = 0 ∷ 1 ∷ 2 ∷ [] }

abbrev pub three_falling : Orders
three_falling = record { writes = outside ∷ 2 ∷ 1 ∷ 0 ∷ []; reads = 2 ∷ 1 ∷ 0 ∷ [] }

abbrev pub three_mixed : Orders
three_mixed = record { writes = 2 ∷ outside ∷ 0 ∷ 1 ∷ []; reads = 1 ∷ 2 ∷ 0 ∷ [] }

-- the one at even instants, the other at odd ones
abbrev pub by_turns : Orders → Orders → ℕ → Orders
by_turns even odd t = cond (eqb (t % 2) 0) even odd

-- Runs: what each comes to, and what it has written on case L's channels

-- a run to a horizon, and what it should come to
pub record Run : Type 0 where
  pub net : Network
  pub horizon : ℕ
  pub arrivals : List ℕ
  pub orders : ℕ → Orders
  pub ends : Outcome
  pub on_first_four : List (List Written)

-- what a run comes to, with room for 2,048 words
unfoldable pub end_of : Run → Outcome
end_of run = outcome (reached_in_turn run.net run.arrivals run.orders 2048 (suc run.horizon))

-- what it has written on its first four channels, which are case L's
unfoldable pub written_in : Run → List (List Written)
written_in run = tab 4 (λ c. history_in_turn run.net run.arrivals run.orders 2048 c (suc run.horizon))

abbrev at : ℕ → ℤ → Written
at t v = record { time = t; value = v }

-- what two writers have written, of whom each writes a queue and a channel to the outside
abbrev by_two : List Written → List Written → List (List Written)
by_two zero one = zero ∷ one ∷ zero ∷ one ∷ []

-- case L's words up to 30 on its channels, and its output words
abbrev pub written_l : List (List Written)
written_l = by_two (at 3 (pos 101) ∷ at 13 (pos 112) ∷ at 28 (pos 123) ∷ []) (at 10 (pos 111) ∷ at 22 (pos 122) ∷ [])

abbrev pub words_l : List ℕ
words_l = word 2 3 (pos 101) ∷ word 3 10 (pos 111) ∷ word 2 13 (pos 112) ∷ word 3 22 (pos 122) ∷ word 2 28 (pos 123) ∷ []

-- the wider network's output words: case L's, and the sums
abbrev pub words_wider : List ℕ
words_wider =
    word 2 3 (pos 101) ∷ word 6 6 (pos 1101) ∷ word 3 10 (pos 111) ∷ word 2 13 (pos 112) ∷ word 6 18 (pos 2112) ∷ word 3 22 (pos 122)
    ∷ word 2 28 (pos 123) ∷ word 6 30 (pos 2123) ∷ []

abbrev run_l : (ℕ → Orders) → Run
run_l orders = record { net = case_l; horizon = 30; arrivals = []; orders = orders; ends = ended words_l; on_first_four = written_l }

abbrev run_wider : (ℕ → Orders) → Run
run_wider orders =
    record { net = wider; horizon = 30; arrivals = arrivals_wider; orders = orders; ends = ended words_wider; on_first_four = written_l }

abbrev pub runs : List Run
runs =
    -- case L and the wider network, in different orders: the same is written on case L's channels
    run_l (λ t. rising)
    ∷ run_l (λ t. falling)
    ∷ run_l (by_turns falling rising)
    ∷ run_wider (λ t. three_falling)
    ∷ run_wider (λ t. three_mixed)
    ∷ run_wider (by_turns three_rising three_mixed)
    -- the filling network stops at 13, where case L goes on; up to 12 the same is written
    ∷ record {
      net = filling;
      horizon = 30;
      arrivals = [];
      orders = λ t. three_falling;
      ends = stopped (word 2 3 (pos 101) ∷ word 3 10 (pos 111) ∷ []) 11 13 4;
      on_first_four = by_two (at 3 (pos 101) ∷ []) (at 10 (pos 111) ∷ []);
    }
    ∷ record {
      net = case_l;
      horizon = 12;
      arrivals = [];
      orders = λ t. rising;
      ends = ended (word 2 3 (pos 101) ∷ word 3 10 (pos 111) ∷ []);
      on_first_four = by_two (at 3 (pos 101) ∷ []) (at 10 (pos 111) ∷ []);
    }
    -- the feeding network, which is not accepted: node 0 waits for the constant
    ∷ record {
      net = feeding;
      horizon = 30;
      arrivals = [];
      orders = λ t. three_rising;
      ends = ended (word 2 13 (pos 101) ∷ word 3 22 (pos 111) ∷ word 2 28 (pos 112) ∷ []);
      on_first_four = by_two (at 13 (pos 101) ∷ at 28 (pos 112) ∷ []) (at 22 (pos 111) ∷ []);
    }
    ∷ []

-- A small network for each slip of the turns, in an order, with what the rules say that it comes to

abbrev slip : Network → ℕ → List ℕ → Orders → Outcome → List (List Written) → Run
slip net horizon arrivals orders ends written =
    record { net = net; horizon = horizon; arrivals = arrivals; orders = λ t. orders; ends = ends; on_first_four = written }

abbrev pub slips : List Run
slips =
    -- reading and writing at once: the second node would find 7 already at 0
    slip two_together 15 [] rising (ended (word 1 5 (pos 5) ∷ word 1 15 (pos 7) ∷ [])) ((at 10 (pos 7) ∷ []) ∷ (at 5 (pos 5) ∷ at 15 (pos 7) ∷ []) ∷ [] ∷ [] ∷ [])
    -- tokens taken though another queue is empty: 1 and 2 would be gone when 10 arrives
    ∷ slip one_empty 4 (word 1 2 (pos 10) ∷ []) alone (ended (word 2 3 (pos 11) ∷ [])) ([] ∷ (at 2 (pos 10) ∷ []) ∷ (at 3 (pos 11) ∷ []) ∷ [] ∷ [])
    -- a full queue judged before the writes or after the reads: the run would go on at 0
    ∷ slip full_queue 2 (word 0 0 (pos 2) ∷ []) alone (stopped [] 11 0 0) ([] ∷ [] ∷ [] ∷ [] ∷ [])
    ∷ []
