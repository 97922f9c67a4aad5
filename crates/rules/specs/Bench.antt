-- Bench cases: those that are proved, and a small network for each slip that a builder will be drawn to. Assumes nothing.
use Prim.Native.Nat.{ℕ, suc}
use Rattle.std.specs.Prelude.{List, [], ◌∷◌, ℤ, pos, negsuc}
use Rattle.std.proofs.Math.Option.{Option, some}
use Rattle.rules.specs.declared.Node.{Node}
use Rattle.rules.specs.declared.Channel.{Channel}
use Rattle.rules.specs.Kinds.{result}
use Rattle.rules.specs.Network.{Network, outside}
use Rattle.rules.specs.Instant.{word, reached}
use Rattle.rules.specs.Refusals.{CheckSays, check, Outcome, stopped, ended, run, outcome}
use Rattle.rules.specs.Listing.{listing}

-- what a case asks of the rules
pub data Question : Type 0 where
  -- the listing of an input
  listing_of : (input : List ℕ) → Question
  -- the check of a table
  check_of : (table : List ℕ) → Question
  -- the run of a table, with a horizon, arrivals and room for words
  run_of : (table : List ℕ) (horizon : ℕ) (arrivals : List ℕ) (room : ℕ) → Question
  -- the run of a network, likewise
  network_run : (net : Network) (horizon : ℕ) (arrivals : List ℕ) (room : ℕ) → Question
  -- the result of a kind with constant k on inputs a, b and c
  kind_result : (kind : ℕ) (k a b c : ℤ) → Question

-- what the rules say, or should say
pub data Answer : Type 0 where
  bytes : List ℕ → Answer
  checks : CheckSays → Answer
  runs : Outcome → Answer
  gives : Option ℤ → Answer

-- a question with the answer that the paper has for it
pub record Case : Type 0 where
  pub asked : Question
  pub said : Answer

-- what the rules say to a question
unfoldable pub answer : Question → Answer
answer (listing_of input) = bytes (listing input)
answer (check_of table) = checks (check table)
answer (run_of table horizon arrivals room) = runs (run table horizon arrivals room)
answer (network_run net horizon arrivals room) = runs (outcome (reached net arrivals room (suc horizon)))
answer (kind_result kind k a b c) = gives (result kind k a b c)

abbrev minus : ℕ → ℤ
minus n = negsuc (Prim.Native.Nat.pred n)

-- case L's input: a table of 39 bytes, horizon 30, no arrivals
abbrev pub input_l : List ℕ
input_l =
    0 ∷ 39
    ∷ 16 ∷ 130 ∷ 0 ∷ 16 ∷ 0 ∷ 40 ∷ 0 ∷ 24 ∷ 0 ∷ 0 ∷ 0 ∷ 8 ∷ 128 ∷ 1 ∷ 128 ∷ 1 ∷ 0 ∷ 0 ∷ 0 ∷ 2
    ∷ 128 ∷ 2 ∷ 4 ∷ 0 ∷ 4 ∷ 0 ∷ 32 ∷ 16 ∷ 0 ∷ 0 ∷ 6 ∷ 64 ∷ 31 ∷ 128 ∷ 64 ∷ 1 ∷ 252 ∷ 2 ∷ 0
    ∷ 0 ∷ 0 ∷ 30
    ∷ []

-- case L's listing
abbrev pub listing_l : List ℕ
listing_l =
    51 ∷ 32 ∷ 50 ∷ 32 ∷ 49 ∷ 48 ∷ 49 ∷ 10
    ∷ 49 ∷ 48 ∷ 32 ∷ 51 ∷ 32 ∷ 49 ∷ 49 ∷ 49 ∷ 10
    ∷ 49 ∷ 51 ∷ 32 ∷ 50 ∷ 32 ∷ 49 ∷ 49 ∷ 50 ∷ 10
    ∷ 50 ∷ 50 ∷ 32 ∷ 51 ∷ 32 ∷ 49 ∷ 50 ∷ 50 ∷ 10
    ∷ 50 ∷ 56 ∷ 32 ∷ 50 ∷ 32 ∷ 49 ∷ 50 ∷ 51 ∷ 10
    ∷ 101 ∷ 110 ∷ 100 ∷ 32 ∷ 51 ∷ 48 ∷ 10
    ∷ []

-- the 15 bytes 10 40 80 00 00 50 00 50 00 00 00 38 0F C0 20, and what the paper's case has behind them
abbrev pub table_p : List ℕ → List ℕ
table_p behind =
    0x10 ∷ 0x40 ∷ 0x80 ∷ 0x00 ∷ 0x00 ∷ 0x50 ∷ 0x00 ∷ 0x50 ∷ 0x00 ∷ 0x00 ∷ 0x00 ∷ 0x38 ∷ 0x0F ∷ 0xC0 ∷ 0x20 ∷ behind

-- channel 0: a register from the outside that starts at 5, read by node 0: kind 1, period and deadline 10; channel 1: node 0 to the
-- outside
abbrev pub table_register : List ℕ
table_register =
    16 ∷ 65 ∷ 0 ∷ 8 ∷ 0 ∷ 80 ∷ 0 ∷ 80 ∷ 0 ∷ 0 ∷ 0 ∷ 7 ∷ 240 ∷ 0 ∷ 32 ∷ 64 ∷ 0 ∷ 0 ∷ 1 ∷ 64 ∷ 126 ∷ 1 ∷ 0 ∷ []

-- the cases that are proved: case L, and each that is marked P
abbrev pub bench : List Case
bench =
    record { asked = listing_of input_l; said = bytes listing_l }
    ∷ record { asked = run_of (table_p (0x00 ∷ [])) 20 [] 2048; said = runs (ended (word 0 10 (pos 7) ∷ word 0 20 (pos 7) ∷ [])) }
    ∷ record { asked = run_of (table_p (0x00 ∷ [])) 9 [] 2048; said = runs (ended []) }
    ∷ record { asked = check_of (table_p (0x00 ∷ [])); said = checks (record { number = 0; place = 0; nodes = 1; channels = 1 }) }
    ∷ record { asked = check_of (table_p []); said = checks (record { number = 1; place = 93; nodes = 0; channels = 0 }) }
    ∷ record { asked = check_of (table_p (0x00 ∷ 0x00 ∷ [])); said = checks (record { number = 7; place = 0; nodes = 0; channels = 0 }) }
    ∷ record { asked = check_of []; said = checks (record { number = 1; place = 0; nodes = 0; channels = 0 }) }
    ∷ record { asked = kind_result 2 (pos 1) (pos 2147483647) (pos 0) (pos 0); said = gives (some (minus 2147483648)) }
    ∷ record { asked = kind_result 3 (pos 0) (pos 2147483647) (pos 1) (pos 0); said = gives (some (minus 2147483648)) }
    ∷ record { asked = kind_result 7 (pos 2) (minus 7) (pos 0) (pos 0); said = gives (some (minus 3)) }
    ∷ record { asked = kind_result 7 (minus 2) (pos 7) (pos 0) (pos 0); said = gives (some (minus 3)) }
    ∷ record { asked = kind_result 10 (pos 0) (minus 1) (pos 0) (pos 0); said = gives (some (pos 32)) }
    ∷ record { asked = kind_result 10 (pos 0) (pos 0) (pos 0) (pos 0); said = gives (some (pos 0)) }
    ∷ record { asked = kind_result 11 (pos 0) (pos 1) (pos 0) (pos 0); said = gives (some (pos 31)) }
    ∷ record { asked = kind_result 11 (pos 0) (minus 1) (pos 0) (pos 0); said = gives (some (pos 0)) }
    ∷ record { asked = kind_result 11 (pos 0) (pos 0) (pos 0) (pos 0); said = gives (some (pos 32)) }
    ∷ record { asked = run_of table_register 20 (word 0 10 (pos 9) ∷ []) 2048; said = runs (ended (word 1 10 (pos 5) ∷ word 1 20 (pos 9) ∷ [])) }
    ∷ []

-- a node, a queue, a register and a channel to the outside, by their fields

abbrev pub node : ℕ → ℕ → ℕ → ℤ → Node
node kind period deadline k = record { kind = kind; period = period; deadline = deadline; constant = k }

abbrev pub queue : ℕ → ℕ → ℕ → ℕ → ℕ → Channel
queue writer reader port capacity held =
    record { sort = 0; writer = writer; reader = reader; port = port; capacity = capacity; initial = held }

abbrev pub register : ℕ → ℕ → ℕ → Channel
register writer reader port =
    record { sort = 1; writer = writer; reader = reader; port = port; capacity = 1; initial = 1 }

abbrev pub to_outside : ℕ → Channel
to_outside writer = queue writer outside 0 1 0

-- a constant writes 7 to a register, which starts at 5, when a second node reads it: both are released at 0 and at 10
abbrev pub two_together : Network
two_together =
    record {
      nodes = node 0 10 10 (pos 7) ∷ node 1 10 5 (pos 0) ∷ [];
      channels = register 0 1 0 ∷ to_outside 1 ∷ [];
      tokens = (pos 5 ∷ []) ∷ [] ∷ [];
    }

-- a sum whose first input queue holds 1 and 2 and whose second one is empty
abbrev pub one_empty : Network
one_empty =
    record {
      nodes = node 3 1 1 (pos 0) ∷ [];
      channels = queue outside 0 0 4 2 ∷ queue outside 0 1 4 0 ∷ to_outside 0 ∷ [];
      tokens = (pos 1 ∷ pos 2 ∷ []) ∷ [] ∷ [] ∷ [];
    }

-- a full queue that is read at every instant
abbrev pub full_queue : Network
full_queue =
    record {
      nodes = node 1 1 1 (pos 0) ∷ [];
      channels = queue outside 0 0 1 1 ∷ to_outside 0 ∷ [];
      tokens = (pos 1 ∷ []) ∷ [] ∷ [];
    }

-- two constants, whose channels to the outside stand in the other order
abbrev pub crossed : Network
crossed =
    record {
      nodes = node 0 5 5 (pos 1) ∷ node 0 5 5 (pos 2) ∷ [];
      channels = to_outside 1 ∷ to_outside 0 ∷ [];
      tokens = [] ∷ [] ∷ [];
    }

-- a register that starts at 5 and is read at 0 and at 10
abbrev pub sampled : Network
sampled =
    record {
      nodes = node 1 10 10 (pos 0) ∷ [];
      channels = register outside 0 0 ∷ to_outside 0 ∷ [];
      tokens = (pos 5 ∷ []) ∷ [] ∷ [];
    }

-- a small network for each slip, with the words of the rules
abbrev pub slips : List Case
slips =
    -- one node after another, each reading and writing at once: the second would find 7 already at 0
    record { asked = network_run two_together 15 [] 8; said = runs (ended (word 1 5 (pos 5) ∷ word 1 15 (pos 7) ∷ [])) }
    -- tokens taken from some inputs before another is found empty: 1 and 2 would be gone when 10 arrives
    ∷ record { asked = network_run one_empty 4 (word 1 2 (pos 10) ∷ []) 8; said = runs (ended (word 2 3 (pos 11) ∷ [])) }
    -- a reader that makes room before the overfull check
    ∷ record { asked = network_run full_queue 2 (word 0 0 (pos 2) ∷ []) 8; said = runs (stopped [] 11 0 0) }
    -- the result written at the release, or the inputs read at the deadline: 9 arrives between
    ∷ record { asked = network_run sampled 20 (word 0 5 (pos 9) ∷ []) 8; said = runs (ended (word 1 10 (pos 5) ∷ word 1 20 (pos 9) ∷ [])) }
    -- output words by node instead of channel
    ∷ record { asked = network_run crossed 5 [] 8; said = runs (ended (word 0 5 (pos 2) ∷ word 1 5 (pos 1) ∷ [])) }
    -- words of one instant that do not all fit: none of them stands
    ∷ record { asked = network_run crossed 10 [] 3; said = runs (stopped (word 0 5 (pos 2) ∷ word 1 5 (pos 1) ∷ []) 12 10 0) }
    -- an overfull queue and no room in one instant: 11
    ∷ record { asked = network_run full_queue 2 (word 0 1 (pos 2) ∷ word 0 1 (pos 3) ∷ []) 0; said = runs (stopped [] 11 1 0) }
    -- a version that is not 1 is found before the counts
    ∷ record { asked = check_of (0 ∷ 0 ∷ 0 ∷ []); said = checks (record { number = 2; place = 0; nodes = 0; channels = 0 }) }
    -- a deadline of zero: the table of the bench with a deadline of 0 for 10
    ∷ record { asked = check_of (0x10 ∷ 0x40 ∷ 0x80 ∷ 0x00 ∷ 0x00 ∷ 0x50 ∷ 0x00 ∷ 0x00 ∷ 0x00 ∷ 0x00 ∷ 0x00 ∷ 0x38 ∷ 0x0F ∷ 0xC0 ∷ 0x20 ∷ 0x00 ∷ []); said = checks (record { number = 4; place = 0; nodes = 0; channels = 0 }) }
    -- of several arrivals at one instant a register keeps the last
    ∷ record { asked = network_run sampled 20 (word 0 10 (pos 8) ∷ word 0 10 (pos 9) ∷ []) 8; said = runs (ended (word 1 10 (pos 5) ∷ word 1 20 (pos 9) ∷ [])) }
    ∷ []
