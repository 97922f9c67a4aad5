-- Refusals and stops: the two entry points, and the paper's number and values for each case of their answers. Assumes nothing.
use Rattle.std.specs.Prelude.{ℕ, suc, ◌-◌, Bool, not, ◌&&◌, ◌||◌, List, [], ◌++◌, eqb, leb, ltb, get_or, length, drop, Result, Ok, Err}
use Rattle.rules.specs.declared.Refusal.{Refusal}
use Rattle.rules.specs.declared.Counts.{Counts}
use Rattle.rules.specs.declared.End.{End}
use Rattle.rules.specs.declared.Ran.{Ran}
use Rattle.rules.specs.Lists.{lowest}
use Rattle.rules.specs.Network.{Network, channel_of, outside}
use Rattle.rules.specs.Table.{Reading, refusal, read, ◌then◌, unless, network}
use Rattle.rules.specs.Instant.{channel_in, time_in, Reached, running, halted, reached}

-- The first entry point: the check of a table

-- what the paper says of a check: the number and place of a refusal, or number and place 0 and the counts
pub record CheckSays : Type 0 where
  pub number : ℕ
  pub place : ℕ
  pub nodes : ℕ
  pub channels : ℕ

abbrev pub check_says : Reading Network → CheckSays
check_says (refusal number place) = record { number = number; place = place; nodes = 0; channels = 0 }
check_says (read net) =
    record { number = 0; place = 0; nodes = length net.nodes; channels = length net.channels }

-- the check of a table's bytes
unfoldable pub check : List ℕ → CheckSays
check table = check_says (network table)

-- The second entry point: a run

-- arrival i is on a channel that does not exist or is not written by the outside, or earlier than the one before
unfoldable pub arrival_faulty : Network → List ℕ → ℕ → Bool
arrival_faulty net arrivals i =
    not (ltb (channel_in (get_or arrivals i 0)) (length net.channels))
    || not (eqb (channel_of net (channel_in (get_or arrivals i 0))).writer outside)
    || (ltb 0 i && ltb (time_in (get_or arrivals i 0)) (time_in (get_or arrivals (i - 1) 0)))

-- the lowest index of a faulty arrival, or the number of arrivals where there is none
unfoldable pub faulty_arrival : Network → List ℕ → ℕ
faulty_arrival net arrivals = lowest (length arrivals) (arrival_faulty net arrivals)

-- what a run comes to: a refusal by number and place, a stop by number, instant and channel after the words of earlier instants, or
-- the end after all words
pub data Outcome : Type 0 where
  refused : (number place : ℕ) → Outcome
  stopped : (words : List ℕ) (number instant channel : ℕ) → Outcome
  ended : (words : List ℕ) → Outcome

abbrev pub outcome : Reached → Outcome
outcome (running words st) = ended words
outcome (halted words number instant channel) = stopped words number instant channel

abbrev pub finish : Reading Network → (Network → Outcome) → Outcome
finish (refusal number place) go = refused number place
finish (read net) go = go net

-- a network may run to a horizon with these arrivals: 9, then 10
unfoldable pub allowed : ℕ → List ℕ → Network → Reading Network
allowed horizon arrivals net =
    unless (leb horizon 16777215) 9 0 net
    then λ net. unless (eqb (faulty_arrival net arrivals) (length arrivals)) 10 (faulty_arrival net arrivals) net

-- a run of what a table was read as: its refusal, then 9 and 10, then the instants from 0 to the horizon, both included, with so much
-- room for words
unfoldable pub run_from : Reading Network → ℕ → List ℕ → ℕ → Outcome
run_from reading horizon arrivals room =
    finish (reading then allowed horizon arrivals) (λ net. outcome (reached net arrivals room (suc horizon)))

-- a run of a table's bytes: 1 to 8 first
unfoldable pub run : List ℕ → ℕ → List ℕ → ℕ → Outcome
run table horizon arrivals room = run_from (network table) horizon arrivals room

-- the words of a run; a refused one has none
abbrev pub words_of : Outcome → List ℕ
words_of (refused number place) = []
words_of (stopped words number instant channel) = words
words_of (ended words) = words

-- what the lent list holds at the end: the words, and what stood behind them
abbrev pub list_after : Outcome → List ℕ → List ℕ
list_after o before = words_of o ++ drop (length (words_of o)) before

-- what the paper says of a run: number, place or instant, channel, and the count of words; all but the count 0 at an end
pub record RunSays : Type 0 where
  pub number : ℕ
  pub place : ℕ
  pub channel : ℕ
  pub count : ℕ

abbrev pub run_says : Outcome → RunSays
run_says (refused number place) = record { number = number; place = place; channel = 0; count = 0 }
run_says (stopped words number instant channel) =
    record { number = number; place = instant; channel = channel; count = length words }
run_says (ended words) = record { number = 0; place = 0; channel = 0; count = length words }

-- The number and values of each case of an answer that is an enum

abbrev pub number_of : Refusal → ℕ
number_of (Refusal.BitsEnd place) = 1
number_of Refusal.Version = 2
number_of Refusal.Counts = 3
number_of (Refusal.NodeField node) = 4
number_of (Refusal.ChannelField channel) = 5
number_of (Refusal.Capacities channel) = 6
number_of Refusal.Leftover = 7
number_of (Refusal.Ports node) = 8
number_of Refusal.Horizon = 9
number_of (Refusal.Arrival index) = 10

abbrev pub place_of : Refusal → ℕ
place_of (Refusal.BitsEnd place) = place
place_of Refusal.Version = 0
place_of Refusal.Counts = 0
place_of (Refusal.NodeField node) = node
place_of (Refusal.ChannelField channel) = channel
place_of (Refusal.Capacities channel) = channel
place_of Refusal.Leftover = 0
place_of (Refusal.Ports node) = node
place_of Refusal.Horizon = 0
place_of (Refusal.Arrival index) = index

abbrev pub end_number : End → ℕ
end_number End.Horizon = 0
end_number (End.Overfull instant channel) = 11
end_number (End.NoRoom instant) = 12

abbrev pub end_instant : End → ℕ
end_instant End.Horizon = 0
end_instant (End.Overfull instant channel) = instant
end_instant (End.NoRoom instant) = instant

abbrev pub end_channel : End → ℕ
end_channel End.Horizon = 0
end_channel (End.Overfull instant channel) = channel
end_channel (End.NoRoom instant) = 0

abbrev pub checked_says : Result Counts Refusal → CheckSays
checked_says (Ok counts) = record { number = 0; place = 0; nodes = counts.nodes; channels = counts.channels }
checked_says (Err why) = record { number = number_of why; place = place_of why; nodes = 0; channels = 0 }

abbrev pub ran_says : Result Ran Refusal → RunSays
ran_says (Ok ran) =
    record { number = end_number ran.end; place = end_instant ran.end; channel = end_channel ran.end; count = ran.count }
ran_says (Err why) = record { number = number_of why; place = place_of why; channel = 0; count = 0 }
