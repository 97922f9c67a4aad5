-- One instant, and a run over instants. Each entry of a new state is built from the old state by itself: no rule mentions an order of
-- nodes. Assumes nothing.
use Rattle.std.specs.Prelude.{ℕ, zero, suc, ◌+◌, ◌-◌, ◌*◌, ◌/◌, ◌%◌, ◌^◌, Bool, false, cond, not, ◌&&◌, ◌||◌, List, [], ◌∷◌, ◌++◌, map, eqb, ltb, ℤ, pos, get_or, length, drop}
use Rattle.std.proofs.Math.Option.{Option, none, some}
use Rattle.rules.specs.declared.Channel.{Channel}
use Rattle.rules.specs.Lists.{tab, joined, last_of, is_empty, every, lowest}
use Rattle.rules.specs.Kinds.{signed, pattern, result}
use Rattle.rules.specs.Network.{Network, node_of, channel_of, is_register, is_out, serves}

-- arrivals and output words are 64-bit numbers: channel in the top 8 bits, time in the next 24, value in the low 32
abbrev pub word : ℕ → ℕ → ℤ → ℕ
word channel time value = channel * 2 ^ 56 + time * 2 ^ 32 + pattern value

abbrev pub channel_in : ℕ → ℕ
channel_in w = w / 2 ^ 56

abbrev pub time_in : ℕ → ℕ
time_in w = w / 2 ^ 32 % 2 ^ 24

abbrev pub value_in : ℕ → ℤ
value_in w = signed (w % 2 ^ 32)

-- a result that waits for the instant at which it is due
pub record Waiting : Type 0 where
  pub due : ℕ
  pub value : ℤ

-- what each node has waiting, and what each channel holds, oldest first
pub record State : Type 0 where
  pub waiting : List (Option Waiting)
  pub held : List (List ℤ)

abbrev pub waiting_of : State → ℕ → Option Waiting
waiting_of st n = get_or st.waiting n none

abbrev pub held_in : List (List ℤ) → ℕ → List ℤ
held_in held c = get_or held c []

-- at the start nothing waits, and each channel holds its initial tokens
unfoldable pub at_start : Network → State
at_start net = record { waiting = tab (length net.nodes) (λ n. none); held = net.tokens }

-- Step 1: writes

-- the waiting result is due now
abbrev pub is_due : Option Waiting → ℕ → Bool
is_due none t = false
is_due (some w) t = eqb w.due t

-- the value of a waiting result that is due now
abbrev pub due_now : Option Waiting → ℕ → List ℤ
due_now none t = []
due_now (some w) t = cond (eqb w.due t) (w.value ∷ []) []

-- the values of the arrivals on channel c that are stamped t, in list order
unfoldable pub arriving : List ℕ → ℕ → ℕ → List ℤ
arriving [] t c = []
arriving (w ∷ ws) t c =
    let rest = arriving ws t c in
    cond (eqb (time_in w) t && eqb (channel_in w) c) (value_in w ∷ rest) rest

-- what is written to channel c: its writer's result if that is due, and the arrivals stamped now
unfoldable pub written : Network → List ℕ → ℕ → State → ℕ → List ℤ
written net arrivals t st c = due_now (waiting_of st (channel_of net c).writer) t ++ arriving arrivals t c

-- a queue appends; a register keeps the last; a word to the outside is not held
unfoldable pub keeping : Channel → List ℤ → List ℤ → List ℤ
keeping ch old new = cond (is_out ch) [] (cond (is_register ch) (last_of (old ++ new)) (old ++ new))

-- what each channel holds after the writes
unfoldable pub after_writes : Network → List ℕ → ℕ → State → List (List ℤ)
after_writes net arrivals t st =
    tab (length net.channels) (λ c. keeping (channel_of net c) (held_in st.held c) (written net arrivals t st c))

-- Step 2: overfull

-- channel c is a queue that holds more than its capacity
abbrev pub overfull : Network → List (List ℤ) → ℕ → Bool
overfull net held c = not (is_register (channel_of net c)) && ltb (channel_of net c).capacity (length (held_in held c))

-- Step 3: words

-- this instant's output words, by channel number
unfoldable pub out_words : Network → List ℕ → ℕ → State → List ℕ
out_words net arrivals t st =
    joined
    (tab (length net.channels) (λ c. cond (is_out (channel_of net c)) (map (word c t) (written net arrivals t st c)) []))

-- Step 4: reads, from what the channels hold after the writes

-- node n is released: its period divides the instant
abbrev pub released : Network → ℕ → ℕ → Bool
released net t n = ltb n (length net.nodes) && eqb (t % (node_of net n).period) 0

-- every queue among node n's inputs holds a token
unfoldable pub ready : Network → List (List ℤ) → ℕ → Bool
ready net held n =
    every (length net.channels)
    (λ c. not (eqb (channel_of net c).reader n) || (is_register (channel_of net c) || not (is_empty (held_in held c))))

-- node n is released and goes ahead
unfoldable pub goes_ahead : Network → List (List ℤ) → ℕ → ℕ → Bool
goes_ahead net held t n = released net t n && ready net held n

-- the oldest token
abbrev pub oldest : List ℤ → ℤ
oldest [] = pos 0
oldest (x ∷ xs) = x

-- the token that node n finds at port p
unfoldable pub input_at : Network → List (List ℤ) → ℕ → ℕ → ℤ
input_at net held n p = oldest (held_in held (lowest (length net.channels) (serves net n p)))

-- the result of node n on what it finds at its ports
unfoldable pub result_of : Network → List (List ℤ) → ℕ → Option ℤ
result_of net held n =
    result (node_of net n).kind (node_of net n).constant (input_at net held n 0) (input_at net held n 1) (input_at net held n 2)

-- a result waits for its due instant; an absent one waits for nothing
abbrev pub wait_for : ℕ → Option ℤ → Option Waiting
wait_for due none = none
wait_for due (some value) = some (record { due = due; value = value })

-- what node n has waiting after the instant
unfoldable pub waiting_after : Network → List (List ℤ) → ℕ → State → ℕ → Option Waiting
waiting_after net held t st n =
    cond (goes_ahead net held t n)
    (wait_for (t + (node_of net n).deadline) (result_of net held n))
    (cond (is_due (waiting_of st n) t) none (waiting_of st n))

-- what channel c holds after the reads: a queue whose reader goes ahead has given its oldest token
unfoldable pub held_after : Network → List (List ℤ) → ℕ → ℕ → List ℤ
held_after net held t c =
    cond (not (is_register (channel_of net c)) && goes_ahead net held t (channel_of net c).reader)
    (drop 1 (held_in held c))
    (held_in held c)

-- the state after the reads
unfoldable pub after_reads : Network → List (List ℤ) → ℕ → State → State
after_reads net held t st =
    record {
      waiting = tab (length net.nodes) (waiting_after net held t st);
      held = tab (length net.channels) (held_after net held t);
    }

-- an instant stops the run, by its number and channel, or has words and a next state
pub data Step : Type 0 where
  stops : (number channel : ℕ) → Step
  goes : (words : List ℕ) (after : State) → Step

-- 11 with the lowest overfull channel, then 12 where the words do not all fit, then the reads
unfoldable pub judged : Network → ℕ → ℕ → State → List (List ℤ) → List ℕ → Step
judged net room t st held words =
    let full = lowest (length net.channels) (overfull net held) in
    let after = goes words (after_reads net held t st) in
    cond (ltb full (length net.channels)) (stops 11 full) (cond (ltb room (length words)) (stops 12 0) after)

-- one instant, with so much room for words
unfoldable pub instant : Network → List ℕ → ℕ → ℕ → State → Step
instant net arrivals room t st = judged net room t st (after_writes net arrivals t st) (out_words net arrivals t st)

-- how far a run has come: the words so far with the state, or the words so far with the stop
pub data Reached : Type 0 where
  running : (words : List ℕ) (st : State) → Reached
  halted : (words : List ℕ) (number instant channel : ℕ) → Reached

-- the instant t that follows so many words
abbrev pub stepped : List ℕ → ℕ → Step → Reached
stepped words t (stops number channel) = halted words number t channel
stepped words t (goes more after) = running (words ++ more) after

unfoldable pub onward : Network → List ℕ → ℕ → ℕ → Reached → Reached
onward net arrivals room t (running words st) = stepped words t (instant net arrivals (room - length words) t st)
onward net arrivals room t (halted words number i channel) = halted words number i channel

-- how far a run has come before instant t
unfoldable pub reached : Network → List ℕ → ℕ → ℕ → Reached
reached net arrivals room zero = running [] (at_start net)
reached net arrivals room (suc t) = onward net arrivals room t (reached net arrivals room t)

-- The history

-- what was written at an instant
pub record Written : Type 0 where
  pub time : ℕ
  pub value : ℤ

-- what an instant adds to the history of channel c: a stopped one adds nothing
unfoldable pub adds : Network → List ℕ → ℕ → ℕ → Reached → Reached → List Written
adds net arrivals t c (running words st) (running more after) =
    map (λ v. record { time = t; value = v }) (written net arrivals t st c)
adds net arrivals t c (running words st) (halted more number i channel) = []
adds net arrivals t c (halted words number i channel) next = []

-- what was written on channel c before instant t, with the instants
unfoldable pub history : Network → List ℕ → ℕ → ℕ → ℕ → List Written
history net arrivals room c zero = []
history net arrivals room c (suc t) =
    history net arrivals room c t ++ adds net arrivals t c (reached net arrivals room t) (reached net arrivals room (suc t))
