-- The second semantics: in each instant the nodes go one after another, each working on the channels as the one before left them; all
-- writes are kept before all reads. It shares the rules' records, kinds and ports, and not the rules' instant. Assumes nothing.
use Rattle.std.specs.Prelude.{ℕ, zero, suc, ◌+◌, ◌-◌, ◌<◌, cond, not, ◌&&◌, List, [], ◌∷◌, ◌++◌, map, ◌≡◌, eqb, ltb, ℤ, get_or, length, drop}
use Rattle.std.proofs.Math.Option.{Option, none}
use Rattle.rules.specs.Lists.{tab, joined, lowest}
use Rattle.rules.specs.Network.{Network, node_of, channel_of, is_register, is_out, outside}
use Rattle.rules.specs.Instant.{word, Waiting, State, held_in, at_start, is_due, due_now, arriving, keeping, overfull, released, ready, result_of, wait_for, Step, stops, goes, Reached, running, halted, stepped, Written}

-- how often n stands in a list
unfoldable pub times : ℕ → List ℕ → ℕ
times n [] = 0
times n (m ∷ ms) = cond (eqb n m) 1 0 + times n ms

-- the orders of one instant: of the writers, who are the nodes and the outside, and of the readers, who are the nodes
pub record Orders : Type 0 where
  pub writes : List ℕ
  pub reads : List ℕ

-- every node stands exactly once in each order, and the outside exactly once among the writers; a number that is nobody's may stand there
-- too, and its turn does nothing
pub record Fair (net : Network) (orders : Orders) : Type 0 where
  pub writes_once : (n : ℕ) → n < length net.nodes → times n orders.writes ≡ 1
  pub outside_once : times outside orders.writes ≡ 1
  pub reads_once : (n : ℕ) → n < length net.nodes → times n orders.reads ≡ 1

-- the state within an instant, and what was written to each channel in it so far
pub record Turn : Type 0 where
  pub waiting : List (Option Waiting)
  pub held : List (List ℤ)
  pub wrote : List (List ℤ)

abbrev pub wrote_to : Turn → ℕ → List ℤ
wrote_to now c = get_or now.wrote c []

-- an instant begins
unfoldable pub begin : Network → State → Turn
begin net st = record { waiting = st.waiting; held = st.held; wrote = tab (length net.channels) (λ c. []) }

-- what a writer has for channel c: the outside its arrivals that are stamped now, a node its waiting result if that is due
unfoldable pub brings : Network → List ℕ → ℕ → Turn → ℕ → ℕ → List ℤ
brings net arrivals t now n c = cond (eqb n outside) (arriving arrivals t c) (due_now (get_or now.waiting n none) t)

-- one writer's turn: it writes to all its channels, and a result that is written waits no more
unfoldable pub write : Network → List ℕ → ℕ → Turn → ℕ → Turn
write net arrivals t now n =
    record {
      waiting = tab (length net.nodes) (λ m. let old = get_or now.waiting m none in cond (eqb m n && is_due old t) none old);
      held = tab (length net.channels) (λ c.
          let old = held_in now.held c in
          cond (eqb (channel_of net c).writer n) (keeping (channel_of net c) old (brings net arrivals t now n c)) old);
      wrote = tab (length net.channels) (λ c.
          let old = wrote_to now c in
          cond (eqb (channel_of net c).writer n) (old ++ brings net arrivals t now n c) old);
    }

-- one reader's turn: released, it goes ahead if every queue among its inputs holds a token now; it takes one from each, and its result
-- is due at instant plus deadline; otherwise it takes nothing and skips
unfoldable pub reading : Network → ℕ → Turn → ℕ → Turn
reading net t now n =
    let ahead = released net t n && ready net now.held n in
    record {
      waiting = tab (length net.nodes) (λ m.
          cond (eqb m n && ahead) (wait_for (t + (node_of net n).deadline) (result_of net now.held n)) (get_or now.waiting m none));
      held = tab (length net.channels) (λ c.
          cond (eqb (channel_of net c).reader n && not (is_register (channel_of net c)) && ahead) (drop 1 (held_in now.held c)) (held_in now.held c));
      wrote = now.wrote;
    }

-- the turns of a list, one after another
unfoldable pub in_turn : (Turn → ℕ → Turn) → Turn → List ℕ → Turn
in_turn one now [] = now
in_turn one now (n ∷ ns) = in_turn one (one now n) ns

-- the output words of what was written in an instant, by channel number
unfoldable pub words_out : Network → ℕ → Turn → List ℕ
words_out net t now =
    joined (tab (length net.channels) (λ c. cond (is_out (channel_of net c)) (map (word c t) (wrote_to now c)) []))

-- all reads, after all writes
unfoldable pub read_all : Network → ℕ → List ℕ → Turn → State
read_all net t order now =
    let after = in_turn (reading net t) now order in
    record { waiting = after.waiting; held = after.held }

-- 11 with the lowest overfull channel, then 12 where the words do not all fit, then the reads
unfoldable pub judged_turn : Network → List ℕ → ℕ → ℕ → Turn → Step
judged_turn net order room t now =
    let full = lowest (length net.channels) (overfull net now.held) in
    let after = goes (words_out net t now) (read_all net t order now) in
    cond (ltb full (length net.channels)) (stops 11 full) (cond (ltb room (length (words_out net t now))) (stops 12 0) after)

-- the writes of an instant, one after another
unfoldable pub write_all : Network → List ℕ → ℕ → List ℕ → State → Turn
write_all net arrivals t order st = in_turn (write net arrivals t) (begin net st) order

-- one instant, in these orders
unfoldable pub instant_in_turn : Network → List ℕ → Orders → ℕ → ℕ → State → Step
instant_in_turn net arrivals orders room t st =
    judged_turn net orders.reads room t (write_all net arrivals t orders.writes st)

unfoldable pub onward_in_turn : Network → List ℕ → Orders → ℕ → ℕ → Reached → Reached
onward_in_turn net arrivals orders room t (running words st) =
    stepped words t (instant_in_turn net arrivals orders (room - length words) t st)
onward_in_turn net arrivals orders room t (halted words number i channel) = halted words number i channel

-- how far a run has come before instant t, with orders given for every instant
unfoldable pub reached_in_turn : Network → List ℕ → (ℕ → Orders) → ℕ → ℕ → Reached
reached_in_turn net arrivals orders room zero = running [] (at_start net)
reached_in_turn net arrivals orders room (suc t) =
    onward_in_turn net arrivals (orders t) room t (reached_in_turn net arrivals orders room t)

-- what an instant adds to what was written on channel c: a stopped one adds nothing
unfoldable pub adds_in_turn : Network → List ℕ → Orders → ℕ → ℕ → Reached → Reached → List Written
adds_in_turn net arrivals orders t c (running words st) (running more after) =
    map (λ v. record { time = t; value = v }) (wrote_to (write_all net arrivals t orders.writes st) c)
adds_in_turn net arrivals orders t c (running words st) (halted more number i channel) = []
adds_in_turn net arrivals orders t c (halted words number i channel) next = []

-- what was written on channel c before instant t, with the instants
unfoldable pub history_in_turn : Network → List ℕ → (ℕ → Orders) → ℕ → ℕ → ℕ → List Written
history_in_turn net arrivals orders room c zero = []
history_in_turn net arrivals orders room c (suc t) =
    history_in_turn net arrivals orders room c t
    ++ adds_in_turn net arrivals (orders t) t c (reached_in_turn net arrivals orders room t) (reached_in_turn net arrivals orders room (suc t))
