-- Any order: whatever the orders, the nodes one after another come to what the rules say. Assumes nothing.
use Prim.Native.Nat.{ℕ, zero, suc, ◌-◌, ◌<◌}
use mathlib.Core.Bool.{cond}
use mathlib.Core.List.{List, [], map}
use mathlib.Core.Path.{◌≡◌, refl, ap}
use lib.ListN.{length}
use Rattle.rules.specs.Lists.{joined}
use Rattle.rules.specs.Network.{Network, Obeys, channel_of, is_out}
use Rattle.rules.specs.Instant.{State, word, out_words, judged, instant, Reached, running, halted, stepped, onward, reached, adds, history}
use Rattle.rules.proofs.Arrivals.{Faultless}
use Rattle.rules.proofs.ListLaws.{tab_ext}
use Rattle.rules.proofs.Reach.{sound}
use Rattle.rules.proofs.Sound.{Sound}
use Rattle.theorems.specs.Turns.{Orders, Fair, words_out, write_all, judged_turn, instant_in_turn, onward_in_turn, reached_in_turn, adds_in_turn, history_in_turn}
use Rattle.theorems.proofs.ReadTurns.{reads_done}
use Rattle.theorems.proofs.WriteTurns.{writes_sized, writes_held, writes_wrote, writes_waiting}

module _ (net : Network) (arrivals : List ℕ) (orders : Orders) (t : ℕ) (st : State) (obeys : Obeys net) (faultless : Faultless net arrivals)
    (fair : Fair net orders) (before : Sound net t st) where
  words_any_order : words_out net t (write_all net arrivals t orders.writes st) ≡ out_words net arrivals t st
  unfolding words_out out_words
  words_any_order =
      ap joined
      (tab_ext (length net.channels) _ _ []
      (λ c below.
      ap (λ new. cond (is_out (channel_of net c)) (map (word c t) new) [])
      (writes_wrote net arrivals t st orders before fair obeys faultless c below)))

  -- one instant, from a sound state
  instant_any_order : (room : ℕ) → instant_in_turn net arrivals orders room t st ≡ instant net arrivals room t st
  unfolding instant_in_turn judged_turn instant judged
  instant_any_order room =
      let now = write_all net arrivals t orders.writes st in
      let same = reads_done net t st orders now obeys fair (writes_sized net arrivals t st orders before)
      (writes_waiting net arrivals t st orders before fair) in
      rw (words_any_order, same, writes_held net arrivals t st orders before fair obeys faultless)

-- the step to the next instant, from what the rules have reached
onward_any_order : (net : Network) (arrivals : List ℕ) (orders : Orders) (room t : ℕ) → Obeys net → Faultless net arrivals → Fair net orders
    → (so_far : Reached) → reached net arrivals room t ≡ so_far
    → onward_in_turn net arrivals orders room t so_far ≡ onward net arrivals room t so_far
unfolding onward_in_turn onward
onward_any_order net arrivals orders room t obeys faultless fair (running words st) e =
    ap (stepped words t)
    (instant_any_order net arrivals orders t st obeys faultless fair (sound net arrivals room t words st obeys e) (room - length words))
onward_any_order net arrivals orders room t obeys faultless fair (halted words number i channel) e = refl

pub any_order : (net : Network) (arrivals : List ℕ) (orders : ℕ → Orders) (room : ℕ) → Obeys net → Faultless net arrivals → ((t : ℕ) → Fair net (orders t)) → (t : ℕ) → reached_in_turn net arrivals orders room t ≡ reached net arrivals room t
unfolding reached_in_turn reached
any_order net arrivals orders room obeys faultless fair zero = refl
any_order net arrivals orders room obeys faultless fair (suc t) =
    rw (any_order net arrivals orders room obeys faultless fair t)
    (onward_any_order net arrivals (orders t) room t obeys faultless (fair t) (reached net arrivals room t) refl)

-- what an instant adds to the history of a channel
adds_any_order : (net : Network) (arrivals : List ℕ) (orders : Orders) (room t c : ℕ) → Obeys net → Faultless net arrivals → Fair net orders
    → c < length net.channels → (so_far next : Reached) → reached net arrivals room t ≡ so_far
    → adds_in_turn net arrivals orders t c so_far next ≡ adds net arrivals t c so_far next
unfolding adds_in_turn adds
adds_any_order net arrivals orders room t c obeys faultless fair below (running words st) (running more after) e =
    rw (writes_wrote net arrivals t st orders (sound net arrivals room t words st obeys e) fair obeys faultless c below)
adds_any_order net arrivals orders room t c obeys faultless fair below (running words st) (halted more number i channel) e = refl
adds_any_order net arrivals orders room t c obeys faultless fair below (halted words number i channel) next e = refl

-- c is a channel: of a number behind the last channel the rules' history says what node 0 has due
pub any_order_history : (net : Network) (arrivals : List ℕ) (orders : ℕ → Orders) (room : ℕ) → Obeys net → Faultless net arrivals → ((t : ℕ) → Fair net (orders t)) → (c t : ℕ) → c < length net.channels → history_in_turn net arrivals orders room c t ≡ history net arrivals room c t
unfolding history_in_turn history
any_order_history net arrivals orders room obeys faultless fair c zero below = refl
any_order_history net arrivals orders room obeys faultless fair c (suc t) below =
    let came = reached net arrivals room in
    let so_far = any_order net arrivals orders room obeys faultless fair t in
    let next = any_order net arrivals orders room obeys faultless fair (suc t) in
    let new = adds_any_order net arrivals (orders t) room t c obeys faultless (fair t) below (came t) (came (suc t)) refl in
    rw (any_order_history net arrivals orders room obeys faultless fair c t below, so_far, next, new)
