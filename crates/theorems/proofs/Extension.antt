-- Extension, over the rules: A's part of B's run is A's run, at every instant that both reach. Assumes nothing.
use Prim.Native.Nat.{ℕ, zero, suc, ◌≤◌, ◌<◌}
use native.Mathlib.Omega.{arith}
use mathlib.Core.List.{List, ◌++◌, map}
use mathlib.Core.Option.{Option, none}
use mathlib.Core.Path.{◌≡◌, refl, sym, ◌∙◌}
use lib.ListN.{length}
use Rattle.rules.specs.Network.{Network, Obeys}
use Rattle.rules.specs.Instant.{Waiting, State, at_start, written, Reached, running, halted, reached, adds, history}
use Rattle.rules.proofs.InstantLaws.{Came, reached_came}
use Rattle.rules.proofs.ListLaws.{get_or_tab, true_or_false}
use Rattle.rules.proofs.Reach.{sound}
use Rattle.theorems.specs.Demand.{Extends, Agree, Runs, on, Stopped, short}
use Rattle.theorems.proofs.Inside.{inside}
use Rattle.theorems.proofs.Part.{Part, SameInstant, same_instant}
use Rattle.theorems.proofs.Stops.{Full, stopped_full}

start_part : (A B : Network) → Extends A B → Part A (at_start A) (at_start B)
unfolding at_start
start_part A B extends =
    record {
      waiting = λ n node.
          let farther : n < length B.nodes = omega (arith, extends.more_nodes) in
          get_or_tab {A = Option Waiting} (length B.nodes) (λ m. none) n none farther
          ∙ sym (get_or_tab {A = Option Waiting} (length A.nodes) (λ m. none) n none node);
      held = extends.same_tokens;
    }

-- how a run that has not stopped came through instant t, and what that instant adds to its history
record Went (net : Network) (arrivals : List ℕ) (room t : ℕ) : Type 0 where
  words : List ℕ
  st : State
  running : reached net arrivals room t ≡ running words st
  adds : (c : ℕ) → history net arrivals room c (suc t)
      ≡ history net arrivals room c t ++ map (λ v. record { time = t; value = v }) (written net arrivals t st c)

went : (net : Network) (arrivals : List ℕ) (room t : ℕ) → Runs (reached net arrivals room (suc t)) → Went net arrivals room t
unfolding history adds
went net arrivals room t runs = go (reached net arrivals room (suc t)) refl runs
  where
    go : (r : Reached) → reached net arrivals room (suc t) ≡ r → Runs r → Went net arrivals room t
    go (halted words number instant channel) e now = elim now [ ]
    go (running words st) e now =
        let came : Came net arrivals room t st = reached_came net arrivals room t words st e in
        record { words = came.before; st = came.old; running = came.running; adds = λ c. rw (e, came.running) }

module _ (A B : Network) (T : ℕ) (arrivals_a arrivals_b : List ℕ) (room_a room_b : ℕ)
    (obeys_a : Obeys A) (obeys_b : Obeys B) (extends : Extends A B) (agree : Agree A T arrivals_a arrivals_b) where
  -- instant t, from states of which the one is a part of the other
  same_at : (t : ℕ) → t ≤ T → (wa wb : List ℕ) (sa sb : State)
      → reached A arrivals_a room_a t ≡ running wa sa → reached B arrivals_b room_b t ≡ running wb sb
      → Part A sa sb → SameInstant A B t arrivals_a arrivals_b sa sb
  same_at t h wa wb sa sb ea eb part =
      same_instant A B (inside A B obeys_a obeys_b extends) t arrivals_a arrivals_b (λ c below. agree.same c below t h) sa sb
      (sound A arrivals_a room_a t wa sa obeys_a ea) (sound B arrivals_b room_b t wb sb obeys_b eb) part

  part_reached : (t : ℕ) → t ≤ suc T → (wa wb : List ℕ) (sa sb : State)
      → reached A arrivals_a room_a t ≡ running wa sa → reached B arrivals_b room_b t ≡ running wb sb
      → Part A sa sb
  unfolding reached
  part_reached zero h wa wb sa sb ea eb =
      let same_a : at_start A ≡ sa = cc in
      let same_b : at_start B ≡ sb = cc in
      rw (← same_a, ← same_b) (start_part A B extends)
  part_reached (suc t) h wa wb sa sb ea eb =
      let came_a : Came A arrivals_a room_a t sa = reached_came A arrivals_a room_a t wa sa ea in
      let came_b : Came B arrivals_b room_b t sb = reached_came B arrivals_b room_b t wb sb eb in
      let now : t ≤ T = omega arith in
      let soon : t ≤ suc T = omega arith in
      let part = part_reached t soon came_a.before came_b.before came_a.old came_b.old came_a.running came_b.running in
      rw (came_a.goes.after, came_b.goes.after)
      (same_at t now came_a.before came_b.before came_a.old came_b.old came_a.running came_b.running part).next

  -- at an instant that both reach
  same_now : (t : ℕ) → t ≤ T → (wa wb : List ℕ) (sa sb : State)
      → reached A arrivals_a room_a t ≡ running wa sa → reached B arrivals_b room_b t ≡ running wb sb
      → SameInstant A B t arrivals_a arrivals_b sa sb
  same_now t h wa wb sa sb ea eb =
      let soon : t ≤ suc T = omega arith in
      same_at t h wa wb sa sb ea eb (part_reached t soon wa wb sa sb ea eb)

  pub same_history : (t : ℕ) → t ≤ suc T → Runs (reached A arrivals_a room_a t) → Runs (reached B arrivals_b room_b t)
      → (c : ℕ) → c < length A.channels → history B arrivals_b room_b c t ≡ history A arrivals_a room_a c t
  unfolding history
  same_history zero h ra rb c below = refl
  same_history (suc t) h ra rb c below =
      let a = went A arrivals_a room_a t ra in
      let b = went B arrivals_b room_b t rb in
      let now : t ≤ T = omega arith in
      let soon : t ≤ suc T = omega arith in
      let front = same_history t soon (rw a.running on) (rw b.running on) c below in
      let instant = same_now t now a.words b.words a.st b.st a.running b.running in
      b.adds c ∙ rw (front, instant.written c below) (sym (a.adds c))

  pub stops_too_law : (end : ℕ) (words : List ℕ) (t c : ℕ) → reached A arrivals_a room_a end ≡ halted words 11 t c → t ≤ T
      → Stopped (reached B arrivals_b room_b (suc t))
  stops_too_law end words t c e h = go (reached B arrivals_b room_b (suc t)) refl
    where
      go : (r : Reached) → reached B arrivals_b room_b (suc t) ≡ r → Stopped r
      go (running wb sb) eb =
          let full : Full A arrivals_a room_a t c = stopped_full A arrivals_a room_a words t c end e in
          let came : Came B arrivals_b room_b t sb = reached_came B arrivals_b room_b t wb sb eb in
          let instant = same_now t h full.words came.before full.st came.old full.running came.running in
          let farther : c < length B.channels = omega (arith, extends.more_channels, full.below) in
          true_or_false (instant.overfull c full.below ∙ full.over) (came.goes.not_overfull c farther)
      go (halted wb number i channel) eb = short
