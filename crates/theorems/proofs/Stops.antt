-- How a run that stops for a full queue came to it: it was running before the instant of the stop, and at that instant the channel of
-- the stop is overfull. Assumes nothing.
use Prim.Native.Nat.{ℕ, zero, suc, ◌-◌, ◌<◌}
use native.Mathlib.Omega.{arith}
use mathlib.Core.Bool.{true}
use mathlib.Core.List.{List}
use mathlib.Core.Path.{◌≡◌, refl}
use lib.ListN.{length}
use Rattle.rules.specs.Network.{Network}
use Rattle.rules.specs.Instant.{State, after_writes, overfull, Step, stops, goes, instant, Reached, running, halted, stepped, onward, reached}
use Rattle.rules.proofs.InstantLaws.{Comes, instant_comes}

-- channel c is overfull at instant t, to which a run has come
pub record Full (net : Network) (arrivals : List ℕ) (room t c : ℕ) : Type 0 where
  pub words : List ℕ
  pub st : State
  pub running : reached net arrivals room t ≡ running words st
  pub below : c < length net.channels
  pub over : overfull net (after_writes net arrivals t st) c ≡ true

-- an instant that stops with 11 has found the channel overfull
comes_full : {net : Network} {arrivals : List ℕ} {room t : ℕ} {st : State} {step : Step} (c : ℕ) → Comes net arrivals room t st step → step ≡ stops 11 c
    → (c < length net.channels) × (overfull net (after_writes net arrivals t st) c ≡ true)
comes_full c (Comes.full d below over) e =
    let its : d ≡ c = cc in
    rw (← its) (below, over)
comes_full c Comes.crowded e =
    let z : ◌≡◌ {A = ℕ} 12 11 = cc in
    absurd (omega arith)
comes_full c (Comes.on under fits) e = let z : ◌≡◌ {A = ℕ} 0 1 = cc in absurd (omega arith)

module _ (net : Network) (arrivals : List ℕ) (room : ℕ) (words : List ℕ) (t c : ℕ) where
  -- a stop is at the instant that stops
  step_full : (i : ℕ) (before : List ℕ) (old : State) → reached net arrivals room i ≡ running before old → (step : Step)
      → instant net arrivals (room - length before) i old ≡ step → stepped before i step ≡ halted words 11 t c → Full net arrivals room t c
  step_full i before old r (stops n at) said e =
      let same : i ≡ t = cc in
      let as_said : instant net arrivals (room - length before) i old ≡ stops 11 c = cc in
      let found = comes_full c (instant_comes net arrivals (room - length before) i old) as_said in
      rw (← same) (record { words = before; st = old; running = r; below = found.0; over = found.1 })
  step_full i before old r (goes more after) said e = let z : ◌≡◌ {A = ℕ} 0 1 = cc in absurd (omega arith)

  -- a run that has stopped for a full queue, by whatever moment, was running at the instant of the stop and found the queue overfull there
  pub stopped_full : (end : ℕ) → reached net arrivals room end ≡ halted words 11 t c → Full net arrivals room t c
  unfolding reached onward
  stopped_full zero e = let z : ◌≡◌ {A = ℕ} 0 1 = cc in absurd (omega arith)
  stopped_full (suc i) e = go (reached net arrivals room i) refl (stopped_full i) e
    where
      go : (earlier : Reached) → reached net arrivals room i ≡ earlier → (earlier ≡ halted words 11 t c → Full net arrivals room t c)
          → onward net arrivals room i earlier ≡ halted words 11 t c → Full net arrivals room t c
      go (running before old) r past h = step_full i before old r (instant net arrivals (room - length before) i old) refl h
      go (halted before n at d) r past h = past h
