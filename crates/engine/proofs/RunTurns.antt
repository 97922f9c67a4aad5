-- What an instant of a run comes to: it goes on, and nothing happens up to the next instant at which something may; or it stops the run, which
-- then stays so. Assumes nothing.
use Prim.Native.Nat.{ℕ, zero, suc, ◌+◌, ◌-◌, ◌≤◌}
use native.Mathlib.Nat.{add-zero, add-suc}
use native.Mathlib.Omega.{arith}
use mathlib.Core.List.{List, ◌++◌, append_assoc}
use mathlib.Core.Path.{◌≡◌, refl, sym, ◌∙◌, ap}
use lib.ListN.{length, take, drop, length-append}
use lib.Seq.{take_at, drop-append-add, drop-drop}
use Rattle.std.specs.Prelude.{Result, Ok, Err}
use Rattle.rules.specs.declared.Ran.{Ran}
use Rattle.rules.specs.Network.{Network}
use Rattle.rules.specs.Instant.{State, stops, goes, instant, running, halted, onward, reached}
use Rattle.rules.specs.Refusals.{outcome, ran_says}
use Rattle.rules.proofs.InstantLaws.{instant_goes}
use Rattle.rules.proofs.Reach.{sound}
use Rattle.rules.proofs.Idle.{idle_stretch}
use Rattle.layout.specs.declared.Plan.{Plan}
use Rattle.layout.specs.declared.State as layout
use Rattle.layout.specs.Views.{nodes_of, shape_of, cells_of, pendings_of}
use Rattle.arrays.specs.Instants.{BeforeIn, WentOn}
use Rattle.arrays.proofs.Skips.{Skipped, skips}
use Rattle.steps.specs.declared.On.{On}
use Rattle.steps.specs.declared.Stop.{Stop}
use Rattle.steps.specs.Steps.{StepSays}
use Rattle.engine.specs.Runs.{end_at, RunOf}
use Rattle.engine.proofs.RunLaws.{Runs, Progress, same_room, before_instant, then_reached}

-- a run that has stopped stays so
halted_stays : (net : Network) (arrivals : List ℕ) (room t : ℕ) (words : List ℕ) (number i channel : ℕ)
    → reached net arrivals room t ≡ halted words number i channel → (k : ℕ) → reached net arrivals room (t + k) ≡ halted words number i channel
unfolding reached onward
halted_stays net arrivals room t words number i channel here zero = rw add-zero here
halted_stays net arrivals room t words number i channel here (suc k) =
    rw (add-suc, halted_stays net arrivals room t words number i channel here k)

-- the words of an instant stand behind the words before it
words_behind : (words more before list after : List ℕ) (count : ℕ) → count ≡ length words → list ≡ words ++ drop count before
    → after ≡ take count list ++ (more ++ drop (count + length more) list) → after ≡ (words ++ more) ++ drop (count + length more) before
words_behind words more before list after count many listed e =
    let k = length more in
    let first : take count list ≡ words = rw listed (take_at words (drop count before) count (sym many)) in
    let rest : drop (count + k) list ≡ drop (count + k) before =
    rw listed
    (ap (λ (n : ℕ). drop (n + k) (words ++ drop count before)) many ∙ drop-append-add words (drop count before) k ∙ drop-drop k count before) in
    rw (e, first, rest) (sym (append_assoc words more (drop (count + k) before)))

module _ {net : Network} {p : Plan} {s : layout.State} {horizon : ℕ} {arrivals before list : List ℕ} {z : layout.State} {t from count : ℕ}
    (runs : Runs net p s horizon arrivals) (so_far : Progress net p horizon arrivals before list z t from count) where
  -- an instant stops the run
  stopped_run : {number channel : ℕ} {after : List ℕ} {r : Ran} → t ≤ horizon
      → (instant net arrivals (length list - count) t so_far.st ≡ stops number channel) × (after ≡ list)
      → ran_says (Ok r) ≡ record { number = number; place = t; channel = channel; count = count }
      → RunOf (outcome (reached net arrivals (length before) (suc horizon))) before after (Ok r)
  stopped_run {number} {channel} now said says =
      let whole : suc t + (horizon - t) ≡ suc horizon = omega arith in
      let at : reached net arrivals (length before) (suc horizon) ≡ halted so_far.words number t channel =
      rw whole at
      (halted_stays net arrivals (length before) (suc t) so_far.words number t channel (then_reached so_far (stops number channel) said.0) (horizon - t)) in
      rw (at, said.1) (record { answer = says ∙ rw so_far.many; list = rw (← so_far.many) so_far.listed })

  -- an instant goes on, and nothing happens up to the next one at which something may
  goes_on_law : {after : List ℕ} {y : layout.State} {more next soon : ℕ} → t ≤ horizon
      → WentOn net arrivals p t so_far.st list count after more next soon y
      → (suc t ≤ soon) × Progress net p horizon arrivals before after y soon next (count + more)
  goes_on_law {after} {y} {more} {next} {soon} now on =
      let words = so_far.words ++ on.words in
      let then : reached net arrivals (length before) (suc t) ≡ running words on.state = then_reached so_far (goes on.words on.state) on.goes_on in
      let room : length on.words ≤ length list - count =
      (instant_goes net arrivals (length list - count) t so_far.st on.words on.state on.goes_on).fits in
      let skipped : Skipped net arrivals (shape_of p) next (suc t) soon on.state (cells_of y) (pendings_of y) =
      rw on.earliest
      (skips net arrivals (shape_of p) next (suc t) on.state (cells_of y) (pendings_of y) runs.faultless (omega (arith, runs.early))
      (sound net arrivals (length before) (suc t) words on.state runs.obeys then) on.represents on.cursor) in (
        skipped.later,
        record {
          words = words;
          st = on.state;
          done = suc t;
          ends = omega arith;
          still = λ i low high.
              let whole : suc t + (i - suc t) ≡ i = omega arith in
              rw whole at
              (idle_stretch net arrivals (length before) (suc t) words on.state runs.obeys then (i - suc t)
              (λ j h. skipped.idle (suc t + j) (omega arith) (omega arith)));
          since = skipped.later;
          represents = skipped.represents;
          cursor = skipped.cursor;
          whole = on.whole;
          paired = on.paired;
          many = rw length-append (omega (arith, so_far.many, on.many));
          fits = omega (arith, same_room so_far, so_far.fits, on.many);
          listed =
              rw (← on.many)
              (words_behind so_far.words on.words before list after count so_far.many so_far.listed (rw (← on.many) at on.list));
        },
      )

  -- what the instant comes to, by what is said of it for every state
  module _ (now : t ≤ horizon) (step : Result On Stop) (after : List ℕ) (y : layout.State)
      (told : (st : State) → nodes_of p ≡ length net.nodes → BeforeIn net arrivals p from t st z → StepSays net arrivals p t st list count step after y) where
    said : (is : Result On Stop) → step ≡ is → StepSays net arrivals p t so_far.st list count is after y
    said is e = rw e at (told so_far.st runs.starts.planned.nodes (before_instant so_far runs now))

    pub moves_on : {on : On} → step ≡ Ok on → suc t ≤ on.soon
    moves_on {on} e = (goes_on_law now (said (Ok on) e)).0

    pub progress_on : {on : On} → step ≡ Ok on → Progress net p horizon arrivals before after y on.soon on.next (count + on.more)
    progress_on {on} e = (goes_on_law now (said (Ok on) e)).1

    pub run_stopped : {stop : Stop} → step ≡ Err stop
        → RunOf (outcome (reached net arrivals (length before) (suc horizon))) before after (Ok (record { count = count; end = end_at stop t }))
    run_stopped {stop} e = by_stop stop (said (Err stop) e)
      where
        by_stop : (stop : Stop) → StepSays net arrivals p t so_far.st list count (Err stop) after y
            → RunOf (outcome (reached net arrivals (length before) (suc horizon))) before after (Ok (record { count = count; end = end_at stop t }))
        by_stop (Stop.Full channel) says = stopped_run now says refl
        by_stop Stop.Short says = stopped_run now says refl
