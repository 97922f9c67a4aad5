-- Laws of a whole listing: the numbers by which a run is refused or stops tell its ends apart, so that its answer and its list say all
-- of its lines. Assumes nothing.
use Rattle.std.proofs.Common.{ℕ, zero, suc, ◌-◌, ◌*◌, ◌/◌, ◌≤◌, List, [], ◌∷◌, ◌++◌, map, length, take, drop, ◌≡◌, refl, ap, ap₂, ◌∙◌, arith, Result, Ok, Err}
use Rattle.std.proofs.Math.Seq.{take-append_seam}
use Rattle.rules.specs.declared.End.{End}
use Rattle.rules.specs.declared.Ran.{Ran}
use Rattle.rules.specs.declared.Refusal.{Refusal}
use Rattle.rules.specs.Lists.{joined, tab}
use Rattle.rules.specs.Network.{Network}
use Rattle.rules.specs.Instant.{State, Step, Reached, running, halted, stepped, onward, reached}
use Rattle.rules.specs.Refusals.{Outcome, refused, stopped, ended, outcome, run, words_of, RunSays, ran_says, run_says, end_number, end_instant, end_channel}
use Rattle.rules.specs.Listing.{bytes_at, table_in, horizon_in, arrivals_in, decimal, line, stop_word, refused_word, word_line, last_line, lines, listing}
use Rattle.rules.proofs.InstantLaws.{Comes, instant_comes}
use Rattle.rules.proofs.RunCases.{by_run}
use Rattle.rules.proofs.RefusalNumbers.{in_range, case_in_range, network_numbered}
use Rattle.engine.specs.Runs.{RunOf}
use Rattle.listing.specs.declared.Input.{Input}
use Rattle.listing.specs.Text.{Parts, end_by, last_by}
use Rattle.listing.proofs.InputLaws.{arrivals_behind}

-- a refusal has a number from 1 to 10, and a stop a higher one
abbrev WellNumbered : Outcome → Type 0
WellNumbered (refused number place) = (1 ≤ number) × (number ≤ 10)
WellNumbered (stopped words number i channel) = 11 ≤ number
WellNumbered (ended words) = Unit {0}

comes_numbered : {net : Network} {arrivals : List ℕ} {room t : ℕ} {st : State} {step : Step} (words : List ℕ) → Comes net arrivals room t st step → WellNumbered (outcome (stepped words t step))
comes_numbered words (Comes.full c below over) = omega arith
comes_numbered words Comes.crowded = omega arith
comes_numbered words (Comes.on under fits) = tt

module _ (net : Network) (arrivals : List ℕ) (room : ℕ) where
  onward_numbered : (t : ℕ) (earlier : Reached) → WellNumbered (outcome earlier) → WellNumbered (outcome (onward net arrivals room t earlier))
  unfolding onward
  onward_numbered t (running words st) numbered =
      comes_numbered words (instant_comes net arrivals (room - length words) t st)
  onward_numbered t (halted words number i channel) numbered = numbered

  reached_numbered : (t : ℕ) → WellNumbered (outcome (reached net arrivals room t))
  unfolding reached
  reached_numbered zero = tt
  reached_numbered (suc t) = onward_numbered t (reached net arrivals room t) (reached_numbered t)

run_numbered : (table : List ℕ) (horizon : ℕ) (arrivals : List ℕ) (room : ℕ) → WellNumbered (run table horizon arrivals room)
run_numbered table horizon arrivals room =
    by_run WellNumbered table horizon arrivals room (λ number place e. in_range number ((network_numbered table).from number place e)) (omega arith, omega arith)
    (λ place. (omega arith, omega arith)) (λ net obeys soon faultless. reached_numbered net arrivals room (suc horizon))

-- what an answer says tells the last line
end_line : (horizon count : ℕ) (end : End) (o : Outcome) → WellNumbered o → ◌≡◌ {A = RunSays} (record { number = end_number end; place = end_instant end; channel = end_channel end; count = count }) (run_says o) → end_by horizon end ≡ last_line horizon o
unfolding end_by last_line
end_line horizon count End.Horizon (refused number place) numbered e = absurd (omega (arith, ap (λ says. says.number) e))
end_line horizon count End.Horizon (stopped words number i channel) numbered e = absurd (omega (arith, ap (λ says. says.number) e))
end_line horizon count End.Horizon (ended words) numbered e = refl
end_line horizon count (End.Overfull at full) (refused number place) numbered e = absurd (omega (arith, ap (λ says. says.number) e))
end_line horizon count (End.Overfull at full) (stopped words number i channel) numbered e =
    λ k. line (stop_word ∷ decimal (e k).number ∷ decimal (e k).place ∷ decimal (e k).channel ∷ [])
end_line horizon count (End.Overfull at full) (ended words) numbered e = absurd (omega (arith, ap (λ says. says.number) e))
end_line horizon count (End.NoRoom at) (refused number place) numbered e = absurd (omega (arith, ap (λ says. says.number) e))
end_line horizon count (End.NoRoom at) (stopped words number i channel) numbered e =
    λ k. line (stop_word ∷ decimal (e k).number ∷ decimal (e k).place ∷ decimal (e k).channel ∷ [])
end_line horizon count (End.NoRoom at) (ended words) numbered e = absurd (omega (arith, ap (λ says. says.number) e))

last_line_law : (horizon : ℕ) (r : Result Ran Refusal) (o : Outcome) → WellNumbered o → ran_says r ≡ run_says o → last_by horizon r ≡ last_line horizon o
unfolding last_by last_line
last_line_law horizon (Ok ran) o numbered e = end_line horizon ran.count ran.end o numbered e
last_line_law horizon (Err why) (refused number place) numbered e =
    λ k. line (refused_word ∷ decimal (e k).number ∷ decimal (e k).place ∷ [])
last_line_law horizon (Err why) (stopped words number i channel) numbered e =
    absurd (omega (arith, ap (λ says. says.number) e, case_in_range why))
last_line_law horizon (Err why) (ended words) numbered e = absurd (omega (arith, ap (λ says. says.number) e, case_in_range why))

count_of : (o : Outcome) → (run_says o).count ≡ length (words_of o)
count_of (refused number place) = refl
count_of (stopped words number i channel) = refl
count_of (ended words) = refl

module _ {o : Outcome} {before after : List ℕ} {r : Result Ran Refusal} (ran : RunOf o before after r) where
  answer_count : (ran_says r).count ≡ length (words_of o)
  answer_count = ap (λ says. says.count) ran.answer ∙ count_of o

  run_lines : (horizon : ℕ) → WellNumbered o → joined (map word_line (take (ran_says r).count after)) ++ last_by horizon r ≡ lines horizon o
  unfolding lines
  run_lines horizon numbered =
      let words : take (ran_says r).count after ≡ words_of o = rw (answer_count, ran.list) (take-append_seam (words_of o) (drop (length (words_of o)) before)) in
      ap₂ ◌++◌ (ap (λ ws. joined (map word_line ws)) words) (last_line_law horizon r o numbered ran.answer)

-- the listing of a well framed input is by the answer and the list of its run
pub listing_of_law : (s : List ℕ) {input : Input} → Parts s input → {count : ℕ} (read : List ℕ) → count ≡ length input.arrivals.now / 8 → take count read ≡ tab count (λ i. bytes_at input.arrivals.now (8 * i) 8) → {before after : List ℕ} {r : Result Ran Refusal} → RunOf (run input.table.now input.horizon (take count read) 2048) before after r → joined (map word_line (take (ran_says r).count after)) ++ last_by input.horizon r ≡ listing s
unfolding listing
listing_of_law s {input} parts {count} read many got ran =
    let behind = λ (l : List ℕ). tab (length l / 8) (λ i. bytes_at l (8 * i) 8) in
    let arrivals : take count read ≡ arrivals_in s =
    got ∙ ap (λ n. tab n (λ i. bytes_at input.arrivals.now (8 * i) 8)) many ∙ ap behind parts.arrivals ∙ arrivals_behind s in
    rw (parts.good, parts.horizon)
    (run_lines (rw (parts.table, parts.horizon, arrivals) at ran) (horizon_in s) (run_numbered (table_in s) (horizon_in s) (arrivals_in s) 2048))
