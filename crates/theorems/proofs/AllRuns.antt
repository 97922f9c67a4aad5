-- All runs of the instances, by computation: in several orders, what case L and its extensions come to and what they have written on case
-- L's channels; and what a small network for each slip comes to. Assumes nothing.
use Prim.Native.Nat.{suc}
use mathlib.Core.List.{List, map, map_congr_left}
use mathlib.Core.Path.{◌≡◌, refl, sym, ◌∙◌, ap}
use Rattle.rules.specs.Lists.{tab_from, tab, joined, last_of, every, lowest}
use Rattle.rules.specs.Kinds.{sum, inputs, result}
use Rattle.rules.specs.Instant.{at_start, arriving, keeping, ready, input_at, result_of}
use Rattle.rules.specs.Refusals.{outcome}
use Rattle.theorems.specs.Turns.{begin, brings, write, reading, in_turn, words_out, read_all, judged_turn, write_all, instant_in_turn, onward_in_turn, adds_in_turn}
use Rattle.theorems.specs.Instances.{Run, end_of, written_in, runs, slips}
use Rattle.theorems.proofs.Told.{Told, tell_on, told, told_come, told_written}

-- each run comes to what it should, and has written what it should
abbrev AsSaid : List Run → Type 0
AsSaid cases = (map end_of cases ≡ map (λ run. run.ends) cases) × (map written_in cases ≡ map (λ run. run.on_first_four) cases)

abbrev told_of : Run → Told
told_of run = told run.net run.arrivals run.orders 2048 4 (suc run.horizon)

by_telling : (cases : List Run) → map (λ run. outcome (told_of run).come) cases ≡ map (λ run. run.ends) cases
    → map (λ run. (told_of run).written) cases ≡ map (λ run. run.on_first_four) cases → AsSaid cases
unfolding end_of written_in
by_telling cases ends written = (
  map_congr_left {l = cases} (λ (run : Run) among. ap outcome (sym (told_come run.net run.arrivals run.orders 2048 4 (suc run.horizon)))) ∙ ends,
  map_congr_left {l = cases} (λ (run : Run) among. sym (told_written run.net run.arrivals run.orders 2048 4 (suc run.horizon))) ∙ written,
)

pub as_said : AsSaid slips × AsSaid runs
unfolding tab_from tab joined last_of every lowest sum inputs result at_start arriving keeping ready input_at result_of begin brings write reading in_turn words_out read_all judged_turn write_all instant_in_turn onward_in_turn adds_in_turn told tell_on
as_said = (by_telling slips refl refl, by_telling runs refl refl)
