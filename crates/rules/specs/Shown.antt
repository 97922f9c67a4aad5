-- What an answer is shown as. Assumes nothing.
use Rattle.std.specs.Prelude.{List, ◌++◌, ℕ, codes, decimal}
use Rattle.rules.specs.declared.Refusal.{Refusal}
use Rattle.rules.specs.declared.Counts.{Counts}
use Rattle.rules.specs.declared.End.{End}
use Rattle.rules.specs.declared.Ran.{Ran}
use Rattle.rules.specs.Refusals.{number_of, place_of, end_number, end_instant, end_channel}

-- `refused`, number and place
abbrev pub refusal_text : Refusal → List ℕ
refusal_text why = codes "refused " ++ decimal (number_of why) ++ codes " " ++ decimal (place_of why)

-- `taken`, nodes and channels
abbrev pub counts_text : Counts → List ℕ
counts_text counts = codes "taken " ++ decimal counts.nodes ++ codes " " ++ decimal counts.channels

-- `stop`, number, instant and channel
abbrev pub stop_text : End → List ℕ
stop_text end =
    codes "stop " ++ decimal (end_number end) ++ codes " " ++ decimal (end_instant end) ++ codes " " ++ decimal (end_channel end)

-- `end`, or the stop, and the count
abbrev pub ran_text : Ran → List ℕ
ran_text ran = end_text ran.end ++ codes " " ++ decimal ran.count
  where
    end_text : End → List ℕ
    end_text End.Horizon = codes "end"
    end_text end = stop_text end
