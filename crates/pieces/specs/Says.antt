-- What the reading of a piece says, by the rules' numbers. Assumes nothing.
use Rattle.std.specs.Prelude.{Result, Ok, Err}
use Rattle.rules.specs.declared.Counts.{Counts}
use Rattle.rules.specs.declared.Refusal.{Refusal}
use Rattle.rules.specs.Table.{Reading, refusal, read, Header}
use Rattle.rules.specs.Refusals.{number_of, place_of}

-- a refusal by its number and place
abbrev pub refused_by : {A : Type 0} → Refusal → Reading A
refused_by why = refusal (number_of why) (place_of why)

-- what was read, as it is seen, or the refusal
abbrev pub says_by : {A B : Type 0} → (A → B) → Result A Refusal → Reading B
says_by seen (Ok x) = read (seen x)
says_by seen (Err why) = refused_by why

-- what was read as it is, or the refusal
abbrev pub says : {A : Type 0} → Result A Refusal → Reading A
says r = says_by (λ x. x) r

abbrev pub header_of : Counts → Header
header_of counts = record { nodes = counts.nodes; channels = counts.channels }
