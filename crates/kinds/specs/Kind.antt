-- The kinds by their numbers. Assumes nothing.
use Rattle.std.specs.Prelude.{ℕ, ◌≤◌, ◌≡◌, List, ◌++◌, Result, MatchResult, codes, decimal}
use Rattle.kinds.specs.declared.Kind.{Kind}
use Rattle.kinds.specs.declared.UnknownKind.{UnknownKind}

-- the number that stands for a kind in a table
abbrev pub kind_number : Kind → ℕ
kind_number Kind.Constant = 0
kind_number Kind.Copy = 1
kind_number Kind.AddConstant = 2
kind_number Kind.Sum = 3
kind_number Kind.Difference = 4
kind_number Kind.Smaller = 5
kind_number Kind.Larger = 6
kind_number Kind.Quotient = 7
kind_number Kind.Choice = 8
kind_number Kind.Gate = 9
kind_number Kind.Ones = 10
kind_number Kind.FirstBeam = 11

-- the kind with this number, or that no kind has it, with the number
abbrev pub Decodes : ℕ → Result Kind UnknownKind → Type 0
Decodes number r = MatchResult r (λ kind. kind_number kind ≡ number) (λ unknown. (12 ≤ number) × (unknown.0 ≡ number))

-- what a number that stands for no kind is shown as
abbrev pub unknown_text : UnknownKind → List ℕ
unknown_text unknown = decimal unknown.0 ++ codes " is no kind"
