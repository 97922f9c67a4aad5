-- What a run comes to. Assumes nothing.
use Rattle.std.specs.Prelude.{ℕ, suc, List, ◌≡◌, length, Result, Ok}
use Rattle.rules.specs.declared.Refusal.{Refusal}
use Rattle.rules.specs.declared.End.{End}
use Rattle.rules.specs.declared.Ran.{Ran}
use Rattle.rules.specs.Network as rules
use Rattle.rules.specs.Network.{Obeys}
use Rattle.rules.specs.Instant.{reached}
use Rattle.rules.specs.Table.{read}
use Rattle.rules.specs.Refusals.{Outcome, outcome, run_from, list_after, run_says, ran_says}
use Rattle.rules.proofs.Arrivals.{Faultless}
use Rattle.table.specs.declared.Network.{Network}
use Rattle.table.specs.Laid.{laid}
use Rattle.layout.specs.declared.Plan.{Plan}
use Rattle.layout.specs.declared.State.{State}
use Rattle.steps.specs.declared.Stop.{Stop}
use Rattle.setup.specs.Starts.{Starts}

-- how a run ends that an instant stops
abbrev pub end_at : Stop → ℕ → End
end_at (Stop.Full channel) instant = End.Overfull instant channel
end_at Stop.Short instant = End.NoRoom instant

-- a run's answer and what the list then holds are those of an outcome
pub record RunOf (o : Outcome) (before after : List ℕ) (r : Result Ran Refusal) : Type 0 where
  pub answer : ran_says r ≡ run_says o
  pub list : after ≡ list_after o before

-- a plan and a state that can run with these arrivals
pub record Startable (p : Plan) (s : State) (arrivals : List ℕ) : Type 0 where
  pub net : rules.Network
  pub obeys : Obeys net
  pub faultless : Faultless net arrivals
  pub starts : Starts net p s

-- the run of every network that the plan and the state stand for
abbrev pub RunsThrough : Plan → State → ℕ → List ℕ → List ℕ → List ℕ → Ran → Type 0
RunsThrough p s horizon arrivals before after r =
    (net : rules.Network)
    → Obeys net
    → Faultless net arrivals
    → Starts net p s
    → RunOf (outcome (reached net arrivals (length before) (suc horizon))) before after (Ok r)

-- the run of every network that the arrays were laid out from
abbrev pub RunsRead : Network → ℕ → List ℕ → List ℕ → List ℕ → Result Ran Refusal → Type 0
RunsRead network horizon arrivals before after r =
    (net : rules.Network)
    → Obeys net
    → network ≡ laid net
    → RunOf (run_from (read net) horizon arrivals (length before)) before after r
