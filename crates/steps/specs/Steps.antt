-- What an instant comes to, and what its functions promise of their answers. Assumes nothing.
use Rattle.std.specs.Prelude.{ℕ, ◌-◌, min, Bool, not, List, ◌≡◌, eqb, ℤ, pos, length, get_or, Option, is_some, IfSome, unwrap_or, Result, Ok, Err}
use Rattle.rules.specs.Network as rules
use Rattle.rules.specs.Kinds.{pattern}
use Rattle.rules.specs.Instant.{State, stops, instant}
use Rattle.kinds.specs.Nodes.{never}
use Rattle.layout.specs.declared.Plan.{Plan}
use Rattle.layout.specs.declared.State as layout
use Rattle.layout.specs.Views.{Shape, Cells, nodes_of, shape_of, wires_of, cells_of, nodes_from}
use Rattle.rings.specs.Rings.{Took}
use Rattle.arrays.specs.Instants.{BeforeIn, WrittenIn, WentOn}
use Rattle.arrays.specs.Writes.{WroteArrivals, arrival_at}
use Rattle.arrays.specs.Taking.{port_of, all_hold, found, taken_at}
use Rattle.steps.specs.declared.Arrived.{Arrived}
use Rattle.steps.specs.declared.On.{On}
use Rattle.steps.specs.declared.Stop.{Stop}

-- the time of the arrival at which the arrivals go on, or never
abbrev pub time_of : Arrived → ℕ
time_of arrived = unwrap_or arrived.time never

-- the arrivals stamped t are written
pub record WroteStamped (p : Plan) (s : layout.State) (arrivals : List ℕ) (from t before : ℕ) (z : layout.State) (r : Arrived) : Type 0 where
  pub full : ℕ
  pub wrote : WroteArrivals (shape_of p) (cells_of s) arrivals from t (cells_of z) r.next full
  pub least : r.full ≡ min before full
  pub time : time_of r ≡ arrival_at arrivals r.next
  pub nodes : nodes_from z ≡ nodes_from s

-- the channel at port p of node n holds a token, by its ring's length
abbrev pub holds_at : Plan → layout.State → ℕ → ℕ → Bool
holds_at p s n k = not (eqb (get_or (cells_of s).len (port_of (wires_of p).input n k) 0) 0)

-- a node with so many inputs: where every port holds a token, the tokens, taken, and 0 where the node has no such port; else nothing is taken
pub record TookInputs (s : Shape) (x : Cells) (input : List (List ℕ)) (n count : ℕ) (y : Cells) (r : Option (List ℤ)) : Type 0 where
  pub ready : is_some r ≡ all_hold s x input n count
  pub took : Took s x (taken_at s x input n count) y
  pub tokens : IfSome r (λ l. (p : ℕ) → pattern (get_or l p (pos 0)) ≡ found s x input n count p)

-- the same of a plan and a state, whose nodes' fields stay
pub record TookIn (p : Plan) (s : layout.State) (n count : ℕ) (z : layout.State) (r : Option (List ℤ)) : Type 0 where
  pub inputs : TookInputs (shape_of p) (cells_of s) (wires_of p).input n count (cells_of z) r
  pub nodes : nodes_from z ≡ nodes_from s

-- a stop with its number and channel and the list as it was, or the words in the list and the state of the next instant
abbrev pub StepSays : rules.Network → List ℕ → Plan → ℕ → State → List ℕ → ℕ → Result On Stop → List ℕ → layout.State → Type 0
StepSays net arrivals p t st out count (Err (Stop.Full channel)) after z =
    (instant net arrivals (length out - count) t st ≡ stops 11 channel) × (after ≡ out)
StepSays net arrivals p t st out count (Err Stop.Short) after z =
    (instant net arrivals (length out - count) t st ≡ stops 12 0) × (after ≡ out)
StepSays net arrivals p t st out count (Ok on) after z =
    WentOn net arrivals p t st out count after on.more on.next on.soon z

-- so for every network and state that the plan and the state stand for before an instant
abbrev pub InstantSays : List ℕ → Plan → layout.State → ℕ → ℕ → List ℕ → ℕ → Result On Stop → List ℕ → layout.State → Type 0
InstantSays arrivals p s from t out count r after z =
    (net : rules.Network) (st : State)
    → nodes_of p ≡ length net.nodes
    → BeforeIn net arrivals p from t st s
    → StepSays net arrivals p t st out count r after z

-- and once its writes are done
abbrev pub RestSays : Plan → layout.State → Arrived → ℕ → List ℕ → ℕ → Result On Stop → List ℕ → layout.State → Type 0
RestSays p s arrived t out count r after z =
    (net : rules.Network) (arrivals : List ℕ) (st : State) (x : Cells)
    → nodes_of p ≡ length net.nodes
    → time_of arrived ≡ arrival_at arrivals arrived.next
    → WrittenIn net arrivals p arrived.next t st x s
    → StepSays net arrivals p t st out count r after z
