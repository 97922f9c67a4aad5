-- The arrivals up to the next one are stamped now and written.
use Rattle.std.proofs.Common.{◌≡◌, ℕ, List, min}
use Rattle.layout.specs.declared.Plan.{Plan}
use Rattle.layout.specs.declared.State.{State}
use Rattle.layout.specs.Views.{shape_of, cells_of, nodes_from}
use Rattle.arrays.proofs.Stamps.{WrittenTo}
use Rattle.steps.proofs.write_arrivals.Given as goal

pub record StampedTo (p : Plan) (s : State) (arrivals : List ℕ) (from t before i : ℕ) (z : State) (r : ℕ) : Type 0 where
  pub full : ℕ
  pub written : WrittenTo (shape_of p) (cells_of s) arrivals from t (cells_of z) i full
  pub least : r ≡ min before full
  pub nodes : nodes_from z ≡ nodes_from s

abbrev pub invariant-loop-next : goal.invariant-loop-next
invariant-loop-next l = StampedTo l.plan l.fn.state l.arrivals l.from l.t l.before l.next l.state l.full
