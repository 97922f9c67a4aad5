-- The walk has come to c, and the value stands on each of its channels before c. The next channel of the walk is higher, so what is left
-- to the end, 64, falls.
use Rattle.std.proofs.Common.{◌≡◌, ◌-◌, ℕ, min}
use Rattle.rules.specs.Kinds.{pattern}
use Rattle.layout.specs.declared.Plan.{Plan}
use Rattle.layout.specs.declared.State.{State}
use Rattle.layout.specs.Views.{shape_of, ways_of, cells_of, nodes_from}
use Rattle.arrays.proofs.WalkLaws.{WalkedTo}
use Rattle.steps.proofs.put_all.Given as goal

pub record AlongTo (p : Plan) (s : State) (first v before c : ℕ) (z : State) (r : ℕ) : Type 0 where
  pub full : ℕ
  pub walked : WalkedTo (shape_of p) (cells_of s) (ways_of p).follow first v c (cells_of z) full
  pub least : r ≡ min before full
  pub nodes : nodes_from z ≡ nodes_from s

abbrev pub invariant-loop-c : goal.invariant-loop-c
invariant-loop-c l = AlongTo l.plan l.fn.state l.first (pattern l.v) l.before l.c l.state l.full

abbrev pub decreases-loop-c : goal.decreases-loop-c
decreases-loop-c l = 64 - l.c
