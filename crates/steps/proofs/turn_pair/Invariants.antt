-- The nodes from the pair's first one to n have had their turn, and `soon` is the earliest of their instants; a turn adds one, which changes
-- nothing where the node is not there.
use Rattle.arrays.proofs.PairTurns.{PairTo}
use Rattle.steps.proofs.turn_pair.Given as goal

abbrev pub invariant-loop-n : goal.invariant-loop-n
invariant-loop-n l = PairTo l.plan l.fn.state l.t l.pair l.n l.state l.soon
