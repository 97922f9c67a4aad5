-- After the first pairs their nodes have had their turn, the others are as they were, each pair's earliest instant is kept, and `soon` is the
-- earliest of those pairs and `from`.
use Rattle.arrays.proofs.PairsInTurn.{PairsRead}
use Rattle.steps.proofs.read_all.Given as goal

abbrev pub invariant-loop-pair : goal.invariant-loop-pair
invariant-loop-pair l = PairsRead l.plan l.fn.state l.t l.from l.pair l.state l.soon
