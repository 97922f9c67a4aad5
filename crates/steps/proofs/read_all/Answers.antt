-- A pair's reads add it to those that are read; none of its instants was past, and behind the last pair all nodes are read.
use Rattle.std.proofs.Common.{arith, ◌*◌, ◌<◌}
use Rattle.layout.specs.Views.{nodes_of}
use Rattle.arrays.proofs.PairsInTurn.{pairs_none, pair_ahead, pairs_next}
use Rattle.steps.proofs.read_all.Goals as goal

pub loop-pair-init : goal.loop-pair-init
loop-pair-init c = pairs_none _ _ _ _ c.requires.1 c.requires.2

pub read_pair-requires-clause-timely : goal.read_pair-requires-clause-timely
read_pair-requires-clause-timely c =
    let below : 2 * c.loop-pair.pair < nodes_of c.args.plan.now = omega arith in
    let so_far = c.loop-pair.invariant in
    (so_far.paired _ below, pair_ahead _ _ _ _ _ _ c.requires.0 c.requires.2 below so_far c.requires.1)

pub loop-pair-preserved : goal.loop-pair-preserved
loop-pair-preserved c =
    let below : 2 * c.loop-pair.pair < nodes_of c.args.plan.now = omega arith in
    pairs_next _ _ _ _ _ _ c.requires.0 c.requires.2 below c.loop-pair.invariant _ (omega (arith, c.ranges.from)) c.read_pair.ensures c.min-soon.ensures
