-- A turn adds one node to those of the pair that have had theirs, and behind the last one the pair is done.
use Rattle.std.proofs.Common.{arith}
use Rattle.arrays.proofs.PairTurns.{pair_turn, pair_ends}
use Rattle.steps.proofs.turn_pair.Goals as goal

pub loop-n-preserved : goal.loop-n-preserved
loop-n-preserved c =
    pair_turn _ _ _ _ _ _ _ c.requires.0 c.requires.2 (omega (arith, c.requires.0.few, c.requires.3, c.loop-n-test.true)) c.loop-n-test.true c.loop-n.invariant c.turn.ensures c.min-soon.ensures

pub returns-clause-turned : goal.returns-clause-turned
returns-clause-turned c = pair_ends _ _ _ _ _ _ c.loop-n-test.false c.loop-n.invariant
