-- Where the instant that is kept, the pair's earliest, is not t, it is later, so the turns would change nothing.
use Rattle.std.proofs.Common.{refl, arith}
use Rattle.arrays.proofs.PairReads.{pair_left}
use Rattle.steps.proofs.read_pair.Goals as goal

pub returns : goal.returns
returns c =
    pair_left _ _ _ _ c.requires.whole.0 c.requires.whole.1 c.requires.whole.2 c.requires.whole.3
    (omega (arith, c.requires.timely.1, c.requires.timely.0, c.if-soon-t.false))
    _ refl c.requires.timely.0
