-- The sum with the next capacity is at most the whole sum.
use Rattle.std.proofs.Common.{arith, length}
use Rattle.rules.specs.Network.{channel_among}
use Rattle.setup.proofs.SetupLaws.{sum_within}
use Rattle.setup.proofs.bases.Goals as goal

pub overflow_add-sum : goal.overflow_add-sum
overflow_add-sum c =
    omega (arith, sum_within (length c.args.channels.now) c.loop-c.c (λ d. (channel_among c.args.channels.now d).capacity) (omega arith))
