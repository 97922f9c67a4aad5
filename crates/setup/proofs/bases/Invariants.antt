-- After c turns `sum` is the capacities of the first c channels together, and each of the first c bases is such a sum.
use Rattle.std.proofs.Common.{◌≡◌}
use Rattle.rules.specs.Lists.{total}
use Rattle.rules.specs.Network.{channel_among}
use Rattle.setup.specs.Setup.{BasesOf}
use Rattle.setup.proofs.bases.Given as goal

abbrev pub invariant-loop-c : goal.invariant-loop-c
invariant-loop-c l =
    (l.sum ≡ total l.c (λ d. (channel_among l.channels d).capacity)) × BasesOf l.c l.channels l.base
