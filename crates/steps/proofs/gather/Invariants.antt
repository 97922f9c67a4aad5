-- At each channel of the walk, the words of the channels of the walk before it stand first in `words`. The walk goes up, so what is left to
-- the end, 64, falls.
use Rattle.std.proofs.Common.{◌-◌}
use Rattle.layout.specs.Views.{channels_of, ways_of, pendings_of}
use Rattle.arrays.proofs.OutWalk.{GatheredTo}
use Rattle.steps.proofs.gather.Given as goal

abbrev pub invariant-loop-c : goal.invariant-loop-c
invariant-loop-c l =
    GatheredTo l.t (ways_of l.plan).writer (pendings_of l.state).due (pendings_of l.state).value (channels_of l.plan) (ways_of l.plan).follow_out (ways_of l.plan).first_out l.words l.count l.c

abbrev pub decreases-loop-c : goal.decreases-loop-c
decreases-loop-c l = 64 - l.c
