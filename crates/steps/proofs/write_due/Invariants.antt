-- The results of the nodes of the pairs before `pair` that are due are written.
use Rattle.std.proofs.Common.{◌*◌, min}
use Rattle.layout.specs.Views.{nodes_of, channels_of}
use Rattle.arrays.specs.Turns.{WroteOn}
use Rattle.steps.proofs.write_due.Given as goal

abbrev pub invariant-loop-pair : goal.invariant-loop-pair
invariant-loop-pair l = WroteOn l.plan l.fn.state l.t 0 (min (2 * l.pair) (nodes_of l.plan)) (channels_of l.plan) l.state l.full
