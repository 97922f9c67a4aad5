-- Behind what was written before, the results of the pair's nodes before n that are due are written.
use Rattle.std.proofs.Common.{◌*◌, min}
use Rattle.layout.specs.Views.{nodes_of}
use Rattle.arrays.specs.Turns.{WroteOn}
use Rattle.steps.proofs.write_pair.Given as goal

abbrev pub invariant-loop-n : goal.invariant-loop-n
invariant-loop-n l = WroteOn l.plan l.fn.state l.t (2 * l.pair) (min l.n (nodes_of l.plan)) l.before l.state l.full
