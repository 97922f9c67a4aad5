-- The ports before p are taken, and what they held stands first in `tokens`, with 0 behind.
use Rattle.std.proofs.Common.{◌≡◌, length}
use Rattle.layout.specs.Views.{shape_of, wires_of, cells_of}
use Rattle.arrays.specs.Taking.{found}
use Rattle.arrays.proofs.InputLaws.{TakenTo}
use Rattle.steps.proofs.Inputs.{Begins}
use Rattle.steps.proofs.take_all.Given as goal

abbrev pub invariant-loop-p : goal.invariant-loop-p
invariant-loop-p g l = record {
  many : length l.tokens ≡ g.row.N;
  taken : TakenTo l.plan l.fn.state l.n g.row.N l.p l.state;
  begins : Begins (found (shape_of l.plan) (cells_of l.fn.state) (wires_of l.plan).input l.n g.row.N) l.p l.tokens;
}
