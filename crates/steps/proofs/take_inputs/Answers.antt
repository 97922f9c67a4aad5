-- A node without ports is ready.
use Rattle.std.proofs.Common.{refl}
use Rattle.rules.specs.Lists.{every}
use Rattle.arrays.specs.Taking.{all_hold}
use Rattle.arrays.proofs.InputLaws.{taken_none}
use Rattle.steps.proofs.Inputs.{none_begin, took_all}
use Rattle.steps.proofs.take_inputs.Goals as goal

pub returns-in-0 : goal.returns-in-0
unfolding all_hold every
returns-in-0 c =
    let ported = rw c.in-0.is at c.requires.2 in
    rw c.in-0.is (took_all _ _ _ _ 0 _ ported refl (taken_none _ _ _ 0 ported c.requires.0) (none_begin _ 3))
