-- That the network obeys its rules makes its arrays such that a plan and a state can be made of them.
use Rattle.setup.proofs.StartFits.{lawful_fits}
use Rattle.setup.proofs.StartLaws.{starts}
use Rattle.setup.proofs.prepare.Goals as goal

pub write_plan-requires : goal.write_plan-requires
write_plan-requires c = lawful_fits c.requires

pub write_state-requires : goal.write_state-requires
write_state-requires c = lawful_fits c.requires

pub returns : goal.returns
returns c = starts c.write_plan.ensures c.write_state.ensures
