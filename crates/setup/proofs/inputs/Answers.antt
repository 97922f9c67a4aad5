-- Before the first turn no channel stands at a port.
use Rattle.setup.proofs.SetupLaws.{ports_none}
use Rattle.setup.proofs.inputs.Goals as goal

pub loop-c-init : goal.loop-c-init
loop-c-init c = ports_none c.args.channels.now
