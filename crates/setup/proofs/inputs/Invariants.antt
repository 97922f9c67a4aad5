-- After c turns the last one of the first c channels at a port stands there.
use Rattle.setup.specs.Setup.{PortsOf}
use Rattle.setup.proofs.inputs.Given as goal

abbrev pub invariant-loop-c : goal.invariant-loop-c
invariant-loop-c l = PortsOf l.c l.channels l.input
