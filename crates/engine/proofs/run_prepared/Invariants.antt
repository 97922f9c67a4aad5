-- For every network that the plan and the state stand for at the start: the run of the network has stood still since the last instant done,
-- its words are the first ones of the list, and the state stands for its state before t; and the room for an instant's words stays.
use Rattle.std.proofs.Common.{◌≡◌, suc, ◌-◌, length}
use Rattle.rules.specs.Network.{Network}
use Rattle.engine.proofs.RunLaws.{Runs, Progress}
use Rattle.engine.proofs.run_prepared.Given as goal

abbrev pub invariant-loop-t : goal.invariant-loop-t
invariant-loop-t l =
    ((net : Network) → Runs net l.plan l.initial.state l.horizon l.arrivals → Progress net l.plan l.horizon l.arrivals l.initial.list l.list l.state l.t l.from l.count) × (length l.words ≡ 64)

abbrev pub decreases-loop-t : goal.decreases-loop-t
decreases-loop-t l = suc l.horizon - l.t
