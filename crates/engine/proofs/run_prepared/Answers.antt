-- A turn does instant t: it stops the run, which then stays so, or goes on, and nothing happens before the next t, which is later, so what is
-- left up to the horizon falls. That the instant can be done follows from the invariant for the network that is required.
use Rattle.std.proofs.Common.{◌+◌, ◌≤◌, length, arith}
use Rattle.engine.proofs.RunLaws.{runs_early, startable_runs, instant_can}
use Rattle.engine.proofs.RunTurns.{moves_on, progress_on, run_stopped}
use Rattle.engine.proofs.run_prepared.Goals as goal

pub instant-requires : goal.instant-requires
instant-requires c =
    let runs = startable_runs c.requires in
    let can = instant_can (c.loop-t.invariant.0 _ runs) runs c.loop-t-test.true c.loop-t.words c.loop-t.invariant.1 in
    record { arrays = can.0; lists = can.1 }

pub returns-in-Err : goal.returns-in-Err
returns-in-Err c =
    λ net obeys faultless starts.
    let runs = runs_early c.requires.0 obeys faultless starts in
    rw c.end_at.ensures (run_stopped runs (c.loop-t.invariant.0 net runs) c.loop-t-test.true _ _ _ (c.instant.ensures.says net) c.in-Err.is)

pub loop-t-preserved : goal.loop-t-preserved
loop-t-preserved c = (
  λ net runs. progress_on runs (c.loop-t.invariant.0 net runs) c.loop-t-test.true _ _ _ (c.instant.ensures.says net) c.in-Ok.is,
  c.instant.ensures.kept,
)

pub overflow_add-count : goal.overflow_add-count
overflow_add-count c =
    let fits : c.loop-t.count + c.in-Ok.on.more ≤ length c.args.list.now = ((loop-t-preserved c).0 _ (startable_runs c.requires)).fits in
    omega arith

pub loop-t-smaller : goal.loop-t-smaller
loop-t-smaller c =
    let runs = startable_runs c.requires in
    let later = moves_on runs (c.loop-t.invariant.0 _ runs) c.loop-t-test.true _ _ _ (c.instant.ensures.says _) c.in-Ok.is in
    omega (arith, later, c.loop-t-test.true)
