-- The run of the network that was read is the table's.
use Rattle.engine.proofs.EntryLaws.{run_laid}
use Rattle.engine.proofs.run.Goals as goal

pub returns : goal.returns
returns c =
    run_laid c.args.table.now c.args.horizon c.args.arrivals.now c.args.list.now c.in_ok-network.ensures c.run_taken.ensures
