-- What is written and the lowest channel without room are those of the rules: with one the instant stops, and with none the rest is that of
-- `words_and_reads`, for which the state stands for what the channels then hold.
use Rattle.std.proofs.Common.{◌-◌, length, refl, ◌∙◌}
use Rattle.layout.specs.Views.{cells_of}
use Rattle.arrays.proofs.Kept.{pendings_kept}
use Rattle.arrays.proofs.StepLaws.{step_full, step_written}
use Rattle.steps.proofs.instant.Goals as goal

pub returns-then-full-plan-clause-says : goal.returns-then-full-plan-clause-says
returns-then-full-plan-clause-says c =
    let due = c.write_due-due.ensures in
    let arrived = c.write_arrivals-arrived.ensures in
    λ net st all before.
    (step_full all before due.wrote arrived.wrote arrived.least (length c.args.list.now - c.args.count) c.if-full-plan.true, refl)

pub returns-clause-says : goal.returns-clause-says
returns-clause-says c =
    let due = c.write_due-due.ensures in
    let arrived = c.write_arrivals-arrived.ensures in
    λ net st all before.
    c.words_and_reads.ensures.says net c.args.arrivals.now st (cells_of c.args.state.now) all arrived.time
    (rw (pendings_kept c.args.state.now c.write_arrivals-arrived.new.state (arrived.nodes ∙ due.nodes))
    (step_written all before due.wrote arrived.wrote arrived.least c.if-full-plan.false))
