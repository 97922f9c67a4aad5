-- The words that are gathered are those of the rules, so there is room for them here where there is room for them there; once they are
-- copied, the reads make the rules' next state.
use Rattle.std.proofs.Common.{◌≡◌, ◌+◌, ◌-◌, length, refl, ◌∙◌, drop-drop, arith}
use Rattle.arrays.proofs.StepLaws.{step_short, step_on}
use Rattle.steps.proofs.words_and_reads.Goals as goal

pub returns-then-list-count-clause-says : goal.returns-then-list-count-clause-says
returns-then-list-count-clause-says c =
    let gathered = c.gather-more.ensures in
    λ net arrivals st x all comes written.
    (step_short c.args.plan.now c.args.state.now written gathered.0 gathered.1 (length c.args.list.now - c.args.count) c.if-list-count.true, refl)

pub returns-clause-says : goal.returns-clause-says
returns-clause-says c =
    let gathered = c.gather-more.ensures in
    let same : c.args.count + c.gather-more.result - c.args.count ≡ c.gather-more.result = omega arith in
    let read = c.read_all-soon.ensures in
    λ net arrivals st x all comes written.
    step_on c.args.plan.now c.args.state.now written gathered.0 gathered.1 all c.if-list-count.false (rw (same, c.copy_out.ensures, drop-drop)) read.whole read.paired read.read (c.unwrap_or.ensures ∙ comes) read.soon
