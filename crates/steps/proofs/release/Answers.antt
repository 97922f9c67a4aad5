-- The number of inputs that stands in the plan is that of the node's kind, so what is taken is what the node finds; where every port held a
-- token the result is of that.
use Rattle.std.proofs.Common.{◌≡◌, ℤ, pos, Some, w32, SFits, sym, ◌∙◌, arith, rules}
use Rattle.arrays.proofs.ReleaseSteps.{released_ahead}
use Rattle.steps.proofs.Stations.{seen_so}
use Rattle.steps.proofs.release.Goals as goal

pub returns-in-Some-clause-released : goal.returns-in-Some-clause-released
returns-in-Some-clause-released c =
    let node = seen_so c.args.plan.now c.args.n in
    let found = rw (sym node.count ∙ c.requires.1.readable.counted) at c.in-Some.ensures.inputs in
    let fits : (v : ℤ) → c.result-made.result ≡ Some v → SFits w32 v = λ v e. search rules in
    released_ahead found.took c.args.before {r = c.released.result} c.result-made.result (pos 0) fits (sym found.ready) (found.tokens 0) (found.tokens 1) (found.tokens 2)
    (rw (node.kind, node.constant) c.result-made.ensures)
    (omega (arith, c.requires.1.early, c.requires.1.readable.deadline))
    (rw (node.period, node.deadline) c.released.ensures)
