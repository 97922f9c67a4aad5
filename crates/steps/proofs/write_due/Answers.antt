-- A turn writes the results of its pair; a pair whose kept instant is another has none, since no node is past.
use Rattle.std.proofs.Common.{◌≡◌, ◌<◌, ◌*◌, min, ◌∙◌, arith}
use Rattle.layout.specs.Views.{nodes_of}
use Rattle.arrays.proofs.Kept.{soon_kept}
use Rattle.arrays.proofs.PairWrites.{pair_not_due, pair_due, pair_skip, on_all}
use Rattle.steps.proofs.write_due.Goals.{then-state-pair, else-state-pair}
use Rattle.steps.proofs.write_due.Goals as goal

pub loop-pair-preserved : goal.loop-pair-preserved
loop-pair-preserved c =
    let g = c.loop-pair.pair in
    let on = c.loop-pair.invariant in
    let below : 2 * g < nodes_of c.args.plan.now = omega arith in
    elim c.if-state-pair.branch [
      | then-state-pair w ↦ rw (w.state-is, w.full-is) (pair_due g below on w.write_pair-full.ensures)
      | else-state-pair w ↦
          let kept = soon_kept c.args.state.now c.loop-pair.state g on.nodes in
          rw (w.state-is, w.full-is) (pair_skip g (pair_not_due c.requires.1 c.requires.0.few c.requires.2 g (λ e. w.if-state-pair.false (kept ∙ e))) on)
    ]

pub returns : goal.returns
returns c =
    let all : min (2 * c.loop-pair.pair) (nodes_of c.args.plan.now) ≡ nodes_of c.args.plan.now = omega arith in
    on_all c.requires.1.rings (rw all at c.loop-pair.invariant)
