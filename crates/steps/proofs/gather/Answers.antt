-- A turn adds the word of its channel where the writer's result is due, and the channels up to the next one of the walk have none.
use Rattle.std.proofs.Common.{◌<◌, get_or, pos, arith}
use lib.ListN.{get_or-map}
use Rattle.rules.specs.Kinds.{pattern}
use Rattle.layout.specs.Views.{ways_of, pendings_of}
use Rattle.arrays.proofs.OutWalk.{Adds, adds_word, adds_none_due, adds_none_written, gathered_none, gathered_turn}
use Rattle.steps.proofs.gather.Goals.{then-n-lt32+then-state-n, else-n-lt32, else-n-lt32-via-then-n-lt32+else-state-n, else-n-lt32-via-else-n-lt32}
use Rattle.steps.proofs.gather.Goals as goal

pub loop-c-init : goal.loop-c-init
loop-c-init c = gathered_none c.requires.0 c.requires.2

pub loop-c-preserved : goal.loop-c-preserved
loop-c-preserved c =
    let so = c.loop-c.invariant in
    let h = c.loop-c-test.true in
    let below : c.loop-c.count < 64 = omega (arith, so.few, so.among h, c.requires.0.few) in
    let turn : Adds c.args.t (ways_of c.args.plan.now).writer (pendings_of c.args.state.now).due (pendings_of c.args.state.now).value c.loop-c.c c.loop-c.words c.loop-c.count c.if-n-lt32.words c.if-n-lt32.count =
    elim c.if-n-lt32.branch [
      | then-n-lt32+then-state-n w ↦
          rw (w.words-is, w.count-is)
          (adds_word so.places below w.if-n-lt32.true w.if-state-n.true
          (rw (get_or-map pattern c.args.state.now.value (get_or c.args.plan.now.writer c.loop-c.c 0) (pos 0)) w.word.ensures))
      | else-n-lt32 w ↦
          rw (w.words-is, w.count-is)
          (elim w.else-n-lt32.branch [
            | else-n-lt32-via-then-n-lt32+else-state-n w' ↦ adds_none_due so.places w'.if-state-n.false
            | else-n-lt32-via-else-n-lt32 w' ↦ adds_none_written so.places w'.if-n-lt32.false
          ])
    ] in
    gathered_turn c.requires.0 so h turn
