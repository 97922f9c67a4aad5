-- A turn takes the last channel that is left. It puts it at the head of the walk to the outside or of its writer's walk, or passes one that no
-- node writes.
use Rattle.setup.proofs.WalkDownLaws.{left_all, left_out, left_take, left_pass, left_none}
use Rattle.setup.proofs.walks.Goals as goal

pub loop-c-init : goal.loop-c-init
loop-c-init c = left_all (cc) (cc) c.requires

pub loop-c-preserved-then-channel-ge-MOST_NODES : goal.loop-c-preserved-then-channel-ge-MOST_NODES
loop-c-preserved-then-channel-ge-MOST_NODES c =
    left_out _ _ c.loop-c.invariant c.in-Some.ensures.steps c.if-channel-ge-MOST_NODES.true c.replace.ensures.after c.replace.ensures.value

pub loop-c-preserved-then-channel-lt-MOST_NODES : goal.loop-c-preserved-then-channel-lt-MOST_NODES
loop-c-preserved-then-channel-lt-MOST_NODES c =
    let put = c.replace-then-channel-lt-MOST_NODES.ensures in
    left_take _ _ c.loop-c.invariant c.in-Some.ensures.steps c.if-channel-ge-MOST_NODES.false c.if-channel-lt-MOST_NODES.true put.after put.value

pub loop-c-preserved : goal.loop-c-preserved
loop-c-preserved c =
    left_pass _ _ c.loop-c.invariant c.in-Some.ensures.steps c.if-channel-ge-MOST_NODES.false c.if-channel-lt-MOST_NODES.false

pub returns : goal.returns
returns c = left_none c.loop-c.invariant c.in-None.ensures.steps.1.0
