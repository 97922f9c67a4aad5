-- The channels that are left are the first ones, and behind them the walks are made.
use Rattle.setup.proofs.WalkDownLaws.{WalksLeft}
use Rattle.setup.proofs.walks.Given as goal

abbrev pub invariant-loop-c : goal.invariant-loop-c
invariant-loop-c l =
    let rest = l.c-iterator.iter in
    WalksLeft l.channels rest.count rest.iter.rest.now l.first l.follow l.out l.outs
