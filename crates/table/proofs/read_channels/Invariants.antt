-- After c turns the first c channels are read and laid out, `at` is the bit behind them and `together` their capacities together.
use Rattle.std.proofs.Common.{◌+◌, ◌*◌, ◌≤◌}
use Rattle.table.proofs.ChannelTurn.{UpTo}
use Rattle.table.proofs.read_channels.Given as goal

abbrev pub invariant-loop-c : goal.invariant-loop-c
invariant-loop-c l =
    UpTo l.s l.nodes l.c l.at l.together l.channels l.tokens
    × (l.at ≤ 24 + 69 * l.nodes + 29 * l.c + 32 * l.together)
    × (l.together ≤ 1024)
