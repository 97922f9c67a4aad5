-- After i turns the first i tokens are read, and they are the first i of the places.
use Rattle.std.proofs.Common.{◌≡◌, take}
use Rattle.rules.specs.Table.{read, tokens_up_to}
use Rattle.table.proofs.read_tokens.Given as goal

abbrev pub invariant-loop-i : goal.invariant-loop-i
invariant-loop-i l = tokens_up_to l.bits.bytes.now l.bits.at l.i ≡ read (take l.i l.tokens)
