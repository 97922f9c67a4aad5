-- After i turns the value is the field's first i bits.
use Rattle.std.proofs.Common.{◌≡◌}
use Rattle.rules.specs.Table.{field_at}
use Rattle.fields.proofs.value_at.Given as goal

abbrev pub invariant-loop-i : goal.invariant-loop-i
invariant-loop-i l = l.value ≡ field_at l.s l.at l.i
