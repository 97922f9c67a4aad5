-- A turn adds one bit, and twice a field of fewer than 32 bits still fits.
use Rattle.std.proofs.Common.{rules, arith}
use Rattle.rules.specs.Table.{field_at}
use Rattle.fields.proofs.Turn.{field_turn, field_room}
use Rattle.fields.proofs.value_at.Goals as goal

pub loop-i-init : goal.loop-i-init
unfolding field_at
loop-i-init c = search rules

pub overflow_mul-value : goal.overflow_mul-value
overflow_mul-value c = record { fits = omega (arith, field_room c.args.s.now c.args.at c.loop-i.i (omega arith)) }

pub overflow_add-value : goal.overflow_add-value
overflow_add-value c =
    record { fits = omega (arith, c.bit.ensures, field_room c.args.s.now c.args.at c.loop-i.i (omega arith)) }

pub loop-i-preserved : goal.loop-i-preserved
loop-i-preserved c = field_turn c.args.s.now c.args.at c.loop-i.i _ _ c.loop-i.invariant c.bit.ensures
