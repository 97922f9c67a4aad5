-- The word and the line feed are put around the numbers, each behind a blank.
use Rattle.std.proofs.Common.{ap, sym, arith, get_or, take_all}
use Rattle.listing.proofs.TextLaws.{puts_as, puts_then}
use Rattle.listing.proofs.DecimalLaws.{decimal_is}
use Rattle.listing.proofs.LineLaws.{puts_next, blank_and, numbered, line_of_numbers, left_length}
use Rattle.listing.proofs.Text.put_line.Goals as goal

pub loop-n-preserved : goal.loop-n-preserved
loop-n-preserved c =
    let n = get_or c.args.numbers.now c.loop-n.n-index 0 in
    let number = puts_then c.put-in-loop-n.ensures (puts_as (sym (decimal_is n (omega arith))) c.put_number.ensures) in
    record {
      numbers = puts_next blank_and c.args.numbers.now c.loop-n.n-index (omega arith) c.loop-n.invariant.numbers number;
      room = omega (arith, left_length c.args.numbers.now c.loop-n.n-index (omega arith) (omega arith));
    }

pub returns : goal.returns
returns c =
    let all = ap numbered (take_all c.loop-n.n-index c.args.numbers.now (omega arith)) in
    puts_as (sym (line_of_numbers c.args.first.now c.args.numbers.now))
    (puts_then c.put.ensures (puts_then (puts_as all c.loop-n.invariant.numbers) c.put-2.ensures))
