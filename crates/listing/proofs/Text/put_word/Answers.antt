-- The line is made from its end: each part stands in front of what follows it, and behind the line feed there is nothing.
use Rattle.std.proofs.Common.{◌-◌, ◌%◌, ◌^◌, drop, take_all, length-drop, sym, refl, ◌∙◌, ap, arith}
use Rattle.std.specs.Fmt as std
use Rattle.rules.specs.Listing.{decimal, line, word_line}
use Rattle.listing.proofs.TextLaws.{puts_as}
use Rattle.listing.proofs.DecimalLaws.{decimal_is, token_text}
use Rattle.listing.proofs.Text.put_word.Goals as goal

pub returns-clause-line : goal.returns-clause-line
unfolding word_line line
returns-clause-line c =
    let time = ap std.decimal c.from.ensures ∙ sym (decimal_is c.time_in.result (omega arith)) ∙ ap decimal c.time_in.ensures in
    let channel = sym (decimal_is c.channel_in.result (omega arith)) ∙ ap decimal c.channel_in.ensures in
    let value = token_text (c.args.w % 2 ^ 32) (omega arith) c.value_in.ensures in
    let at = c.write_digits-time.result in
    let made = c.write_digits-time.new.buf in
    puts_as
    (take_all (25 - at) (drop at made) (omega (arith, length-drop at made))
    ∙ rw (c.write_digits-time.ensures.written, c.byte_before-behind-2.ensures.1, c.write_digits-channel.ensures.written)
    (rw (c.byte_before-behind.ensures.1, c.token_before-value.ensures.1, c.byte_before-end.ensures.1, time, channel, value) refl))
    c.put.ensures
