-- A turn puts one line more behind those that are put.
use Rattle.std.proofs.Common.{arith}
use Rattle.rules.specs.Listing.{word_line}
use Rattle.listing.proofs.LineLaws.{puts_next}
use Rattle.listing.proofs.Text.put_words.Goals as goal

pub loop-w-preserved : goal.loop-w-preserved
loop-w-preserved c =
    record {
      lines = puts_next word_line c.args.words.now c.loop-w.w-index (omega arith) c.loop-w.invariant.lines c.put_word.ensures.line;
      short = omega arith;
    }
