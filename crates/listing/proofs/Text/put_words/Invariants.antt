-- After some words their lines are put, each of at most 25 bytes.
use Rattle.std.proofs.Common.{◌≤◌, ◌+◌, ◌*◌, map, take}
use Rattle.rules.specs.Lists.{joined}
use Rattle.rules.specs.Listing.{word_line}
use Rattle.listing.specs.Text.{Puts}
use Rattle.listing.proofs.Text.put_words.Given as goal

abbrev pub invariant-loop-w : goal.invariant-loop-w
invariant-loop-w l =
    record {
      lines : Puts l.fn.self (joined (map word_line (take l.w-index l.words))) l.self;
      short : l.self.len ≤ l.fn.self.len + 25 * l.w-index;
    }
