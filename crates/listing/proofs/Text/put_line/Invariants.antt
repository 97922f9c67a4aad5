-- After some numbers these are put behind the word, and there is room for the others and the line feed.
use Rattle.std.proofs.Common.{◌+◌, length, take, drop}
use Rattle.listing.specs.Text.{Puts, HasRoom}
use Rattle.listing.proofs.LineLaws.{numbered}
use Rattle.listing.proofs.Text.put_line.Given as goal

abbrev pub invariant-loop-n : goal.invariant-loop-n
invariant-loop-n l =
    record {
      numbers : Puts l.initial.self (numbered (take l.n-index l.numbers)) l.self;
      room : HasRoom l.self (length (numbered (drop l.n-index l.numbers)) + 1);
    }
