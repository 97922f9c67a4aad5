-- The pieces that are read, each array zero behind them, are the network laid out.
use Rattle.std.proofs.Common.{rules}
use Rattle.table.proofs.Whole.{pieces_laid}
use Rattle.table.proofs.read_rest.Goals as goal

pub returns : goal.returns
returns c =
    pieces_laid _ _ _ _ _ _ _ _ (search rules) (search rules) (search rules) (search rules) c.requires.0 c.requires.1 (search rules)
