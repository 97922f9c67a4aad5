-- The words' lines are put, and the last line behind them.
use Rattle.listing.specs.Text.{last_by}
use Rattle.listing.proofs.TextLaws.{puts_then}
use Rattle.listing.proofs.Text.put_run.Goals as goal

pub returns-in-Ok : goal.returns-in-Ok
unfolding last_by
returns-in-Ok c = rw c.in-Ok.is (puts_then c.put_words.ensures.lines c.put_end.ensures)
