-- The listing of a well framed input is that of its run, and that of any other is the line of refusal 13.
use Rattle.std.proofs.Common.{sym}
use Rattle.rules.specs.Listing.{last_line}
use Rattle.listing.proofs.TextLaws.{puts_as}
use Rattle.listing.proofs.InputLaws.{unframed_listing}
use Rattle.listing.proofs.WholeLaws.{listing_of_law}
use Rattle.listing.proofs.Text.put_listing.Goals as goal

pub returns-in-Some : goal.returns-in-Some
returns-in-Some c =
    puts_as (listing_of_law c.args.s.now c.in-Some.ensures c.read_arrivals-count.new.arrivals c.read_arrivals-count.ensures.count c.read_arrivals-count.ensures.read c.run-answer.ensures) c.put_run.ensures

pub returns-in-None : goal.returns-in-None
unfolding last_line
returns-in-None c = puts_as (sym (unframed_listing c.args.s.now c.in-None.ensures)) c.put_line.ensures
