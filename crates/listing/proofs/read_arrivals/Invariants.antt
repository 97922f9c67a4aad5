-- After some chunks the first arrivals are their numbers.
use Rattle.std.proofs.Common.{◌≡◌, ◌*◌, take}
use Rattle.rules.specs.Lists.{tab}
use Rattle.rules.specs.Listing.{bytes_at}
use Rattle.listing.proofs.read_arrivals.Given as goal

abbrev pub invariant-loop-i : goal.invariant-loop-i
invariant-loop-i l = take l.i l.arrivals ≡ tab l.i (λ k. bytes_at l.bytes (8 * k) 8)
