-- Each chunk of eight bytes is one arrival.
use Rattle.std.proofs.Common.{arith}
use Rattle.listing.proofs.ByteLaws.{arrival_more}
use Rattle.listing.proofs.read_arrivals.Goals as goal

pub loop-i-preserved : goal.loop-i-preserved
loop-i-preserved c =
    arrival_more c.args.bytes.now c.loop-i.arrivals c.loop-i.i _ (λ k. (c.type_inv.bytes k).fits) c.as_chunks.ensures.front (omega arith) (omega arith) c.from_be_bytes.ensures c.loop-i.invariant
