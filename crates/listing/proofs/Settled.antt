-- The contract of `listing::listing` settles what the call comes to, for any input, well framed or not, and any text: the length and the whole
-- text at the exit are given, once for a text that is too short and once for any other. `Learnt` is what a caller learns from the contract in
-- the source. Assumes nothing.
use Prim.Native.Nat.{◌≤◌, ◌<◌}
use mathlib.Core.Path.{◌∙⁻¹◌, ap, Σ_path}
use lib.Dec.{ltb}
use lib.ListN.{length}
use borrow.Author.Tests.{ltb-true, ltb-false}
use Rattle.rules.proofs.Settle.{Settled}
use Rattle.rules.proofs.ListLaws.{by_test}
use Rattle.listing.specs.Text.{size}
use Rattle.listing.specs.contracts as contracts
use Rattle.listing.proofs as calls

-- of the two parameters the last alone can be changed
pub listing : Settled contracts.listing.ended calls.listing.Reads.Learnt
listing κs args o p e f =
    by_test (ltb (length args.1.0.now) size)
    (λ test.
    let short : length args.1.0.now < size = ltb-true _ _ test in
    Σ_path ((e.short short).0 ∙⁻¹ (f.short short).0) (ap (λ text. (tt, (text, tt))) ((e.short short).1 ∙⁻¹ (f.short short).1)))
    (λ test.
    let whole : size ≤ length args.1.0.now = ltb-false _ _ test in
    Σ_path ((e.whole whole).behind ∙⁻¹ (f.whole whole).behind) (ap (λ text. (tt, (text, tt))) ((e.whole whole).text ∙⁻¹ (f.whole whole).text)))
