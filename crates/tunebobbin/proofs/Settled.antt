-- The contracts of the two calls settle what the calls come to, for any arguments: the answer, every value written through a pointer, and the
-- whole list at the exit are given. `Learnt` is what a caller learns from the contract in the source. Assumes nothing.
use mathlib.Core.Path.{◌∙⁻¹◌, ap, Σ_path}
use Rattle.rules.specs.Refusals.{CheckSays, RunSays}
use Rattle.rules.proofs.Settle.{Settled}
use Rattle.tunebobbin.specs.contracts as contracts
use Rattle.tunebobbin.proofs as calls

-- of the four parameters the table alone cannot be changed
pub check : Settled contracts.tunebobbin_check.ended calls.tunebobbin_check.Reads.Learnt
check κs args o p e f =
    let says = e ∙⁻¹ f in
    Σ_path (ap (λ (s : CheckSays). s.number) says) (ap (λ (s : CheckSays). (tt, (s.place, (s.nodes, (s.channels, tt))))) says)

-- of the seven parameters the list and the last three can be changed
pub run : Settled contracts.tunebobbin_run.ended calls.tunebobbin_run.Reads.Learnt
run κs args o p e f =
    let says = e.0 ∙⁻¹ f.0 in
    let list = e.1 ∙⁻¹ f.1 in
    Σ_path (ap (λ (s : RunSays). s.number) says) (λ i. (tt, (tt, (tt, (list i, ((says i).place, ((says i).channel, ((says i).count, tt))))))))
