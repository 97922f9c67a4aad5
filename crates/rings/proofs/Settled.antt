-- The contracts of the two calls settle what they come to: each is an equation for the result and one for the state. `Learnt` is what a
-- caller learns from the contract in the source. Assumes nothing.
use mathlib.Core.Path.{ap, ◌∙⁻¹◌, Σ_path}
use Rattle.rules.proofs.Settle.{Settled}
use Rattle.rings.specs.contracts as contracts
use Rattle.rings.proofs as calls

-- of the five parameters the state alone can be changed
pub put : Settled contracts.put.ended calls.put.Reads.Learnt
put κs args o p e f = Σ_path (e.1 ∙⁻¹ f.1) (ap (λ state. (tt, (state, (tt, (tt, (tt, tt)))))) (e.0 ∙⁻¹ f.0))

-- of the three parameters the state alone can be changed
pub take : Settled contracts.take.ended calls.take.Reads.Learnt
take κs args o p e f = Σ_path (e.1 ∙⁻¹ f.1) (ap (λ state. (tt, (state, (tt, tt)))) (e.0 ∙⁻¹ f.0))
