-- The contract of the public call whose outcome its argument determines settles what it comes to: it is an equation for the result's field. Of
-- `read_full`, docs/STATEMENTS.md says among its exceptions what it leaves open. `Learnt` is what a caller learns from the contract in the
-- source. Assumes nothing.
use mathlib.Core.Path.{refl, ◌∙⁻¹◌, Σ_path}
use Rattle.rules.proofs.Settle.{Settled}
use Rattle.blocks.specs.contracts as contracts
use Rattle.blocks.proofs as calls

pub new : Settled contracts.Blocks.new.ended calls.Blocks.new.Reads.Learnt
new κs args o p e f = Σ_path (λ i. record { rest = (e ∙⁻¹ f) i }) refl
