-- The contracts of the public calls settle what the calls come to: each is an equation for the result. `Learnt` is what a caller learns from the
-- contract in the source. Assumes nothing.
use mathlib.Core.Path.{refl, ◌∙⁻¹◌, Σ_path}
use Rattle.rules.proofs.Settle.{Settled}
use Rattle.rules.specs.contracts as contracts
use Rattle.rules.proofs as calls

pub refusal_number : Settled contracts.Refusal.number.ended calls.Refusal.number.Reads.Learnt
refusal_number κs args o p e f = Σ_path (e ∙⁻¹ f) refl

pub refusal_place : Settled contracts.Refusal.place.ended calls.Refusal.place.Reads.Learnt
refusal_place κs args o p e f = Σ_path (e ∙⁻¹ f) refl

pub end_number : Settled contracts.End.number.ended calls.End.number.Reads.Learnt
end_number κs args o p e f = Σ_path (e ∙⁻¹ f) refl

pub end_instant : Settled contracts.End.instant.ended calls.End.instant.Reads.Learnt
end_instant κs args o p e f = Σ_path (e ∙⁻¹ f) refl

pub end_channel : Settled contracts.End.channel.ended calls.End.channel.Reads.Learnt
end_channel κs args o p e f = Σ_path (e ∙⁻¹ f) refl
