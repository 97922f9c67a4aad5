-- The contracts of the public calls settle what the calls come to, for any bytes, place and width: each is an equation for the result, or for
-- each of its fields, and no call is lent anything to change. `Learnt` is what a caller learns from the contract in the source. Assumes nothing.
use mathlib.Core.Path.{refl, ◌∙⁻¹◌, Σ_path}
use Rattle.rules.proofs.Settle.{Settled}
use Rattle.fields.specs.contracts as contracts
use Rattle.fields.proofs as calls

pub holds : Settled contracts.Reader.holds.ended calls.Reader.holds.Reads.Learnt
holds κs args o p e f = Σ_path (e ∙⁻¹ f) refl

pub field : Settled contracts.Reader.field.ended calls.Reader.field.Reads.Learnt
field κs args o p e f = Σ_path (e ∙⁻¹ f) refl

pub signed : Settled contracts.signed.ended calls.signed.Reads.Learnt
signed κs args o p e f = Σ_path (e ∙⁻¹ f) refl

pub pattern : Settled contracts.pattern.ended calls.pattern.Reads.Learnt
pattern κs args o p e f = Σ_path (e ∙⁻¹ f) refl

pub new : Settled contracts.Reader.new.ended calls.Reader.new.Reads.Learnt
new κs args o p e f = Σ_path (λ i. record { bytes = (e.0 ∙⁻¹ f.0) i; at = (e.1 ∙⁻¹ f.1) i }) refl

pub moved : Settled contracts.Reader.moved.ended calls.Reader.moved.Reads.Learnt
moved κs args o p e f = Σ_path (λ i. record { bytes = (e.0 ∙⁻¹ f.0) i; at = (e.1 ∙⁻¹ f.1) i }) refl

pub take : Settled contracts.Reader.take.ended calls.Reader.take.Reads.Learnt
take κs args o p e f = Σ_path (e ∙⁻¹ f) refl
