-- The contracts of the calls that make a word or read one settle what the calls come to: each is an equation for the result. `Learnt` is what
-- a caller learns from the contract in the source. Assumes nothing.
use mathlib.Core.Path.{refl, ◌∙⁻¹◌, Σ_path}
use Rattle.rules.proofs.Settle.{Settled}
use Rattle.words.specs.contracts as contracts
use Rattle.words.proofs as calls

pub channel_in : Settled contracts.channel_in.ended calls.channel_in.Reads.Learnt
channel_in κs args o p e f = Σ_path (e ∙⁻¹ f) refl

pub time_in : Settled contracts.time_in.ended calls.time_in.Reads.Learnt
time_in κs args o p e f = Σ_path (e ∙⁻¹ f) refl

pub value_in : Settled contracts.value_in.ended calls.value_in.Reads.Learnt
value_in κs args o p e f = Σ_path (e ∙⁻¹ f) refl

pub word : Settled contracts.word.ended calls.word.Reads.Learnt
word κs args o p e f = Σ_path (e ∙⁻¹ f) refl
