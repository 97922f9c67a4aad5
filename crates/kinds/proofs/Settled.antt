-- The contracts of the public calls settle what the calls come to: each is an equation for the result, or for what is said by it, which tells
-- the results apart. `Learnt` is what a caller learns from the contract in the source. Assumes nothing.
use Rattle.std.proofs.Common.{◌≡◌, refl, ap, ℕ, ◌<◌, arith, [], ◌∷◌, get_or, Option, None, Some, Result, Ok, Err}
use Rattle.std.proofs.Math.Option as Math
use mathlib.Core.Path.{◌∙⁻¹◌, Σ_path}
use Rattle.rules.proofs.Settle.{Settled, Once, once_by, same}
use Rattle.kinds.specs.declared.Kind.{Kind}
use Rattle.kinds.specs.declared.UnknownKind.{UnknownKind}
use Rattle.kinds.specs.Kind.{kind_number, Decodes}
use Rattle.kinds.specs.Nodes.{said}
use Rattle.kinds.specs.contracts as contracts
use Rattle.kinds.proofs as calls

-- no two kinds have one number: a kind is found by it among all kinds
kind_once : Once kind_number
kind_once = once_by find found
  where
    find : ℕ → Kind
    find number =
        get_or
        (Kind.Constant
        ∷ Kind.Copy
        ∷ Kind.AddConstant
        ∷ Kind.Sum
        ∷ Kind.Difference
        ∷ Kind.Smaller
        ∷ Kind.Larger
        ∷ Kind.Quotient
        ∷ Kind.Choice
        ∷ Kind.Gate
        ∷ Kind.Ones
        ∷ Kind.FirstBeam
        ∷ [])
        number
        Kind.Constant

    found : (kind : Kind) → find (kind_number kind) ≡ kind
    found Kind.Constant = refl
    found Kind.Copy = refl
    found Kind.AddConstant = refl
    found Kind.Sum = refl
    found Kind.Difference = refl
    found Kind.Smaller = refl
    found Kind.Larger = refl
    found Kind.Quotient = refl
    found Kind.Choice = refl
    found Kind.Gate = refl
    found Kind.Ones = refl
    found Kind.FirstBeam = refl

-- every kind has a number below 12
known : (kind : Kind) → kind_number kind < 12
known Kind.Constant = omega arith
known Kind.Copy = omega arith
known Kind.AddConstant = omega arith
known Kind.Sum = omega arith
known Kind.Difference = omega arith
known Kind.Smaller = omega arith
known Kind.Larger = omega arith
known Kind.Quotient = omega arith
known Kind.Choice = omega arith
known Kind.Gate = omega arith
known Kind.Ones = omega arith
known Kind.FirstBeam = omega arith

decoded_once : (number : ℕ) (r q : Result Kind UnknownKind) → Decodes number r → Decodes number q → r ≡ q
decoded_once number (Ok a) (Ok b) e f = ap Ok (kind_once a b (e ∙⁻¹ f))
decoded_once number (Ok a) (Err u) e (above, f) = absurd (omega (arith, known a, e, above))
decoded_once number (Err u) (Ok b) (above, e) f = absurd (omega (arith, known b, f, above))
decoded_once number (Err u) (Err v) (_, e) (_, f) = ap (λ n. Err (record { 0 = n })) (e ∙⁻¹ f)

pub try_from : Settled contracts.KindTryFromU32.try_from.ended calls.KindTryFromU32.try_from.Reads.Learnt
try_from κs args o p e f = Σ_path (decoded_once _ _ _ e f) refl

pub inputs : Settled contracts.Kind.inputs.ended calls.Kind.inputs.Reads.Learnt
inputs κs args o p e f = Σ_path (e ∙⁻¹ f) refl

pub takes : Settled contracts.Kind.takes.ended calls.Kind.takes.Reads.Learnt
takes κs args o p e f = Σ_path (e ∙⁻¹ f) refl

-- the answer that the rules say so
abbrev answered : {A : Type 0} → Math.Option A → Option A
answered Math.none = None
answered (Math.some x) = Some x

-- so no two answers are said alike
said_once : {A : Type 0} → Once (said {A = A})
said_once = once_by answered found
  where
    found : {A : Type 0} (r : Option A) → answered (said r) ≡ r
    found None = refl
    found (Some x) = refl

pub result : Settled contracts.Kind.result.ended calls.Kind.result.Reads.Learnt
result κs args o p e f = Σ_path (same said_once e f) refl

pub written : Settled contracts.Pending.written.ended calls.Pending.written.Reads.Learnt
written κs args o p e f = Σ_path (e ∙⁻¹ f) refl

pub ahead : Settled contracts.Pending.ahead.ended calls.Pending.ahead.Reads.Learnt
ahead κs args o p e f = Σ_path (e ∙⁻¹ f) refl

pub released : Settled contracts.Pending.released.ended calls.Pending.released.Reads.Learnt
released κs args o p e f = Σ_path (e ∙⁻¹ f) refl

pub skipped : Settled contracts.Pending.skipped.ended calls.Pending.skipped.Reads.Learnt
skipped κs args o p e f = Σ_path (e ∙⁻¹ f) refl

pub soon : Settled contracts.Pending.soon.ended calls.Pending.soon.Reads.Learnt
soon κs args o p e f = Σ_path (e ∙⁻¹ f) refl
