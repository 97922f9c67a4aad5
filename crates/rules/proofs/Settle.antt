-- What it is for a contract to settle what a call comes to: whatever the arguments, any two outcomes that the contract allows are equal. With
-- a law for a contract that gives an answer by what the answer says, where no two answers say the same. Assumes nothing.
use mathlib.Core.Path.{◌≡◌, sym, ◌∙◌, ◌∙⁻¹◌, ap}
use contract.Lifetimes.{Lfts}
use denote.Triple.Entry.{Args, Res}
use denote.Triple.Clauses.{Ended, AtExit, Lasts, at_exit}

-- what a call with these lifetimes and arguments comes to: its result, and what each `&mut` that it was lent holds at its exit
abbrev pub CallOutcome : (T : Ended) (κs : Lfts T.signature.lifetimes) → Args T.signature κs → Type 0
CallOutcome T κs args = Res T.signature κs × Lasts T κs args

-- what a caller learns from a contract: of the arguments, the result, and the parameters at the exit
abbrev pub Learns : Ended → Type 1
Learns T =
    (κs : Lfts T.signature.lifetimes) → Args T.signature κs → Res T.signature κs → AtExit T κs → Type 0

-- whatever the arguments, any two outcomes of which this is learnt are equal
abbrev pub Settled : (T : Ended) → Learns T → Type 0
Settled T learnt =
    (κs : Lfts T.signature.lifetimes) (args : Args T.signature κs) (o p : CallOutcome T κs args)
    → learnt κs args o.0 (at_exit T κs args o.1)
    → learnt κs args p.0 (at_exit T κs args p.1)
    → o ≡ p

-- no two values say the same
abbrev pub Once : {A B : Type 0} → (A → B) → Type 0
Once {A} says = (a b : A) → says a ≡ says b → a ≡ b

-- so where each value is found again by what it says
pub once_by : {A B : Type 0} {says : A → B} (find : B → A) → ((a : A) → find (says a) ≡ a) → Once says
once_by find found a b e = sym (found a) ∙ ap find e ∙ found b

-- then two values that say one thing are the same
pub same : {A B : Type 0} {says : A → B} → Once says → {a b : A} {said : B} → says a ≡ said → says b ≡ said → a ≡ b
same once e f = once _ _ (e ∙⁻¹ f)
