-- No two answers say the same by the paper's numbers and values: an answer is found again by its number, among all answers with its
-- values. Assumes nothing.
use Prim.Native.Nat.{ℕ}
use mathlib.Core.List.{List, [], ◌∷◌}
use mathlib.Core.Path.{◌≡◌, refl}
use lib.ListN.{get_or}
use Rattle.std.specs.Prelude.{Result, Ok, Err}
use Rattle.rules.specs.declared.Refusal.{Refusal}
use Rattle.rules.specs.declared.Counts.{Counts}
use Rattle.rules.specs.declared.End.{End}
use Rattle.rules.specs.declared.Ran.{Ran}
use Rattle.rules.specs.Refusals.{number_of, place_of, CheckSays, checked_says, RunSays, ran_says}
use Rattle.rules.proofs.Settle.{Once, once_by}

-- of answers in the order of their numbers, the one with a number: that of number 0, the refusals with a place, then the others
abbrev pub numbered : {A : Type 0} → A → (Refusal → A) → ℕ → List A → ℕ → A
numbered none refused place others number =
    get_or
    (none
    ∷ refused (Refusal.BitsEnd place)
    ∷ refused Refusal.Version
    ∷ refused Refusal.Counts
    ∷ refused (Refusal.NodeField place)
    ∷ refused (Refusal.ChannelField place)
    ∷ refused (Refusal.Capacities place)
    ∷ refused Refusal.Leftover
    ∷ refused (Refusal.Ports place)
    ∷ refused Refusal.Horizon
    ∷ refused (Refusal.Arrival place)
    ∷ others)
    number
    none

-- a refusal is found by its number and place
pub refusal_found : {A : Type 0} (none : A) (refused : Refusal → A) (others : List A) (why : Refusal) → numbered none refused (place_of why) others (number_of why) ≡ refused why
refusal_found none refused others (Refusal.BitsEnd place) = refl
refusal_found none refused others Refusal.Version = refl
refusal_found none refused others Refusal.Counts = refl
refusal_found none refused others (Refusal.NodeField node) = refl
refusal_found none refused others (Refusal.ChannelField channel) = refl
refusal_found none refused others (Refusal.Capacities channel) = refl
refusal_found none refused others Refusal.Leftover = refl
refusal_found none refused others (Refusal.Ports node) = refl
refusal_found none refused others Refusal.Horizon = refl
refusal_found none refused others (Refusal.Arrival index) = refl

pub checked_says_once : Once checked_says
checked_says_once = once_by find found
  where
    find : CheckSays → Result Counts Refusal
    find says = numbered (Ok (record { nodes = says.nodes; channels = says.channels })) Err says.place [] says.number

    found : (answer : Result Counts Refusal) → find (checked_says answer) ≡ answer
    found (Ok counts) = refl
    found (Err why) = refusal_found (Ok (record { nodes = 0; channels = 0 })) Err [] why

pub ran_says_once : Once ran_says
ran_says_once = once_by find found
  where
    ran : ℕ → End → Result Ran Refusal
    ran count end = Ok (record { count = count; end = end })

    stops : ℕ → ℕ → ℕ → List (Result Ran Refusal)
    stops count place channel = ran count (End.Overfull place channel) ∷ ran count (End.NoRoom place) ∷ []

    find : RunSays → Result Ran Refusal
    find says =
        numbered (ran says.count End.Horizon) Err says.place (stops says.count says.place says.channel) says.number

    ended : (count : ℕ) (end : End) → find (ran_says (ran count end)) ≡ ran count end
    ended count End.Horizon = refl
    ended count (End.Overfull instant channel) = refl
    ended count (End.NoRoom instant) = refl

    found : (answer : Result Ran Refusal) → find (ran_says answer) ≡ answer
    found (Ok r) = ended r.count r.end
    found (Err why) = refusal_found (ran 0 End.Horizon) Err (stops 0 (place_of why) 0) why
