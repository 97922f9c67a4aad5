-- The first faulty arrival, by what a search from the front learns. Assumes nothing.
use Prim.Native.Nat.{ℕ, ◌≤◌, ◌<◌, zero-le}
use native.Mathlib.Omega.{arith}
use mathlib.Core.Bool.{true, false}
use mathlib.Core.List.{List}
use mathlib.Core.Path.{◌≡◌}
use lib.ListN.{length}
use Rattle.std.specs.Prelude.{Option, Some, None}
use Rattle.std.specs.Option.{MatchOption}
use Rattle.rules.proofs.ListLaws.{lowest_only, lowest_none}
use Rattle.layout.specs.declared.Plan.{Plan}
use Rattle.engine.specs.Arrivals.{faulty_by, FirstFaulty}

-- what such a search learns: no arrival is faulty, or one is and none before it
abbrev pub Searched : Plan → List ℕ → Option ℕ → Type 0
Searched p arrivals r =
    MatchOption r ((k : ℕ) → 0 ≤ k → k < length arrivals → faulty_by p arrivals k ≡ false)
    (λ i. (0 ≤ i) × (i < length arrivals) × (faulty_by p arrivals i ≡ true) × ((k : ℕ) → 0 ≤ k → k < i → faulty_by p arrivals k ≡ false))

-- what it finds is the lowest faulty arrival
pub first_searched : (p : Plan) (arrivals : List ℕ) (r : Option ℕ) → Searched p arrivals r → FirstFaulty p arrivals r
first_searched p arrivals None none = lowest_none (length arrivals) (faulty_by p arrivals) (λ i h. none i zero-le h)
first_searched p arrivals (Some i) found = (
  found.1,
  lowest_only (record { most = omega (arith, found.1); without = λ k h. found.3 k zero-le h; found = λ h. found.2 }),
)
