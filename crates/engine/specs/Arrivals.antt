-- The check of arrivals on a plan. Assumes nothing.
use Rattle.std.specs.Prelude.{ℕ, ◌-◌, ◌<◌, Bool, not, ◌&&◌, ◌||◌, List, ◌≡◌, eqb, ltb, get_or, length, Option, MatchOption}
use Rattle.rules.specs.Lists.{lowest}
use Rattle.rules.specs.Instant.{channel_in, time_in}
use Rattle.layout.specs.declared.Plan.{Plan}
use Rattle.layout.specs.Views.{channels_of, ways_of}

-- arrival i is faulty, by the number of channels and their writers
unfoldable pub faulty_by : Plan → List ℕ → ℕ → Bool
faulty_by p arrivals i =
    not (ltb (channel_in (get_or arrivals i 0)) (channels_of p))
    || not (eqb (get_or (ways_of p).writer (channel_in (get_or arrivals i 0)) 0) 63)
    || (ltb 0 i && ltb (time_in (get_or arrivals i 0)) (time_in (get_or arrivals (i - 1) 0)))

-- the lowest faulty arrival, if there is one
abbrev pub FirstFaulty : Plan → List ℕ → Option ℕ → Type 0
FirstFaulty p arrivals first =
    let low = lowest (length arrivals) (faulty_by p arrivals) in
    MatchOption first (low ≡ length arrivals) (λ i. (i < length arrivals) × (low ≡ i))
