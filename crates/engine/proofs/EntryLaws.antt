-- What a run comes to by how far its checks get: the table's refusal, the horizon's, the lowest faulty arrival's, and else its instants.
-- Assumes nothing.
use Prim.Native.Nat.{ℕ, suc, ◌≤◌, ◌<◌}
use native.Mathlib.Omega.{arith}
use mathlib.Core.Bool.{true}
use mathlib.Core.List.{List}
use mathlib.Core.Path.{◌≡◌, refl, sym, ◌∙◌}
use lib.Dec.{eqb, ltb}
use lib.ListN.{length, get_or}
use borrow.Author.Tests.{ltb-true, le-leb, lt-leb, eq-eqb, ne_eqb}
use Rattle.std.specs.Prelude.{Result, Err}
use Rattle.rules.specs.declared.Refusal.{Refusal}
use Rattle.rules.specs.declared.Ran.{Ran}
use Rattle.rules.specs.Lists.{lowest}
use Rattle.rules.specs.Network.{Network}
use Rattle.rules.specs.Instant.{channel_in, reached}
use Rattle.rules.specs.Table.{read, network}
use Rattle.rules.specs.Refusals.{refused, outcome, allowed, run_from, run, arrival_faulty, faulty_arrival, number_of, place_of}
use Rattle.rules.proofs.ListLaws.{by_test}
use Rattle.rules.proofs.Arrivals.{Faultless, faultless_arrivals}
use Rattle.rules.proofs.Accepted.{accepted}
use Rattle.rules.proofs.Agreeing.{lowest_ext}
use Rattle.table.specs.declared.Network as table
use Rattle.table.specs.Laid.{LaidFrom}
use Rattle.layout.specs.declared.Plan.{Plan}
use Rattle.setup.specs.Starts.{Planned, Lawful}
use Rattle.engine.specs.Arrivals.{faulty_by}
use Rattle.engine.specs.Runs.{RunOf, RunsRead}

-- a refusal leaves the list as it was
refused_run : (why : Refusal) (list : List ℕ) → RunOf (refused (number_of why) (place_of why)) list list (Err why)
refused_run why list = record { answer = refl; list = refl }

-- a run of a network that was read is refused where its horizon is too late
pub late_refused : (net : Network) (horizon : ℕ) (arrivals list : List ℕ) → 16777215 < horizon → RunOf (run_from (read net) horizon arrivals (length list)) list list (Err Refusal.Horizon)
unfolding run_from allowed
late_refused net horizon arrivals list late = rw (lt-leb horizon 16777215 late) (refused_run Refusal.Horizon list)

-- where a plan stands for a network, the lowest faulty arrival by its writers is the network's
module _ {net : Network} {p : Plan} (planned : Planned net p) (arrivals : List ℕ) where
  faulty_same : (i : ℕ) → faulty_by p arrivals i ≡ arrival_faulty net arrivals i
  unfolding faulty_by arrival_faulty
  faulty_same i =
      let on = channel_in (get_or arrivals i 0) in
      by_test (ltb on (length net.channels))
      (λ e. rw (planned.wired.channels, e, planned.wired.writer on (ltb-true on (length net.channels) e)))
      (λ e. rw (planned.wired.channels, e))

  faulty_lowest : lowest (length arrivals) (faulty_by p arrivals) ≡ faulty_arrival net arrivals
  unfolding faulty_arrival
  faulty_lowest = lowest_ext (length arrivals) _ _ (λ i h. faulty_same i)

  none_faulty : lowest (length arrivals) (faulty_by p arrivals) ≡ length arrivals → eqb (faulty_arrival net arrivals) (length arrivals) ≡ true
  none_faulty all = eq-eqb (faulty_arrival net arrivals) (length arrivals) (sym faulty_lowest ∙ all)

  pub arrivals_faultless : lowest (length arrivals) (faulty_by p arrivals) ≡ length arrivals → Faultless net arrivals
  arrivals_faultless all = faultless_arrivals net arrivals (none_faulty all)

  -- within the horizon, a run is refused at a faulty arrival, and goes through its instants where there is none
  module _ (horizon : ℕ) (list : List ℕ) (soon : horizon ≤ 16777215) where
    pub faulty_refused : {faulty : ℕ} → (faulty < length arrivals) × (lowest (length arrivals) (faulty_by p arrivals) ≡ faulty) → RunOf (run_from (read net) horizon arrivals (length list)) list list (Err (Refusal.Arrival faulty))
    unfolding run_from allowed
    faulty_refused {faulty} is =
        rw (le-leb horizon 16777215 soon, ← faulty_lowest, is.1, ne_eqb faulty (length arrivals) (λ e. omega (arith, is.0))) (refused_run (Refusal.Arrival faulty) list)

    pub through_instants : lowest (length arrivals) (faulty_by p arrivals) ≡ length arrivals → {after : List ℕ} {r : Result Ran Refusal} → RunOf (outcome (reached net arrivals (length list) (suc horizon))) list after r → RunOf (run_from (read net) horizon arrivals (length list)) list after r
    unfolding run_from allowed
    through_instants all ran = rw (le-leb horizon 16777215 soon, none_faulty all) ran

-- a network that was read and laid out obeys the network's own rules
pub laid_lawful : (s : List ℕ) {arrays : table.Network} → LaidFrom (network s) arrays → Lawful arrays
laid_lawful s laid = record { net = laid.net; obeys = accepted s laid.net laid.reads; from = laid.from }

-- so that the run of the table is the run of the network
pub run_laid : (s : List ℕ) {arrays : table.Network} (horizon : ℕ) (arrivals list : List ℕ) {after : List ℕ} {ran : Result Ran Refusal}
    → LaidFrom (network s) arrays → RunsRead arrays horizon arrivals list after ran → RunOf (run s horizon arrivals (length list)) list after ran
unfolding run
run_laid s horizon arrivals list laid ran = rw laid.reads (ran laid.net (accepted s laid.net laid.reads) laid.from)
