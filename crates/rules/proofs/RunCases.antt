-- What a run comes to by how far its checks get: the table's refusal, 9 for its horizon, 10 for an arrival, and else its instants, of a
-- network that obeys its rules. Assumes nothing.
use Prim.Native.Nat.{ℕ, suc, ◌≤◌}
use mathlib.Core.List.{List}
use mathlib.Core.Path.{◌≡◌}
use lib.Dec.{eqb, leb}
use lib.ListN.{length}
use borrow.Author.Tests.{leb-true}
use Rattle.rules.specs.Network.{Network, Obeys}
use Rattle.rules.specs.Table.{refusal, network}
use Rattle.rules.specs.Instant.{reached}
use Rattle.rules.specs.Refusals.{faulty_arrival, Outcome, refused, outcome, allowed, run_from, run}
use Rattle.rules.proofs.Accepted.{accepted}
use Rattle.rules.proofs.Arrivals.{Faultless, faultless_arrivals}
use Rattle.rules.proofs.ListLaws.{by_test}
use Rattle.rules.proofs.ReadingLaws.{by_reading}

pub by_run : (P : Outcome → Type 0) (table : List ℕ) (horizon : ℕ) (arrivals : List ℕ) (room : ℕ)
    → ((number place : ℕ) → network table ≡ refusal number place → P (refused number place))
    → P (refused 9 0)
    → ((place : ℕ) → P (refused 10 place))
    → ((net : Network) → Obeys net → horizon ≤ 16777215 → Faultless net arrivals → P (outcome (reached net arrivals room (suc horizon))))
    → P (run table horizon arrivals room)
unfolding run run_from allowed
by_run P table horizon arrivals room unread late faulty runs =
    by_reading (network table) (λ number place e. rw e (unread number place e))
    (λ net e.
    by_test (leb horizon 16777215)
    (λ soon.
    by_test (eqb (faulty_arrival net arrivals) (length arrivals))
    (λ none.
    rw (e, soon, none) (runs net (accepted table net e) (leb-true horizon 16777215 soon) (faultless_arrivals net arrivals none)))
    (λ some. rw (e, soon, some) (faulty (faulty_arrival net arrivals))))
    (λ past. rw (e, past) late))
