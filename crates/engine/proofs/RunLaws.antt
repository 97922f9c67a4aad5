-- How far a run over the instants at which something happens has come before one of them: at the start, what it takes to do the instant, how
-- far the run comes by it, and what the run comes to past the horizon. Assumes nothing.
use Prim.Native.Nat.{ℕ, suc, ◌-◌, ◌≤◌, ◌<◌, ◌^◌, zero-le}
use native.Mathlib.Omega.{arith}
use mathlib.Core.Bool.{true-or}
use mathlib.Core.List.{List, [], ◌++◌}
use mathlib.Core.Path.{◌≡◌, refl}
use lib.Dec.{ltb}
use lib.ListN.{length, get_or, drop, length-append, length-drop}
use borrow.Author.Tests.{ltb-true}
use Rattle.std.specs.Prelude.{Ok}
use Rattle.rules.specs.declared.End.{End}
use Rattle.rules.specs.Network.{Network, Obeys}
use Rattle.rules.specs.Instant.{State, channel_in, Step, instant, at_start, running, stepped, onward, reached}
use Rattle.rules.specs.Refusals.{arrival_faulty, outcome}
use Rattle.rules.proofs.ListLaws.{by_test, true_or_false}
use Rattle.rules.proofs.Reach.{sound}
use Rattle.rules.proofs.Arrivals.{Faultless}
use Rattle.layout.specs.declared.Plan.{Plan}
use Rattle.layout.specs.declared.State as layout
use Rattle.layout.specs.Views.{nodes_of, channels_of, shape_of, cells_of, pendings_of, soons_of}
use Rattle.arrays.specs.Nodes.{Paired}
use Rattle.arrays.specs.Represents.{Represents, Cursor}
use Rattle.arrays.specs.Instants.{AbleIn, Whole, Timely, OnChannels, BeforeIn}
use Rattle.arrays.proofs.SoonLaws.{node_later}
use Rattle.setup.specs.Starts.{Starts}
use Rattle.engine.specs.Runs.{RunOf, Startable}

-- a run of a network before instant t: it has stood still since the last instant done, its words are the first ones of the list, and the
-- state z stands for its state
pub record Progress (net : Network) (p : Plan) (horizon : ℕ) (arrivals before list : List ℕ) (z : layout.State) (t from count : ℕ) : Type 0 where
  pub words : List ℕ
  pub st : State
  pub done : ℕ
  pub ends : done ≤ suc horizon
  pub still : (i : ℕ) → done ≤ i → i ≤ t → reached net arrivals (length before) i ≡ running words st
  pub since : done ≤ t
  pub represents : Represents net (shape_of p) t st (cells_of z) (pendings_of z)
  pub cursor : Cursor arrivals from t
  pub whole : Whole p z
  pub paired : Paired (nodes_of p) (soons_of z) (pendings_of z)
  pub many : count ≡ length words
  pub fits : count ≤ length before
  pub listed : list ≡ words ++ drop count before

-- a network whose run a plan and a state are to do, up to a horizon and with these arrivals
pub record Runs (net : Network) (p : Plan) (s : layout.State) (horizon : ℕ) (arrivals : List ℕ) : Type 0 where
  pub obeys : Obeys net
  pub faultless : Faultless net arrivals
  pub starts : Starts net p s
  pub early : horizon < 2 ^ 24

pub runs_early : {net : Network} {p : Plan} {s : layout.State} {horizon : ℕ} {arrivals : List ℕ} → horizon < 2 ^ 24 → Obeys net → Faultless net arrivals → Starts net p s → Runs net p s horizon arrivals
runs_early early obeys faultless starts = record { obeys = obeys; faultless = faultless; starts = starts; early = early }

-- a plan and a state that can run do that of a network
pub startable_runs : {p : Plan} {s : layout.State} {horizon : ℕ} {arrivals : List ℕ} (pre : (horizon < 2 ^ 24) × Startable p s arrivals) → Runs pre.1.net p s horizon arrivals
startable_runs pre = runs_early pre.0 pre.1.obeys pre.1.faultless pre.1.starts

-- an arrival that is not faulty is on a channel
faultless_on : (net : Network) (arrivals : List ℕ) → Faultless net arrivals → OnChannels (length net.channels) arrivals
unfolding arrival_faulty
faultless_on net arrivals faultless i h =
    by_test (ltb (channel_in (get_or arrivals i 0)) (length net.channels)) (ltb-true (channel_in (get_or arrivals i 0)) (length net.channels))
    (λ e. true_or_false refl (simp (e, true-or) at (faultless i h)))

-- before the first instant
pub progress_start : {net : Network} {p : Plan} {s : layout.State} {horizon : ℕ} {arrivals : List ℕ} (before : List ℕ) → Runs net p s horizon arrivals
    → Progress net p horizon arrivals before before s 0 0 0
unfolding reached
progress_start {net} before runs =
    record {
      words = [];
      st = at_start net;
      done = 0;
      ends = zero-le;
      still = λ i low high.
          let none : i ≡ 0 = omega arith in
          rw none;
      since = zero-le;
      represents = runs.starts.represents;
      cursor = record { within = zero-le; passed = λ i h. absurd (omega arith); ahead = λ i low h. zero-le };
      whole = runs.starts.whole;
      paired = runs.starts.paired;
      many = refl;
      fits = zero-le;
      listed = refl;
    }

module _ {net : Network} {p : Plan} {horizon : ℕ} {arrivals before list : List ℕ} {z : layout.State} {t from count : ℕ}
    (so_far : Progress net p horizon arrivals before list z t from count) where
  pub same_room : length list ≡ length before
  same_room = rw (so_far.listed, length-append, length-drop) (omega (arith, so_far.many, so_far.fits))

  here : reached net arrivals (length before) t ≡ running so_far.words so_far.st
  here = so_far.still t so_far.since (omega arith)

  -- how far the run comes by the instant
  pub then_reached : (step : Step) → instant net arrivals (length list - count) t so_far.st ≡ step
      → reached net arrivals (length before) (suc t) ≡ stepped so_far.words t step
  unfolding reached onward
  then_reached step e = rw (here, ← same_room, ← so_far.many, e)

  -- past the horizon the run has ended
  pub run_ends : horizon < t → RunOf (outcome (reached net arrivals (length before) (suc horizon))) before list (Ok (record { count = count; end = End.Horizon }))
  run_ends past =
      let at : reached net arrivals (length before) (suc horizon) ≡ running so_far.words so_far.st = so_far.still (suc horizon) so_far.ends past in
      rw at (record { answer = rw so_far.many; list = rw (← so_far.many) so_far.listed })

  module _ {s : layout.State} (runs : Runs net p s horizon arrivals) where
    pub before_instant : t ≤ horizon → BeforeIn net arrivals p from t so_far.st z
    before_instant now =
        record {
          obeys = runs.obeys;
          faultless = runs.faultless;
          early = omega (arith, runs.early);
          sound = sound net arrivals (length before) t so_far.words so_far.st runs.obeys here;
          wired = runs.starts.planned.wired;
          represents = so_far.represents;
          cursor = so_far.cursor;
        }

    -- the instant can be done, with room for its words
    pub instant_can : t ≤ horizon → (room : List ℕ) → length room ≡ 64
        → (AbleIn p × Whole p z × Timely p z t × (length room ≡ 64)) × (OnChannels (channels_of p) arrivals × (from ≤ length arrivals) × (count ≤ length list))
    instant_can now room full =
        let before = before_instant now in (
          (
            runs.starts.planned.able,
            so_far.whole,
            record {
              early = before.early;
              paired = so_far.paired;
              ahead = λ n h. node_later net (shape_of p) t so_far.st (cells_of z) (pendings_of z) before.sound so_far.represents (omega (arith, before.early)) n (rw runs.starts.planned.nodes at h);
            },
            full,
          ),
          (
            rw runs.starts.planned.wired.channels (faultless_on net arrivals runs.faultless),
            so_far.cursor.within,
            omega (arith, same_room, so_far.fits),
          ),
        )
