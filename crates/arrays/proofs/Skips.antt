-- From an instant to the next one at which something happens: nothing happens between, and the arrays stand for the state there too.
-- Assumes nothing.
use Prim.Native.Nat.{ℕ, zero, suc, ◌+◌, ◌-◌, ◌≤◌, ◌<◌, ◌^◌}
use native.Mathlib.Nat.{add-zero, add-suc, le_refl}
use native.Mathlib.Omega.{arith}
use mathlib.Core.Bool.{false}
use mathlib.Core.List.{List}
use mathlib.Core.Path.{◌≡◌}
use lib.Dec.{eqb, ltb}
use lib.ListN.{length, get_or}
use borrow.Author.Tests.{ltb-true, ltb-false, lt-ltb, ne_eqb}
use Rattle.rules.specs.Network.{Network}
use Rattle.rules.specs.Instant.{State, time_in}
use Rattle.rules.proofs.ListLaws.{by_test}
use Rattle.rules.proofs.Sound.{Sound, Idle}
use Rattle.rules.proofs.Arrivals.{Faultless}
use Rattle.layout.specs.Views.{Shape, Cells, Pendings}
use Rattle.arrays.specs.Writes.{WroteArrivals, arrival_at}
use Rattle.arrays.specs.Nodes.{soonest}
use Rattle.arrays.specs.Represents.{Represents, Cursor}
use Rattle.arrays.proofs.ArrivingLaws.{in_order, stamped_later}
use Rattle.arrays.proofs.SoonLaws.{soonest_given, soonest_at, soonest_from, node_later, none_due_law, none_released_law, represents_later}

pub record Skipped (net : Network) (arrivals : List ℕ) (s : Shape) (from t soon : ℕ) (st : State) (x : Cells) (p : Pendings) : Type 0 where
  pub later : t ≤ soon
  pub idle : (i : ℕ) → t ≤ i → i < soon → Idle net arrivals i st
  pub represents : Represents net s soon st x p
  pub cursor : Cursor arrivals from soon

-- no arrival is earlier than one before it
not_earlier : (net : Network) (arrivals : List ℕ) → Faultless net arrivals
    → (i k : ℕ) → i + k < length arrivals → time_in (get_or arrivals i 0) ≤ time_in (get_or arrivals (i + k) 0)
not_earlier net arrivals faultless i zero h = rw add-zero (le_refl (time_in (get_or arrivals i 0)))
not_earlier net arrivals faultless i (suc k) h =
    let there : suc (i + k) < length arrivals = omega arith in
    let before : time_in (get_or arrivals i 0) ≤ time_in (get_or arrivals (i + k) 0) = not_earlier net arrivals faultless i k (omega arith) in
    let order = in_order net arrivals (i + k) (faultless (suc (i + k)) there) in
    rw add-suc (omega arith)

arrival_later : (arrivals : List ℕ) (from t : ℕ) → Cursor arrivals from t → t ≤ 2 ^ 24 → t ≤ arrival_at arrivals from
arrival_later arrivals from t cursor early =
    by_test (ltb from (length arrivals))
    (λ e. rw e (cursor.ahead from (le_refl from) (ltb-true from (length arrivals) e)))
    (λ e. rw e (omega arith))

module _ (net : Network) (arrivals : List ℕ) (from t : ℕ) (faultless : Faultless net arrivals) (cursor : Cursor arrivals from t) where
  -- the cursor stands up to the arrival at it
  cursor_later : (later : ℕ) → t ≤ later → later ≤ arrival_at arrivals from → Cursor arrivals from later
  cursor_later later up before =
      record {
        within = cursor.within;
        passed = λ i h. omega (arith, cursor.passed i h);
        ahead = λ i h below.
            let there : from < length arrivals = omega arith in
            let at : later ≤ time_in (get_or arrivals from 0) = rw (lt-ltb from (length arrivals) there) at before in
            let whole : from + (i - from) ≡ i = omega arith in
            let order : time_in (get_or arrivals from 0) ≤ time_in (get_or arrivals i 0) =
            rw whole at (not_earlier net arrivals faultless from (i - from) (omega arith)) in
            omega arith;
      }

  -- no arrival stands between
  no_arrival_law : (i : ℕ) → t ≤ i → i < arrival_at arrivals from → (j : ℕ) → j < length arrivals → eqb (time_in (get_or arrivals j 0)) i ≡ false
  no_arrival_law i up before j h =
      let next = cursor_later (suc i) (omega arith) before in
      by_test (ltb j from)
      (λ e.
      let passed = cursor.passed j (ltb-true j from e) in
      ne_eqb (time_in (get_or arrivals j 0)) i (λ same. omega arith))
      (λ e.
      let ahead = next.ahead j (ltb-false j from e) h in
      ne_eqb (time_in (get_or arrivals j 0)) i (λ same. omega arith))

-- t is the instant that follows one whose arrivals are all passed
pub skips :
    (net : Network) (arrivals : List ℕ) (s : Shape) (from t : ℕ) (st : State) (x : Cells) (p : Pendings)
    → Faultless net arrivals
    → t ≤ 2 ^ 24
    → Sound net t st
    → Represents net s t st x p
    → Cursor arrivals from t
    → Skipped net arrivals s from t (soonest p (arrival_at arrivals from) (length net.nodes)) st x p
skips net arrivals s from t st x p faultless early sound rep cursor =
    let arrival = arrival_at arrivals from in
    let soon = soonest p arrival (length net.nodes) in
    let given : soon ≤ arrival = soonest_given p arrival (length net.nodes) in
    let each = soonest_at p arrival (length net.nodes) in
    let later : t ≤ soon =
    soonest_from p arrival t (length net.nodes) (arrival_later arrivals from t cursor early) (node_later net s t st x p sound rep early) in
    record {
      later = later;
      idle = λ i up before.
          record {
            none_due = none_due_law net s t st x p sound rep i (λ n below. omega (arith, each n below));
            none_released = none_released_law net s t st x p rep i up (λ n below. omega (arith, each n below));
            no_arrival = no_arrival_law net arrivals from t faultless cursor i up (omega arith);
          };
      represents = represents_later net s t st x p rep soon later each;
      cursor = cursor_later net arrivals from t faultless cursor soon later given;
    }

-- the cursor behind an instant's arrivals
pub cursor_on : (net : Network) (arrivals : List ℕ) (s : Shape) (x y : Cells) (from t next full : ℕ) → Faultless net arrivals → Cursor arrivals from t → WroteArrivals s x arrivals from t y next full → Cursor arrivals next (suc t)
cursor_on net arrivals s x y from t next full faultless cursor arrived =
    record {
      within = arrived.within;
      passed = λ i h.
          by_test (ltb i from) (λ e. omega (arith, cursor.passed i (ltb-true i from e)))
          (λ e. omega (arith, arrived.stamped i (ltb-false i from e) h));
      ahead = λ i h below.
          let whole : next + (i - next) ≡ i = omega arith in
          rw whole at (stamped_later net arrivals s x y from t next full faultless cursor arrived (i - next) (omega arith));
    }
