-- The arrivals of an instant: from the first arrival that is not stamped earlier up to the next one that is not stamped now stand exactly the
-- values that arrive. Assumes nothing.
use Prim.Native.Nat.{ℕ, zero, suc, ◌+◌, ◌-◌, ◌%◌, ◌^◌, ◌≤◌, ◌<◌}
use native.Mathlib.Nat.{add-zero, add-suc}
use native.Mathlib.Omega.{arith}
use mathlib.Core.Bool.{false, cond, ◌&&◌, or-true}
use mathlib.Core.List.{List, [], ◌∷◌, ◌++◌, map, map-append, append-nil}
use mathlib.Core.Path.{◌≡◌, refl, sym, ◌∙◌, ap, ap₂}
use lib.Dec.{eqb, ltb}
use lib.IntN.{ℤ}
use lib.ListN.{length, get_or, take, drop, length-drop, take-append-drop}
use lib.Seq.{length-take-le, take-suc, get_or-take, get_or-drop}
use borrow.Author.Tests.{ltb-true, ltb-false, eqb-false, eq-eqb, ne_eqb, lt-ltb}
use Rattle.rules.specs.Kinds.{signed}
use Rattle.rules.specs.Network.{Network}
use Rattle.rules.specs.Instant.{time_in, channel_in, value_in, arriving}
use Rattle.rules.specs.Refusals.{arrival_faulty}
use Rattle.rules.proofs.ListLaws.{by_test, true_or_false}
use Rattle.rules.proofs.Idle.{nothing_arrives_at}
use Rattle.rules.proofs.Arrivals.{Faultless}
use Rattle.layout.specs.Views.{Shape, Cells}
use Rattle.arrays.specs.Writes.{values_on, WroteArrivals}
use Rattle.arrays.specs.Represents.{Cursor}

arriving_append : (a b : List ℕ) (t c : ℕ) → arriving (a ++ b) t c ≡ arriving a t c ++ arriving b t c
unfolding arriving
arriving_append [] b t c = refl
arriving_append (w ∷ ws) b t c =
    by_test (eqb (time_in w) t && eqb (channel_in w) c)
    (λ e. rw e (ap (λ (l : List ℤ). value_in w ∷ l) (arriving_append ws b t c)))
    (λ e. rw e (arriving_append ws b t c))

-- one arrival that is stamped t
arriving_one : (w t c : ℕ) → time_in w ≡ t → arriving (w ∷ []) t c ≡ map signed (cond (eqb (channel_in w) c) (w % 2 ^ 32 ∷ []) [])
unfolding arriving
arriving_one w t c now =
    by_test (eqb (channel_in w) c) (λ e. rw (eq-eqb (time_in w) t now, e)) (λ e. rw (eq-eqb (time_in w) t now, e))

module _ (arrivals : List ℕ) (from t c : ℕ) (cursor : Cursor arrivals from t) where
  -- nothing of what has passed
  arriving_passed : arriving (take from arrivals) t c ≡ []
  arriving_passed =
      nothing_arrives_at (take from arrivals) t c
      (λ i h.
      let below : i < from = rw (length-take-le from arrivals cursor.within) at h in
      let before : time_in (get_or arrivals i 0) < t = cursor.passed i below in
      rw (get_or-take from arrivals i 0 below) (ne_eqb (time_in (get_or arrivals i 0)) t (λ e. omega arith)))

  -- the next k arrivals, where they are stamped t
  arriving_next : (k : ℕ) → from + k ≤ length arrivals → ((i : ℕ) → from ≤ i → i < from + k → time_in (get_or arrivals i 0) ≡ t)
      → arriving (take (from + k) arrivals) t c ≡ map signed (values_on arrivals from k c)
  unfolding values_on
  arriving_next zero within stamped = rw add-zero arriving_passed
  arriving_next (suc k) within stamped =
      let there : from + k < length arrivals = omega arith in
      let before : arriving (take (from + k) arrivals) t c ≡ map signed (values_on arrivals from k c) =
      arriving_next k (omega arith) (λ i low high. stamped i low (omega arith)) in
      let w = get_or arrivals (from + k) 0 in
      let now : time_in w ≡ t = stamped (from + k) (omega arith) (omega arith) in
      ap (λ (j : ℕ). arriving (take j arrivals) t c) (add-suc from k)
      ∙ ap (λ (l : List ℕ). arriving l t c) (take-suc arrivals (from + k) 0 there)
      ∙ arriving_append (take (from + k) arrivals) (w ∷ []) t c
      ∙ ap₂ ◌++◌ before (arriving_one w t c now)
      ∙ sym (map-append signed (values_on arrivals from k c) (cond (eqb (channel_in w) c) (w % 2 ^ 32 ∷ []) []))

-- an arrival is not earlier than the one before
pub in_order : (net : Network) (arrivals : List ℕ) (i : ℕ) → arrival_faulty net arrivals (suc i) ≡ false → time_in (get_or arrivals i 0) ≤ time_in (get_or arrivals (suc i) 0)
unfolding arrival_faulty
in_order net arrivals i h =
    let back : suc i - 1 ≡ i = omega arith in
    by_test (ltb (time_in (get_or arrivals (suc i) 0)) (time_in (get_or arrivals i 0)))
    (λ e. true_or_false refl (simp (back, lt-ltb 0 (suc i) (omega arith), e, or-true) at h))
    (λ e. ltb-false _ _ e)

module _ (net : Network) (arrivals : List ℕ) (s : Shape) (y z : Cells) (from t next g : ℕ) (faultless : Faultless net arrivals) (cursor : Cursor arrivals from t) (arrived : WroteArrivals s y arrivals from t z next g) where
  -- the arrivals from the next one on are stamped later
  pub stamped_later : (k : ℕ) → next + k < length arrivals → t < time_in (get_or arrivals (next + k) 0)
  stamped_later zero h =
      let there : next < length arrivals = omega arith in
      let other = eqb-false (time_in (get_or arrivals next 0)) t (arrived.stops there) in
      let ahead = cursor.ahead next arrived.on there in
      rw add-zero (by_test (ltb t (time_in (get_or arrivals next 0))) (λ e. ltb-true t _ e)
      (λ e. absurd (other (omega (arith, ltb-false t (time_in (get_or arrivals next 0)) e)))))
  stamped_later (suc k) h =
      let there : suc (next + k) < length arrivals = omega arith in
      let before : t < time_in (get_or arrivals (next + k) 0) = stamped_later k (omega arith) in
      let order = in_order net arrivals (next + k) (faultless (suc (next + k)) there) in
      rw add-suc (omega arith)

  pub arrived_values : (c : ℕ) → map signed (values_on arrivals from (next - from) c) ≡ arriving arrivals t c
  arrived_values c =
      let whole : from + (next - from) ≡ next = omega (arith, arrived.on) in
      let first : arriving (take next arrivals) t c ≡ map signed (values_on arrivals from (next - from) c) =
      rw whole at (arriving_next arrivals from t c cursor (next - from) (omega (arith, arrived.within)) (λ i low high. arrived.stamped i low (omega arith))) in
      let rest : arriving (drop next arrivals) t c ≡ [] =
      nothing_arrives_at (drop next arrivals) t c
      (λ i h.
      let below : next + i < length arrivals = omega (arith, length-drop next arrivals) in
      let later = stamped_later i below in
      rw (get_or-drop next arrivals i 0) (ne_eqb (time_in (get_or arrivals (next + i) 0)) t (λ e. omega arith))) in
      sym
      (ap (λ (l : List ℕ). arriving l t c) (sym (take-append-drop next arrivals))
      ∙ arriving_append (take next arrivals) (drop next arrivals) t c
      ∙ ap₂ ◌++◌ first rest
      ∙ append-nil (map signed (values_on arrivals from (next - from) c)))
