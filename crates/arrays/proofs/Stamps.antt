-- The arrivals in turn: each that is stamped now is written after those before it. Assumes nothing.
use Prim.Native.Nat.{ℕ, suc, ◌+◌, ◌-◌, ◌%◌, ◌^◌, ◌≤◌, ◌<◌, min}
use native.Mathlib.Omega.{arith}
use mathlib.Core.List.{List, ◌++◌}
use mathlib.Core.Path.{◌≡◌}
use lib.Dec.{eqb, ltb}
use lib.ListN.{length, get_or}
use borrow.Author.Tests.{ltb-true, ltb-false}
use Rattle.rules.specs.Instant.{channel_in, time_in}
use Rattle.rules.proofs.ListLaws.{by_test}
use Rattle.layout.specs.Views.{Shape, Cells}
use Rattle.rings.specs.Rings.{Rings, Wrote, to_each}
use Rattle.arrays.specs.Writes.{values_on}
use Rattle.std.proofs.lemmas.Cmp.{nat_eq_equiv}
use Rattle.rings.proofs.WroteLaws.{wrote_none, wrote_then, wrote_ext}

-- the arrivals from an index up to i are stamped t, and are written
pub record WrittenTo (s : Shape) (x : Cells) (arrivals : List ℕ) (from t : ℕ) (y : Cells) (i full : ℕ) : Type 0 where
  pub on : from ≤ i
  pub within : i ≤ length arrivals
  pub stamped : (j : ℕ) → from ≤ j → j < i → time_in (get_or arrivals j 0) ≡ t
  pub wrote : Wrote s x (values_on arrivals from (i - from)) y full

-- an arrival behind those from an index to i is one value more on its channel
one_more : (arrivals : List ℕ) (from i c v d : ℕ) → from ≤ i → c ≡ channel_in (get_or arrivals i 0) → v ≡ get_or arrivals i 0 % 2 ^ 32 → values_on arrivals from (i - from) d ++ to_each (λ e. eqb e c) v d ≡ values_on arrivals from (i + 1 - from) d
unfolding values_on
one_more arrivals from i c v d on channel value =
    let longer : i + 1 - from ≡ suc (i - from) = omega arith in
    let place : from + (i - from) ≡ i = omega arith in
    rw (longer, place, ← channel, ← value, nat_eq_equiv.symm c d)

module _ {s : Shape} {x : Cells} {arrivals : List ℕ} {from t : ℕ} where
  pub none_written : Rings s x → from ≤ length arrivals → WrittenTo s x arrivals from t x from s.channels
  unfolding values_on
  none_written rings within =
      record {
        on = omega arith;
        within = within;
        stamped = λ j low high. absurd (omega arith);
        wrote =
            let start : from - from ≡ 0 = omega arith in
            rw start (wrote_none s x rings);
      }

  pub stamp_turn : {y z : Cells} {i c v full f lower : ℕ} → i < length arrivals → time_in (get_or arrivals i 0) ≡ t → c ≡ channel_in (get_or arrivals i 0) → v ≡ get_or arrivals i 0 % 2 ^ 32 → lower ≡ min full f → WrittenTo s x arrivals from t y i full → Wrote s y (to_each (λ d. eqb d c) v) z f → WrittenTo s x arrivals from t z (i + 1) lower
  stamp_turn {y} {z} {i} {c} {v} {full} {f} below now channel value least before put =
      record {
        on = omega arith;
        within = omega arith;
        stamped = λ j low high.
            by_test (ltb j i) (λ e. before.stamped j low (ltb-true j i e))
            (λ e.
            let last : j ≡ i = omega (arith, ltb-false j i e) in
            rw last now);
        wrote =
            rw least
            (wrote_ext s x z (λ d. values_on arrivals from (i - from) d ++ to_each (λ e. eqb e c) v d)
            (values_on arrivals from (i + 1 - from)) (min full f)
            (λ d h. one_more arrivals from i c v d before.on channel value)
            (wrote_then s x y z (values_on arrivals from (i - from)) (to_each (λ e. eqb e c) v) full f before.wrote put));
      }
