-- The next number with a property, and what a walk has written on its way: the value stands on each channel with the property that is
-- passed; at 64 all are. Assumes nothing.
use Prim.Native.Nat.{ℕ, suc, ◌≤◌, ◌<◌, min}
use native.Mathlib.Omega.{arith}
use mathlib.Core.Bool.{Bool, true, false, cond, ◌&&◌}
use mathlib.Core.List.{List, [], ◌++◌, append-nil}
use mathlib.Core.Path.{◌≡◌, refl, ◌∙◌, ap}
use lib.Dec.{eqb, leb, ltb}
use lib.ListN.{get_or}
use borrow.Author.Tests.{ltb-true, ltb-false, lt-ltb, le-leb, eqb-true, eqb-false, ne_eqb}
use Rattle.rules.specs.Lists.{lowest}
use Rattle.rules.proofs.ListLaws.{by_test, and_right, IsLowest, lowest_is}
use Rattle.layout.specs.Views.{Shape, Cells}
use Rattle.rings.specs.Rings.{Rings, Wrote, to_each}
use Rattle.arrays.specs.Writes.{next_from, Walk, Climbs, WroteWalk}
use Rattle.rings.proofs.WroteLaws.{wrote_none, wrote_then, wrote_ext}

-- of the numbers below n from k on, none below c has the property f; c has it, unless it is 64
pub record IsNext (n : ℕ) (f : ℕ → Bool) (k c : ℕ) : Type 0 where
  pub holds : c < 64 → f c ≡ true
  pub without : (i : ℕ) → k ≤ i → i < min c n → f i ≡ false

next_of_lowest : (n : ℕ) (f : ℕ → Bool) (k l : ℕ) → IsLowest n (λ i. leb k i && f i) l → IsNext n f k (cond (ltb l n) l 64)
next_of_lowest n f k l low =
    by_test (ltb l n)
    (λ e.
    rw e
    (record {
      holds = λ h. and_right (leb k l) (f l) (low.found (ltb-true l n e));
      without = λ i from under. rw (le-leb k i from) at (low.without i (omega arith));
    }))
    (λ e.
    rw e
    (record {
      holds = λ h. absurd (omega arith);
      without = λ i from under. rw (le-leb k i from) at (low.without i (omega (arith, ltb-false l n e)));
    }))

next_is : (n : ℕ) (f : ℕ → Bool) (k : ℕ) → IsNext n f k (next_from n f k)
unfolding next_from
next_is n f k = next_of_lowest n f k (lowest n (λ i. leb k i && f i)) (lowest_is n (λ i. leb k i && f i))

-- channel e has the property and is passed
abbrev pub passed : (ℕ → Bool) → ℕ → ℕ → Bool
passed mine c e = ltb e c && mine e

-- a walk has come to c: what it has written
pub record WalkedTo (s : Shape) (x : Cells) (follow : List ℕ) (first v c : ℕ) (y : Cells) (full : ℕ) : Type 0 where
  pub rings : Rings s y
  pub inside : c < 64 → c < s.channels
  pub stands : (mine : ℕ → Bool) → Walk s.channels follow first mine → c < 64 → mine c ≡ true
  pub wrote : (mine : ℕ → Bool) → Walk s.channels follow first mine → Wrote s x (to_each (passed mine c) v) y full

-- none is passed below the first, and between a channel and the next there is none
not_passed : (n : ℕ) (mine : ℕ → Bool) (k c d : ℕ) → IsNext n mine k c → k ≤ d → d < n → passed mine c d ≡ false
not_passed n mine k c d next from h =
    by_test (ltb d c) (λ e. rw e (next.without d from (omega (arith, ltb-true d c e)))) (λ e. rw e refl)

-- with the value on c, it stands on each that is passed at the next one
passed_turn : (n v : ℕ) (mine : ℕ → Bool) (c f d : ℕ) → c < f → mine c ≡ true → IsNext n mine (suc c) f → d < n → to_each (passed mine c) v d ++ to_each (λ e. eqb e c) v d ≡ to_each (passed mine f) v d
passed_turn n v mine c f d up stands next h =
    by_test (ltb d c)
    (λ e.
    let under : d < c = ltb-true d c e in
    let other : eqb d c ≡ false = ne_eqb d c (λ same. omega arith) in
    let low : ltb d f ≡ true = lt-ltb d f (omega arith) in
    rw (e, other, low) (append-nil (to_each mine v d)))
    (λ e.
    by_test (eqb d c)
    (λ g.
    let same : d ≡ c = eqb-true d c g in
    let low : ltb d f ≡ true = lt-ltb d f (omega arith) in
    let yours : mine d ≡ true = ap mine same ∙ stands in
    rw (e, g, low, yours))
    (λ g.
    let after : suc c ≤ d = omega (arith, ltb-false d c e, eqb-false d c g) in
    let behind : passed mine f d ≡ false = not_passed n mine (suc c) f d next after h in
    rw (e, g, behind)))

-- a walk begins at the next from 0 on, and goes on from each channel to the next behind it
pub starts_at : {n first : ℕ} {follow : List ℕ} (mine : ℕ → Bool) → Walk n follow first mine → IsNext n mine 0 first
starts_at {n} mine walk = rw walk.starts (next_is n mine 0)

pub goes_on_law : {n first : ℕ} {follow : List ℕ} (mine : ℕ → Bool) (c : ℕ) → Walk n follow first mine → c < n → mine c ≡ true → IsNext n mine (suc c) (get_or follow c 0)
goes_on_law {n} mine c walk h stands = rw (walk.goes_on c h stands) (next_is n mine (suc c))

module _ {s : Shape} {x : Cells} {follow : List ℕ} {first v : ℕ} (climbs : Climbs s.channels follow first) where
  pub walk_starts : Rings s x → WalkedTo s x follow first v first x s.channels
  walk_starts rings =
      record {
        rings = rings;
        inside = climbs.from;
        stands = λ mine walk. (starts_at mine walk).holds;
        wrote = λ mine walk.
            wrote_ext s x x (λ c. []) (to_each (passed mine first) v) s.channels
            (λ d h.
            let before : passed mine first d ≡ false = not_passed s.channels mine 0 first d (starts_at mine walk) (omega arith) h in
            rw before)
            (wrote_none s x rings);
      }

  pub walk_turn : {y z : Cells} {c full f lower : ℕ} → c < 64 → lower ≡ min full f → WalkedTo s x follow first v c y full → Wrote s y (to_each (λ d. eqb d c) v) z f → WalkedTo s x follow first v (get_or follow c 0) z lower
  walk_turn {y} {z} {c} {full} {f} h least to put =
      record {
        rings = put.rings;
        inside = climbs.stays c (to.inside h);
        stands = λ mine walk. (goes_on_law mine c walk (to.inside h) (to.stands mine walk h)).holds;
        wrote = λ mine walk.
            rw least
            (wrote_ext s x z (λ d. to_each (passed mine c) v d ++ to_each (λ e. eqb e c) v d) (to_each (passed mine (get_or follow c 0)) v)
            (min full f)
            (λ d below.
            passed_turn s.channels v mine c (get_or follow c 0) d (climbs.up c (to.inside h)) (to.stands mine walk h) (goes_on_law mine c walk (to.inside h) (to.stands mine walk h)) below)
            (wrote_then s x y z (to_each (passed mine c) v) (to_each (λ e. eqb e c) v) full f (to.wrote mine walk) put));
      }

  pub walk_ends : {y : Cells} {c full : ℕ} → 64 ≤ c → WalkedTo s x follow first v c y full → WroteWalk s x follow first v y full
  walk_ends {y} {c} {full} h to =
      record {
        rings = to.rings;
        wrote = λ mine walk.
            wrote_ext s x y (to_each (passed mine c) v) (to_each mine v) full
            (λ d below.
            let under : ltb d c ≡ true = lt-ltb d c (omega (arith, climbs.few)) in
            rw under)
            (to.wrote mine walk);
      }
