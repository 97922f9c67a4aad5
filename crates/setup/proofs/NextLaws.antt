-- The next number with a property from k on: none behind the last, k itself where it has the property, and else the next one behind it.
-- Assumes nothing.
use Prim.Native.Nat.{ℕ, suc, ◌≤◌, ◌<◌}
use native.Mathlib.Omega.{arith}
use mathlib.Core.Bool.{Bool, true, false, cond, ◌&&◌}
use mathlib.Core.Path.{◌≡◌, ◌∙◌, ap}
use lib.Dec.{leb, ltb}
use borrow.Author.Tests.{lt-ltb, le-ltb, le-leb, lt-leb, leb-true, leb-false}
use Rattle.rules.specs.Lists.{lowest}
use Rattle.rules.proofs.ListLaws.{by_test, and_both, lowest_only, lowest_none}
use Rattle.arrays.specs.Writes.{next_from}

pub next_none : (n : ℕ) (f : ℕ → Bool) (k : ℕ) → n ≤ k → next_from n f k ≡ 64
unfolding next_from
next_none n f k h =
    let none : lowest n (λ i. leb k i && f i) ≡ n = lowest_none n (λ i. leb k i && f i) (λ i under. rw (lt-leb k i (omega arith))) in
    rw (none, le-ltb n n (omega arith))

pub next_here : (n : ℕ) (f : ℕ → Bool) (k : ℕ) → k < n → f k ≡ true → next_from n f k ≡ k
unfolding next_from
next_here n f k h holds =
    let here : lowest n (λ i. leb k i && f i) ≡ k
    = lowest_only
    (record {
      most = omega arith;
      without = λ i under. rw (lt-leb k i (omega arith));
      found = λ below. and_both (le-leb k k (omega arith)) holds;
    }) in
    rw (here, lt-ltb k n h)

-- where k has not the property, it is the same from k on and from behind k on
from_behind : (f : ℕ → Bool) (k : ℕ) → f k ≡ false → (i : ℕ) → (leb k i && f i) ≡ (leb (suc k) i && f i)
from_behind f k fails i =
    by_test (leb (suc k) i) (λ e. rw (e, le-leb k i (omega (arith, leb-true (suc k) i e))))
    (λ e.
    by_test (leb k i)
    (λ g.
    let same : i ≡ k = omega (arith, leb-false (suc k) i e, leb-true k i g) in
    rw (e, g) (ap f same ∙ fails))
    (λ g. rw (e, g)))

pub next_behind : (n : ℕ) (f : ℕ → Bool) (k : ℕ) → f k ≡ false → next_from n f k ≡ next_from n f (suc k)
unfolding next_from
next_behind n f k fails =
    ap (λ (g : ℕ → Bool). cond (ltb (lowest n g) n) (lowest n g) 64) (λ j i. from_behind f k fails i j)
