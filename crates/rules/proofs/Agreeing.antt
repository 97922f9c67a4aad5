-- Properties that agree below a number have the same count, hold of every number or not, and have the same lowest number; one number
-- without a property is enough; and over a longer range a sum is no smaller and a count with one number more greater. Assumes nothing.
use Prim.Native.Nat.{ℕ, zero, suc, ◌≤◌, ◌<◌}
use native.Mathlib.Nat.{le_of_suc-le-suc}
use native.Mathlib.Omega.{arith}
use mathlib.Core.Bool.{Bool, true, false, cond, ◌&&◌}
use mathlib.Core.Path.{◌≡◌, refl, ap₂}
use lib.Dec.{ltb}
use borrow.Author.Tests.{ltb-true, ltb-false}
use Rattle.rules.specs.Lists.{total, count, every, lowest}
use Rattle.rules.proofs.ListLaws.{by_test, true_or_false, every_at, total_ext}

pub count_ext : (n : ℕ) (f g : ℕ → Bool) → ((i : ℕ) → i < n → f i ≡ g i) → count n f ≡ count n g
unfolding count
count_ext n f g same = total_ext n (λ i. cond (f i) 1 0) (λ i. cond (g i) 1 0) (λ i h. rw (same i h))

pub every_ext : (n : ℕ) (f g : ℕ → Bool) → ((i : ℕ) → i < n → f i ≡ g i) → every n f ≡ every n g
unfolding every
every_ext zero f g same = refl
every_ext (suc n) f g same = ap₂ ◌&&◌ (every_ext n f g (λ i h. same i (omega arith))) (same n (omega arith))

pub lowest_ext : (n : ℕ) (f g : ℕ → Bool) → ((i : ℕ) → i < n → f i ≡ g i) → lowest n f ≡ lowest n g
unfolding lowest
lowest_ext zero f g same = refl
lowest_ext (suc n) f g same = rw (lowest_ext n f g (λ i h. same i (omega arith)), same n (omega arith))

pub every_fails : (n : ℕ) (f : ℕ → Bool) (i : ℕ) → i < n → f i ≡ false → every n f ≡ false
every_fails n f i below fails =
    by_test (every n f) (λ e. true_or_false (every_at n f e i below) fails) (λ e. e)

pub total_longer : (n a : ℕ) (f : ℕ → ℕ) → a ≤ n → total a f ≤ total n f
unfolding total
total_longer zero a f h =
    let same : a ≡ 0 = omega arith in
    rw same (omega arith)
total_longer (suc n) a f h =
    by_test (ltb a (suc n)) (λ e. omega (arith, total_longer n a f (le_of_suc-le-suc (ltb-true a (suc n) e))))
    (λ e.
    let same : a ≡ suc n = omega (arith, ltb-false a (suc n) e) in
    rw same (omega arith))

pub count_more : (n a c : ℕ) (f : ℕ → Bool) → a ≤ c → c < n → f c ≡ true → count a f < count n f
unfolding count total
count_more n a c f front below found =
    let one : cond {A = ℕ} (f c) 1 0 ≡ 1 = rw found in
    let counted : ℕ → ℕ = λ i. cond (f i) 1 0 in
    omega (arith, total_longer c a counted front, total_longer n (suc c) counted below)
