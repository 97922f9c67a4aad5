-- Laws of one ring: how many tokens it gives, that a store elsewhere changes nothing of it, what a push adds and what a pop leaves.
-- Assumes nothing.
use Prim.Native.Nat.{ℕ, zero, suc, ◌+◌, ◌-◌, ◌≤◌, ◌<◌}
use native.Mathlib.Nat.{add-zero}
use native.Mathlib.Numerals.{add-one}
use native.Mathlib.Omega.{arith}
use mathlib.Core.List.{List, [], ◌∷◌, ◌++◌}
use mathlib.Core.Logic.{◌≢◌}
use mathlib.Core.Path.{◌≡◌, refl, sym, ◌∙◌, ap, ap₂}
use lib.Dec.{ltb}
use lib.ListN.{length, get_or, set}
use lib.Seq.{get_or-set_same, get_or-set_other}
use borrow.Author.Tests.{ltb-true, ltb-false}
use Rattle.rules.proofs.ListLaws.{by_test}
use Rattle.rings.specs.Rings.{wrapped, queue_of, held_at}
use Rattle.layout.specs.Views.{Shape, Cells}

-- by the two cases of a place: below the capacity, or the capacity too far on
wrapped_cases : {P : Type 0} (capacity x : ℕ) → (x < capacity → wrapped capacity x ≡ x → P) → (wrapped capacity x + capacity ≡ x → P) → P
unfolding wrapped
wrapped_cases capacity x low high =
    by_test (ltb x capacity) (λ e. low (ltb-true x capacity e) (rw e))
    (λ e.
    let past : capacity ≤ x = ltb-false x capacity e in
    high (rw e (omega arith)))

pub wrapped_below : (capacity x : ℕ) → x < capacity + capacity → wrapped capacity x < capacity
wrapped_below capacity x h = wrapped_cases capacity x (λ low e. omega arith) (λ e. omega arith)

pub wrapped_low : (capacity x : ℕ) → x < capacity → wrapped capacity x ≡ x
wrapped_low capacity x h = wrapped_cases capacity x (λ low e. e) (λ e. absurd (omega arith))

-- m places on from the next place are m + 1 places on
wrapped_next : (capacity head m : ℕ) → head < capacity → suc m < capacity → wrapped capacity (wrapped capacity (suc head) + m) ≡ wrapped capacity (head + suc m)
wrapped_next capacity head m h k =
    let next = wrapped capacity (suc head) in
    wrapped_cases capacity (suc head)
    (λ a b.
    let same : next + m ≡ head + suc m = omega arith in
    ap (wrapped capacity) same)
    (λ b.
    wrapped_cases capacity (head + suc m) (λ c d. absurd (omega arith))
    (λ d. wrapped_low capacity (next + m) (omega arith) ∙ omega arith))

-- the place behind m + 1 tokens is not the first one's
wrapped_other : (capacity head m : ℕ) → head < capacity → suc m < capacity → head ≢ wrapped capacity (head + suc m)
wrapped_other capacity head m h k =
    wrapped_cases capacity (head + suc m) (λ a b. omega arith) (λ b. omega arith)

pub length_queue : (tokens : List ℕ) (base capacity head n : ℕ) → length (queue_of tokens base capacity head n) ≡ n
unfolding queue_of
length_queue tokens base capacity head zero = refl
length_queue tokens base capacity head (suc n) = ap suc (length_queue tokens base capacity (wrapped capacity (suc head)) n)

-- a store at a place that is none of the ring's
pub queue_elsewhere : (tokens : List ℕ) (base capacity head n place v : ℕ) → head < capacity → ((j : ℕ) → j < capacity → base + j ≢ place)
    → queue_of (set tokens place v) base capacity head n ≡ queue_of tokens base capacity head n
unfolding queue_of
queue_elsewhere tokens base capacity head zero place v h away = refl
queue_elsewhere tokens base capacity head (suc n) place v h away =
    ap₂ ◌∷◌ (get_or-set_other tokens place (base + head) v 0 (away head h))
    (queue_elsewhere tokens base capacity (wrapped capacity (suc head)) n place v (wrapped_below capacity (suc head) (omega arith)) away)

-- a token stored behind the n of the ring comes last
pub queue_push : (tokens : List ℕ) (base capacity head n place v : ℕ) → head < capacity → n < capacity → base + capacity ≤ length tokens
    → place ≡ base + wrapped capacity (head + n)
    → queue_of (set tokens place v) base capacity head (suc n) ≡ queue_of tokens base capacity head n ++ (v ∷ [])
unfolding queue_of
queue_push tokens base capacity head zero place v h k there e =
    let here : base + head ≡ place = rw (e, add-zero, wrapped_low capacity head h) in
    ap (λ (x : ℕ). x ∷ []) (rw here (get_or-set_same tokens place v 0 (omega arith)))
queue_push tokens base capacity head (suc n) place v h k there e =
    ap₂ ◌∷◌
    (get_or-set_other tokens place (base + head) v 0 (λ same. wrapped_other capacity head n h k (omega arith)))
    (queue_push tokens base capacity (wrapped capacity (suc head)) n place v (wrapped_below capacity (suc head) (omega arith)) (omega arith) there
    (e ∙ ap (◌+◌ base) (sym (wrapped_next capacity head n h k))))

-- the tokens of a ring that holds some: the one at its head, and those from the next place on
pub queue_pop : (tokens : List ℕ) (base capacity head n : ℕ) → 1 ≤ n → queue_of tokens base capacity head n ≡ get_or tokens (base + head) 0 ∷ queue_of tokens base capacity (wrapped capacity (head + 1)) (n - 1)
unfolding queue_of
queue_pop tokens base capacity head zero h = absurd (omega arith)
queue_pop tokens base capacity head (suc n) h =
    let rest : suc n - 1 ≡ n = omega arith in
    rw (add-one, rest)

pub length_held : (s : Shape) (x : Cells) (c : ℕ) → length (held_at s x c) ≡ get_or x.len c 0
unfolding held_at
length_held s x c = length_queue _ _ _ _ _
