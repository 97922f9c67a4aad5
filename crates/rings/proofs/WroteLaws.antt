-- Laws of writes: writing nothing, one write after another as one write, and that only what is written to the channels counts.
-- Assumes nothing.
use Prim.Native.Nat.{ℕ, zero, suc, ◌+◌, ◌≤◌, ◌<◌, min}
use native.Mathlib.Omega.{arith}
use mathlib.Core.Bool.{Bool, true, false, cond, not, and-false}
use mathlib.Core.List.{List, [], ◌∷◌, ◌++◌, append_assoc, append-nil}
use mathlib.Core.Path.{◌≡◌, refl, sym, ◌∙◌, ap, ap₂}
use lib.Dec.{ltb}
use lib.ListN.{length, take, length-append}
use lib.Seq.{take_all}
use borrow.Author.Tests.{ltb-true, ltb-false, lt-ltb, le-ltb}
use Rattle.rules.specs.Lists.{last_of, lowest}
use Rattle.rules.proofs.LongerLists.{last_of_one}
use Rattle.rules.proofs.ListLaws.{by_test, lowest_is, lowest_only, lowest_none}
use Rattle.layout.specs.Views.{Shape, Cells}
use Rattle.rings.specs.Rings.{Rings, Wrote, held_at, kept, over, register_at, capacity_of}
use Rattle.rings.proofs.RingLaws.{length_held}
use Rattle.rules.proofs.Agreeing.{lowest_ext}

-- what is cut off before more is added is cut off after it too
take_twice : (n : ℕ) (l more : List ℕ) → take n (take n l ++ more) ≡ take n (l ++ more)
take_twice zero l more = refl
take_twice (suc n) [] more = refl
take_twice (suc n) (x ∷ xs) more = ap (λ (r : List ℕ). x ∷ r) (take_twice n xs more)

last_twice : (l more : List ℕ) → last_of (last_of l ++ more) ≡ last_of (l ++ more)
unfolding last_of
last_twice [] more = refl
last_twice (x ∷ []) more = refl
last_twice (x ∷ y ∷ ys) more = last_twice (y ∷ ys) more

-- what a channel keeps of two writes, one after the other
kept_twice : (s : Shape) (c : ℕ) (old new more : List ℕ) → kept s c (kept s c old new) more ≡ kept s c old (new ++ more)
unfolding kept
kept_twice s c old new more =
    by_test (register_at s c) (λ e. rw (e, last_twice (old ++ new) more, append_assoc))
    (λ e. rw (e, take_twice (capacity_of s c) (old ++ new) more, append_assoc))

-- two writes go over where one of them does
over_twice : (s : Shape) (c : ℕ) (old new more : List ℕ) → over s c old (new ++ more) ≡ cond (over s c old new) true (over s c (kept s c old new) more)
unfolding over kept
over_twice s c old new more =
    by_test (register_at s c) (λ e. rw e)
    (λ e.
    by_test (ltb (capacity_of s c) (length (old ++ new)))
    (λ t.
    let long : capacity_of s c < length old + length new = rw length-append at (ltb-true (capacity_of s c) (length (old ++ new)) t) in
    rw (e, t) (lt-ltb (capacity_of s c) (length (old ++ (new ++ more))) (simp length-append (omega arith))))
    (λ t.
    let all : take (capacity_of s c) (old ++ new) ≡ old ++ new = take_all (capacity_of s c) (old ++ new) (ltb-false (capacity_of s c) (length (old ++ new)) t) in
    rw (e, t) (simp (all, append_assoc))))

-- what a channel holds, with nothing new
pub kept_none : (s : Shape) (x : Cells) (c : ℕ) → Rings s x → c < s.channels → kept s c (held_at s x c) [] ≡ held_at s x c
unfolding kept
kept_none s x c rings h =
    by_test (register_at s c)
    (λ e. rw (e, append-nil) (last_of_one (held_at s x c) (length_held s x c ∙ rings.one c h e)))
    (λ e. rw (e, append-nil) (take_all (capacity_of s c) (held_at s x c) (rw length_held (rings.len_in c h))))

pub over_none : (s : Shape) (x : Cells) (c : ℕ) → Rings s x → c < s.channels → over s c (held_at s x c) [] ≡ false
unfolding over
over_none s x c rings h =
    let within : length (held_at s x c) ≤ capacity_of s c = rw length_held (rings.len_in c h) in
    rw (append-nil, le-ltb (capacity_of s c) (length (held_at s x c)) within) (and-false (not (register_at s c)))

-- the lowest number with one of two properties
lowest_either : (n : ℕ) (f g either : ℕ → Bool) → ((i : ℕ) → i < n → either i ≡ cond (f i) true (g i)) → min (lowest n f) (lowest n g) ≡ lowest n either
lowest_either n f g either same =
    let a = lowest_is n f in
    let b = lowest_is n g in
    sym
    (lowest_only (record {
      most = omega (arith, a.most);
      without = λ i h. same i (omega (arith, a.most)) ∙ rw (a.without i (omega arith), b.without i (omega arith));
      found = λ h.
          same (min (lowest n f) (lowest n g)) h
          ∙ by_test (ltb (lowest n g) (lowest n f))
          (λ e.
          let less : lowest n g < lowest n f = ltb-true (lowest n g) (lowest n f) e in
          let second : min (lowest n f) (lowest n g) ≡ lowest n g = omega arith in
          rw (second, a.without (lowest n g) less) (b.found (omega arith)))
          (λ e.
          let first : min (lowest n f) (lowest n g) ≡ lowest n f = omega (arith, ltb-false (lowest n g) (lowest n f) e) in
          rw (first, a.found (omega arith)));
    }))

pub wrote_none : (s : Shape) (x : Cells) → Rings s x → Wrote s x (λ c. []) x s.channels
wrote_none s x rings =
    record {
      rings = rings;
      heads = refl;
      keeps = λ c h. sym (kept_none s x c rings h);
      lowest_full = sym (lowest_none s.channels _ (λ c h. over_none s x c rings h));
    }

pub wrote_then : (s : Shape) (x y z : Cells) (new more : ℕ → List ℕ) (f g : ℕ) → Wrote s x new y f → Wrote s y more z g → Wrote s x (λ c. new c ++ more c) z (min f g)
wrote_then s x y z new more f g a b =
    record {
      rings = b.rings;
      heads = b.heads ∙ a.heads;
      keeps = λ c h. b.keeps c h ∙ ap (λ (l : List ℕ). kept s c l (more c)) (a.keeps c h) ∙ kept_twice s c (held_at s x c) (new c) (more c);
      lowest_full =
          ap₂ min a.lowest_full b.lowest_full
          ∙ lowest_either s.channels _ _ _
          (λ c h. over_twice s c (held_at s x c) (new c) (more c) ∙ ap (λ (l : List ℕ). cond (over s c (held_at s x c) (new c)) true (over s c l (more c))) (sym (a.keeps c h)));
    }

pub wrote_ext : (s : Shape) (x y : Cells) (new more : ℕ → List ℕ) (f : ℕ) → ((c : ℕ) → c < s.channels → new c ≡ more c) → Wrote s x new y f → Wrote s x more y f
wrote_ext s x y new more f same a =
    record {
      rings = a.rings;
      heads = a.heads;
      keeps = λ c h. a.keeps c h ∙ ap (kept s c (held_at s x c)) (same c h);
      lowest_full = a.lowest_full ∙ lowest_ext s.channels _ _ (λ c h. ap (over s c (held_at s x c)) (same c h));
    }
