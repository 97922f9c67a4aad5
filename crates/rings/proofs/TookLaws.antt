-- Takes one after another: nothing is taken, the same by another test, and first from some channels and then from others. Assumes
-- nothing.
use Prim.Native.Nat.{ℕ}
use mathlib.Core.Bool.{Bool, true, false, not, ◌&&◌, and-true, not-not}
use mathlib.Core.Path.{◌≡◌, refl, ◌∙◌, ap}
use lib.ListN.{drop}
use Rattle.rules.proofs.ListLaws.{by_test}
use Rattle.layout.specs.Views.{Shape, Cells}
use Rattle.rings.specs.Rings.{Rings, Took}

-- nothing is taken
pub took_none : {s : Shape} {x : Cells} → Rings s x → Took s x (λ c. false) x
took_none r = record { rings = r; same = refl; taken = λ c h. refl }

-- the same is taken by another test that agrees
pub took_ext : {s : Shape} {x y : Cells} {f g : ℕ → Bool} → Took s x f y → ((c : ℕ) → f c ≡ g c) → Took s x g y
took_ext t same = record { rings = t.rings; same = t.same; taken = λ c h. rw (← same c) (t.taken c h) }

-- taken from some channels, and then from others
pub took_then : {s : Shape} {x y z : Cells} {f g : ℕ → Bool} → Took s x f y → Took s y g z → ((c : ℕ) → g c ≡ true → f c ≡ false) → Took s x (λ c. not (not (f c) && not (g c))) z
took_then {s} {x} {y} {z} {f} {g} t u apart =
    record {
      rings = u.rings;
      same = u.same ∙ t.same;
      taken = λ c h.
          u.taken c h
          ∙ by_test (g c) (λ e. rw (e, apart c e) (ap (drop 1) (rw (apart c e) at (t.taken c h)))) (λ e. rw (e, and-true, not-not) (t.taken c h));
    }

-- one takes, or another, from a channel that is a queue
pub either_takes : (none mine queue : Bool) → not (not (not none && queue) && not (mine && queue)) ≡ (not (none && not mine) && queue)
either_takes true true true = refl
either_takes true true false = refl
either_takes true false queue = refl
either_takes false mine true = refl
either_takes false true false = refl
either_takes false false false = refl
