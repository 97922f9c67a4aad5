-- One port of a node: that it holds a token by its ring's length, and what is taken and found there. Assumes nothing.
use Prim.Native.Nat.{ℕ, suc, ◌≤◌, ◌<◌}
use native.Mathlib.Omega.{arith}
use mathlib.Core.Bool.{Bool, true, false, not, ◌&&◌}
use mathlib.Core.List.{List, [], ◌∷◌}
use mathlib.Core.Path.{◌≡◌, refl, ◌∙◌, ap, fun_ext}
use lib.Dec.{eqb, ltb}
use lib.ListN.{length, get_or}
use borrow.Author.Tests.{lt-ltb, le-ltb, eqb-true, eqb-false, ne_eqb, not-true}
use Rattle.rules.specs.Lists.{every, is_empty}
use Rattle.rules.proofs.ListLaws.{by_test, every_at}
use Rattle.layout.specs.Views.{Shape, Cells}
use Rattle.rings.specs.Rings.{Rings, Took, held_at, register_at, oldest_of}
use Rattle.arrays.specs.Taking.{port_of, all_hold, found, taken_at}
use Rattle.rings.proofs.RingLaws.{length_held}
use Rattle.rings.proofs.TookLaws.{took_none, took_ext}

empty_length : (l : List ℕ) → eqb (length l) 0 ≡ is_empty l
empty_length [] = refl
empty_length (t ∷ l) = ne_eqb (suc (length l)) 0 (λ e. omega arith)

-- the test of the lengths at a node's ports is that every one holds a token
pub lengths_hold : (s : Shape) (x : Cells) (input : List (List ℕ)) (n count : ℕ) → every count (λ p. not (eqb (get_or x.len (port_of input n p) 0) 0)) ≡ all_hold s x input n count
unfolding all_hold
lengths_hold s x input n count =
    ap (every count) (fun_ext (λ p. rw (← length_held s x (port_of input n p), empty_length)))

pub hold_length : (s : Shape) (x : Cells) (input : List (List ℕ)) (n count : ℕ) → all_hold s x input n count ≡ true → (p : ℕ) → p < count → 1 ≤ get_or x.len (port_of input n p) 0
hold_length s x input n count holds p below =
    let len : ℕ = get_or x.len (port_of input n p) 0 in
    let some = every_at count (λ q. not (eqb (get_or x.len (port_of input n q) 0) 0)) (lengths_hold s x input n count ∙ holds) p below in
    omega (arith, eqb-false len 0 (not-true (eqb len 0) some))

-- channel d is a queue at port p, and the node has such a port
abbrev pub queue_at : Shape → List (List ℕ) → ℕ → ℕ → ℕ → ℕ → Bool
queue_at s input n count p d = (ltb p count && eqb d (port_of input n p)) && not (register_at s d)

module _ (s : Shape) (x : Cells) (input : List (List ℕ)) (n count p : ℕ) where
  pub took_at_port : {y : Cells} → p < count → Took s x (λ d. eqb d (port_of input n p) && not (register_at s (port_of input n p))) y → Took s x (queue_at s input n count p) y
  took_at_port below t =
      took_ext t
      (λ d.
      rw (lt-ltb p count below)
      (by_test (eqb d (port_of input n p)) (λ e. rw (e, eqb-true d (port_of input n p) e)) (λ e. rw e)))

  pub found_there : p < count → oldest_of (held_at s x (port_of input n p)) ≡ found s x input n count p
  unfolding found
  found_there below = rw (lt-ltb p count below)

  pub found_behind : count ≤ p → 0 ≡ found s x input n count p
  unfolding found
  found_behind behind = rw (le-ltb p count behind)

-- where a port holds no token nothing is taken
pub took_lacking : {s : Shape} {x : Cells} (input : List (List ℕ)) (n count : ℕ) → Rings s x → all_hold s x input n count ≡ false → Took s x (taken_at s x input n count) x
took_lacking input n count rings lacks = took_ext (took_none rings) (λ d. rw lacks)
