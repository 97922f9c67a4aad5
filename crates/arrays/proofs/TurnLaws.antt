-- What a node's turn to read stores is what it should: its state after a release, its result written, or nothing. Assumes nothing.
use Prim.Native.Nat.{ℕ, ◌<◌, min}
use native.Mathlib.Omega.{arith}
use mathlib.Core.Bool.{true, false, not, ◌&&◌}
use mathlib.Core.Path.{◌≡◌, ◌∙◌}
use lib.Dec.{eqb}
use lib.ListN.{get_or, set, length-set}
use lib.Seq.{get_or-set_same, get_or-set_other, set-get_or}
use borrow.Author.Tests.{eq-eqb, ne_eqb, eqb-false}
use Rattle.layout.specs.Views.{Shape, Cells, Wires, Pendings, pendings}
use Rattle.rings.specs.Rings.{Rings, Took, register_at}
use Rattle.kinds.specs.Nodes.{never, waiting_by, Seen}
use Rattle.arrays.specs.Taking.{at_port}
use Rattle.arrays.specs.Nodes.{pending_at, inputs_at, released_at, ahead_at, waiting_then, result_at, next_then, soon_at, Sized, Released, Turned}
use Rattle.rings.proofs.TookLaws.{took_none}

-- the pendings with node n's replaced
abbrev pub stored : Pendings → ℕ → Seen → Pendings
stored p n a = pendings (set p.next n a.next) (set p.due n a.due) (set p.value n a.value)

pub stored_same : (p : Pendings) (n : ℕ) → stored p n (pending_at p n) ≡ p
stored_same p n = λ i.
    record { next = set-get_or p.next n 0 i; due = set-get_or p.due n 0 i; value = set-get_or p.value n 0 i }

module _ {w : Wires} {s : Shape} {x : Cells} {p : Pendings} {n : ℕ} (sized : Sized p) (few : n < 32) where
  -- what is stored for node n is what its turn makes of it
  turned : {t : ℕ} {y : Cells} (a : Seen) {m : ℕ} → Took s x (λ c. (ahead_at w s x p t n && at_port w.input n (inputs_at w n) c) && not (register_at s c)) y → waiting_by a.due a.value ≡ waiting_then w s x p t n → a.next ≡ next_then w p t n → m ≡ min a.next a.due → Turned w s x p t n y (stored p n a) m
  turned a took waits next soon =
      let at_next : get_or (set p.next n a.next) n 0 ≡ a.next = get_or-set_same p.next n a.next 0 (omega arith) in
      let at_due : get_or (set p.due n a.due) n 0 ≡ a.due = get_or-set_same p.due n a.due 0 (omega arith) in
      let at_value : get_or (set p.value n a.value) n 0 ≡ a.value = get_or-set_same p.value n a.value 0 (omega arith) in
      record {
        took = took;
        sized =
            record {
              nexts = length-set p.next n a.next ∙ sized.nexts;
              dues = length-set p.due n a.due ∙ sized.dues;
              values = length-set p.value n a.value ∙ sized.values;
            };
        waits = rw (at_due, at_value) waits;
        next = at_next ∙ next;
        others = λ k h.
            rw (get_or-set_other p.next n k a.next 0 (eqb-false k n h), get_or-set_other p.due n k a.due 0 (eqb-false k n h), get_or-set_other p.value n k a.value 0 (eqb-false k n h));
        soon = rw (at_next, at_due) soon;
      }

  -- node n is released, at its next release
  pub turned_released : {before : Seen} {y : Cells} {a : Seen} {m : ℕ} → before ≡ pending_at p n → Released w s x n before y a → m ≡ min a.next a.due → Turned w s x p before.next n y (stored p n a) m
  unfolding waiting_then result_at
  turned_released {before} {a} is r soon =
      let now : released_at p before.next n ≡ true = eq-eqb (get_or p.next n 0) before.next (rw is) in
      turned a (rw now r.took) (rw now r.waits) (rw now r.next) soon

  -- its result is written
  pub turned_due : {t : ℕ} {a : Seen} {m : ℕ} → Rings s x → (get_or p.next n 0 ≡ t → ⊥) → get_or p.due n 0 ≡ t → a ≡ record { next = get_or p.next n 0; due = never; value = get_or p.value n 0 } → m ≡ min a.next a.due → Turned w s x p t n x (pendings p.next (set p.due n a.due) p.value) m
  unfolding waiting_then
  turned_due {t} {a} rings later due written soon =
      let still : released_at p t n ≡ false = ne_eqb (get_or p.next n 0) t later in
      let now : eqb (get_or p.due n 0) t ≡ true = eq-eqb (get_or p.due n 0) t due in
      rw written
      (rw (set-get_or p.next n 0, set-get_or p.value n 0) at
      (turned {t = t} {y = x} (record { next = get_or p.next n 0; due = never; value = get_or p.value n 0 }) (rw still (took_none rings)) (rw (still, now)) (rw still) (rw written at soon)))

  -- nothing happens to it
  pub turned_idle : {t m : ℕ} → Rings s x → (get_or p.next n 0 ≡ t → ⊥) → (get_or p.due n 0 ≡ t → ⊥) → m ≡ soon_at p n → Turned w s x p t n x p m
  unfolding waiting_then
  turned_idle {t} rings later waiting soon =
      let still : released_at p t n ≡ false = ne_eqb (get_or p.next n 0) t later in
      let stays : eqb (get_or p.due n 0) t ≡ false = ne_eqb (get_or p.due n 0) t waiting in
      rw (stored_same p n) at
      (turned {t = t} {y = x} (pending_at p n) (rw still (took_none rings)) (rw (still, stays)) (rw still) soon)
