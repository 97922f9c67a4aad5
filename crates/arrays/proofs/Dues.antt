-- The results of the nodes in turn: one that is due is written after those before it, and one that is not leaves all as it is.
-- Assumes nothing.
use Prim.Native.Nat.{ℕ, suc, ◌+◌, min}
use native.Mathlib.Numerals.{add-one}
use native.Mathlib.Omega.{arith}
use mathlib.Core.List.{List, ◌++◌, append-nil}
use mathlib.Core.Path.{◌≡◌, sym}
use lib.ListN.{get_or}
use borrow.Author.Tests.{eq-eqb, ne_eqb}
use Rattle.layout.specs.Views.{Shape, Cells}
use Rattle.rings.specs.Rings.{Rings, to_each}
use Rattle.arrays.specs.Writes.{due_below, WroteWalk, WroteDue}
use Rattle.rings.proofs.WroteLaws.{wrote_none, wrote_then, wrote_ext}

module _ {s : Shape} {x : Cells} {t : ℕ} {due value first follow : List ℕ} where
  pub none_due_law : Rings s x → WroteDue s x 0 t due value first follow x s.channels
  unfolding due_below
  none_due_law rings = record { rings = rings; wrote = λ mine walks. wrote_none s x rings }

  pub due_turn : {y z : Cells} {n full f lower : ℕ} → get_or due n 0 ≡ t → lower ≡ min full f → WroteDue s x n t due value first follow y full → WroteWalk s y follow (get_or first n 0) (get_or value n 0) z f → WroteDue s x (n + 1) t due value first follow z lower
  unfolding due_below
  due_turn {y} {z} {n} {full} {f} now least before written =
      rw (add-one, least)
      (record {
        rings = written.rings;
        wrote = λ mine walks.
            wrote_ext s x z (λ c. due_below n t due value mine c ++ to_each (mine n) (get_or value n 0) c) (due_below (suc n) t due value mine)
            (min full f) (λ c h. rw (eq-eqb (get_or due n 0) t now))
            (wrote_then s x y z (due_below n t due value mine) (to_each (mine n) (get_or value n 0)) full f (before.wrote mine (λ m h. walks m (omega arith))) (written.wrote (mine n) (walks n (omega arith))));
      })

  pub due_skip : {y : Cells} {n full : ℕ} → (get_or due n 0 ≡ t → ⊥) → WroteDue s x n t due value first follow y full → WroteDue s x (n + 1) t due value first follow y full
  unfolding due_below
  due_skip {y} {n} {full} other before =
      rw add-one
      (record {
        rings = before.rings;
        wrote = λ mine walks.
            wrote_ext s x y (due_below n t due value mine) (due_below (suc n) t due value mine) full
            (λ c h. rw (ne_eqb (get_or due n 0) t other) (sym (append-nil (due_below n t due value mine c))))
            (before.wrote mine (λ m h. walks m (omega arith)));
      })
