-- A list laid out as an array, a default behind its last entry: the list, then the rest of an array of defaults. Assumes nothing.
use Prim.Native.Nat.{ℕ, ◌+◌, ◌-◌, ◌≤◌, ◌<◌}
use native.Mathlib.Omega.{arith}
use mathlib.Core.List.{List, ◌++◌}
use mathlib.Core.Path.{◌≡◌, refl, sym, ◌∙◌}
use lib.Dec.{ltb}
use lib.ListN.{length, get_or, drop, replicate, get_or-replicate}
use lib.Seq.{get_or-drop}
use borrow.Author.Tests.{ltb-true, ltb-false}
use Rattle.std.proofs.lemmas.List.{same_lists, get_or_append_left, get_or-append_right, get_or_default, get_or_past, length-append, length-drop, length-replicate}
use Rattle.rules.proofs.ListLaws.{by_test, length_tab, get_or_tab}
use Rattle.rules.specs.Lists.{tab}

pub laid_out : {A : Type 0} (d : A) (l : List A) (n : ℕ) → length l ≤ n → tab n (λ i. get_or l i d) ≡ l ++ drop (length l) (replicate n d)
laid_out d l n within =
    same_lists _ _ (simp (length_tab, length-append, length-drop, length-replicate) (omega arith))
    (λ i e h.
    let place : i < n = rw length_tab at h in
    get_or_tab n _ i e place
    ∙ by_test (ltb i (length l)) (λ t. get_or_default l i d e (ltb-true i _ t) ∙ sym (get_or_append_left l _ e i (ltb-true i _ t)))
    (λ t.
    let past : length l ≤ i = ltb-false i _ t in
    let rest : length l + (i - length l) ≡ i = omega arith in
    get_or_past l i d past
    ∙ sym (get_or-append_right l _ (length l) i e refl past ∙ get_or-drop (length l) (replicate n d) (i - length l) e ∙ rw rest (get_or-replicate n i d e place))))
