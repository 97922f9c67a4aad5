-- Turns one after another, over a single cell: a cell that its owner's turn alone changes is updated once where the owner stands in the
-- order once, from what it was at the start, and stays as it was where the owner does not stand there. Assumes nothing.
use Prim.Native.Nat.{ℕ, suc}
use native.Mathlib.Omega.{arith}
use mathlib.Core.Bool.{true, false}
use mathlib.Core.List.{List, [], ◌∷◌}
use mathlib.Core.Path.{◌≡◌, refl, ◌∙◌, sym}
use lib.Dec.{eqb}
use lib.ListN.{length}
use borrow.Author.Tests.{eqb-true}
use Rattle.rules.specs.Network.{Network}
use Rattle.rules.proofs.ListLaws.{by_test}
use Rattle.theorems.specs.Turns.{times, Turn, in_turn}

-- who stands first does not count again, and who does not stand first counts in what follows
times_first : (n m : ℕ) (ms : List ℕ) → eqb n m ≡ true → times n (m ∷ ms) ≡ suc (times n ms)
unfolding times
times_first n m ms e = rw e (omega arith)

times_later : (n m : ℕ) (ms : List ℕ) → eqb n m ≡ false → times n (m ∷ ms) ≡ times n ms
unfolding times
times_later n m ms e = rw e (omega arith)

-- an entry for each node and for each channel
pub record Sized (net : Network) (now : Turn) : Type 0 where
  pub nodes : length now.waiting ≡ length net.nodes
  pub channels : length now.held ≡ length net.channels

-- a kind of turn leaves an entry for each node and for each channel
abbrev pub Sizes : Network → (Turn → ℕ → Turn) → Type 0
Sizes net one = (now : Turn) (n : ℕ) → Sized net (one now n)

-- a cell, its owner, and what the owner's turn makes of it: another's turn changes neither the cell nor what the owner will make of it
pub record Cell {A : Type 0} (net : Network) (one : Turn → ℕ → Turn) (own : ℕ) (get made : Turn → A) : Type 0 where
  pub updates : (now : Turn) → get (one now own) ≡ made now
  pub leaves : (now : Turn) (n : ℕ) → eqb own n ≡ false → get (one now n) ≡ get now
  pub same : (now : Turn) (n : ℕ) → Sized net now → eqb own n ≡ false → made (one now n) ≡ made now

-- what no turn changes is not changed by all
pub unchanged : {A : Type 0} (one : Turn → ℕ → Turn) (get : Turn → A) → ((now : Turn) (n : ℕ) → get (one now n) ≡ get now)
    → (order : List ℕ) (now : Turn) → get (in_turn one now order) ≡ get now
unfolding in_turn
unchanged one get leaves [] now = refl
unchanged one get leaves (n ∷ ns) now = unchanged one get leaves ns (one now n) ∙ leaves now n

module _ (net : Network) (one : Turn → ℕ → Turn) (sizes : Sizes net one) where
  pub sized_after : (order : List ℕ) (now : Turn) → Sized net now → Sized net (in_turn one now order)
  unfolding in_turn
  sized_after [] now sized = sized
  sized_after (n ∷ ns) now sized = sized_after ns (one now n) (sizes now n)

module _ {A : Type 0} {net : Network} {one : Turn → ℕ → Turn} {own : ℕ} {get made : Turn → A} (cell : Cell net one own get made) where
  cell_kept : (order : List ℕ) (now : Turn) → times own order ≡ 0 → get (in_turn one now order) ≡ get now
  unfolding in_turn
  cell_kept [] now absent = refl
  cell_kept (n ∷ ns) now absent =
      by_test (eqb own n) (λ e. absurd (omega (arith, times_first own n ns e)))
      (λ e. cell_kept ns (one now n) (sym (times_later own n ns e) ∙ absent) ∙ cell.leaves now n e)

  pub cell_updated : Sizes net one → (order : List ℕ) (now : Turn) → Sized net now → times own order ≡ 1 → get (in_turn one now order) ≡ made now
  unfolding in_turn times
  cell_updated sizes [] now sized once = absurd (omega arith)
  cell_updated sizes (n ∷ ns) now sized once =
      by_test (eqb own n)
      (λ e.
      let rest : times own ns ≡ 0 = omega (arith, times_first own n ns e) in
      cell_kept ns (one now n) rest ∙ rw (← eqb-true own n e) (cell.updates now))
      (λ e.
      cell_updated sizes ns (one now n) (sizes now n) (sym (times_later own n ns e) ∙ once) ∙ cell.same now n sized e)
