-- A run told in one pass: how far it has come and what it has written on its first channels, at each instant from the one before. It tells
-- the histories, and is what the instances compute. Assumes nothing.
use Prim.Native.Nat.{ℕ, zero, suc}
use mathlib.Core.List.{List, [], ◌++◌}
use mathlib.Core.Path.{◌≡◌, refl}
use lib.ListN.{get_or}
use Rattle.rules.specs.Lists.{tab}
use Rattle.rules.specs.Network.{Network}
use Rattle.rules.specs.Instant.{at_start, Reached, running, Written}
use Rattle.rules.proofs.ListLaws.{get_or_tab, tab_ext}
use Rattle.theorems.specs.Turns.{Orders, onward_in_turn, reached_in_turn, adds_in_turn, history_in_turn}

pub record Told : Type 0 where
  pub come : Reached
  pub written : List (List Written)

module _ (net : Network) (arrivals : List ℕ) (orders : ℕ → Orders) (room first : ℕ) where
  -- one instant more
  unfoldable pub tell_on : ℕ → Told → Told
  tell_on t before =
      let next = onward_in_turn net arrivals (orders t) room t before.come in
      record {
        come = next;
        written = tab first (λ c. get_or before.written c [] ++ adds_in_turn net arrivals (orders t) t c before.come next);
      }

  -- what a run has come to before instant t
  unfoldable pub told : ℕ → Told
  told zero = record { come = running [] (at_start net); written = tab first (λ c. []) }
  told (suc t) = tell_on t (told t)

  pub told_come : (t : ℕ) → (told t).come ≡ reached_in_turn net arrivals orders room t
  unfolding told tell_on reached_in_turn
  told_come zero = refl
  told_come (suc t) = rw (told_come t)

  pub told_written : (t : ℕ) → (told t).written ≡ tab first (λ c. history_in_turn net arrivals orders room c t)
  unfolding told tell_on history_in_turn reached_in_turn
  told_written zero = refl
  told_written (suc t) =
      rw (told_come t, told_written t)
      (tab_ext first _ _ []
      (λ c below. rw (get_or_tab first (λ d. history_in_turn net arrivals orders room d t) c [] below)))
