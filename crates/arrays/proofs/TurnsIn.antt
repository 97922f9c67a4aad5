-- A node's turn to read on a plan and a state, by its three outcomes: what is stored is what the turn makes of it. Assumes nothing.
use Prim.Native.Nat.{ℕ, ◌^◌, ◌<◌, min}
use native.Mathlib.Omega.{arith}
use mathlib.Core.Path.{◌≡◌, refl, sym, ◌∙◌, ap}
use lib.Dec.{ltb}
use lib.ListN.{get_or, set}
use lib.Seq.{map-set}
use Rattle.rules.specs.Kinds.{pattern}
use borrow.Author.Tests.{ltb-true, ltb-false}
use Rattle.rules.proofs.ListLaws.{by_test}
use Rattle.kinds.specs.declared.Pending.{Pending}
use Rattle.kinds.specs.Nodes.{never, Seen, seen}
use Rattle.layout.specs.declared.Plan.{Plan}
use Rattle.layout.specs.declared.State.{State}
use Rattle.layout.specs.Views.{Pendings, nodes_of, shape_of, wires_of, cells_of, pendings_of, nodes_from}
use Rattle.arrays.specs.Nodes.{pending_at, soon_at, Released}
use Rattle.arrays.specs.Instants.{Whole}
use Rattle.arrays.specs.Turns.{TurnedIn}
use Rattle.arrays.proofs.Kept.{pendings_kept, soons_kept}
use Rattle.arrays.proofs.TurnLaws.{stored, turned_released, turned_due, turned_idle}

-- node n's next release and waiting result, stored
abbrev pub stored_in : State → ℕ → Pending → State
stored_in y n a = record y { next = set y.next n a.next; due = set y.due n a.due; value = set y.value n a.value }

pendings_stored : (y : State) (n : ℕ) (a : Pending) → pendings_of (stored_in y n a) ≡ stored (pendings_of y) n (seen a)
pendings_stored y n a = rw (map-set pattern y.value n a.value)

module _ (p : Plan) (s : State) (n : ℕ) (whole : Whole p s) (few : n < 32) where
  -- a node that is released is there
  pub used : (t : ℕ) → t < 2 ^ 24 → get_or (pendings_of s).next n 0 ≡ t → n < nodes_of p
  used t early now =
      by_test (ltb n (nodes_of p)) (ltb-true n (nodes_of p))
      (λ e. absurd (omega (arith, whole.unused.next n (ltb-false n (nodes_of p) e) few)))

  -- node n is released: what the release makes is stored
  pub turn_stored : (y : State) {before : Seen} (a : Pending) {m : ℕ} → before ≡ pending_at (pendings_of s) n → nodes_from y ≡ nodes_from s
      → Released (wires_of p) (shape_of p) (cells_of s) n before (cells_of y) (seen a) → m ≡ min a.next a.due
      → TurnedIn p s before.next n (stored_in y n a) m
  turn_stored y {before} a is same released soon =
      let then : pendings_of (stored_in y n a) ≡ stored (pendings_of s) n (seen a) = pendings_stored y n a ∙ ap (λ (q : Pendings). stored q n (seen a)) (pendings_kept s y same) in
      record {
        turned = rw then (turned_released whole.sized few is released soon);
        soons = soons_kept s y same;
        idle = λ later waits. absurd (later (ap (λ (b : Seen). b.next) (sym is)));
      }

  module _ {t : ℕ} (later : get_or (pendings_of s).next n 0 ≡ t → ⊥) where
    -- its result is written
    pub turn_written : {a : Seen} {m : ℕ} → get_or (pendings_of s).due n 0 ≡ t
        → a ≡ record { next = get_or (pendings_of s).next n 0; due = never; value = get_or (pendings_of s).value n 0 }
        → m ≡ min a.next a.due
        → TurnedIn p s t n (record s { due = set s.due n a.due }) m
    turn_written {a} due written soon =
        record {
          turned = (turned_due whole.sized few whole.rings later due written soon);
          soons = refl;
          idle = λ next waits. absurd (waits due);
        }

    -- nothing happens to it
    pub turn_idle : {m : ℕ} → (get_or (pendings_of s).due n 0 ≡ t → ⊥) → m ≡ soon_at (pendings_of s) n → TurnedIn p s t n s m
    turn_idle waits soon =
        record { turned = turned_idle whole.sized few whole.rings later waits soon; soons = refl; idle = λ next due. refl }
