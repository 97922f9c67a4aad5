-- What stays of a state whose rings change and whose nodes do not. Assumes nothing.
use Prim.Native.Nat.{ℕ}
use mathlib.Core.List.{List}
use mathlib.Core.Path.{◌≡◌, sym, ◌∙◌, ap}
use lib.IntN.{pos}
use lib.ListN.{get_or, get_or-map}
use Rattle.rules.specs.Kinds.{pattern}
use Rattle.layout.specs.declared.State.{State}
use Rattle.layout.specs.Views.{Pendings, pendings_of, soons_of, nodes_from}

module _ (s z : State) (same : nodes_from z ≡ nodes_from s) where
  pub pendings_kept : pendings_of z ≡ pendings_of s
  pendings_kept = ap (λ (n : Pendings × List ℕ). n.0) same

  pub soons_kept : soons_of z ≡ soons_of s
  soons_kept = ap (λ (n : Pendings × List ℕ). n.1) same

-- what the code then reads of node n, and of pair g
pub record NodeKept (s z : State) (n : ℕ) : Type 0 where
  pub due : get_or z.due n 0 ≡ get_or (pendings_of s).due n 0
  pub value : pattern (get_or z.value n (pos 0)) ≡ get_or (pendings_of s).value n 0

pub node_kept : (s z : State) (n : ℕ) → nodes_from z ≡ nodes_from s → NodeKept s z n
node_kept s z n same =
    let pendings = pendings_kept s z same in
    record {
      due = ap (λ (q : Pendings). get_or q.due n 0) pendings;
      value = sym (get_or-map pattern z.value n (pos 0)) ∙ ap (λ (q : Pendings). get_or q.value n 0) pendings;
    }

pub soon_kept : (s z : State) (g : ℕ) → nodes_from z ≡ nodes_from s → get_or z.soon g 0 ≡ get_or (soons_of s) g 0
soon_kept s z g same = ap (λ (l : List ℕ). get_or l g 0) (soons_kept s z same)
