-- The arrays that are made of a network before the first instant: sums of capacities, the first releases, and ports at which no channel stands.
-- Assumes nothing.
use Prim.Native.Nat.{ℕ, suc, ◌+◌, ◌-◌, ◌≤◌, ◌<◌}
use borrow.Rule.Slice.PartMut.{put_mid}
use native.Mathlib.Omega.{arith}
use mathlib.Core.List.{List, [], ◌∷◌}
use mathlib.Core.Path.{◌≡◌, refl, ◌∙◌}
use lib.Dec.{eqb}
use lib.ListN.{length, get_or, set, replicate, take, drop, get_or-append, length-drop, length-append, length-replicate, get_or-replicate}
use lib.Seq.{get_or-set_same, get_or-set_other}
use borrow.Author.Tests.{eqb-true, eqb-false}
use Rattle.std.proofs.lemmas.List.{length-take-le, get_or-take, get_or-append_right}
use Rattle.rules.specs.Lists.{total}
use Rattle.rules.proofs.ListLaws.{by_test}
use Rattle.rules.proofs.Agreeing.{total_longer}
use Rattle.kinds.specs.Nodes.{never}
use Rattle.rules.specs.declared.Channel.{Channel}
use Rattle.setup.specs.Setup.{PortsOf, ReleasesOf}

-- what holds of the value that is stored, and of each entry elsewhere, holds of each entry after
pub at_set : {A : Type 0} (P : A → Type 0) (d : A) (l : List A) (k : ℕ) (v : A) (i : ℕ) → k < length l → (i ≡ k → P v) → ((i ≡ k → ⊥) → P (get_or l i d)) → P (get_or (set l k v) i d)
at_set P d l k v i h here there =
    by_test (eqb i k)
    (λ e.
    let same : i ≡ k = eqb-true i k e in
    rw (same, get_or-set_same l k v d h) (here same))
    (λ e. rw (get_or-set_other l k i v d (eqb-false i k e)) (there (eqb-false i k e)))

-- a sum with its next part is at most a longer sum
pub sum_within : (n c : ℕ) (f : ℕ → ℕ) → c < n → total c f + f c ≤ total n f
unfolding total
sum_within n c f h = total_longer n (suc c) f h

-- nodes from a number on are released never, where all were released at 0
pub releases_filled : (nodes : ℕ) (zeros nevers : List ℕ) → nodes ≤ 32 → zeros ≡ replicate 32 0 → nevers ≡ replicate (length (take (32 - nodes) (drop nodes zeros))) never → ReleasesOf nodes 32 (put_mid nodes (32 - nodes) zeros nevers)
releases_filled nodes zeros nevers h all fills =
    let size : length zeros ≡ 32 = rw all (length-replicate {A = ℕ} 32 0) in
    let count : length (take (32 - nodes) (drop nodes zeros)) ≡ 32 - nodes = length-take-le (32 - nodes) (drop nodes zeros) (simp length-drop (omega arith)) in
    let many : length nevers ≡ 32 - nodes = rw (fills, count) (length-replicate (32 - nodes) never) in
    let before : length (take nodes zeros) ≡ nodes = length-take-le nodes zeros (omega arith) in
    record {
      size = simp (length-append, length-drop) (omega arith);
      first = λ i under.
          get_or-append (take nodes zeros) _ 0 i (omega arith)
          ∙ get_or-take nodes zeros i 0 under
          ∙ rw all (get_or-replicate 32 i 0 0 (omega arith));
      unused = λ i over under.
          get_or-append_right (take nodes zeros) _ nodes i 0 before over
          ∙ get_or-append nevers _ 0 (i - nodes) (omega arith)
          ∙ rw (fills, count) (get_or-replicate (32 - nodes) (i - nodes) never 0 (omega arith));
    }

abbrev no_ports : List ℕ
no_ports = 0 ∷ 0 ∷ 0 ∷ 0 ∷ []

-- no channel stands at a port yet
pub ports_none : (channels : List Channel) → PortsOf 0 channels (replicate 32 no_ports)
ports_none channels =
    record {
      nodes = length-replicate 32 no_ports;
      ports = λ n h. rw (get_or-replicate 32 n no_ports [] h) refl;
      last = λ e under. absurd (omega arith);
    }
