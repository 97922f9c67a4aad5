-- The laws of serving ports: a count over channels, the four ports of a node, and the first faulty node. Assumes nothing.
use Prim.Native.Nat.{ℕ, zero, suc, ◌≤◌, ◌<◌}
use native.Mathlib.Nat.{add-zero}
use native.Mathlib.Numerals.{add-one}
use native.Mathlib.Omega.{arith}
use mathlib.Core.Bool.{Bool, false, cond, not, and_assoc, and-true}
use mathlib.Core.List.{List, []}
use mathlib.Core.Path.{◌≡◌, refl, ◌∙◌}
use lib.ListN.{length, take}
use Rattle.std.specs.List.{count_by}
use Rattle.std.proofs.lemmas.List.{take_all}
use Rattle.std.proofs.lemmas.List.Sums.{count_by_more_yes, count_by_more_no}
use Rattle.rules.specs.declared.Node.{Node}
use Rattle.rules.specs.declared.Channel.{Channel}
use Rattle.rules.specs.Network.{node_among, channel_among, ports_ok}
use Rattle.rules.specs.Table.{faulty_node}
use Rattle.table.specs.Reads.{all_right, net_of}
use Rattle.rules.specs.Lists.{total, count, every}
use Rattle.rules.specs.Kinds.{inputs}
use Rattle.rules.proofs.ListLaws.{by_test, lowest_only}

module _ (f : Channel → Bool) (l : List Channel) where
  counted_to : (n : ℕ) → n ≤ length l → count_by f (take n l) ≡ count n (λ i. f (channel_among l i))
  unfolding count total
  counted_to zero h = refl
  counted_to (suc n) h =
      let so_far : count_by f (take n l) ≡ total n (λ i. cond (f (channel_among l i)) 1 0) = counted_to n (omega arith) in
      by_test (f (channel_among l n))
      (λ e. (rw (add-one n) at (count_by_more_yes f l n _ h e)) ∙ rw (so_far, e))
      (λ e. (rw (add-one n) at (count_by_more_no f l n _ h e)) ∙ rw (so_far, e, add-zero))

  -- how many channels pass a test
  pub counted : count_by f l ≡ count (length l) (λ i. f (channel_among l i))
  counted = rw (take_all (length l) l (omega arith)) at (counted_to (length l) (omega arith))

module _ (nodes : List Node) (channels : List Channel) (n : ℕ) where
  -- the ports of a node by each of the four
  pub ports_by_all : all_right channels n (inputs (node_among nodes n).kind) ≡ ports_ok (net_of nodes channels []) n
  unfolding all_right ports_ok every
  ports_by_all = simp (and_assoc, and-true)

  -- the first faulty node is the lowest one
  pub first_faulty : n < length nodes → ((i : ℕ) → i < n → not (ports_ok (net_of nodes channels []) i) ≡ false) → ports_ok (net_of nodes channels []) n ≡ false → faulty_node (net_of nodes channels []) ≡ n
  unfolding faulty_node
  first_faulty below without faulty =
      lowest_only (record { most = omega arith; without = without; found = λ h. rw faulty })
