-- The arrays of a network that obeys its rules are such that a plan can be made of them: few channels and nodes, few places, ports and sorts of
-- their bits and kinds of the list. Assumes nothing.
use Prim.Native.Nat.{ℕ, ◌<◌}
use native.Mathlib.Omega.{arith}
use lib.Dec.{ltb}
use lib.ListN.{length}
use borrow.Author.Tests.{ltb-true, ltb-false}
use Rattle.std.proofs.lemmas.List.{get_or_past}
use Rattle.rules.specs.Lists.{tab}
use Rattle.rules.specs.Network.{Network, Obeys, node_of, channel_of, node_among, channel_among, capacities}
use Rattle.rules.proofs.Checks.{few_nodes, few_channels}
use Rattle.rules.proofs.ListLaws.{by_test, get_or_tab}
use Rattle.table.specs.declared.Network as table
use Rattle.table.specs.Laid.{laid}
use Rattle.setup.specs.Fields.{Fits}
use Rattle.setup.specs.Starts.{Lawful}
use Rattle.setup.proofs.StartFields.{channels_laid, node_limits}

-- behind the last channel and the last node the arrays are zero
module _ (net : Network) (obeys : Obeys net) where
  sort_bits : (c : ℕ) → c < 64 → (channel_among (tab 64 (channel_of net)) c).sort < 2
  sort_bits c h =
      rw (get_or_tab 64 (channel_of net) c _ h)
      (by_test (ltb c (length net.channels)) (λ e. (obeys.in_bits c (ltb-true c _ e)).sort)
      (λ e. rw (get_or_past net.channels c _ (ltb-false c _ e)) (omega arith)))

  kind_listed : (n : ℕ) → n < 32 → (node_among (tab 32 (node_of net)) n).kind < 12
  kind_listed n h =
      rw (get_or_tab 32 (node_of net) n _ h)
      (by_test (ltb n (length net.nodes)) (λ e. (node_limits (node_of net n) (obeys.node_fields n (ltb-true n _ e))).kind)
      (λ e. rw (get_or_past net.nodes n _ (ltb-false n _ e)) (omega arith)))

laid_fits : (net : Network) → Obeys net → Fits (laid net)
unfolding laid capacities
laid_fits net obeys =
    record {
      few_nodes = few_nodes net obeys;
      few_channels = few_channels net obeys;
      together = rw (channels_laid net obeys) obeys.together;
      ports = rw (channels_laid net obeys) (λ c h. (obeys.in_bits c h).port);
      sorts = sort_bits net obeys;
      kinds = kind_listed net obeys;
    }

pub lawful_fits : {a : table.Network} → Lawful a → Fits a
lawful_fits lawful = rw lawful.from (laid_fits lawful.net lawful.obeys)
