-- Each field is as the network has it or as it is made of it.
use Rattle.std.proofs.Common.{◌≡◌, refl, rules, arith}
use Rattle.rules.specs.Kinds.{inputs}
use Rattle.rules.specs.Network.{node_among}
use Rattle.rules.proofs.ListLaws.{get_or_tab, length_tab}
use Rattle.table.specs.declared.Network.{Network}
use Rattle.setup.proofs.FromFn.{tabled}
use Rattle.setup.proofs.Stations.{stations_of}
use Rattle.setup.proofs.write_plan.Goals as goal

pub returns : goal.returns
returns c =
    let a : Network = c.args.network.now in
    let node = stations_of (λ p. (p.0.now ≡ a) × (p.1.now ≡ c.walks-out.result.first) × (p.2.now ≡ c.inputs-input.result)) a.node c.walks-out.result.first c.inputs-input.result
    (λ p q i y kept called. search rules)
    c.from_fn.ensures.items (refl, refl, refl) c.walks-out.ensures.firsts c.inputs-input.ensures.nodes in
    record {
      nodes = refl;
      channels = refl;
      sort = c.sorts.ensures;
      base = c.bases.ensures;
      capacity = tabled (λ p. p.0.now ≡ a) _ (λ p q i y kept called. search rules) 0 c.from_fn-2.ensures.items refl;
      writer = tabled (λ p. p.0.now ≡ a) _ (λ p q i y kept called. search rules) 0 c.from_fn-3.ensures.items refl;
      walks = rw node.first_is c.walks-out.ensures;
      kind = node.kind;
      constant = node.constant;
      period = node.period;
      deadline = node.deadline;
      count = rw (node.kind, node.count)
          (record {
            size = length_tab 32 (λ n. inputs (node_among a.node n).kind);
            each = λ i h. rw (get_or_tab 32 (λ n. inputs (node_among a.node n).kind) i 0 (omega arith), get_or_tab 32 (λ n. (node_among a.node n).kind) i 0 (omega arith));
          });
      input = rw node.input_is c.inputs-input.ensures;
    }
