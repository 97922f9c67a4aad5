-- The plan and the state that are made of a network's arrays stand for it before the first instant, where it obeys its rules.
-- Assumes nothing.
use Prim.Native.Nat.{ℕ, ◌*◌, ◌≤◌}
use native.Mathlib.Omega.{arith}
use mathlib.Core.Path.{◌≡◌, ◌∙◌}
use lib.IntN.{pos}
use lib.ListN.{get_or, length-map, length-replicate, get_or-replicate}
use Rattle.rules.specs.Kinds.{pattern}
use Rattle.rules.specs.Network.{Network, Obeys}
use Rattle.rules.proofs.Checks.{few_nodes}
use Rattle.kinds.specs.Nodes.{never}
use Rattle.table.specs.declared.Network as table
use Rattle.table.specs.Laid.{laid}
use Rattle.layout.specs.declared.Plan.{Plan}
use Rattle.layout.specs.declared.State.{State}
use Rattle.layout.specs.Views.{soons_of, pendings_of}
use Rattle.arrays.specs.Nodes.{Sized, Unused, Paired, pair_soon}
use Rattle.setup.specs.Fields.{PlanFields, StateFields}
use Rattle.setup.specs.Starts.{Planned, Starts}
use Rattle.setup.proofs.StartFields.{Entries, laid_entries, laid_filled}
use Rattle.setup.proofs.StartStands.{starts_represents}
use Rattle.setup.proofs.StartWires.{inner_walk, outer_walk, input_port}
use Rattle.setup.proofs.StartAble.{starts_readable, starts_separate}

-- the nodes' part of a state: it is whole, and the earliest instant of each pair is 0, at which its first node is released
module _ {a : table.Network} {s : State} (few : a.nodes ≤ 32) (start : StateFields a s) where
  starts_sized : Sized (pendings_of s)
  starts_sized =
      record {
        nexts = start.next.size;
        dues = rw start.due (length-replicate 32 never);
        values = length-map s.value pattern ∙ rw start.value (length-replicate 32 (pos 0));
      }

  starts_unused : Unused a.nodes (pendings_of s)
  starts_unused =
      record { next = start.next.unused; due = λ n from h. rw start.due (get_or-replicate 32 n never 0 h) }

  starts_paired : Paired a.nodes (soons_of s) (pendings_of s)
  unfolding pair_soon
  starts_paired g h =
      let soon : get_or (soons_of s) g 0 ≡ 0 = rw start.soon (get_or-replicate 16 g 0 0 (omega arith)) in
      omega (arith, start.next.first (2 * g) (omega arith))

module _ {net : Network} (obeys : Obeys net) {p : Plan} (entries : Entries net p) where
  plan_stands : Planned net p
  plan_stands =
      record {
        nodes = entries.nodes;
        able = rw (entries.nodes, entries.channels)
            (record {
              few = few_nodes net obeys;
              walks = λ n h. (entries.walks.walks n (omega (arith, few_nodes net obeys))).climbs;
              outs = entries.walks.outs.climbs;
              readable = starts_readable entries obeys;
              separate = starts_separate entries obeys;
            });
        wired = record {
          channels = entries.channels;
          sort = entries.sort;
          capacity = entries.capacity;
          writer = entries.writer;
          kind = entries.kind;
          constant = entries.constant;
          period = entries.period;
          deadline = entries.deadline;
          ports = input_port net obeys entries.input;
          walks = λ n h. inner_walk net obeys n (entries.walks.walks n (omega (arith, few_nodes net obeys))).walk;
          outs = outer_walk net obeys entries.walks.outs.walk;
        };
      }

-- a plan and a state that are made of a network's arrays stand for the network
pub starts : {a : table.Network} {p : Plan} {s : State} → PlanFields a p → StateFields a s → (net : Network) → Obeys net → a ≡ laid net → Starts net p s
unfolding laid
starts {a} {p} {s} plan state net obeys from =
    let entries : Entries net p = laid_entries net obeys (rw from at plan) in
    let state : StateFields (laid net) s = rw from at state in
    let few : (laid net).nodes ≤ 32 = few_nodes net obeys in
    let represents = starts_represents obeys s entries (laid_filled net obeys state) state.due state.next in
    record {
      planned = plan_stands obeys entries;
      represents = represents;
      whole = record {
        rings = represents.rings;
        sized = starts_sized few state;
        pairs = rw state.soon (length-replicate {A = ℕ} 16 0);
        unused = rw entries.nodes (starts_unused few state);
      };
      paired = rw entries.nodes (starts_paired few state);
    }
