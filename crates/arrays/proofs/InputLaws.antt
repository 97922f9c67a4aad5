-- The inputs of a node on a plan and a state: whether its ports hold tokens, by the number of its inputs, and the takes at its ports one after
-- another. Assumes nothing.
use Prim.Native.Nat.{ℕ, suc, ◌≤◌, ◌<◌}
use mathlib.Core.Bool.{true}
use mathlib.Core.Path.{◌≡◌, refl, ◌∙◌}
use lib.ListN.{get_or}
use Rattle.rules.specs.Kinds.{pattern}
use Rattle.layout.specs.declared.Plan.{Plan}
use Rattle.layout.specs.declared.State.{State}
use Rattle.layout.specs.Views.{channels_of, shape_of, wires_of, cells_of, nodes_from}
use Rattle.rings.specs.Rings.{Took}
use Rattle.rings.specs.Access.{taken_in, oldest_in}
use Rattle.rings.proofs.AccessLaws.{take_took}
use Rattle.arrays.specs.Taking.{port_of, Ported, all_hold, found, taken_at}
use Rattle.arrays.specs.Instants.{RingsIn}
use Rattle.arrays.proofs.TakenPorts.{took_at_port, found_there}
use Rattle.arrays.proofs.PortsInTurn.{queue_below, no_port_yet, port_found, port_holds, next_port, all_ports}

-- the first k of a node's ports are taken, and no node is touched
pub record TakenTo (p : Plan) (s : State) (n count k : ℕ) (z : State) : Type 0 where
  pub took : Took (shape_of p) (cells_of s) (queue_below (shape_of p) (wires_of p).input n count k) (cells_of z)
  pub nodes : nodes_from z ≡ nodes_from s

-- what a take at port k asks for
pub record CanTake (p : Plan) (z : State) (n k : ℕ) : Type 0 where
  pub rings : RingsIn p z
  pub there : port_of (wires_of p).input n k < channels_of p
  pub some : 1 ≤ get_or (cells_of z).len (port_of (wires_of p).input n k) 0

module _ (p : Plan) (s : State) (n count : ℕ) (ported : Ported (channels_of p) (wires_of p).input n count) where
  pub taken_none : RingsIn p s → TakenTo p s n count 0 s
  taken_none rings = record { took = no_port_yet (shape_of p) (wires_of p).input n count (cells_of s) rings; nodes = refl }

  module _ (holds : all_hold (shape_of p) (cells_of s) (wires_of p).input n count ≡ true) {k : ℕ} (z : State) (before : TakenTo p s n count k z) where
    pub can_take : k < count → CanTake p z n k
    can_take below =
        record {
          rings = before.took.rings;
          there = ported.there k below;
          some = port_holds (shape_of p) (wires_of p).input n count ported (cells_of s) (cells_of z) k holds before.took below;
        }

    pub taken_next : k < count → TakenTo p s n count (suc k) (taken_in p z (port_of (wires_of p).input n k))
    taken_next below =
        let can = can_take below in
        let done = take_took p z (port_of (wires_of p).input n k) can.rings can.there can.some in
        record {
          took = next_port (shape_of p) (wires_of p).input n count ported (cells_of s) (cells_of z) (cells_of (taken_in p z (port_of (wires_of p).input n k))) k before.took
              (took_at_port (shape_of p) (cells_of z) (wires_of p).input n count k below done.took);
          nodes = done.nodes ∙ before.nodes;
        }

    pub found_next : k < count → pattern (oldest_in p z (port_of (wires_of p).input n k)) ≡ found (shape_of p) (cells_of s) (wires_of p).input n count k
    found_next below =
        let can = can_take below in
        (take_took p z (port_of (wires_of p).input n k) can.rings can.there can.some).oldest
        ∙ found_there (shape_of p) (cells_of z) (wires_of p).input n count k below
        ∙ port_found (shape_of p) (wires_of p).input n count ported (cells_of s) (cells_of z) k before.took

  pub taken_all : (z : State) → all_hold (shape_of p) (cells_of s) (wires_of p).input n count ≡ true → TakenTo p s n count count z
      → Took (shape_of p) (cells_of s) (taken_at (shape_of p) (cells_of s) (wires_of p).input n count) (cells_of z)
  taken_all z holds before = all_ports (shape_of p) (wires_of p).input n count ported (cells_of s) (cells_of z) holds before.took
