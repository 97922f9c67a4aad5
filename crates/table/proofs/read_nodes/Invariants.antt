-- After n turns the first n nodes are read, and they are the first n of the places.
use Rattle.std.proofs.Common.{◌≡◌, take}
use Rattle.rules.specs.Table.{read, nodes_up_to}
use Rattle.table.proofs.read_nodes.Given as goal

abbrev pub invariant-loop-n : goal.invariant-loop-n
invariant-loop-n l = nodes_up_to l.s l.n ≡ read (take l.n l.nodes)
