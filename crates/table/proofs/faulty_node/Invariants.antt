-- No node below n is faulty.
use Rattle.std.proofs.Common.{[], ◌≡◌, ◌<◌, ℕ, not, false}
use Rattle.rules.specs.Network.{ports_ok}
use Rattle.table.specs.Reads.{net_of}
use Rattle.table.proofs.faulty_node.Given as goal

abbrev pub invariant-loop-n : goal.invariant-loop-n
invariant-loop-n l = (i : ℕ) → i < l.n → not (ports_ok (net_of l.nodes l.channels []) i) ≡ false
