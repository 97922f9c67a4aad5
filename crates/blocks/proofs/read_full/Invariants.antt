-- `read_full`: what has come lies within the buffer, where it is in front of what the reader has left, and each turn that goes on reads at least
-- a byte, so the room that is left falls.
use Rattle.std.proofs.Common.{length, ◌-◌, ◌≤◌, take}
use Rattle.std.specs.Io.KnownBytes.{Consumes}
use Rattle.blocks.proofs.read_full.Given as goal

abbrev pub invariant-loop-done : goal.invariant-loop-done
invariant-loop-done g l =
    (l.done ≤ length l.buf) × Consumes (g.R.Read.remaining l.fn.source) (g.R.Read.remaining l.source) (take l.done l.buf)

abbrev pub decreases-loop-done : goal.decreases-loop-done
decreases-loop-done g l = length l.buf - l.done
