-- A release by its two outcomes: it goes ahead with what its inputs make, or it skips. Assumes nothing.
use Prim.Native.Nat.{ℕ, ◌+◌, ◌<◌}
use mathlib.Core.Bool.{true}
use mathlib.Core.Path.{◌≡◌, refl}
use lib.IntN.{ℤ}
use lib.ListN.{get_or}
use Rattle.std.proofs.Common.{Option, Some, w32, SFits}
use Rattle.std.specs.Option.{ok_or}
use Rattle.rules.specs.Kinds.{signed, result}
use Rattle.kinds.specs.declared.Pending.{Pending}
use Rattle.kinds.specs.Nodes.{never, said, seen, ahead_of}
use Rattle.kinds.proofs.StateLaws.{kept_waits}
use Rattle.layout.specs.Views.{Shape, Cells, Wires}
use Rattle.rings.specs.Rings.{Took}
use Rattle.arrays.specs.Taking.{all_hold, found, taken_at}
use Rattle.arrays.specs.Nodes.{inputs_at, result_at, Released}

module _ {w : Wires} {s : Shape} {x y : Cells} {n : ℕ} (took : Took s x (taken_at s x w.input n (inputs_at w n)) y) where
  pub released_ahead : (before : Pending) {r : Pending} {a b c : ℕ} (made : Option ℤ) (kept : ℤ) → ((v : ℤ) → made ≡ Some v → SFits w32 v) → all_hold s x w.input n (inputs_at w n) ≡ true
      → a ≡ found s x w.input n (inputs_at w n) 0
      → b ≡ found s x w.input n (inputs_at w n) 1
      → c ≡ found s x w.input n (inputs_at w n) 2
      → said made ≡ result (get_or w.kind n 0) (signed (get_or w.constant n 0)) (signed a) (signed b) (signed c)
      → before.next + get_or w.deadline n 0 < never
      → r ≡ ahead_of before (get_or w.period n 0) (get_or w.deadline n 0) (ok_or made kept)
      → Released w s x n (seen before) y (seen r)
  unfolding result_at
  released_ahead before made kept fits holds first second third makes early after =
      rw after
      (record {
        took = took;
        next = refl;
        waits = rw (holds, ← first, ← second, ← third, ← makes) (kept_waits before (get_or w.period n 0) (get_or w.deadline n 0) made kept fits early);
      })
