-- Laws of a node's state: what waits in it, as the rules say it. Assumes nothing.
use Rattle.std.proofs.Common.{◌≡◌, ℕ, ◌+◌, ◌<◌, arith, ne_eqb, ℤ, w32, SFits, Option, None, Some, Result, Ok, Err, refl}
use Rattle.std.proofs.Math.Option as Math
use Rattle.std.specs.Option.{ok_or}
use Rattle.rules.specs.Kinds.{signed}
use Rattle.rules.specs.Instant.{wait_for}
use Rattle.rules.proofs.KindLaws.{signed_pattern}
use Rattle.kinds.specs.declared.Pending.{Pending}
use Rattle.kinds.specs.Nodes.{never, waiting_by, said, made_says, seen, ahead_of}

-- a result waits by its due instant, which is not `never`, and its bits
pub waits_by : (due value : ℕ) → due < never → waiting_by due value ≡ wait_for due (Math.some (signed value))
waits_by due value early = rw (ne_eqb due never (λ e. omega (arith, early, e)))

-- after a release that goes ahead its result waits for its due instant, and nothing where it is absent
pub ahead_waits : (before : Pending) (period deadline : ℕ) (made : Result ℤ ℤ) → ((v : ℤ) → made ≡ Ok v → SFits w32 v) → before.next + deadline < never
    → waiting_by (seen (ahead_of before period deadline made)).due (seen (ahead_of before period deadline made)).value ≡ wait_for (before.next + deadline) (made_says made)
ahead_waits before period deadline (Err kept) fits early = refl
ahead_waits before period deadline (Ok v) fits early =
    rw (waits_by (before.next + deadline) _ early, signed_pattern v (fits v refl))

-- so also where a value is kept in place of an absent result
pub kept_waits : (before : Pending) (period deadline : ℕ) (made : Option ℤ) (kept : ℤ) → ((v : ℤ) → made ≡ Some v → SFits w32 v) → before.next + deadline < never
    → waiting_by (seen (ahead_of before period deadline (ok_or made kept))).due (seen (ahead_of before period deadline (ok_or made kept))).value ≡ wait_for (before.next + deadline) (said made)
kept_waits before period deadline None kept fits early = refl
kept_waits before period deadline (Some v) kept fits early =
    rw (waits_by (before.next + deadline) _ early, signed_pattern v (fits v refl))
