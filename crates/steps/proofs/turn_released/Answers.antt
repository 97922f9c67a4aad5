-- What `release` answers is stored, and is what the node's turn makes of it.
use Rattle.std.proofs.Common.{w32, SFits, rules}
use Rattle.rules.proofs.KindLaws.{signed_pattern}
use Rattle.arrays.proofs.TurnsIn.{turn_stored}
use Rattle.steps.proofs.turn_released.Goals as goal

pub returns : goal.returns
returns c =
    let fits : SFits w32 c.release-after.result.value = search rules in
    rw (signed_pattern c.release-after.result.value fits)
    (turn_stored _ _ _ c.requires.0 c.requires.1.few _ c.release-after.result c.requires.2 c.release-after.ensures.nodes c.release-after.ensures.released c.soon.ensures)
