-- The part of the list that is filled is the nodes that are not there.
use Rattle.std.proofs.Common.{refl}
use Rattle.setup.proofs.SetupLaws.{releases_filled}
use Rattle.setup.proofs.releases.Goals as goal

pub returns : goal.returns
returns c = releases_filled c.args.nodes _ c.fill.new.self c.requires refl (c.fill.ensures.after (λ y e. e))
