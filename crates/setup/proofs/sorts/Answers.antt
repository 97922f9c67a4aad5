-- Each call answers a sort of its channel's number.
use Rattle.std.proofs.Common.{◌≡◌, refl, rules}
use Rattle.layout.specs.declared.Sort.{Sort}
use Rattle.layout.specs.Views.{sort_number}
use Rattle.setup.proofs.FromFn.{tabled_seen}
use Rattle.setup.proofs.sorts.Goals as goal

pub returns : goal.returns
returns c =
    tabled_seen (λ p. p.0.now ≡ c.args.channels.now) sort_number _ (λ p q i y kept called. search rules) Sort.Queue c.from_fn.ensures.items refl
