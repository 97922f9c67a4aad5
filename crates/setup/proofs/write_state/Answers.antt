-- Each ring has no head yet and its channel's initial tokens, and nothing waits.
use Rattle.std.proofs.Common.{◌≡◌, refl, rules}
use Rattle.rules.specs.Lists.{tab, tab_from}
use Rattle.rules.specs.Network.{channel_among}
use Rattle.layout.specs.declared.Ring.{Ring}
use Rattle.setup.proofs.FromFn.{tabled_seen}
use Rattle.setup.proofs.write_state.Goals as goal

pub returns : goal.returns
unfolding tab tab_from
returns c =
    record {
      head = tabled_seen (λ p. p.0.now ≡ c.args.network.now) (λ (r : Ring). r.head) (λ _. 0) (λ p q i y kept called. search rules) (record { head = 0; len = 0 }) c.from_fn.ensures.items refl;
      len = tabled_seen (λ p. p.0.now ≡ c.args.network.now) (λ (r : Ring). r.len) (λ i. (channel_among c.args.network.now.channel i).initial) (λ p q i y kept called. search rules) (record { head = 0; len = 0 }) c.from_fn.ensures.items refl;
      tokens = refl;
      next = c.releases.ensures;
      due = refl;
      value = refl;
      soon = refl;
    }
