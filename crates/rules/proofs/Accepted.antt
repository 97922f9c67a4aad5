-- Reading a table that is accepted gives a network that obeys the network's own rules. Assumes nothing.
use Prim.Native.Nat.{ℕ, ◌<◌}
use native.Mathlib.Omega.{arith}
use mathlib.Core.Bool.{true, not}
use mathlib.Core.List.{List, []}
use mathlib.Core.Path.{◌≡◌, sym, ◌∙◌}
use lib.Dec.{eqb}
use lib.ListN.{length, get_or}
use borrow.Author.Tests.{eqb-true, not-false}
use Rattle.rules.specs.Network.{Network, Obeys, capacities, ports_ok}
use Rattle.rules.specs.Table.{read, Channels, ends_at, faulty_node, network}
use Rattle.rules.proofs.ListLaws.{lowest_is}
use Rattle.rules.proofs.LongerLists.{at_any}
use Rattle.rules.proofs.ReadingLaws.{Gives, then_gives, unless_gives, unless_then_gives}
use Rattle.rules.proofs.Pieces.{header_read, nodes_read, LawfulChannels, channels_read}
use Rattle.rules.proofs.TokenLaws.{AllFit, none_fit, entries_fit}

-- every node's ports are served where no node is faulty
all_served : (net : Network) → faulty_node net ≡ length net.nodes → (n : ℕ) → n < length net.nodes → ports_ok net n ≡ true
unfolding faulty_node
all_served net none n below =
    let low = lowest_is (length net.nodes) (λ i. not (ports_ok net i)) in
    not-false (ports_ok net n) (low.without n (omega arith))

-- every token is in 32 bits
tokens_fit : (nodes n : ℕ) (all : Channels) → LawfulChannels nodes n all → (c : ℕ) → AllFit (get_or all.tokens c [])
tokens_fit nodes n all got =
    at_any (λ c. AllFit) all.tokens [] n got.held
    (λ c h.
    let below : c < length all.channels = omega (arith, got.count) in
    entries_fit (get_or all.tokens c []) (got.each c below).initially.each)
    (λ c. none_fit)

network_read : (s : List ℕ) → Gives Obeys (network s)
unfolding network capacities
network_read s =
    then_gives (header_read s)
    (λ h counts.
    then_gives (nodes_read s h.nodes)
    (λ nodes front.
    then_gives (channels_read s h.nodes h.channels)
    (λ all back.
    let net : Network = record { nodes = nodes; channels = all.channels; tokens = all.tokens } in
    unless_then_gives (ends_at s all.end) 7 0 net _
    (λ ends.
    unless_gives (eqb (faulty_node net) (length net.nodes)) 8 (faulty_node net) net
    (λ served.
    record {
      counts = rw (front.count, back.count) counts;
      node_fields = λ n h. (front.each n h).lawful;
      constants = λ n h. (front.each n h).fits;
      channel_fields = rw front.count (λ c h. (back.each c h).lawful);
      in_bits = λ c h. (back.each c h).in_bits;
      together = omega (arith, back.sum, back.enough);
      ports = all_served net (eqb-true (faulty_node net) (length net.nodes) served);
      held = back.held ∙ sym back.count;
      initially = λ c h. (back.each c h).initially.count;
      token_fits = λ c. (tokens_fit h.nodes h.channels all back c).at;
    })))))

-- reading a table that is accepted gives a network that obeys the network's own rules
pub accepted : (table : List ℕ) (net : Network) → network table ≡ read net → Obeys net
accepted table net e = (network_read table).given net e
