-- A network as arrays. Assumes nothing.
use Rattle.std.specs.Prelude.{ℕ, ◌-◌, List, [], ◌∷◌, ◌++◌, ◌≡◌, ℤ, pos, length, replicate, Result, Ok, Err}
use Rattle.rules.specs.declared.Channel.{Channel}
use Rattle.rules.specs.Lists.{tab}
use Rattle.rules.specs.Network as rules
use Rattle.rules.specs.Network.{node_of, channel_of}
use Rattle.rules.specs.Table.{Reading, read}
use Rattle.rules.specs.declared.Refusal.{Refusal}
use Rattle.pieces.specs.Says.{refused_by}
use Rattle.table.specs.declared.Network.{Network}

-- a channel's places: its tokens, then zeros up to its capacity
unfoldable pub places : Channel → List ℤ → List ℤ
places ch tokens = tokens ++ replicate (ch.capacity - length tokens) (pos 0)

-- the places of the channels, one channel after another
unfoldable pub all_places : List Channel → List (List ℤ) → List ℤ
all_places [] tokens = []
all_places (ch ∷ chs) [] = []
all_places (ch ∷ chs) (held ∷ tokens) = places ch held ++ all_places chs tokens

-- a list with zeros behind it, so many entries in all
unfoldable pub padded : ℕ → List ℤ → List ℤ
padded n l = l ++ replicate (n - length l) (pos 0)

-- a network, zero behind its last node, its last channel and its last place
unfoldable pub laid : rules.Network → Network
laid net =
    record {
      nodes = length net.nodes;
      channels = length net.channels;
      node = tab 32 (node_of net);
      channel = tab 64 (channel_of net);
      tokens = padded 1024 (all_places net.channels net.tokens);
    }

-- a network was read, and every element of the arrays is as it is laid out
pub record LaidFrom (reading : Reading rules.Network) (network : Network) : Type 0 where
  pub net : rules.Network
  pub reads : reading ≡ read net
  pub from : network ≡ laid net

-- the network, or the refusal by the paper's number and place
abbrev pub TableOf : Reading rules.Network → Result Network Refusal → Type 0
TableOf reading (Ok network) = LaidFrom reading network
TableOf reading (Err why) = reading ≡ refused_by why
