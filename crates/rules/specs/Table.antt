-- Table bits: fields, and the reading of a table piece by piece. Assumes nothing.
use Rattle.std.specs.Prelude.{ℕ, zero, suc, ◌+◌, ◌-◌, ◌*◌, ◌/◌, ◌%◌, ◌^◌, Bool, true, false, not, ◌&&◌, List, [], ◌∷◌, ◌++◌, eqb, leb, ℤ, get_or, length}
use Rattle.rules.specs.declared.Node.{Node}
use Rattle.rules.specs.declared.Channel.{Channel}
use Rattle.rules.specs.Lists.{lowest}
use Rattle.rules.specs.Kinds.{signed}
use Rattle.rules.specs.Network.{Network, counts_ok, node_ok, channel_ok, ports_ok}

-- bit i of the bytes s, the most significant of each byte first
abbrev pub bit_at : List ℕ → ℕ → ℕ
bit_at s i = get_or s (i / 8) 0 / 2 ^ (7 - i % 8) % 2

-- the field of some bits that starts at a bit, most significant first
unfoldable pub field_at : List ℕ → ℕ → ℕ → ℕ
field_at s at zero = 0
field_at s at (suc width) = 2 * field_at s at width + bit_at s (at + width)

-- what a reading comes to: a refusal with its number and place, or what was read
pub data Reading (A : Type 0) : Type 0 where
  refusal : (number place : ℕ) → Reading A
  read : A → Reading A

module _ {A B : Type 0} where
  -- what was read goes on; a refusal stands
  abbrev pub ◌then◌ : Reading A → (A → Reading B) → Reading B
  ◌then◌ (refusal number place) go = refusal number place
  ◌then◌ (read a) go = go a

infixl 20 ◌then◌
module _ {A : Type 0} where
  -- refused by this number at this place unless the test passes
  abbrev pub unless : Bool → ℕ → ℕ → A → Reading A
  unless true number place a = read a
  unless false number place a = refusal number place

  -- a piece of so many bits that is due at a bit: refusal 1 at its first bit where the bits end before or inside it
  abbrev pub piece : List ℕ → ℕ → ℕ → A → Reading A
  piece s at width a = unless (leb (at + width) (8 * length s)) 1 at a

-- the counts of a header
pub record Header : Type 0 where
  pub nodes : ℕ
  pub channels : ℕ

-- header, 24 bits: version 4, node count 6, channel count 7, spare 7
unfoldable pub header_at : List ℕ → Reading Header
header_at s =
    let header : Header = record { nodes = field_at s 4 6; channels = field_at s 10 7 } in
    piece s 0 24 header
    then λ h. unless (eqb (field_at s 0 4) 1) 2 0 h
    then λ h. unless (counts_ok h.nodes h.channels && eqb (field_at s 17 7) 0) 3 0 h

-- a node, 69 bits: kind 5, period 16, deadline 16, constant 32
unfoldable pub node_at : List ℕ → ℕ → Node
node_at s at =
    record {
      kind = field_at s at 5;
      period = field_at s (at + 5) 16;
      deadline = field_at s (at + 21) 16;
      constant = signed (field_at s (at + 37) 32);
    }

-- node n's piece, behind the header and the nodes before it
unfoldable pub node_piece : List ℕ → ℕ → Reading Node
node_piece s n = piece s (24 + 69 * n) 69 (node_at s (24 + 69 * n)) then λ node. unless (node_ok node) 4 n node

-- the first n nodes
unfoldable pub nodes_up_to : List ℕ → ℕ → Reading (List Node)
nodes_up_to s zero = read []
nodes_up_to s (suc n) = nodes_up_to s n then λ nodes. node_piece s n then λ node. read (nodes ++ (node ∷ []))

-- a channel's 29 bits: sort 1, writer 6, reader 6, port 2, capacity 7, initial count 7
unfoldable pub channel_at : List ℕ → ℕ → Channel
channel_at s at =
    record {
      sort = field_at s at 1;
      writer = field_at s (at + 1) 6;
      reader = field_at s (at + 7) 6;
      port = field_at s (at + 13) 2;
      capacity = field_at s (at + 15) 7;
      initial = field_at s (at + 22) 7;
    }

-- a token's piece
unfoldable pub token_piece : List ℕ → ℕ → Reading ℤ
token_piece s at = piece s at 32 (signed (field_at s at 32))

-- the first k tokens that stand at a bit, oldest first
unfoldable pub tokens_up_to : List ℕ → ℕ → ℕ → Reading (List ℤ)
tokens_up_to s at zero = read []
tokens_up_to s at (suc k) = tokens_up_to s at k then λ tokens. token_piece s (at + 32 * k) then λ token. read (tokens ++ (token ∷ []))

-- channels with their tokens, their capacities together, and the bit behind them
pub record Channels : Type 0 where
  pub channels : List Channel
  pub tokens : List (List ℤ)
  pub together : ℕ
  pub end : ℕ

-- one channel more, with its tokens
unfoldable pub with_channel : Channels → Channel → List ℤ → Channels
with_channel before ch tokens =
    record {
      channels = before.channels ++ (ch ∷ []);
      tokens = before.tokens ++ (tokens ∷ []);
      together = before.together + ch.capacity;
      end = before.end + 29 + 32 * ch.initial;
    }

-- the piece of channel c, which stands at a bit behind channels with these capacities together, in a network of so many nodes
unfoldable pub channel_piece : List ℕ → ℕ → ℕ → ℕ → ℕ → Reading Channel
channel_piece s nodes c at together =
    piece s at 29 (channel_at s at)
    then λ ch. unless (channel_ok nodes ch) 5 c ch
    then λ ch. unless (leb (together + ch.capacity) 1024) 6 c ch

-- the first c channels, behind so many nodes
unfoldable pub channels_up_to : List ℕ → ℕ → ℕ → Reading Channels
channels_up_to s nodes zero = read (record { channels = []; tokens = []; together = 0; end = 24 + 69 * nodes })
channels_up_to s nodes (suc c) =
    channels_up_to s nodes c
    then λ before. channel_piece s nodes c before.end before.together
    then λ ch. tokens_up_to s (before.end + 29) ch.initial
    then λ tokens. read (with_channel before ch tokens)

-- zero bits to the end of the byte, then nothing
unfoldable pub ends_at : List ℕ → ℕ → Bool
ends_at s at = eqb (length s) ((at + 7) / 8) && eqb (field_at s at (8 * ((at + 7) / 8) - at)) 0

-- the lowest node with a port unserved, served twice or too high, or the node count where there is none
unfoldable pub faulty_node : Network → ℕ
faulty_node net = lowest (length net.nodes) (λ n. not (ports_ok net n))

-- the network that a table's bytes say, or the first refusal: the pieces in order, then 7, then 8
unfoldable pub network : List ℕ → Reading Network
network s =
    header_at s
    then λ h. nodes_up_to s h.nodes
    then λ nodes. channels_up_to s h.nodes h.channels
    then λ all. unless (ends_at s all.end) 7 0 (record { nodes = nodes; channels = all.channels; tokens = all.tokens })
    then λ net. unless (eqb (faulty_node net) (length net.nodes)) 8 (faulty_node net) net
