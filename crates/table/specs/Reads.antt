-- What the functions that read pieces promise each other. Assumes nothing.
use Rattle.std.specs.Prelude.{ℕ, ◌+◌, ◌<◌, Bool, cond, ◌&&◌, List, ◌++◌, ◌≡◌, eqb, ltb, ℤ, length, take, drop, Result, Ok, Err}
use Rattle.std.specs.List.{list_all, range_with_len}
use Rattle.rules.specs.declared.Node.{Node}
use Rattle.rules.specs.declared.Channel.{Channel}
use Rattle.rules.specs.declared.Refusal.{Refusal}
use Rattle.rules.specs.Lists.{count}
use Rattle.rules.specs.Network.{Network, channel_among}
use Rattle.rules.specs.Table.{Reading, read, Channels, ◌then◌, unless, nodes_up_to, tokens_up_to, channel_piece, channels_up_to, ends_at, faulty_node}
use Rattle.pieces.specs.Says.{refused_by}
use Rattle.table.specs.Laid.{all_places, padded}

-- channel c is read, and its tokens, which are stored from a place on
pub record ChannelDone (s : List ℕ) (nodes c at together : ℕ) (before : List ℤ) (ch : Channel) (after : List ℤ) : Type 0 where
  pub tokens : List ℤ
  pub piece : channel_piece s nodes c at together ≡ read ch
  pub reads : tokens_up_to s (at + 29) ch.initial ≡ read tokens
  pub stored : after ≡ take together before ++ (tokens ++ drop ch.initial (drop together before))

abbrev pub ChannelWithTokens : List ℕ → ℕ → ℕ → ℕ → ℕ → List ℤ → Result Channel Refusal → List ℤ → Type 0
ChannelWithTokens s nodes c at together before (Ok ch) after = ChannelDone s nodes c at together before ch after
ChannelWithTokens s nodes c at together before (Err why) after =
    (channel_piece s nodes c at together then λ ch. tokens_up_to s (at + 29) ch.initial) ≡ refused_by why

-- the first c channels are read, up to a bit, and their tokens have their places, with zeros behind the last one
pub record ChannelsDone (s : List ℕ) (nodes c end : ℕ) (channels : List Channel) (placed : List ℤ) : Type 0 where
  pub all : Channels
  pub reads : channels_up_to s nodes c ≡ read all
  pub ends : end ≡ all.end
  pub near : end < 65536
  pub listed : channels ≡ all.channels
  pub laid : placed ≡ padded 1024 (all_places all.channels all.tokens)

abbrev pub ChannelsRead : List ℕ → ℕ → ℕ → Result ℕ Refusal → List Channel → List ℤ → Type 0
ChannelsRead s nodes c (Ok end) channels placed = ChannelsDone s nodes c end channels placed
ChannelsRead s nodes c (Err why) channels placed = channels_up_to s nodes c ≡ refused_by why

-- a channel serves port p of node n
abbrev pub serves : ℕ → ℕ → Channel → Bool
serves n p ch = eqb ch.reader n && eqb ch.port p

-- port p of a node with so many inputs is served by exactly one channel if it is one of them, and else by none
abbrev pub served_right : List Channel → ℕ → ℕ → ℕ → Bool
served_right channels n inputs p =
    eqb (count (length channels) (λ c. serves n p (channel_among channels c))) (cond (ltb p inputs) 1 0)

-- each of the four ports is
unfoldable pub all_right : List Channel → ℕ → ℕ → Bool
all_right channels n inputs = list_all (served_right channels n inputs) (range_with_len 0 4)

abbrev pub net_of : List Node → List Channel → List (List ℤ) → Network
net_of nodes channels tokens = record { nodes = nodes; channels = channels; tokens = tokens }

-- a network, if its ports are right, and if the bits from a bit on end its table too
abbrev pub ported : Network → Reading Network
ported net = unless (eqb (faulty_node net) (length net.nodes)) 8 (faulty_node net) net

abbrev pub end_read : List ℕ → ℕ → Network → Reading Network
end_read s at net = unless (ends_at s at) 7 0 net then ported

-- the network of so many nodes and channels behind a header
abbrev pub pieces_read : List ℕ → ℕ → ℕ → Reading Network
pieces_read s n c =
    nodes_up_to s n
    then λ nodes. channels_up_to s n c
    then λ all. end_read s all.end (record { nodes = nodes; channels = all.channels; tokens = all.tokens })

-- a network was read, and these are its nodes, its channels and their places, with zeros behind the last one
pub record PiecesDone (reading : Reading Network) (nodes : List Node) (channels : List Channel) (placed : List ℤ) : Type 0 where
  pub tokens : List (List ℤ)
  pub reads : reading ≡ read (record { nodes = nodes; channels = channels; tokens = tokens })
  pub laid : placed ≡ padded 1024 (all_places channels tokens)

abbrev pub PiecesRead : Reading Network → List Node → List Channel → List ℤ → Result Unit Refusal → Type 0
PiecesRead reading nodes channels placed (Ok done) = PiecesDone reading nodes channels placed
PiecesRead reading nodes channels placed (Err why) = reading ≡ refused_by why
