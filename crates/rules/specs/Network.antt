-- Table bits: the rules that a network obeys by itself, whatever bits it was read from. Assumes nothing.
use Rattle.std.specs.Prelude.{ℕ, ◌≤◌, ◌<◌, Bool, true, cond, not, ◌&&◌, ◌||◌, List, [], ◌≡◌, eqb, leb, ltb, ℤ, pos, get_or, length}
use Rattle.std.specs.Int.{w32}
use Rattle.std.proofs.Common.{SFits}
use Rattle.rules.specs.declared.Node.{Node}
use Rattle.rules.specs.declared.Channel.{Channel}
use Rattle.rules.specs.Lists.{total, count, every}
use Rattle.rules.specs.Kinds.{inputs, constant_ok}

-- nodes, channels, and beside each channel its initial tokens, oldest first
pub record Network : Type 0 where
  pub nodes : List Node
  pub channels : List Channel
  pub tokens : List (List ℤ)

-- node n among these; behind the last one, a record of zeros
abbrev pub node_among : List Node → ℕ → Node
node_among nodes n = get_or nodes n (record { kind = 0; period = 0; deadline = 0; constant = pos 0 })

abbrev pub node_of : Network → ℕ → Node
node_of net n = node_among net.nodes n

-- channel c among these; behind the last one, a record of zeros
abbrev pub channel_among : List Channel → ℕ → Channel
channel_among channels c =
    get_or channels c (record { sort = 0; writer = 0; reader = 0; port = 0; capacity = 0; initial = 0 })

abbrev pub channel_of : Network → ℕ → Channel
channel_of net c = channel_among net.channels c

-- the number that stands for the outside, as a writer or a reader
abbrev pub outside : ℕ
outside = 63

abbrev pub is_register : Channel → Bool
is_register ch = eqb ch.sort 1

-- the channel is read by the outside
abbrev pub is_out : Channel → Bool
is_out ch = eqb ch.reader outside

-- node count 1 to 32, channel count 0 to 64
unfoldable pub counts_ok : ℕ → ℕ → Bool
counts_ok nodes channels = leb 1 nodes && leb nodes 32 && leb channels 64

-- kind is one of those listed, period 1 to 65,535, deadline 1 to the period, and the constant one that the kind may have
unfoldable pub node_ok : Node → Bool
node_ok n =
    ltb n.kind 12
    && (leb 1 n.period && leb n.period 65535)
    && (leb 1 n.deadline && leb n.deadline n.period)
    && constant_ok n.kind n.constant

-- writer and reader are node numbers below the node count, or the outside
abbrev pub end_ok : ℕ → ℕ → Bool
end_ok nodes n = ltb n nodes || eqb n outside

-- the rules of a channel's fields, in a network of so many nodes
unfoldable pub channel_ok : ℕ → Channel → Bool
channel_ok nodes ch =
    end_ok nodes ch.writer
    && end_ok nodes ch.reader
    && (leb 1 ch.capacity && leb ch.capacity 64)
    && leb ch.initial ch.capacity
    && (not (is_register ch) || (eqb ch.capacity 1 && eqb ch.initial 1))
    && (not (is_out ch) || (not (is_register ch) && eqb ch.port 0 && eqb ch.capacity 1 && eqb ch.initial 0))
    && not (eqb ch.writer outside && is_out ch)

-- the capacities of the first c channels together
unfoldable pub capacities : Network → ℕ → ℕ
capacities net c = total c (λ d. (channel_of net d).capacity)

-- channel c serves port p of node n
abbrev pub serves : Network → ℕ → ℕ → ℕ → Bool
serves net n p c = eqb (channel_of net c).reader n && eqb (channel_of net c).port p

-- every port of node n below its input count is served by exactly one channel, any other port by none
unfoldable pub ports_ok : Network → ℕ → Bool
ports_ok net n =
    every 4 (λ p. eqb (count (length net.channels) (serves net n p)) (cond (ltb p (inputs (node_of net n).kind)) 1 0))

-- the sort has 1 bit and the port 2; every other field is bounded by its own rule
pub record InBits (ch : Channel) : Type 0 where
  pub sort : ch.sort < 2
  pub port : ch.port < 4

-- a network's own rules: limits 3 to 6, ports 8, and the tokens that its channels' initial counts say
pub record Obeys (net : Network) : Type 0 where
  pub counts : counts_ok (length net.nodes) (length net.channels) ≡ true
  pub node_fields : (n : ℕ) → n < length net.nodes → node_ok (node_of net n) ≡ true
  pub constants : (n : ℕ) → n < length net.nodes → SFits w32 (node_of net n).constant
  pub channel_fields : (c : ℕ) → c < length net.channels → channel_ok (length net.nodes) (channel_of net c) ≡ true
  pub in_bits : (c : ℕ) → c < length net.channels → InBits (channel_of net c)
  pub together : capacities net (length net.channels) ≤ 1024
  pub ports : (n : ℕ) → n < length net.nodes → ports_ok net n ≡ true
  pub held : length net.tokens ≡ length net.channels
  pub initially : (c : ℕ) → c < length net.channels → length (get_or net.tokens c []) ≡ (channel_of net c).initial
  pub token_fits : (c i : ℕ) → SFits w32 (get_or (get_or net.tokens c []) i (pos 0))
