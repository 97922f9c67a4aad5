-- The arrays that are made of a network's channels and nodes before the first instant. Assumes nothing.
use Rattle.std.specs.Prelude.{ℕ, ◌≤◌, ◌<◌, Bool, false, not, ◌&&◌, List, [], ◌≡◌, eqb, ltb, length, get_or}
use Rattle.rules.specs.declared.Channel.{Channel}
use Rattle.rules.specs.Lists.{total}
use Rattle.rules.specs.Kinds.{inputs}
use Rattle.rules.specs.Network.{channel_among}
use Rattle.kinds.specs.Nodes.{never}
use Rattle.arrays.specs.Writes.{Walk, Climbs}
use Rattle.arrays.specs.Taking.{port_of}

-- the bases of the first c rings: the capacities of the channels before each together
pub record BasesOf (c : ℕ) (channels : List Channel) (base : List ℕ) : Type 0 where
  pub size : length base ≡ 64
  pub sums : (i : ℕ) → i < c → get_or base i 0 ≡ total i (λ d. (channel_among channels d).capacity)

-- channels d and e serve one port
abbrev pub one_port : List Channel → ℕ → ℕ → Bool
one_port channels d e =
    eqb (channel_among channels d).reader (channel_among channels e).reader
    && eqb (channel_among channels d).port (channel_among channels e).port

-- the last of the first c channels that serves a port stands there
pub record PortsOf (c : ℕ) (channels : List Channel) (input : List (List ℕ)) : Type 0 where
  pub nodes : length input ≡ 32
  pub ports : (n : ℕ) → n < 32 → length (get_or input n []) ≡ 4
  pub last : (e : ℕ) → e < c → (channel_among channels e).reader < 32 → ((d : ℕ) → e < d → d < c → one_port channels d e ≡ false)
      → port_of input (channel_among channels e).reader (channel_among channels e).port ≡ e

-- channel c is one that node n writes and a node reads
abbrev pub inner_of : List Channel → ℕ → ℕ → Bool
inner_of channels n c = eqb (channel_among channels c).writer n && ltb (channel_among channels c).reader 32

-- channel c is one that no node reads
abbrev pub outer_of : List Channel → ℕ → Bool
outer_of channels c = not (ltb (channel_among channels c).reader 32)

-- a walk over the channels with a property
pub record WalkOver (channels : ℕ) (follow : List ℕ) (first : ℕ) (mine : ℕ → Bool) : Type 0 where
  pub size : length follow ≡ 64
  pub walk : Walk channels follow first mine
  pub climbs : Climbs channels follow first

-- the walks over the channels that each node writes and a node reads, and the walk over those that no node reads
pub record WalksOf (channels : List Channel) (first follow : List ℕ) (first_out : ℕ) (follow_out : List ℕ) : Type 0 where
  pub firsts : length first ≡ 32
  pub walks : (n : ℕ) → n < 32 → WalkOver (length channels) follow (get_or first n 0) (inner_of channels n)
  pub outs : WalkOver (length channels) follow_out first_out (outer_of channels)

-- how many inputs each of the first n nodes has
pub record CountsOf (n : ℕ) (kind count : List ℕ) : Type 0 where
  pub size : length count ≡ 32
  pub each : (i : ℕ) → i < n → get_or count i 0 ≡ inputs (get_or kind i 0)

-- every node is released at 0, and one below n that is not there never
pub record ReleasesOf (nodes n : ℕ) (next : List ℕ) : Type 0 where
  pub size : length next ≡ 32
  pub first : (i : ℕ) → i < nodes → get_or next i 0 ≡ 0
  pub unused : (i : ℕ) → nodes ≤ i → i < n → get_or next i 0 ≡ never
