-- The fields of a plan and of a state before the first instant, each as the network has it or as it is made of it. Assumes nothing.
use Rattle.std.specs.Prelude.{ℕ, ◌≤◌, ◌<◌, List, ◌≡◌, map, length, replicate, take, pos}
use Rattle.rules.specs.declared.Channel.{Channel}
use Rattle.rules.specs.Lists.{total, tab}
use Rattle.rules.specs.Network.{node_among, channel_among}
use Rattle.kinds.specs.Kind.{kind_number}
use Rattle.kinds.specs.Nodes.{never}
use Rattle.table.specs.declared.Network.{Network}
use Rattle.rules.specs.declared.Node.{Node}
use Rattle.layout.specs.declared.Station.{Station}
use Rattle.rules.specs.Kinds.{pattern, inputs}
use Rattle.layout.specs.declared.Plan.{Plan}
use Rattle.layout.specs.declared.State.{State}
use Rattle.layout.specs.Views.{Cs, Ns, Ps, sort_number, wires_of, ways_of, cells_of}
use Rattle.setup.specs.Setup.{BasesOf, PortsOf, WalksOf, CountsOf, ReleasesOf}

-- a node's part of a plan: its record by its bits, how many inputs it has, and where its walk and its ports begin
pub record StationOf (node : Node) (first : ℕ) (input : List ℕ) (s : Station) : Type 0 where
  pub kind : kind_number s.kind ≡ node.kind
  pub constant : s.constant ≡ node.constant
  pub period : s.period ≡ node.period
  pub deadline : s.deadline ≡ node.deadline
  pub count : s.count ≡ inputs node.kind
  pub first_is : s.first ≡ first
  pub input_is : s.input ≡ input

-- the channels that are there
abbrev pub channels_in : Network → List Channel
channels_in a = take a.channels a.channel

-- what a network's arrays must be for that: the nodes and the channels are few, the rings together too, and sorts, ports and kinds are those of
-- the list
pub record Fits (a : Network) : Type 0 where
  pub few_nodes : a.nodes ≤ 32
  pub few_channels : a.channels ≤ 64
  pub together : total (length (channels_in a)) (λ c. (channel_among (channels_in a) c).capacity) ≤ 1024
  pub ports : (c : ℕ) → c < length (channels_in a) → (channel_among (channels_in a) c).port < 4
  pub sorts : (c : ℕ) → c < 64 → (channel_among a.channel c).sort < 2
  pub kinds : (n : ℕ) → n < 32 → (node_among a.node n).kind < 12

-- a plan has how many nodes and channels there are, each channel's sort, ring and writer, each node's record and how many inputs it has, the
-- walks, and the channels at the ports
pub record PlanFields (a : Network) (p : Plan) : Type 0 where
  pub nodes : p.nodes ≡ a.nodes
  pub channels : p.channels ≡ a.channels
  pub sort : map sort_number p.sort ≡ tab Cs (λ c. (channel_among a.channel c).sort)
  pub base : BasesOf (length (channels_in a)) (channels_in a) p.base
  pub capacity : p.capacity ≡ tab Cs (λ c. (channel_among a.channel c).capacity)
  pub writer : p.writer ≡ tab Cs (λ c. (channel_among a.channel c).writer)
  pub walks : WalksOf (channels_in a) (ways_of p).first p.follow p.out p.outs
  pub kind : (wires_of p).kind ≡ tab Ns (λ n. (node_among a.node n).kind)
  pub constant : (wires_of p).constant ≡ tab Ns (λ n. pattern (node_among a.node n).constant)
  pub period : (wires_of p).period ≡ tab Ns (λ n. (node_among a.node n).period)
  pub deadline : (wires_of p).deadline ≡ tab Ns (λ n. (node_among a.node n).deadline)
  pub count : CountsOf a.nodes (wires_of p).kind (wires_of p).count
  pub input : PortsOf (length (channels_in a)) (channels_in a) (wires_of p).input

-- in a state every ring begins at its base with its initial tokens, every node is released at 0, nothing waits, and each pair's earliest
-- instant is 0
pub record StateFields (a : Network) (s : State) : Type 0 where
  pub head : (cells_of s).head ≡ replicate Cs 0
  pub len : (cells_of s).len ≡ tab Cs (λ c. (channel_among a.channel c).initial)
  pub tokens : s.tokens ≡ a.tokens
  pub next : ReleasesOf a.nodes Ns s.next
  pub due : s.due ≡ replicate Ns never
  pub value : s.value ≡ replicate Ns (pos 0)
  pub soon : s.soon ≡ replicate Ps 0
