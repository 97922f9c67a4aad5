-- The arrays of a run stand for a network and for its state. Assumes nothing.
use Rattle.std.specs.Prelude.{ℕ, ◌+◌, ◌%◌, ◌≤◌, ◌<◌, Bool, not, ◌&&◌, List, map, ◌≡◌, eqb, length, get_or}
use Rattle.rules.specs.declared.Node.{Node}
use Rattle.rules.specs.Lists.{lowest}
use Rattle.rules.specs.Kinds.{signed, inputs}
use Rattle.rules.specs.Network.{Network, node_of, channel_of, is_out, serves}
use Rattle.rules.specs.Instant.{State, waiting_of, held_in, time_in}
use Rattle.layout.specs.Views.{Shape, Cells, Wires, Ways, Pendings}
use Rattle.rings.specs.Rings.{Rings, capacity_of, held_at}
use Rattle.arrays.specs.Writes.{Walk}
use Rattle.arrays.specs.Taking.{port_of}
use Rattle.arrays.specs.Nodes.{waiting_at}

-- channel c is one that node n writes and a node reads
abbrev pub writes_to : Network → ℕ → ℕ → Bool
writes_to net n c = eqb (channel_of net c).writer n && not (is_out (channel_of net c))

-- what stays over a run says the network
pub record Wired (net : Network) (s : Shape) (w : Wires) (v : Ways) : Type 0 where
  pub channels : s.channels ≡ length net.channels
  pub sort : (c : ℕ) → c < length net.channels → get_or s.sort c 0 ≡ (channel_of net c).sort
  pub capacity : (c : ℕ) → c < length net.channels → capacity_of s c ≡ (channel_of net c).capacity
  pub writer : (c : ℕ) → c < length net.channels → get_or v.writer c 0 ≡ (channel_of net c).writer
  pub kind : (n : ℕ) → n < length net.nodes → get_or w.kind n 0 ≡ (node_of net n).kind
  pub constant : (n : ℕ) → n < length net.nodes → signed (get_or w.constant n 0) ≡ (node_of net n).constant
  pub period : (n : ℕ) → n < length net.nodes → get_or w.period n 0 ≡ (node_of net n).period
  pub deadline : (n : ℕ) → n < length net.nodes → get_or w.deadline n 0 ≡ (node_of net n).deadline
  pub ports : (n : ℕ) → n < length net.nodes → (p : ℕ) → p < inputs (node_of net n).kind → port_of w.input n p ≡ lowest (length net.channels) (serves net n p)
  pub walks : (n : ℕ) → n < length net.nodes → Walk (length net.channels) v.follow (get_or v.first n 0) (writes_to net n)
  pub outs : Walk (length net.channels) v.follow_out v.first_out (λ c. is_out (channel_of net c))

-- a node's next release from t on
pub record NextRelease (node : Node) (t next : ℕ) : Type 0 where
  pub multiple : next % node.period ≡ 0
  pub from : t ≤ next
  pub within : next < t + node.period

-- what moves says the state before instant t
pub record Represents (net : Network) (s : Shape) (t : ℕ) (st : State) (x : Cells) (p : Pendings) : Type 0 where
  pub rings : Rings s x
  pub held : (c : ℕ) → c < length net.channels → held_in st.held c ≡ map signed (held_at s x c)
  pub waits : (n : ℕ) → n < length net.nodes → waiting_of st n ≡ waiting_at p n
  pub next : (n : ℕ) → n < length net.nodes → NextRelease (node_of net n) t (get_or p.next n 0)

-- the arrivals before an index are stamped before t, those from it on are not
pub record Cursor (arrivals : List ℕ) (from t : ℕ) : Type 0 where
  pub within : from ≤ length arrivals
  pub passed : (i : ℕ) → i < from → time_in (get_or arrivals i 0) < t
  pub ahead : (i : ℕ) → from ≤ i → i < length arrivals → t ≤ time_in (get_or arrivals i 0)
