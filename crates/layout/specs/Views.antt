-- What the plan and the state are seen as. Kinds and sorts are seen by their numbers, tokens by their 32 bits. Assumes nothing.
use Rattle.std.specs.Prelude.{ℕ, List, map}
use Rattle.rules.specs.Kinds.{pattern}
use Rattle.kinds.specs.Kind.{kind_number}
use Rattle.layout.specs.declared.Sort.{Sort}
use Rattle.layout.specs.declared.Plan.{Plan}
use Rattle.layout.specs.declared.State.{State}

-- the number that stands for a sort in a table
abbrev pub sort_number : Sort → ℕ
sort_number Sort.Queue = 0
sort_number Sort.Register = 1

-- how many channels, nodes, pairs of nodes and tokens there is room for
abbrev pub Cs : ℕ
Cs = 64

abbrev pub Ns : ℕ
Ns = 32

abbrev pub Ps : ℕ
Ps = 16

abbrev pub Ts : ℕ
Ts = 1024

-- ---- What stays

-- how many channels there are, and each one's sort and the first place and number of places of its ring
pub record Shape : Type 0 where
  pub channels : ℕ
  pub sort : List ℕ
  pub base : List ℕ
  pub capacity : List ℕ

abbrev pub shape : ℕ → List ℕ → List ℕ → List ℕ → Shape
shape channels sort base capacity = record { channels = channels; sort = sort; base = base; capacity = capacity }

-- the nodes' records, how many inputs each has, and the channels at their ports
pub record Wires : Type 0 where
  pub kind : List ℕ
  pub constant : List ℕ
  pub period : List ℕ
  pub deadline : List ℕ
  pub count : List ℕ
  pub input : List (List ℕ)

abbrev pub wires : List ℕ → List ℕ → List ℕ → List ℕ → List ℕ → List (List ℕ) → Wires
wires kind constant period deadline count input =
    record { kind = kind; constant = constant; period = period; deadline = deadline; count = count; input = input }

-- who writes where: the channels to a node of each writer in order, and the channels to the outside in order
pub record Ways : Type 0 where
  pub writer : List ℕ
  pub first : List ℕ
  pub follow : List ℕ
  pub first_out : ℕ
  pub follow_out : List ℕ

abbrev pub ways : List ℕ → List ℕ → List ℕ → ℕ → List ℕ → Ways
ways writer first follow first_out follow_out =
    record { writer = writer; first = first; follow = follow; first_out = first_out; follow_out = follow_out }

abbrev pub nodes_of : Plan → ℕ
nodes_of p = p.nodes

abbrev pub channels_of : Plan → ℕ
channels_of p = p.channels

abbrev pub shape_of : Plan → Shape
shape_of p = shape p.channels (map sort_number p.sort) p.base p.capacity

abbrev pub wires_of : Plan → Wires
wires_of p =
    wires
    (map (λ n. kind_number n.kind) p.node)
    (map (λ n. pattern n.constant) p.node)
    (map (λ n. n.period) p.node)
    (map (λ n. n.deadline) p.node)
    (map (λ n. n.count) p.node)
    (map (λ n. n.input) p.node)

abbrev pub ways_of : Plan → Ways
ways_of p = ways p.writer (map (λ n. n.first) p.node) p.follow p.out p.outs

-- ---- What changes

-- each ring's head and length, and the tokens
pub record Cells : Type 0 where
  pub head : List ℕ
  pub len : List ℕ
  pub tokens : List ℕ

abbrev pub cells : List ℕ → List ℕ → List ℕ → Cells
cells head len tokens = record { head = head; len = len; tokens = tokens }

-- each node's next release and waiting result
pub record Pendings : Type 0 where
  pub next : List ℕ
  pub due : List ℕ
  pub value : List ℕ

abbrev pub pendings : List ℕ → List ℕ → List ℕ → Pendings
pendings next due value = record { next = next; due = due; value = value }

abbrev pub cells_of : State → Cells
cells_of s = cells (map (λ r. r.head) s.ring) (map (λ r. r.len) s.ring) (map pattern s.tokens)

abbrev pub pendings_of : State → Pendings
pendings_of s = pendings s.next s.due (map pattern s.value)

abbrev pub soons_of : State → List ℕ
soons_of s = s.soon

-- all that the state holds of the nodes
abbrev pub nodes_from : State → Pendings × List ℕ
nodes_from s = (pendings_of s, soons_of s)
