-- What the functions of an instant promise each other, of the plan and the state. Assumes nothing.
use Rattle.std.specs.Prelude.{ℕ, ◌+◌, ◌*◌, ◌≤◌, min, false, List, ◌≡◌, eqb, get_or}
use Rattle.layout.specs.declared.Plan.{Plan}
use Rattle.layout.specs.declared.State.{State}
use Rattle.layout.specs.Views.{Cells, Pendings, nodes_of, channels_of, shape_of, wires_of, ways_of, cells_of, pendings_of, soons_of, nodes_from}
use Rattle.arrays.specs.Writes.{WroteWalk, WroteDue, Gathered}
use Rattle.arrays.specs.Nodes.{Turned, ReadBelow, Paired, pending_at, pair_soon, soonest}
use Rattle.arrays.specs.Instants.{RingsIn, Whole}

-- ---- Writes

-- a token is written to each channel of a walk: r is the lower of `before` and the lowest channel without room
pub record WroteAlong (p : Plan) (s : State) (first v before : ℕ) (z : State) (r : ℕ) : Type 0 where
  pub full : ℕ
  pub wrote : WroteWalk (shape_of p) (cells_of s) (ways_of p).follow first v (cells_of z) full
  pub least : r ≡ min before full
  pub nodes : nodes_from z ≡ nodes_from s

-- from the cells x to the cells y the results of the first n nodes that are due at t are written
abbrev pub DueTo : Plan → State → ℕ → ℕ → Cells → Cells → ℕ → Type 0
DueTo p s t n x y full =
    WroteDue (shape_of p) x n t (pendings_of s).due (pendings_of s).value (ways_of p).first (ways_of p).follow y full

-- behind those of the first n nodes, those of the nodes up to k are written
pub record WroteOn (p : Plan) (s : State) (t n k before : ℕ) (z : State) (r : ℕ) : Type 0 where
  pub wrote : (x : Cells) → DueTo p s t n x (cells_of s) before → DueTo p s t k x (cells_of z) r
  pub rings : RingsIn p z
  pub few : r ≤ channels_of p
  pub nodes : nodes_from z ≡ nodes_from s

-- those of all nodes are written
pub record WroteAll (p : Plan) (s : State) (t : ℕ) (z : State) (r : ℕ) : Type 0 where
  pub wrote : DueTo p s t (nodes_of p) (cells_of s) (cells_of z) r
  pub few : r ≤ channels_of p
  pub nodes : nodes_from z ≡ nodes_from s

-- ---- Words

-- the words of the instant stand first in a list
abbrev pub GatheredIn : Plan → State → ℕ → List ℕ → ℕ → Type 0
GatheredIn p s t words count =
    Gathered (channels_of p) t (ways_of p).follow_out (ways_of p).first_out (ways_of p).writer (pendings_of s).due (pendings_of s).value words count

-- ---- Reads

-- node n has had its turn to read at t; r is its earliest instant then
pub record TurnedIn (p : Plan) (s : State) (t n : ℕ) (z : State) (r : ℕ) : Type 0 where
  pub turned : Turned (wires_of p) (shape_of p) (cells_of s) (pendings_of s) t n (cells_of z) (pendings_of z) r
  pub soons : soons_of z ≡ soons_of s
  pub idle : (get_or (pendings_of s).next n 0 ≡ t → ⊥) → (get_or (pendings_of s).due n 0 ≡ t → ⊥) → z ≡ s

-- from the cells x and the pendings q to the state s the first k nodes have had their turn to read at t
abbrev pub ReadTo : Plan → ℕ → ℕ → Cells → Pendings → State → Type 0
ReadTo p t k x q s = ReadBelow (wires_of p) (shape_of p) x q t k (cells_of s) (pendings_of s)

-- behind the first 2 g nodes, those of pair g have had their turn; r is the pair's earliest instant then
pub record PairTurned (p : Plan) (s : State) (t g : ℕ) (z : State) (r : ℕ) : Type 0 where
  pub whole : Whole p z
  pub read : (x : Cells) (q : Pendings) → ReadTo p t (2 * g) x q s → ReadTo p t (min (2 * g + 2) (nodes_of p)) x q z
  pub soon : r ≡ pair_soon (pendings_of z) g
  pub others : (k : ℕ) → (2 * g ≤ k → 2 * g + 2 ≤ k) → pending_at (pendings_of z) k ≡ pending_at (pendings_of s) k

-- the same, and that instant is kept
pub record PairRead (p : Plan) (s : State) (t g : ℕ) (z : State) (r : ℕ) : Type 0 where
  pub turned : PairTurned p s t g z r
  pub held : get_or (soons_of z) g 0 ≡ r
  pub others : (h : ℕ) → eqb h g ≡ false → get_or (soons_of z) h 0 ≡ get_or (soons_of s) h 0

-- all nodes have had their turn; r is the earliest of their instants and `from`
pub record ReadAll (p : Plan) (s : State) (t from : ℕ) (z : State) (r : ℕ) : Type 0 where
  pub whole : Whole p z
  pub read : ReadTo p t (nodes_of p) (cells_of s) (pendings_of s) z
  pub paired : Paired (nodes_of p) (soons_of z) (pendings_of z)
  pub soon : r ≡ soonest (pendings_of z) from (nodes_of p)
