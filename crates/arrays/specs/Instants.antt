-- One instant: what is known before it, and what it comes to where it goes on. Assumes nothing.
use Rattle.std.specs.Prelude.{ℕ, suc, ◌+◌, ◌-◌, ◌≤◌, ◌<◌, ◌^◌, List, ◌++◌, map, ◌≡◌, length, get_or, take, drop}
use Rattle.rules.specs.Network as rules
use Rattle.rules.specs.Network.{Obeys}
use Rattle.rules.specs.Lists.{lowest}
use Rattle.rules.specs.Kinds.{signed}
use Rattle.rules.specs.Instant.{State, held_in, channel_in, after_writes, overfull, goes, instant}
use Rattle.rules.proofs.Sound.{Sound}
use Rattle.rules.proofs.Arrivals.{Faultless}
use Rattle.layout.specs.declared.Plan.{Plan}
use Rattle.layout.specs.declared.State as layout
use Rattle.layout.specs.Views.{Shape, Wires, Ways, Cells, Pendings, nodes_of, channels_of, shape_of, wires_of, ways_of, cells_of, pendings_of, soons_of}
use Rattle.rings.specs.Rings.{Rings, held_at}
use Rattle.arrays.specs.Writes.{Climbs, arrival_at}
use Rattle.arrays.specs.Nodes.{Sized, Readable, Separate, Unused, Paired, Ahead, soonest}
use Rattle.arrays.specs.Represents.{Wired, Represents, Cursor}

-- what stays over a run is such that every instant can be done
pub record Able (nodes channels : ℕ) (w : Wires) (v : Ways) : Type 0 where
  pub few : nodes ≤ 32
  pub walks : (n : ℕ) → n < nodes → Climbs channels v.follow (get_or v.first n 0)
  pub outs : Climbs channels v.follow_out v.first_out
  pub readable : (n : ℕ) → n < nodes → Readable channels w n
  pub separate : Separate nodes w

-- every arrival is on a channel
abbrev pub OnChannels : ℕ → List ℕ → Type 0
OnChannels channels arrivals = (i : ℕ) → i < length arrivals → channel_in (get_or arrivals i 0) < channels

-- what is known of a network's run before an instant
pub record Before (net : rules.Network) (arrivals : List ℕ) (s : Shape) (w : Wires) (v : Ways) (from t : ℕ) (st : State) (x : Cells) (p : Pendings) : Type 0 where
  pub obeys : Obeys net
  pub faultless : Faultless net arrivals
  pub early : t < 2 ^ 24
  pub sound : Sound net t st
  pub wired : Wired net s w v
  pub represents : Represents net s t st x p
  pub cursor : Cursor arrivals from t

-- what is known once an instant's writes are done and no queue is overfull: the cells z stand for what the channels then hold, and the
-- arrivals go on at an index
pub record Written (net : rules.Network) (arrivals : List ℕ) (s : Shape) (w : Wires) (v : Ways) (next t : ℕ) (st : State) (x : Cells) (p : Pendings) (z : Cells) : Type 0 where
  pub obeys : Obeys net
  pub faultless : Faultless net arrivals
  pub early : t < 2 ^ 24
  pub sound : Sound net t st
  pub wired : Wired net s w v
  pub represents : Represents net s t st x p
  pub cursor : Cursor arrivals next (suc t)
  pub rings : Rings s z
  pub none_full : lowest (length net.channels) (overfull net (after_writes net arrivals t st)) ≡ length net.channels
  pub held : (c : ℕ) → c < length net.channels → held_in (after_writes net arrivals t st) c ≡ map signed (held_at s z c)

-- ---- Of a plan and a state

abbrev pub AbleIn : Plan → Type 0
AbleIn p = Able (nodes_of p) (channels_of p) (wires_of p) (ways_of p)

abbrev pub RingsIn : Plan → layout.State → Type 0
RingsIn p s = Rings (shape_of p) (cells_of s)

-- a state is whole: its rings are within their places, each field has its entries, and nodes that are not there are at rest
pub record Whole (p : Plan) (s : layout.State) : Type 0 where
  pub rings : RingsIn p s
  pub sized : Sized (pendings_of s)
  pub pairs : length (soons_of s) ≡ 16
  pub unused : Unused (nodes_of p) (pendings_of s)

-- it is at instant t: each pair's earliest instant is kept, and none is past
pub record Timely (p : Plan) (s : layout.State) (t : ℕ) : Type 0 where
  pub early : t < 2 ^ 24
  pub paired : Paired (nodes_of p) (soons_of s) (pendings_of s)
  pub ahead : Ahead (nodes_of p) (pendings_of s) t

abbrev pub BeforeIn : rules.Network → List ℕ → Plan → ℕ → ℕ → State → layout.State → Type 0
BeforeIn net arrivals p from t st s =
    Before net arrivals (shape_of p) (wires_of p) (ways_of p) from t st (cells_of s) (pendings_of s)

abbrev pub WrittenIn : rules.Network → List ℕ → Plan → ℕ → ℕ → State → Cells → layout.State → Type 0
WrittenIn net arrivals p next t st x s =
    Written net arrivals (shape_of p) (wires_of p) (ways_of p) next t st x (pendings_of s) (cells_of s)

-- an instant that goes on: its words are put behind the first `count` of the list, and the state z stands for the rules' next state
pub record WentOn (net : rules.Network) (arrivals : List ℕ) (p : Plan) (t : ℕ) (st : State) (out : List ℕ) (count : ℕ) (after : List ℕ) (more next soon : ℕ) (z : layout.State) : Type 0 where
  pub words : List ℕ
  pub state : State
  pub goes_on : instant net arrivals (length out - count) t st ≡ goes words state
  pub many : length words ≡ more
  pub list : after ≡ take count out ++ (words ++ drop (count + more) out)
  pub represents : Represents net (shape_of p) (suc t) state (cells_of z) (pendings_of z)
  pub cursor : Cursor arrivals next (suc t)
  pub earliest : soon ≡ soonest (pendings_of z) (arrival_at arrivals next) (length net.nodes)
  pub whole : Whole p z
  pub paired : Paired (nodes_of p) (soons_of z) (pendings_of z)
