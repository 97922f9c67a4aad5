-- An instant by its parts: the writes, the overfull check, the words and the reads come to the step of the rules. Assumes nothing.
use Prim.Native.Nat.{ℕ, ◌+◌, ◌-◌, ◌≤◌, ◌<◌, min}
use native.Mathlib.Nat.{le_refl}
use native.Mathlib.Omega.{arith}
use mathlib.Core.Bool.{cond}
use mathlib.Core.List.{List, ◌++◌}
use mathlib.Core.Path.{◌≡◌, sym, ◌∙◌, ap}
use lib.Dec.{ltb}
use lib.ListN.{length, take, drop, length-take}
use borrow.Author.Tests.{lt-ltb, le-ltb}
use Rattle.rules.specs.Lists.{lowest}
use Rattle.rules.specs.Network.{Network}
use Rattle.rules.specs.Instant.{State, after_writes, after_reads, overfull, out_words, stops, goes, judged, instant}
use Rattle.rules.proofs.ListLaws.{lowest_is}
use Rattle.layout.specs.declared.Plan.{Plan}
use Rattle.layout.specs.declared.State as layout
use Rattle.layout.specs.Views.{Shape, Cells, Wires, Pendings, Ways, nodes_of, channels_of, shape_of, wires_of, ways_of, cells_of, pendings_of, soons_of}
use Rattle.arrays.specs.Writes.{WroteDue, WroteArrivals, Gathered, arrival_at}
use Rattle.arrays.specs.Nodes.{soonest, ReadBelow, Paired}
use Rattle.arrays.specs.Instants.{Before, Written, WrittenIn, Whole, WentOn}
use Rattle.arrays.proofs.WritesStand.{WritesStand, writes_stand}
use Rattle.arrays.proofs.WordsStand.{words_stand}
use Rattle.arrays.proofs.ReadsStand.{reads_stand}
use Rattle.arrays.proofs.Skips.{cursor_on}

-- the results that are due and the arrivals are written
module _ {net : Network} {arrivals : List ℕ} {s : Shape} {w : Wires} {v : Ways} {from next t nodes f g full : ℕ} {st : State} {x y z : Cells} {p : Pendings}
    (all : nodes ≡ length net.nodes)
    (before : Before net arrivals s w v from t st x p)
    (due : WroteDue s x nodes t p.due p.value v.first v.follow y f)
    (arrived : WroteArrivals s y arrivals from t z next g)
    (least : full ≡ min f g) where
  stand : WritesStand net arrivals t st s z full
  stand =
      rw least
      (writes_stand net arrivals t st s w v x y z p from next f g before.obeys before.faultless before.early before.sound before.wired before.represents before.cursor (rw all at due) arrived)

  -- a queue is overfull: the instant stops with 11 and the lowest such channel
  pub step_full : (room : ℕ) → full < s.channels → instant net arrivals room t st ≡ stops 11 full
  unfolding instant judged
  step_full room below =
      rw (← stand.lowest_full, lt-ltb full (length net.channels) (rw before.wired.channels at below))

  -- none is: the rings stand for what the channels then hold
  pub step_written : s.channels ≤ full → Written net arrivals s w v next t st x p z
  step_written none =
      let full_by : full ≡ lowest (length net.channels) (overfull net (after_writes net arrivals t st)) = stand.lowest_full in
      let last : full ≡ length net.channels =
      omega (arith, (lowest_is (length net.channels) (overfull net (after_writes net arrivals t st))).most, before.wired.channels) in
      record {
        obeys = before.obeys;
        faultless = before.faultless;
        early = before.early;
        sound = before.sound;
        wired = before.wired;
        represents = before.represents;
        cursor = cursor_on net arrivals s y z from t next g before.faultless before.cursor arrived;
        rings = stand.rings;
        none_full = sym full_by ∙ last;
        held = stand.held last;
      }

-- no queue is overfull, and the words are gathered
module _ {net : Network} {arrivals : List ℕ} (p : Plan) (state : layout.State) {next t more : ℕ} {st : State} {x : Cells} {words : List ℕ}
    (written : WrittenIn net arrivals p next t st x state)
    (gathered : Gathered (channels_of p) t (ways_of p).follow_out (ways_of p).first_out (ways_of p).writer (pendings_of state).due (pendings_of state).value words more)
    (places : length words ≡ 64) where
  words_same : take more words ≡ out_words net arrivals t st
  words_same =
      words_stand net arrivals t st (shape_of p) (wires_of p) (ways_of p) x (pendings_of state) words more written.obeys written.faultless written.early written.wired written.represents (rw written.wired.channels at gathered)

  many_words : length (out_words net arrivals t st) ≡ more
  many_words =
      ap length (sym words_same) ∙ length-take more words ∙ omega (arith, gathered.few, written.rings.placed.few)

  -- the room for them decides
  by_room : (room : ℕ) → instant net arrivals room t st
      ≡ cond (ltb room more) (stops 12 0) (goes (out_words net arrivals t st) (after_reads net (after_writes net arrivals t st) t st))
  unfolding instant judged
  by_room room =
      let channels = length net.channels in
      rw (written.none_full, le-ltb channels channels (le_refl channels), many_words)

  -- they do not all fit: the instant stops with 12
  pub step_short : (room : ℕ) → room < more → instant net arrivals room t st ≡ stops 12 0
  step_short room short = rw (by_room room, lt-ltb room more short)

  -- they fit: they are put behind the others of the list, and the reads make the next state
  pub step_on : {out after : List ℕ} {z : layout.State} {count arrival soon : ℕ}
      → nodes_of p ≡ length net.nodes
      → more ≤ length out - count
      → after ≡ take count out ++ (take more words ++ drop (count + more) out)
      → Whole p z
      → Paired (nodes_of p) (soons_of z) (pendings_of z)
      → ReadBelow (wires_of p) (shape_of p) (cells_of state) (pendings_of state) t (nodes_of p) (cells_of z) (pendings_of z)
      → arrival ≡ arrival_at arrivals next
      → soon ≡ soonest (pendings_of z) arrival (nodes_of p)
      → WentOn net arrivals p t st out count after more next soon z
  step_on {out} {after} {z} {count} {arrival} {soon} all fit list whole paired reads comes earliest =
      record {
        words = out_words net arrivals t st;
        state = after_reads net (after_writes net arrivals t st) t st;
        goes_on = rw (by_room (length out - count), le-ltb (length out - count) more fit);
        many = many_words;
        list = rw (← words_same) list;
        represents =
            reads_stand net arrivals t st (shape_of p) (wires_of p) (ways_of p) x (cells_of state) (cells_of z) (pendings_of state) (pendings_of z) written.obeys written.sound written.wired written.represents written.rings written.held (rw all at reads);
        cursor = written.cursor;
        earliest = rw (← comes, ← all) earliest;
        whole = whole;
        paired = paired;
      }
