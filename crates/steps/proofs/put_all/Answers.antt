-- A turn writes the value to channel c of the walk, and goes on to the next one.
use Rattle.std.proofs.Common.{ℕ, ◌<◌, min, get_or, refl, ◌∙◌, arith}
use Rattle.rules.specs.Kinds.{signed, pattern}
use Rattle.rules.proofs.KindLaws.{signed_pattern}
use Rattle.layout.specs.declared.Plan.{Plan}
use Rattle.layout.specs.declared.State.{State}
use Rattle.layout.specs.Views.{channels_of, ways_of}
use Rattle.rings.specs.Access.{PutDone}
use Rattle.rings.proofs.AccessLaws.{put_done}
use Rattle.arrays.specs.Writes.{Climbs}
use Rattle.arrays.proofs.WalkLaws.{walk_starts, walk_turn, walk_ends}
use Rattle.steps.proofs.put_all.Invariants.{AlongTo}
use Rattle.steps.proofs.put_all.Goals as goal

along : {p : Plan} {s y z : State} {first v before c full r : ℕ} → Climbs (channels_of p) (ways_of p).follow first → c < 64 → AlongTo p s first v before c y full → PutDone p y c v full z r → AlongTo p s first v before (get_or (ways_of p).follow c 0) z r
along climbs h to put =
    record {
      full = min to.full put.full;
      walked = walk_turn climbs h refl to.walked put.wrote;
      least = omega (arith, to.least, put.least);
      nodes = put.nodes ∙ to.nodes;
    }

pub loop-c-init : goal.loop-c-init
loop-c-init c = record { full = _; walked = walk_starts c.requires.1 c.requires.0; least = omega (arith, c.requires.2); nodes = refl }

pub loop-c-preserved : goal.loop-c-preserved
loop-c-preserved c =
    let to = c.loop-c.invariant in
    along c.requires.1 c.loop-c-test.true to
    (put_done (signed (pattern c.args.v)) c.put-full.ensures.after c.put-full.ensures.answer to.walked.rings (to.walked.inside c.loop-c-test.true) (omega (arith, to.least, c.requires.2)))

pub returns : goal.returns
returns c =
    let to = c.loop-c.invariant in
    record { full = to.full; wrote = rw (signed_pattern c.args.v c.ranges.v) at (walk_ends c.requires.1 c.loop-c-test.false to.walked); least = to.least; nodes = to.nodes }
