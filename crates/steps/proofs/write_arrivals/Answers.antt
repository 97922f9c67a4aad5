-- A turn writes one arrival more behind the others.
use Rattle.std.proofs.Common.{◌≡◌, ℕ, List, ◌+◌, ◌%◌, ◌^◌, ◌<◌, min, length, get_or, refl, sym, ◌∙◌, arith}
use Rattle.rules.specs.Kinds.{signed, pattern}
use Rattle.rules.specs.Instant.{channel_in, time_in}
use Rattle.rules.proofs.KindLaws.{pattern_signed}
use Rattle.layout.specs.declared.Plan.{Plan}
use Rattle.layout.specs.declared.State.{State}
use Rattle.rings.specs.Access.{PutDone}
use Rattle.rings.proofs.AccessLaws.{put_done}
use Rattle.arrays.proofs.Stamps.{none_written, stamp_turn}
use Rattle.steps.proofs.write_arrivals.Invariants.{StampedTo}
use Rattle.steps.proofs.write_arrivals.Goals as goal

stamped : {p : Plan} {s y z : State} {arrivals : List ℕ} {from t before i c v full r : ℕ} → i < length arrivals → time_in (get_or arrivals i 0) ≡ t → c ≡ channel_in (get_or arrivals i 0) → v ≡ get_or arrivals i 0 % 2 ^ 32 → StampedTo p s arrivals from t before i y full → PutDone p y c v full z r → StampedTo p s arrivals from t before (i + 1) z r
stamped below now channel value to put =
    record {
      full = min to.full put.full;
      written = stamp_turn below now channel value refl to.written put.wrote;
      least = omega (arith, to.least, put.least);
      nodes = put.nodes ∙ to.nodes;
    }

pub loop-next-init : goal.loop-next-init
loop-next-init c = record { full = _; written = none_written c.requires.0 c.requires.2; least = omega (arith, c.requires.3); nodes = refl }

pub loop-next-preserved : goal.loop-next-preserved
loop-next-preserved c =
    let to = c.loop-next.invariant in
    let v : ℕ = get_or c.args.arrivals.now c.loop-next.next 0 % 2 ^ 32 in
    let few : v < 2 ^ 32 = omega arith in
    let value : c.value_in.result ≡ signed v = c.value_in.ensures in
    let same : signed (pattern c.value_in.result) ≡ signed v = rw (value, pattern_signed v few) in
    stamped c.loop-next-test.true (sym c.time_in-time.ensures ∙ c.if-time-t.false) c.channel_in.ensures (pattern_signed v few) to
    (put_done (signed v) (rw same at c.put-full.ensures.after) c.put-full.ensures.answer to.written.wrote.rings
    (rw c.channel_in.ensures (c.requires.1 c.loop-next.next c.loop-next-test.true))
    (omega (arith, to.least, c.requires.3)))
