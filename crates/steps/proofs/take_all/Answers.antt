-- Where all ports hold a token they are taken in turn, and each take leaves the later ports as they were.
use Rattle.std.proofs.Common.{◌≡◌, ◌∙◌, add-one, length-set, arith}
use Rattle.std.proofs.lemmas.List.{length-replicate}
use Rattle.rules.proofs.KindLaws.{signed_pattern}
use Rattle.rules.proofs.ListLaws.{true_or_false}
use Rattle.arrays.proofs.InputLaws.{can_take, taken_none, taken_next, found_next}
use Rattle.steps.proofs.Inputs.{every_holds, lacking, none_begin, one_begins, took_all}
use Rattle.steps.proofs.take_all.Goals as goal

pub returns-then-not-all_hold : goal.returns-then-not-all_hold
returns-then-not-all_hold g c = lacking _ _ _ _ c.requires.0 (λ holds. true_or_false (c.all_hold.ensures.1 holds) c.if-not-all_hold.true)

pub loop-p-init : goal.loop-p-init
loop-p-init g c = record { many = length-replicate g.row.N _; taken = taken_none _ _ _ _ c.requires.2 c.requires.0; begins = none_begin _ g.row.N }

pub take-requires : goal.take-requires
take-requires g c =
    let can = can_take _ _ _ _ c.requires.2 (every_holds c.args.plan.now c.args.state.now c.args.n g.row.N (c.all_hold.ensures.0 c.if-not-all_hold.false)) _ c.loop-p.invariant.taken c.loop-p-test.true in
    rw c.port.ensures (can.rings, can.there, can.some)

pub loop-p-preserved : goal.loop-p-preserved
loop-p-preserved g c =
    let holds = every_holds c.args.plan.now c.args.state.now c.args.n g.row.N (c.all_hold.ensures.0 c.if-not-all_hold.false) in
    let before = c.loop-p.invariant.taken in
    let same = signed_pattern c.take.result (record { sfits = c.take.type_inv }) in
    let found = found_next _ _ _ _ c.requires.2 holds _ before c.loop-p-test.true in
    record {
      many = length-set _ _ _ ∙ c.loop-p.invariant.many;
      taken = rw (add-one, c.take.ensures.after, c.port.ensures) (taken_next _ _ _ _ c.requires.2 holds _ before c.loop-p-test.true);
      begins = one_begins _ _ _ _ (rw c.loop-p.invariant.many c.loop-p-test.true) (rw (same, c.take.ensures.answer, c.port.ensures) found) c.loop-p.invariant.begins;
    }

pub returns : goal.returns
returns g c =
    let all : c.loop-p.p ≡ g.row.N = omega arith in
    took_all _ _ _ _ _ _ c.requires.2 (every_holds c.args.plan.now c.args.state.now c.args.n g.row.N (c.all_hold.ensures.0 c.if-not-all_hold.false)) (rw all at c.loop-p.invariant.taken) (rw all at c.loop-p.invariant.begins)
