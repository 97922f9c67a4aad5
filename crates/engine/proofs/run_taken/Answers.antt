-- The run is refused by its horizon or at its lowest faulty arrival, and else is that of the plan and the state, which stand for the network.
use Rattle.std.proofs.Common.{arith}
use Rattle.engine.proofs.EntryLaws.{late_refused, arrivals_faultless, faulty_refused, through_instants}
use Rattle.engine.proofs.run_taken.Goals as goal

pub returns-then-late : goal.returns-then-late
returns-then-late c = λ net obeys from. search (arith, late_refused)

pub returns-in-Some : goal.returns-in-Some
returns-in-Some c =
    λ net obeys from.
    faulty_refused (c.prepare.ensures net obeys from).planned _ _ _ (omega arith) c.in-Some.ensures

pub run_prepared-requires : goal.run_prepared-requires
run_prepared-requires c =
    let lawful = c.requires in
    let starts = c.prepare.ensures lawful.net lawful.obeys lawful.from in (
      omega arith,
      record {
        net = lawful.net;
        obeys = lawful.obeys;
        faultless = arrivals_faultless starts.planned _ c.in_default.ensures;
        starts = starts;
      },
    )

pub returns : goal.returns
returns c =
    λ net obeys from.
    let starts = c.prepare.ensures net obeys from in
    through_instants starts.planned _ _ _ (omega arith) c.in_default.ensures (c.run_prepared.ensures net obeys (arrivals_faultless starts.planned _ c.in_default.ensures) starts)
