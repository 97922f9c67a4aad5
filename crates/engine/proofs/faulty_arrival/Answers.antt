-- What the search learns of each arrival that it asks of is whether that is faulty.
use Rattle.std.proofs.Common.{rules, ◌≡◌, true, false}
use Rattle.std.proofs.lemmas.Iterator.{first_from_Range}
use Rattle.engine.specs.Arrivals.{faulty_by}
use Rattle.engine.proofs.ArrivalLaws.{first_searched}
use Rattle.engine.proofs.faulty_arrival.Goals as goal

pub returns : goal.returns
returns c =
    let faulty = faulty_by c.args.plan.now c.args.arrivals.now in
    first_searched _ _ _
    (first_from_Range _ _ _ _ (λ i. faulty i ≡ true) (λ i. faulty i ≡ false) c.find.ensures.ran (λ i q k. search rules) (λ i q k. search rules))
