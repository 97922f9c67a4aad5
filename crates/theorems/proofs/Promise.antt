-- Demand 3 is proved: by any order for each of the two runs, and by the extension over the rules. Assumes nothing.
use Prim.Native.Nat.{suc, ◌<◌, suc-le-suc}
use native.Mathlib.Omega.{arith}
use mathlib.Core.Path.{sym, ◌∙◌}
use lib.ListN.{length}
use borrow.Author.Tests.{eq-eqb}
use Rattle.rules.proofs.Accepted.{accepted}
use Rattle.rules.proofs.Arrivals.{faultless_arrivals}
use Rattle.theorems.specs.Demand.{Demand}
use Rattle.theorems.proofs.AnyOrder.{any_order, any_order_history}
use Rattle.theorems.proofs.Extension.{same_history, stops_too_law}

pub demand : Demand
demand table_a table_b A B T arrivals_a arrivals_b orders_a orders_b room_a room_b read_a readB extends goodA goodB agree fairA fair_b =
    let obeys_a = accepted table_a A read_a in
    let obeys_b = accepted table_b B readB in
    let faultless_a = faultless_arrivals A arrivals_a (eq-eqb _ _ goodA) in
    let faultless_b = faultless_arrivals B arrivals_b (eq-eqb _ _ goodB) in
    let run_a = any_order A arrivals_a orders_a room_a obeys_a faultless_a fairA in
    let run_b = any_order B arrivals_b orders_b room_b obeys_b faultless_b fair_b in
    let told_a = any_order_history A arrivals_a orders_a room_a obeys_a faultless_a fairA in
    let told_b = any_order_history B arrivals_b orders_b room_b obeys_b faultless_b fair_b in
    record {
      same = λ t h ra rb c below.
          let farther : c < length B.channels = omega (arith, extends.more_channels) in
          told_b c (suc t) farther
          ∙ same_history A B T arrivals_a arrivals_b room_a room_b obeys_a obeys_b extends agree (suc t) (suc-le-suc h) (rw (run_a (suc t)) at ra)
          (rw (run_b (suc t)) at rb) c below
          ∙ sym (told_a c (suc t) below);
      of_a = λ c below t. told_a c t below;
      of_b = λ c below t. told_b c t below;
      stops_too = λ end words t c e h.
          rw (run_b (suc t))
          (stops_too_law A B T arrivals_a arrivals_b room_a room_b obeys_a obeys_b extends agree end words t c (sym (run_a end) ∙ e) h);
    }
