-- A node's fields of the plan, as they are seen and as the code reads them. Assumes nothing.
use Rattle.std.proofs.Common.{◌≡◌, ℕ, get_or, [], pos}
use lib.ListN.{get_or-map}
use Rattle.rules.specs.Kinds.{pattern}
use Rattle.kinds.specs.declared.Kind.{Kind}
use Rattle.kinds.specs.Kind.{kind_number}
use Rattle.layout.specs.declared.Plan.{Plan}
use Rattle.layout.specs.declared.Station.{Station}
use Rattle.layout.specs.Views.{wires_of, ways_of}

-- node n of the plan; behind the last one, a record of zeros
abbrev pub station : Plan → ℕ → Station
station p n =
    get_or p.node n (record { kind = Kind.Constant; constant = pos 0; period = 0; deadline = 0; count = 0; first = 0; input = [] })

pub record Seen (p : Plan) (n : ℕ) : Type 0 where
  pub kind : get_or (wires_of p).kind n 0 ≡ kind_number (station p n).kind
  pub constant : get_or (wires_of p).constant n 0 ≡ pattern (station p n).constant
  pub period : get_or (wires_of p).period n 0 ≡ (station p n).period
  pub deadline : get_or (wires_of p).deadline n 0 ≡ (station p n).deadline
  pub count : get_or (wires_of p).count n 0 ≡ (station p n).count
  pub first : get_or (ways_of p).first n 0 ≡ (station p n).first

pub seen_so : (p : Plan) (n : ℕ) → Seen p n
seen_so p n =
    let zeros : Station = record { kind = Kind.Constant; constant = pos 0; period = 0; deadline = 0; count = 0; first = 0; input = [] } in
    record {
      kind = get_or-map (λ (s : Station). kind_number s.kind) p.node n zeros;
      constant = get_or-map (λ (s : Station). pattern s.constant) p.node n zeros;
      period = get_or-map (λ (s : Station). s.period) p.node n zeros;
      deadline = get_or-map (λ (s : Station). s.deadline) p.node n zeros;
      count = get_or-map (λ (s : Station). s.count) p.node n zeros;
      first = get_or-map (λ (s : Station). s.first) p.node n zeros;
    }
