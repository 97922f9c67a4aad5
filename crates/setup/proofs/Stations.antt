-- The nodes' part of a plan, where each call of `from_fn` makes a node's of its record, its walk and its ports. Assumes nothing.
use Prim.Native.Nat.{ℕ}
use mathlib.Core.List.{List, [], map}
use mathlib.Core.Path.{◌≡◌, refl, ◌∙◌}
use lib.IntN.{pos}
use lib.ListN.{length, get_or}
use denote.Param.Members.{Mut, Called}
use Rattle.std.specs.Array.{IsFromFnResult}
use Rattle.rules.specs.declared.Node.{Node}
use Rattle.rules.specs.Kinds.{pattern, inputs}
use Rattle.rules.specs.Lists.{tab}
use Rattle.rules.specs.Network.{node_among}
use Rattle.rules.proofs.ListLaws.{tab_get_or}
use Rattle.kinds.specs.declared.Kind.{Kind}
use Rattle.kinds.specs.Kind.{kind_number}
use Rattle.layout.specs.declared.Station.{Station}
use Rattle.setup.specs.Fields.{StationOf}
use Rattle.setup.proofs.FromFn.{tabled_seen}

-- each field of the nodes' part, as it is seen
pub record StationsOf (nodes : List Node) (first : List ℕ) (input : List (List ℕ)) (l : List Station) : Type 0 where
  pub kind : map (λ s. kind_number s.kind) l ≡ tab 32 (λ n. (node_among nodes n).kind)
  pub constant : map (λ s. pattern s.constant) l ≡ tab 32 (λ n. pattern (node_among nodes n).constant)
  pub period : map (λ s. s.period) l ≡ tab 32 (λ n. (node_among nodes n).period)
  pub deadline : map (λ s. s.deadline) l ≡ tab 32 (λ n. (node_among nodes n).deadline)
  pub count : map (λ s. s.count) l ≡ tab 32 (λ n. inputs (node_among nodes n).kind)
  pub first_is : map (λ s. s.first) l ≡ first
  pub input_is : map (λ s. s.input) l ≡ input

module _ {F : Type 0} {g : Mut F (ℕ × Unit {0}) Station} (keeps : F → Type 0) (nodes : List Node) (first : List ℕ) (input : List (List ℕ))
    (call : (p q : F) (i : ℕ) (y : Station) → keeps p → Called g p (i, tt) y q → StationOf (node_among nodes i) (get_or first i 0) (get_or input i []) y × keeps q)
    {p : F} {ys : List Station} (made : IsFromFnResult g p ys 32) (holds : keeps p) where
  seen : {C : Type 0} (see : Station → C) (f : ℕ → C) → ((i : ℕ) (y : Station) → StationOf (node_among nodes i) (get_or first i 0) (get_or input i []) y → see y ≡ f i) → map see ys ≡ tab 32 f
  seen see f says =
      tabled_seen keeps see f (λ p q i y k called. let r = call p q i y k called in (says i y r.0, r.1))
      (record { kind = Kind.Constant; constant = pos 0; period = 0; deadline = 0; count = 0; first = 0; input = [] })
      made holds

  pub stations_of : length first ≡ 32 → length input ≡ 32 → StationsOf nodes first input ys
  stations_of firsts inputs_long =
      record {
        kind = seen (λ s. kind_number s.kind) (λ n. (node_among nodes n).kind) (λ i y so. so.kind);
        constant = seen (λ s. pattern s.constant) (λ n. pattern (node_among nodes n).constant) (λ i y so. rw so.constant);
        period = seen (λ s. s.period) (λ n. (node_among nodes n).period) (λ i y so. so.period);
        deadline = seen (λ s. s.deadline) (λ n. (node_among nodes n).deadline) (λ i y so. so.deadline);
        count = seen (λ s. s.count) (λ n. inputs (node_among nodes n).kind) (λ i y so. so.count);
        first_is = seen (λ s. s.first) (λ n. get_or first n 0) (λ i y so. so.first_is) ∙ tab_get_or first 32 (λ n. get_or first n 0) 0 firsts (λ i h. refl);
        input_is = seen (λ s. s.input) (λ n. get_or input n []) (λ i y so. so.input_is) ∙ tab_get_or input 32 (λ n. get_or input n []) [] inputs_long (λ i h. refl);
      }
