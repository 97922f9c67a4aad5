-- The writes of an instant: what the rings hold then, and the lowest channel without room, are those of the rules. Assumes nothing.
use Prim.Native.Nat.{ℕ, ◌-◌, ◌<◌, ◌^◌, min}
use native.Mathlib.Omega.{arith}
use mathlib.Core.Bool.{Bool, not, ◌&&◌}
use mathlib.Core.List.{List, [], ◌++◌, map, map-append}
use mathlib.Core.Path.{◌≡◌, sym, ◌∙◌, ap, ap₂}
use lib.Dec.{ltb}
use lib.IntN.{ℤ}
use lib.ListN.{length, length-map}
use Rattle.std.proofs.lemmas.List.{nil_from_length}
use Rattle.rules.specs.Lists.{lowest}
use Rattle.rules.specs.Kinds.{signed}
use Rattle.rules.specs.Network.{Network, Obeys, channel_of, is_register}
use Rattle.rules.specs.Instant.{State, held_in, written, after_writes, overfull}
use Rattle.rules.proofs.ListLaws.{lowest_is}
use Rattle.rules.proofs.InstantLaws.{writes_at}
use Rattle.rules.proofs.Sound.{Sound}
use Rattle.rules.proofs.Arrivals.{Faultless, nothing_arrives_out}
use Rattle.layout.specs.Views.{Shape, Cells, Wires, Pendings, Ways}
use Rattle.rings.specs.Rings.{Rings, held_at, over, Wrote}
use Rattle.arrays.specs.Writes.{due_below, values_on, WroteDue, WroteArrivals}
use Rattle.arrays.specs.Represents.{Wired, Represents, Cursor, writes_to}
use Rattle.rings.proofs.WroteLaws.{wrote_then}
use Rattle.arrays.proofs.ArrivingLaws.{arrived_values}
use Rattle.arrays.proofs.DueLaws.{due_out, due_values}
use Rattle.arrays.proofs.KeepingLaws.{SameTokens, over_full, kept_by_rules}
use Rattle.rules.proofs.Agreeing.{lowest_ext}

pub record WritesStand (net : Network) (arrivals : List ℕ) (t : ℕ) (st : State) (s : Shape) (z : Cells) (full : ℕ) : Type 0 where
  pub rings : Rings s z
  pub lowest_full : full ≡ lowest (length net.channels) (overfull net (after_writes net arrivals t st))
  pub held : full ≡ length net.channels → (c : ℕ) → c < length net.channels → held_in (after_writes net arrivals t st) c ≡ map signed (held_at s z c)

map_none : (l : List ℕ) → map signed l ≡ [] → l ≡ []
map_none l h = nil_from_length l (sym (length-map l signed) ∙ ap length h)

-- the new tokens of channel c: those that are due, and those that arrive
abbrev due_to : Network → ℕ → Pendings → ℕ → List ℕ
due_to net t p c = due_below (length net.nodes) t p.due p.value (writes_to net) c

abbrev new_to : Network → List ℕ → ℕ → Pendings → ℕ → ℕ → ℕ → List ℕ
new_to net arrivals t p from next c = due_to net t p c ++ values_on arrivals from (next - from) c

module _ (net : Network) (arrivals : List ℕ) (t : ℕ) (st : State) (s : Shape) (w : Wires) (v : Ways) (x y z : Cells) (p : Pendings) (from next f g : ℕ) (obeys : Obeys net) (faultless : Faultless net arrivals) (early : t < 2 ^ 24) (sound : Sound net t st) (wired : Wired net s w v) (rep : Represents net s t st x p) (cursor : Cursor arrivals from t) (arrived : WroteArrivals s y arrivals from t z next g) where
  same_tokens_law : (c : ℕ) → c < length net.channels
      → SameTokens s c (channel_of net c) (held_at s x c) (new_to net arrivals t p from next c) (held_in st.held c) (written net arrivals t st c)
  unfolding written
  same_tokens_law c below =
      let values = arrived_values net arrivals s y z from t next g faultless cursor arrived c in
      record {
        sort = wired.sort c below;
        capacity = wired.capacity c below;
        inner = λ e.
            let due = due_values net t st p c early sound.nodes rep.waits e in
            ap₂ ◌++◌ (rep.held c below) (ap₂ ◌++◌ (sym due) (sym values) ∙ sym (map-append signed (due_to net t p c) (values_on arrivals from (next - from) c)))
            ∙ sym (map-append signed (held_at s x c) (new_to net arrivals t p from next c));
        out = λ e.
            let none_held = map_none (held_at s x c) (sym (rep.held c below) ∙ sound.out c below e) in
            let none_due_law = due_out net t p.due p.value c (length net.nodes) e in
            let none_come = map_none (values_on arrivals from (next - from) c) (values ∙ nothing_arrives_out net arrivals obeys faultless t c below e) in
            ap₂ ◌++◌ none_held (ap₂ ◌++◌ none_due_law none_come);
      }

  stand : Wrote s x (λ c. new_to net arrivals t p from next c) z (min f g) → WritesStand net arrivals t st s z (min f g)
  stand wrote =
      let over_by : ℕ → Bool = λ c. over s c (held_at s x c) (new_to net arrivals t p from next c) in
      let full : min f g ≡ lowest (length net.channels) over_by = wrote.lowest_full ∙ ap (λ (n : ℕ). lowest n over_by) wired.channels in
      record {
        rings = wrote.rings;
        lowest_full =
            full
            ∙ lowest_ext (length net.channels) _ _
            (λ c below.
            over_full (same_tokens_law c below)
            ∙ ap (λ (l : List ℤ). not (is_register (channel_of net c)) && ltb (channel_of net c).capacity (length l)) (sym (writes_at net arrivals t st c below)));
        held = λ all c below.
            let room = (lowest_is (length net.channels) over_by).without c (omega arith) in
            writes_at net arrivals t st c below
            ∙ kept_by_rules (same_tokens_law c below) room
            ∙ ap (map signed) (sym (wrote.keeps c (rw wired.channels below)));
      }

pub writes_stand :
    (net : Network) (arrivals : List ℕ) (t : ℕ) (st : State) (s : Shape) (w : Wires) (v : Ways) (x y z : Cells) (p : Pendings) (from next f g : ℕ)
    → Obeys net
    → Faultless net arrivals
    → t < 2 ^ 24
    → Sound net t st
    → Wired net s w v
    → Represents net s t st x p
    → Cursor arrivals from t
    → WroteDue s x (length net.nodes) t p.due p.value v.first v.follow y f
    → WroteArrivals s y arrivals from t z next g
    → WritesStand net arrivals t st s z (min f g)
writes_stand net arrivals t st s w v x y z p from next f g obeys faultless early sound wired rep cursor due arrived =
    stand net arrivals t st s w v x y z p from next f g obeys faultless early sound wired rep cursor arrived
    (wrote_then s x y z (due_to net t p) (values_on arrivals from (next - from)) f g
    (due.wrote (writes_to net) (λ n below. rw wired.channels (wired.walks n below)))
    arrived.wrote)
