-- The reads of a pair: one that is due has its turns, and its earliest instant is kept again; the turns of one that is not change nothing, and
-- are not taken. Assumes nothing.
use Prim.Native.Nat.{ℕ, ◌+◌, ◌*◌, ◌^◌, ◌<◌, min}
use native.Mathlib.Omega.{arith}
use mathlib.Core.Path.{◌≡◌, refl, sym, ◌∙◌}
use lib.ListN.{get_or}
use Rattle.kinds.specs.Nodes.{never}
use Rattle.layout.specs.declared.Plan.{Plan}
use Rattle.layout.specs.declared.State.{State}
use Rattle.layout.specs.Views.{nodes_of, pendings_of, soons_of}
use Rattle.arrays.specs.Nodes.{soon_at, pair_soon}
use Rattle.arrays.specs.Instants.{AbleIn, Whole}
use Rattle.arrays.specs.Turns.{PairRead}
use Rattle.arrays.proofs.TurnsIn.{turn_idle}
use Rattle.arrays.proofs.PairTurns.{PairTo, pair_starts, pair_turn, pair_ends}

-- a pair that is not due
module _ (p : Plan) (s : State) (t g : ℕ) (able : AbleIn p) (whole : Whole p s) (early : t < 2 ^ 24) (below : 2 * g < nodes_of p) (later : t < pair_soon (pendings_of s) g) where
  none_now : (n : ℕ) → n < 32 → t < soon_at (pendings_of s) n → (y : State) (soon : ℕ) → PairTo p s t g n s soon → n < 2 * g + 2 → PairTo p s t g (n + 1) s (min soon (soon_at (pendings_of s) n))
  none_now n few after y soon before within =
      pair_turn p s t g n s s able early few within before
      (turn_idle p s n whole few (λ e. omega arith) (λ e. omega arith) refl)
      refl

  pub pair_left : (soon : ℕ) → soon ≡ get_or (soons_of s) g 0 → get_or (soons_of s) g 0 ≡ pair_soon (pendings_of s) g → PairRead p s t g s soon
  unfolding pair_soon
  pair_left soon is kept =
      let few : 2 * g + 1 < 32 = omega (arith, able.few) in
      let once = none_now (2 * g) (omega arith) (omega (arith, later)) s never (pair_starts p s t g below whole) (omega arith) in
      let twice = none_now (2 * g + 1) few (omega (arith, later)) s _ once (omega arith) in
      let done = pair_ends p s t g (2 * g + 1 + 1) s (omega arith) twice in
      record {
        turned = record { whole = done.whole; read = done.read; soon = is ∙ kept; others = done.others };
        held = sym is;
        others = λ h other. refl;
      }
