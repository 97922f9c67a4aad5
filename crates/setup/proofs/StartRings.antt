-- The rings of an obeying network before the first instant: each begins at the capacities of the channels before it together, they stand
-- apart among the 1,024 places, and each holds its channel's initial count. Assumes nothing.
use Prim.Native.Nat.{ℕ, ◌+◌, ◌≤◌, ◌<◌}
use native.Mathlib.Omega.{arith}
use mathlib.Core.Path.{◌≡◌, ◌∙◌}
use lib.ListN.{length, get_or, length-map, length-replicate, get_or-replicate}
use Rattle.rules.specs.Kinds.{pattern}
use Rattle.rules.specs.Network.{Network, Obeys, channel_of, capacities}
use Rattle.rules.proofs.Checks.{few_channels, fields_of}
use Rattle.layout.specs.declared.Plan.{Plan}
use Rattle.layout.specs.declared.State.{State}
use Rattle.layout.specs.Views.{shape_of, cells_of}
use Rattle.rings.specs.Rings.{Placed, Rings}
use Rattle.setup.proofs.SetupLaws.{sum_within}
use Rattle.setup.proofs.StartFields.{Entries, Filled}

-- the capacities of the channels before c, and its own, are at most those of the channels before a later one
pub capacities_climb : (net : Network) (c d : ℕ) → c < d → capacities net c + (channel_of net c).capacity ≤ capacities net d
unfolding capacities
capacities_climb net c d h = sum_within d c (λ e. (channel_of net e).capacity) h

-- every ring begins at its base
pub head_at : {net : Network} {s : State} → Obeys net → Filled net s → (c : ℕ) → c < length net.channels → get_or (cells_of s).head c 0 ≡ 0
head_at {net} obeys filled c h = rw filled.head (get_or-replicate 64 c 0 0 (omega (arith, few_channels net obeys)))

module _ {net : Network} {p : Plan} (entries : Entries net p) (obeys : Obeys net) where
  pub starts_placed : Placed (shape_of p)
  starts_placed =
      rw entries.channels
      (record {
        few = few_channels net obeys;
        some = λ c h. omega (arith, entries.capacity c h, (fields_of net obeys c h).some);
        within = λ c h.
            omega (arith, entries.base c h, entries.capacity c h, capacities_climb net c (length net.channels) h, obeys.together);
        apart = λ c d less h.
            let under : c < length net.channels = omega arith in
            omega (arith, entries.base c under, entries.base d h, entries.capacity c under, capacities_climb net c d less);
        single = λ c h register. entries.capacity c h ∙ (fields_of net obeys c h).single (rw (entries.sort c h) at register);
      })

  pub starts_rings : {s : State} → Filled net s → length s.tokens ≡ 1024 → Rings (shape_of p) (cells_of s)
  starts_rings {s} filled all =
      rw entries.channels
      (record {
        placed = rw entries.channels at starts_placed;
        heads = rw filled.head (length-replicate {A = ℕ} 64 0);
        lens = filled.size;
        all = length-map s.tokens pattern ∙ all;
        head_in = λ c h.
            omega (arith, entries.capacity c h, (fields_of net obeys c h).some, head_at obeys filled c h);
        len_in = λ c h. omega (arith, filled.initial c h, entries.capacity c h, (fields_of net obeys c h).within);
        one = λ c h register. filled.initial c h ∙ (fields_of net obeys c h).register (rw (entries.sort c h) at register);
      })
