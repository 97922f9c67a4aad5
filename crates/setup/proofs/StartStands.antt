-- Before the first instant a plan and a state stand for the initial state of an obeying network: each channel holds its initial tokens, nothing
-- waits, and every node is released at 0. Assumes nothing.
use Prim.Native.Nat.{ℕ, ◌+◌, ◌<◌}
use native.Mathlib.Nat.{zero-add, zero-mod}
use native.Mathlib.Omega.{arith}
use mathlib.Core.List.{[], map}
use mathlib.Core.Option.{none}
use mathlib.Core.Path.{◌≡◌, sym, ◌∙◌, ap}
use lib.IntN.{pos}
use lib.ListN.{length, get_or, get_or-map, replicate, length-map, get_or-replicate}
use Rattle.rules.specs.Kinds.{signed, pattern}
use Rattle.rules.specs.Network.{Network, Obeys, node_of, capacities}
use Rattle.rules.specs.Instant.{at_start, held_in, waiting_of}
use Rattle.rules.proofs.Checks.{few_nodes, fields_of}
use Rattle.rules.proofs.ListLaws.{get_or_tab}
use Rattle.kinds.specs.Nodes.{never}
use Rattle.table.specs.Laid.{all_places, padded}
use Rattle.layout.specs.declared.Plan.{Plan}
use Rattle.layout.specs.declared.State.{State}
use Rattle.layout.specs.Views.{shape_of, cells_of, pendings_of}
use Rattle.rings.specs.Rings.{queue_of, held_at}
use Rattle.arrays.specs.Nodes.{waiting_at}
use Rattle.arrays.specs.Represents.{NextRelease, Represents}
use Rattle.setup.specs.Setup.{ReleasesOf}
use Rattle.setup.proofs.StartFields.{Entries, Filled, node_limits}
use Rattle.setup.proofs.StartRings.{head_at, starts_rings}
use Rattle.setup.proofs.StartHeld.{signed_patterns, queue_straight, all_places_law, tokens_at}

module _ {net : Network} (obeys : Obeys net) (s : State) where
  -- nothing waits
  starts_waiting : s.due ≡ replicate 32 never → (n : ℕ) → n < length net.nodes → waiting_of (at_start net) n ≡ waiting_at (pendings_of s) n
  unfolding at_start
  starts_waiting dues n h =
      let due : get_or s.due n 0 ≡ never = rw dues (get_or-replicate 32 n never 0 (omega (arith, few_nodes net obeys))) in
      rw due (get_or_tab (length net.nodes) (λ m. none) n none h)

  -- every node is released at 0
  starts_next : ReleasesOf (length net.nodes) 32 s.next → (n : ℕ) → n < length net.nodes → NextRelease (node_of net n) 0 (get_or s.next n 0)
  starts_next releases n h =
      rw (releases.first n h)
      (record {
        multiple = zero-mod (node_of net n).period;
        from = omega arith;
        within = omega (arith, (node_limits (node_of net n) (obeys.node_fields n h)).some);
      })

  module _ {p : Plan} (entries : Entries net p) (filled : Filled net s) where
    starts_held : (c : ℕ) → c < length net.channels → held_in (at_start net).held c ≡ map signed (held_at (shape_of p) (cells_of s) c)
    unfolding held_at at_start
    starts_held c h =
        let held = get_or net.tokens c [] in
        let places = padded 1024 (all_places net.channels net.tokens) in
        let long : length (map pattern held) ≡ length held = length-map held pattern in
        let len : get_or (cells_of s).len c 0 ≡ length (map pattern held) = filled.initial c h ∙ sym (obeys.initially c h) ∙ sym long in
        let straight : queue_of (map pattern places) (capacities net c) (get_or p.capacity c 0) 0 (length (map pattern held)) ≡ map pattern held
        = queue_straight (map pattern held) (map pattern places) (capacities net c) (get_or p.capacity c 0) 0
        (omega (arith, obeys.initially c h, entries.capacity c h, (fields_of net obeys c h).within))
        (λ i under.
        rw zero-add
        (get_or-map pattern places (capacities net c + i) (pos 0)
        ∙ ap pattern (tokens_at net obeys c h i (omega arith))
        ∙ sym (get_or-map pattern held i (pos 0)))) in
        rw (head_at obeys filled c h, len, entries.base c h, filled.tokens, straight)
        (sym (signed_patterns held (record { at = obeys.token_fits c })))

    pub starts_represents : s.due ≡ replicate 32 never → ReleasesOf (length net.nodes) 32 s.next → Represents net (shape_of p) 0 (at_start net) (cells_of s) (pendings_of s)
    starts_represents dues releases =
        record {
          rings = starts_rings entries obeys filled (rw filled.tokens (all_places_law net obeys));
          held = starts_held;
          waits = starts_waiting dues;
          next = starts_next releases;
        }
