-- A's part of a state of B is a state of A, and an instant keeps it so: the same is written to A's channels, the same of A's nodes go
-- ahead, and with the same results. Assumes nothing.
use Prim.Native.Nat.{ℕ, ◌<◌}
use native.Mathlib.Omega.{arith}
use mathlib.Core.Bool.{true}
use mathlib.Core.List.{List}
use mathlib.Core.Path.{◌≡◌, sym, ◌∙◌}
use lib.Dec.{eqb}
use lib.IntN.{ℤ}
use lib.ListN.{length}
use borrow.Author.Tests.{eqb-true, lt-ltb, le-ltb}
use Rattle.rules.specs.Network.{Network, channel_of, outside, end_ok}
use Rattle.rules.specs.Instant.{State, waiting_of, held_in, arriving, written, after_writes, overfull, ready, goes_ahead, result_of, waiting_after, held_after, after_reads}
use Rattle.rules.proofs.Checks.{few_nodes, fields_of, end_node}
use Rattle.rules.proofs.InstantLaws.{length_writes, writes_at, waiting_at_law, held_at_law}
use Rattle.rules.proofs.ListLaws.{by_test}
use Rattle.rules.proofs.Sound.{Sound}
use Rattle.theorems.proofs.Brought.{outside_waits}
use Rattle.theorems.proofs.Inside.{Inside}
use Rattle.theorems.proofs.Locality.{locality}

-- A's part of a state of B is the state of A
pub record Part (A : Network) (sa sb : State) : Type 0 where
  pub waiting : (n : ℕ) → n < length A.nodes → waiting_of sb n ≡ waiting_of sa n
  pub held : (c : ℕ) → c < length A.channels → held_in sb.held c ≡ held_in sa.held c

-- what A's nodes find in channels that hold the same, as far as they are A's
module _ (A B : Network) (inside : Inside A B) (held_a held_b : List (List ℤ))
    (length_a : length held_a ≡ length A.channels) (length_b : length held_b ≡ length B.channels)
    (held : (c : ℕ) → c < length A.channels → held_in held_b c ≡ held_in held_a c) where
  -- a node of A is ready alike and has the same result
  finds_same : (n : ℕ) → n < length A.nodes → (ready B held_b n ≡ ready A held_a n) × (result_of B held_b n ≡ result_of A held_a n)
  finds_same n node =
      locality A B n held_a held_b
      (record {
        length_a = length_a;
        length_b = length_b;
        node = inside.extends.same_node n node;
        more = inside.extends.more_channels;
        channel = inside.extends.same_channel;
        elsewhere = inside.elsewhere n node;
        held = λ c below reads. held c below;
      })

  -- a node of A goes ahead in both or in neither
  node_ahead : (t n : ℕ) → n < length A.nodes → goes_ahead B held_b t n ≡ goes_ahead A held_a t n
  unfolding goes_ahead
  node_ahead t n node =
      let farther : n < length B.nodes = omega (arith, inside.extends.more_nodes) in
      rw (lt-ltb n (length A.nodes) node, lt-ltb n (length B.nodes) farther)
      (rw (inside.extends.same_node n node, (finds_same n node).0))

  -- and the outside in neither
  end_ahead : (t n : ℕ) → end_ok (length A.nodes) n ≡ true → goes_ahead B held_b t n ≡ goes_ahead A held_a t n
  unfolding goes_ahead
  end_ahead t n ok =
      by_test (eqb n outside)
      (λ e.
      let none_a = le-ltb outside (length A.nodes) (omega (arith, few_nodes A inside.inner)) in
      let none_b = le-ltb outside (length B.nodes) (omega (arith, few_nodes B inside.outer)) in
      rw (eqb-true n outside e, none_a, none_b))
      (λ e. node_ahead t n (end_node (length A.nodes) n ok e))

  waiting_same : (t : ℕ) (sa sb : State) → Part A sa sb → (n : ℕ) → n < length A.nodes
      → waiting_after B held_b t sb n ≡ waiting_after A held_a t sa n
  unfolding waiting_after
  waiting_same t sa sb part n node =
      rw (node_ahead t n node, inside.extends.same_node n node, (finds_same n node).1, part.waiting n node)

  held_same : (t c : ℕ) → c < length A.channels → held_after B held_b t c ≡ held_after A held_a t c
  unfolding held_after
  held_same t c below =
      rw (inside.extends.same_channel c below, end_ahead t (channel_of A c).reader (fields_of A inside.inner c below).reader, held c below)

  reads_part : (t : ℕ) (sa sb : State) → Part A sa sb → Part A (after_reads A held_a t sa) (after_reads B held_b t sb)
  reads_part t sa sb part =
      record {
        waiting = λ n node.
            let farther : n < length B.nodes = omega (arith, inside.extends.more_nodes) in
            waiting_at_law B held_b t sb n farther ∙ waiting_same t sa sb part n node ∙ sym (waiting_at_law A held_a t sa n node);
        held = λ c below.
            let farther : c < length B.channels = omega (arith, inside.extends.more_channels) in
            held_at_law B held_b t sb c farther ∙ held_same t c below ∙ sym (held_at_law A held_a t sa c below);
      }

-- at instant t A's part of B is as A: what is written to its channels, which of them are overfull, and what comes after the reads
pub record SameInstant (A B : Network) (t : ℕ) (arrivals_a arrivals_b : List ℕ) (sa sb : State) : Type 0 where
  pub written : (c : ℕ) → c < length A.channels → written B arrivals_b t sb c ≡ written A arrivals_a t sa c
  pub overfull : (c : ℕ) → c < length A.channels
      → overfull B (after_writes B arrivals_b t sb) c ≡ overfull A (after_writes A arrivals_a t sa) c
  pub next : Part A (after_reads A (after_writes A arrivals_a t sa) t sa) (after_reads B (after_writes B arrivals_b t sb) t sb)

-- one instant, at which the same arrives on A's channels
module _ (A B : Network) (inside : Inside A B) (t : ℕ) (arrivals_a arrivals_b : List ℕ)
    (same : (c : ℕ) → c < length A.channels → arriving arrivals_b t c ≡ arriving arrivals_a t c)
    (sa sb : State) (sound_a : Sound A t sa) (sound_b : Sound B t sb) (part : Part A sa sb) where
  written_same : (c : ℕ) → c < length A.channels → written B arrivals_b t sb c ≡ written A arrivals_a t sa c
  unfolding written
  written_same c below =
      let channel = inside.extends.same_channel c below in
      let writer = (channel_of A c).writer in
      by_test (eqb writer outside)
      (λ e.
      let none_a = outside_waits A inside.inner t sa sound_a in
      let none_b = outside_waits B inside.outer t sb sound_b in
      rw (channel, eqb-true writer outside e, none_a, none_b, same c below))
      (λ e.
      let node = end_node (length A.nodes) writer (fields_of A inside.inner c below).writer e in
      rw (channel, part.waiting writer node, same c below))

  writes_same : (c : ℕ) → c < length A.channels → held_in (after_writes B arrivals_b t sb) c ≡ held_in (after_writes A arrivals_a t sa) c
  writes_same c below =
      let farther : c < length B.channels = omega (arith, inside.extends.more_channels) in
      rw (writes_at B arrivals_b t sb c farther, writes_at A arrivals_a t sa c below)
      (rw (inside.extends.same_channel c below, part.held c below, written_same c below))

  pub same_instant : SameInstant A B t arrivals_a arrivals_b sa sb
  same_instant =
      record {
        written = written_same;
        overfull = λ c below. rw (inside.extends.same_channel c below, writes_same c below);
        next =
            reads_part A B inside (after_writes A arrivals_a t sa) (after_writes B arrivals_b t sb) (length_writes A arrivals_a t sa)
            (length_writes B arrivals_b t sb) writes_same t sa sb part;
      }
