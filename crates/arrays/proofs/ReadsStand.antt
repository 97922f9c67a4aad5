-- The reads of an instant: what the rings hold and what waits then are those of the rules. Assumes nothing.
use Prim.Native.Nat.{ℕ, suc, ◌%◌, ◌<◌}
use mathlib.Core.Bool.{Bool, true, false, cond, not, ◌&&◌, and-false, and_comm}
use mathlib.Core.List.{List, map}
use mathlib.Core.Path.{◌≡◌, refl, sym, ◌∙◌, ap, ap₂}
use lib.Dec.{eqb, ltb}
use lib.IntN.{ℤ}
use lib.ListN.{length, get_or, drop}
use Rattle.std.proofs.lemmas.List.{drop-map}
use borrow.Author.Tests.{ltb-true, lt-ltb, eqb-true, eq-eqb}
use Rattle.rules.specs.Lists.{every}
use Rattle.rules.specs.Kinds.{signed}
use Rattle.rules.specs.Network.{Network, Obeys, node_of, channel_of, is_register}
use Rattle.rules.specs.Instant.{State, waiting_of, held_in, after_writes, released, ready, goes_ahead, waiting_after, held_after, after_reads}
use Rattle.rules.proofs.InstantLaws.{length_writes, waiting_at_law, held_at_law}
use Rattle.rules.proofs.ListLaws.{and_left, by_test, every_all}
use Rattle.rules.proofs.Sound.{Sound}
use Rattle.layout.specs.Views.{Shape, Cells, Wires, Pendings, Ways}
use Rattle.rings.specs.Rings.{Rings, register_at, held_at}
use Rattle.arrays.specs.Taking.{at_port, all_hold}
use Rattle.arrays.specs.Nodes.{inputs_at, released_at, ahead_at, waiting_then, taken_below, ReadBelow}
use Rattle.arrays.specs.Represents.{Wired, Represents}
use Rattle.arrays.proofs.ReleaseLaws.{next_is_now, next_after, due_at_release, due_goes}
use Rattle.arrays.proofs.NodeReads.{at_port_reads, hold_ready, result_same}
use Rattle.rules.proofs.Agreeing.{every_fails}

-- what goes ahead is a node
ahead_below : (net : Network) (held : List (List ℤ)) (t n : ℕ) → goes_ahead net held t n ≡ true → n < length net.nodes
unfolding goes_ahead
ahead_below net held t n e =
    let nodes = length net.nodes in
    ltb-true n nodes (and_left (ltb n nodes) (eqb (t % (node_of net n).period) 0) (and_left (released net t n) (ready net held n) e))

module _ (net : Network) (t : ℕ) (st : State) (s : Shape) (w : Wires) (v : Ways) (x z : Cells) (p : Pendings) (held : List (List ℤ))
    (obeys : Obeys net) (wired : Wired net s w v) (rep : Represents net s t st x p) (rings : Rings s z)
    (holds : (c : ℕ) → c < length net.channels → held_in held c ≡ map signed (held_at s z c)) where
  -- the nodes that are released, and those that go ahead
  released_same : (n : ℕ) → n < length net.nodes → released net t n ≡ released_at p t n
  released_same n below =
      rw (lt-ltb n (length net.nodes) below) (next_is_now (node_of net n) t (get_or p.next n 0) (rep.next n below))

  ahead_same : (n : ℕ) → n < length net.nodes → goes_ahead net held t n ≡ ahead_at w s z p t n
  unfolding goes_ahead
  ahead_same n below =
      ap₂ ◌&&◌ (released_same n below) (hold_ready net s w v obeys wired n below z held holds rings)

  -- what waits then
  waiting_same : Sound net t st → length held ≡ length net.channels → (n : ℕ) → n < length net.nodes → waiting_after net held t st n ≡ waiting_then w s z p t n
  unfolding waiting_after waiting_then
  waiting_same sound len n below =
      by_test (released_at p t n)
      (λ e.
      by_test (all_hold s z w.input n (inputs_at w n))
      (λ h.
      rw (ahead_same n below, e, h, result_same net s w v obeys wired n below z held holds len, wired.deadline n below))
      (λ h.
      let multiple = eqb-true (t % (node_of net n).period) 0 (next_is_now (node_of net n) t (get_or p.next n 0) (rep.next n below) ∙ e) in
      rw (ahead_same n below, e, h) (due_at_release (node_of net n) t (waiting_of st n) (sound.due n) multiple)))
      (λ e. rw (ahead_same n below, e, rep.waits n below) (due_goes t (get_or p.due n 0) (get_or p.value n 0)))

  -- one of the nodes goes ahead and takes from a channel where its reader goes ahead
  reader_takes : (c : ℕ) → c < length net.channels
      → not (every (length net.nodes) (λ n. not (ahead_at w s z p t n && at_port w.input n (inputs_at w n) c)))
      ≡ goes_ahead net held t (channel_of net c).reader
  reader_takes c there =
      let nodes = length net.nodes in
      let reader = (channel_of net c).reader in
      let stays : ℕ → Bool = λ n. not (ahead_at w s z p t n && at_port w.input n (inputs_at w n) c) in
      by_test (goes_ahead net held t reader)
      (λ e.
      let below = ahead_below net held t reader e in
      let takes : stays reader ≡ false = rw (← ahead_same reader below, e, at_port_reads net s w v obeys wired reader below c there, eq-eqb reader reader refl) in
      rw (e, every_fails nodes stays reader below takes))
      (λ e.
      let none = every_all nodes stays
      (λ n below.
      rw (← ahead_same n below, at_port_reads net s w v obeys wired n below c there)
      (by_test (eqb reader n) (λ f. rw (← eqb-true reader n f, e)) (λ f. rw (f, and-false (goes_ahead net held t n))))) in
      rw (e, none))

  -- what a channel holds then
  held_same : (c : ℕ) → c < length net.channels
      → held_after net held t c ≡ map signed (cond (taken_below w s z p t (length net.nodes) c) (drop 1 (held_at s z c)) (held_at s z c))
  unfolding held_after taken_below
  held_same c there =
      let taken = goes_ahead net held t (channel_of net c).reader && not (register_at s c) in
      rw (and_comm (not (is_register (channel_of net c))) (goes_ahead net held t (channel_of net c).reader), ← wired.sort c there, reader_takes c there, holds c there)
      (by_test taken (λ e. rw e (drop-map signed 1 (held_at s z c))) (λ e. rw e))

pub reads_stand :
    (net : Network) (arrivals : List ℕ) (t : ℕ) (st : State) (s : Shape) (w : Wires) (v : Ways) (x z u : Cells) (p q : Pendings)
    → Obeys net
    → Sound net t st
    → Wired net s w v
    → Represents net s t st x p
    → Rings s z
    → ((c : ℕ) → c < length net.channels → held_in (after_writes net arrivals t st) c ≡ map signed (held_at s z c))
    → ReadBelow w s z p t (length net.nodes) u q
    → Represents net s (suc t) (after_reads net (after_writes net arrivals t st) t st) u q
reads_stand net arrivals t st s w v x z u p q obeys sound wired rep rings held reads =
    let after = after_writes net arrivals t st in
    let len = length_writes net arrivals t st in
    record {
      rings = reads.took.rings;
      held = λ c there.
          held_at_law net after t st c there
          ∙ held_same net t st s w v x z p after obeys wired rep rings held c there
          ∙ ap (map signed) (sym (reads.took.taken c (rw wired.channels there)));
      waits = λ n below.
          waiting_at_law net after t st n below
          ∙ waiting_same net t st s w v x z p after obeys wired rep rings held sound len n below
          ∙ sym (reads.waits n below);
      next = λ n below.
          rw (reads.next n below)
          (next_after w p n (node_of net n) t (wired.period n below) (rep.next n below));
    }
