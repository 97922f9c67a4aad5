-- What a node reads from the rings is what it reads by the rules: the channels at its ports, whether each holds a token, and its result.
-- Assumes nothing.
use Prim.Native.Nat.{ℕ, ◌≤◌, ◌<◌}
use native.Mathlib.Omega.{arith}
use mathlib.Core.Bool.{Bool, true, false, not, ◌||◌, or-true}
use mathlib.Core.List.{List, [], ◌∷◌, map}
use mathlib.Core.Path.{◌≡◌, refl, sym, ◌∙◌, ap}
use lib.Dec.{eqb, ltb}
use lib.IntN.{ℤ}
use lib.ListN.{length, get_or-eq_default}
use borrow.Author.Tests.{ltb-true, eqb-true, eq-eqb}
use Rattle.std.proofs.lemmas.Bool.Decides.{same_from_decides}
use Rattle.rules.specs.Lists.{every, lowest, is_empty}
use Rattle.rules.specs.Kinds.{signed, inputs}
use Rattle.rules.specs.Network.{Network, Obeys, node_of, channel_of, is_register, serves}
use Rattle.rules.specs.Instant.{held_in, ready, oldest, input_at, result_of}
use Rattle.rules.proofs.ListLaws.{by_test, true_or_false, every_at, every_all, lowest_none}
use Rattle.layout.specs.Views.{Shape, Cells, Wires, Ways}
use Rattle.rings.specs.Rings.{Rings, register_at, queue_of, held_at, oldest_of}
use Rattle.arrays.specs.Taking.{port_of, at_port, all_hold, found}
use Rattle.arrays.specs.Nodes.{inputs_at, result_at}
use Rattle.arrays.specs.Represents.{Wired}
use Rattle.arrays.proofs.PortLaws.{port_there, port_read, no_port, read_in, read_at}
use Rattle.rules.proofs.Agreeing.{every_fails}

-- tokens and their bits
empty_signed : (l : List ℕ) → is_empty (map signed l) ≡ is_empty l
empty_signed [] = refl
empty_signed (x ∷ l) = refl

oldest_signed : (l : List ℕ) → oldest (map signed l) ≡ signed (oldest_of l)
oldest_signed [] = refl
oldest_signed (x ∷ l) = refl

-- a register is not empty
register_holds : (s : Shape) (z : Cells) (c : ℕ) → Rings s z → c < s.channels → register_at s c ≡ true → is_empty (held_at s z c) ≡ false
unfolding held_at queue_of
register_holds s z c rings below register = rw (rings.one c below register)

module _ (net : Network) (s : Shape) (w : Wires) (v : Ways) (obeys : Obeys net) (wired : Wired net s w v) (n : ℕ) (below : n < length net.nodes) where
  inputs_same : inputs_at w n ≡ inputs (node_of net n).kind
  inputs_same = ap inputs (wired.kind n below)

  -- a channel is at one of the node's ports where the node reads it
  pub at_port_reads : (c : ℕ) → c < length net.channels → at_port w.input n (inputs_at w n) c ≡ eqb (channel_of net c).reader n
  unfolding at_port
  at_port_reads c there =
      let count = inputs (node_of net n).kind in
      let port = (channel_of net c).port in
      by_test (eqb (channel_of net c).reader n)
      (λ e.
      let within = read_in net obeys n below c there e in
      let its : port_of w.input n port ≡ c = wired.ports n below port within ∙ read_at net obeys n below c there e in
      let fails = every_fails count (λ p. not (eqb (port_of w.input n p) c)) port within (rw (eq-eqb (port_of w.input n port) c its)) in
      rw (inputs_same, fails, e))
      (λ e.
      let none = every_all count (λ p. not (eqb (port_of w.input n p) c))
      (λ p h.
      by_test (eqb (port_of w.input n p) c)
      (λ f.
      let its : lowest (length net.channels) (serves net n p) ≡ c = sym (wired.ports n below p h) ∙ eqb-true (port_of w.input n p) c f in
      true_or_false (rw its at (port_read net obeys n below p h)) e)
      (λ f. rw f)) in
      rw (inputs_same, none, e))

  module _ (z : Cells) (held : List (List ℤ))
      (holds : (c : ℕ) → c < length net.channels → held_in held c ≡ map signed (held_at s z c)) where
    -- every channel at the node's ports holds a token where the node is ready
    pub hold_ready : Rings s z → ready net held n ≡ all_hold s z w.input n (inputs_at w n)
    unfolding ready all_hold
    hold_ready rings =
        let count = inputs (node_of net n).kind in
        let channels = length net.channels in
        let has : ℕ → Bool = λ c. not (eqb (channel_of net c).reader n) || (is_register (channel_of net c) || not (is_empty (held_in held c))) in
        let full : ℕ → Bool = λ p. not (is_empty (held_at s z (port_of w.input n p))) in
        rw inputs_same
        (same_from_decides (every channels has) (every count full) (
          (λ e.
              every_all count full
              (λ p h.
              let c = lowest channels (serves net n p) in
              let there = port_there net obeys n below p h in
              let fine = rw (port_read net obeys n below p h) at (every_at channels has e c there) in
              rw (wired.ports n below p h)
              (by_test (is_register (channel_of net c))
              (λ r. rw (register_holds s z c rings (rw wired.channels there) (rw (wired.sort c there) r)))
              (λ r. rw (r, holds c there, empty_signed (held_at s z c)) at fine)))),
          (λ e.
              every_all channels has
              (λ c there.
              by_test (eqb (channel_of net c).reader n)
              (λ f.
              let port = (channel_of net c).port in
              let within = read_in net obeys n below c there f in
              let its : port_of w.input n port ≡ c = wired.ports n below port within ∙ read_at net obeys n below c there f in
              let fine : not (is_empty (held_at s z c)) ≡ true = rw its at (every_at count full e port within) in
              rw (f, holds c there, empty_signed (held_at s z c), fine) (or-true (is_register (channel_of net c))))
              (λ f. rw f))),
        )
        ((λ e. e), (λ e. e)))

    module _ (len : length held ≡ length net.channels) where
      -- the token at a port
      input_found : (p : ℕ) → p < 4 → input_at net held n p ≡ signed (found s z w.input n (inputs_at w n) p)
      unfolding input_at found
      input_found p h =
          let count = inputs (node_of net n).kind in
          let channels = length net.channels in
          let c = lowest channels (serves net n p) in
          by_test (ltb p count)
          (λ e.
          let within : p < count = ltb-true p count e in
          rw (inputs_same, e, wired.ports n below p within)
          (ap oldest (holds c (port_there net obeys n below p within)) ∙ oldest_signed (held_at s z c)))
          (λ e.
          let end : length held ≤ channels = omega arith in
          rw (inputs_same, e, lowest_none channels (serves net n p) (no_port net obeys n below p h e), get_or-eq_default held [] end))

      -- the node's result
      pub result_same : result_of net held n ≡ result_at w s z n
      unfolding result_of result_at
      result_same =
          rw (input_found 0 (omega arith), input_found 1 (omega arith), input_found 2 (omega arith), wired.kind n below, wired.constant n below)
