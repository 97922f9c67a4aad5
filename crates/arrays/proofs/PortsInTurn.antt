-- The takes at a node's ports in turn: each time one port more is taken, and the later ports' channels are as they were, since a
-- node's ports lead to different channels. Assumes nothing.
use Prim.Native.Nat.{ℕ, suc, ◌≤◌, ◌<◌, min}
use native.Mathlib.Omega.{arith}
use mathlib.Core.Bool.{Bool, true, false, not, ◌&&◌, and-true, not-not}
use mathlib.Core.List.{List}
use mathlib.Core.Path.{◌≡◌, refl, ap}
use lib.Dec.{eqb, ltb}
use lib.ListN.{get_or}
use borrow.Author.Tests.{ltb-true, ltb-false, eqb-true}
use Rattle.rules.specs.Lists.{every}
use Rattle.rules.proofs.ListLaws.{by_test, and_left, and_right, every_all}
use Rattle.layout.specs.Views.{Shape, Cells}
use Rattle.rings.specs.Rings.{Rings, Took, held_at, register_at}
use Rattle.arrays.specs.Taking.{port_of, Ported, at_port, all_hold, found, taken_at}
use Rattle.rings.proofs.RingLaws.{length_held}
use Rattle.std.proofs.lemmas.Cmp.{nat_eq_equiv}
use Rattle.rings.proofs.TookLaws.{took_none, took_ext, took_then, either_takes}
use Rattle.arrays.proofs.TakenPorts.{hold_length, queue_at}

-- a port's channel is at none of the earlier ports
not_earlier : {channels : ℕ} {input : List (List ℕ)} {n count : ℕ} → Ported channels input n count → (k : ℕ) → k < count → at_port input n k (port_of input n k) ≡ false
unfolding at_port
not_earlier {channels} {input} {n} {count} ported k h =
    ap not
    (every_all k (λ p. not (eqb (port_of input n p) (port_of input n k)))
    (λ p below. ap not (ported.different p k below h)))

-- channel c is a queue at one of the node's first k ports
abbrev pub queue_below : Shape → List (List ℕ) → ℕ → ℕ → ℕ → ℕ → Bool
queue_below s input n count k c = at_port input n (min k count) c && not (register_at s c)

module _ (s : Shape) (input : List (List ℕ)) (n count : ℕ) where
  -- before the first port
  pub no_port_yet : (x : Cells) → Rings s x → Took s x (queue_below s input n count 0) x
  unfolding at_port every
  no_port_yet x rings =
      let none : min 0 count ≡ 0 = omega arith in
      took_ext (took_none rings) (λ c. rw none refl)

  -- a port and the ports before it
  one_port_more : (k c : ℕ) → not (not (queue_below s input n count k c) && not (queue_at s input n count k c)) ≡ queue_below s input n count (suc k) c
  unfolding at_port every
  one_port_more k c =
      by_test (ltb k count)
      (λ e.
      let below : k < count = ltb-true k count e in
      let least : min k count ≡ k = omega arith in
      let more : min (suc k) count ≡ suc k = omega arith in
      rw (e, least, more, nat_eq_equiv.symm c (port_of input n k))
      (either_takes (every k (λ p. not (eqb (port_of input n p) c))) (eqb (port_of input n k) c) (not (register_at s c))))
      (λ e.
      let behind : count ≤ k = ltb-false k count e in
      let same : min (suc k) count ≡ min k count = omega arith in
      rw (e, same, and-true, not-not))

module _ (s : Shape) (input : List (List ℕ)) (n count : ℕ) (ported : Ported s.channels input n count) where
  -- once the earlier ports are taken, a port's channel is as it was
  port_held : (x y : Cells) (k : ℕ) → k < count → Took s x (queue_below s input n count k) y → held_at s y (port_of input n k) ≡ held_at s x (port_of input n k)
  port_held x y k h t =
      let least : min k count ≡ k = omega arith in
      let other : queue_below s input n count k (port_of input n k) ≡ false = rw (least, not_earlier ported k h) in
      rw other at (t.taken (port_of input n k) (ported.there k h))

  pub port_found : (x y : Cells) (k : ℕ) → Took s x (queue_below s input n count k) y → found s y input n count k ≡ found s x input n count k
  unfolding found
  port_found x y k t = by_test (ltb k count) (λ e. rw (e, port_held x y k (ltb-true k count e) t)) (λ e. rw e)

  pub port_holds : (x y : Cells) (k : ℕ) → all_hold s x input n count ≡ true → Took s x (queue_below s input n count k) y → k < count → 1 ≤ get_or y.len (port_of input n k) 0
  port_holds x y k holds t h =
      rw (← length_held s y (port_of input n k), port_held x y k h t, length_held s x (port_of input n k))
      (hold_length s x input n count holds k h)

  apart_from_earlier : (k c : ℕ) → queue_at s input n count k c ≡ true → queue_below s input n count k c ≡ false
  apart_from_earlier k c h =
      let both = and_left (ltb k count && eqb c (port_of input n k)) (not (register_at s c)) h in
      let below : k < count = ltb-true k count (and_left (ltb k count) (eqb c (port_of input n k)) both) in
      let least : min k count ≡ k = omega arith in
      rw (eqb-true c (port_of input n k) (and_right (ltb k count) (eqb c (port_of input n k)) both), least, not_earlier ported k below)

  pub next_port : (x y z : Cells) (k : ℕ) → Took s x (queue_below s input n count k) y → Took s y (queue_at s input n count k) z → Took s x (queue_below s input n count (suc k)) z
  next_port x y z k t u = took_ext (took_then t u (apart_from_earlier k)) (one_port_more s input n count k)

  -- once all are taken, where every one holds a token
  pub all_ports : (x y : Cells) → all_hold s x input n count ≡ true → Took s x (queue_below s input n count count) y → Took s x (taken_at s x input n count) y
  all_ports x y holds t =
      let all : min count count ≡ count = omega arith in
      took_ext t (λ d. rw (all, holds))
