-- What a node's turn depends on: whether it is ready, and its result, by its record and by the channels that it reads alone. So a node
-- finds the same in two networks, or twice in one network, where it reads the same channels and they hold the same. Assumes nothing.
use Prim.Native.Nat.{ℕ, ◌≤◌, ◌<◌}
use native.Mathlib.Omega.{arith}
use mathlib.Core.Bool.{false, not, ◌||◌}
use mathlib.Core.List.{List, []}
use mathlib.Core.Path.{◌≡◌, ap, sym, ◌∙◌}
use lib.Dec.{eqb, ltb}
use lib.IntN.{ℤ}
use lib.ListN.{length, get_or-eq_default}
use borrow.Author.Tests.{ltb-true, ltb-false, eqb-true}
use Rattle.rules.specs.Lists.{lowest, is_empty}
use Rattle.rules.specs.Network.{Network, node_of, channel_of, is_register, serves}
use Rattle.rules.specs.Instant.{held_in, oldest, ready, input_at, result_of}
use Rattle.rules.proofs.ListLaws.{by_test, and_left, lowest_is}
use Rattle.theorems.proofs.Front.{every_front, lowest_front, lowest_nowhere}

-- node n of A is node n of B; B's first channels are A's, and what n reads of them holds the same; n reads no other channel of B
pub record Alike (A B : Network) (n : ℕ) (held_a held_b : List (List ℤ)) : Type 0 where
  pub length_a : length held_a ≡ length A.channels
  pub length_b : length held_b ≡ length B.channels
  pub node : node_of B n ≡ node_of A n
  pub more : length A.channels ≤ length B.channels
  pub channel : (c : ℕ) → c < length A.channels → channel_of B c ≡ channel_of A c
  pub elsewhere : (c : ℕ) → length A.channels ≤ c → c < length B.channels → eqb (channel_of B c).reader n ≡ false
  pub held : (c : ℕ) → c < length A.channels → (channel_of A c).reader ≡ n → held_in held_b c ≡ held_in held_a c

module _ (A B : Network) (n : ℕ) (held_a held_b : List (List ℤ)) (alike : Alike A B n held_a held_b) where
  ready_same : ready B held_b n ≡ ready A held_a n
  unfolding ready
  ready_same =
      every_front (length A.channels) (length B.channels)
      (λ c. not (eqb (channel_of A c).reader n) || (is_register (channel_of A c) || not (is_empty (held_in held_a c))))
      (λ c. not (eqb (channel_of B c).reader n) || (is_register (channel_of B c) || not (is_empty (held_in held_b c))))
      (λ c below.
      by_test (eqb (channel_of A c).reader n)
      (λ e. rw (alike.channel c below, alike.held c below (eqb-true (channel_of A c).reader n e)))
      (λ e. rw (alike.channel c below, e)))
      alike.more
      (λ c new below. rw (alike.elsewhere c new below))

  input_same : (p : ℕ) → input_at B held_b n p ≡ input_at A held_a n p
  unfolding input_at
  input_same p =
      let a = length A.channels in
      let b = length B.channels in
      let same : (c : ℕ) → c < a → serves B n p c ≡ serves A n p c = λ c h. rw (alike.channel c h) in
      let behind : (c : ℕ) → a ≤ c → c < b → serves B n p c ≡ false = λ c new below. rw (alike.elsewhere c new below) in
      let at = lowest a (serves A n p) in
      by_test (ltb at a)
      (λ e.
      let found = ltb-true at a e in
      let reads = and_left (eqb (channel_of A at).reader n) (eqb (channel_of A at).port p) ((lowest_is a (serves A n p)).found found) in
      ap (λ (c : ℕ). oldest (held_in held_b c)) (lowest_front a b (serves A n p) (serves B n p) same alike.more found)
      ∙ ap oldest (alike.held at found (eqb-true (channel_of A at).reader n reads)))
      (λ e.
      let unfound = ltb-false at a e in
      let nowhere = lowest_nowhere a b (serves A n p) (serves B n p) same behind unfound in
      let past_b : length held_b ≤ lowest b (serves B n p) = omega (arith, alike.length_b) in
      let past_a : length held_a ≤ at = omega (arith, alike.length_a) in
      ap oldest (get_or-eq_default held_b [] past_b) ∙ sym (ap oldest (get_or-eq_default held_a [] past_a)))

  pub locality : (ready B held_b n ≡ ready A held_a n) × (result_of B held_b n ≡ result_of A held_a n)
  unfolding result_of
  locality = (ready_same, rw (alike.node, input_same 0, input_same 1, input_same 2))
