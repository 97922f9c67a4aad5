-- Laws of the ports of a network: each channel that a node reads is the one channel at its port. Assumes nothing.
use Prim.Native.Nat.{ℕ, zero, suc, ◌≤◌, ◌<◌}
use native.Mathlib.Omega.{arith}
use mathlib.Core.Bool.{Bool, true, false}
use mathlib.Core.Path.{◌≡◌, refl, ◌∙◌}
use lib.Dec.{eqb, leb, ltb}
use lib.ListN.{length}
use borrow.Author.Tests.{ltb-true, ltb-false, lt-ltb, leb-true, eq-eqb}
use Rattle.rules.specs.Lists.{total, count, every, lowest}
use Rattle.rules.specs.Kinds.{inputs}
use Rattle.rules.specs.Network.{Network, Obeys, node_of, channel_of, serves}
use Rattle.rules.proofs.Agreeing.{count_more}
use Rattle.rules.proofs.Checks.{node_fields_law, served}
use Rattle.rules.proofs.ListLaws.{and_left, and_both, by_test, true_or_false, every_at, lowest_is, lowest_only}

-- no number is counted
pub count_none : (n : ℕ) (f : ℕ → Bool) → count n f ≡ 0 → (i : ℕ) → i < n → f i ≡ false
unfolding count total
count_none n f e i below = by_test (f i) (λ y. absurd (omega (arith, count_more n 0 i f (omega arith) below y))) (λ y. y)

pub none_counted : (n : ℕ) (f : ℕ → Bool) → ((i : ℕ) → i < n → f i ≡ false) → count n f ≡ 0
unfolding count total
none_counted zero f none = refl
none_counted (suc n) f none =
    let rest : count n f ≡ 0 = none_counted n f (λ i below. none i (omega arith)) in
    rw (none n (omega arith)) (omega arith)

-- where one number is counted, none below it has the property
count_alone : (n : ℕ) (f : ℕ → Bool) (i : ℕ) → count n f ≡ 1 → i < n → f i ≡ true → (j : ℕ) → j < i → f j ≡ false
count_alone n f i e below has j less =
    by_test (f j) (λ y. absurd (omega (arith, count_more i j j f (omega arith) less y, count_more n i i f (omega arith) below has))) (λ y. y)

-- it is the lowest
pub count_lowest : (n : ℕ) (f : ℕ → Bool) (i : ℕ) → count n f ≡ 1 → i < n → f i ≡ true → lowest n f ≡ i
count_lowest n f i e below has =
    lowest_only (record { most = omega arith; without = count_alone n f i e below has; found = λ h. has })

-- and it is there
pub count_found : (n : ℕ) (f : ℕ → Bool) → count n f ≡ 1 → lowest n f < n
count_found n f e =
    let low = lowest_is n f in
    by_test (ltb (lowest n f) n) (λ l. ltb-true (lowest n f) n l)
    (λ l.
    let none : count n f ≡ 0 = none_counted n f (λ i below. low.without i (omega (arith, ltb-false (lowest n f) n l))) in
    absurd (omega arith))

pub inputs_few : (kind : ℕ) → kind < 12 → inputs kind ≤ 3
unfolding inputs every
inputs_few kind below = leb-true (inputs kind) 3 (every_at 12 (λ k. leb (inputs k) 3) refl kind below)

-- the ports of a node of a network that obeys its rules
module _ (net : Network) (obeys : Obeys net) (n : ℕ) (below : n < length net.nodes) where
  few_inputs : inputs (node_of net n).kind ≤ 3
  few_inputs = inputs_few (node_of net n).kind (node_fields_law (node_of net n) (obeys.node_fields n below)).kind

  served_once : (p : ℕ) → p < inputs (node_of net n).kind → count (length net.channels) (serves net n p) ≡ 1
  served_once p h = served net n (obeys.ports n below) p (omega (arith, few_inputs)) ∙ rw (lt-ltb p (inputs (node_of net n).kind) h)

  -- the channel at a port is there, and the node reads it
  pub port_there : (p : ℕ) → p < inputs (node_of net n).kind → lowest (length net.channels) (serves net n p) < length net.channels
  port_there p h = count_found (length net.channels) (serves net n p) (served_once p h)

  pub port_read : (p : ℕ) → p < inputs (node_of net n).kind → eqb (channel_of net (lowest (length net.channels) (serves net n p))).reader n ≡ true
  port_read p h =
      let c = lowest (length net.channels) (serves net n p) in
      and_left (eqb (channel_of net c).reader n) (eqb (channel_of net c).port p) ((lowest_is (length net.channels) (serves net n p)).found (port_there p h))

  -- a port behind the inputs has no channel
  pub no_port : (p : ℕ) → p < 4 → ltb p (inputs (node_of net n).kind) ≡ false → (c : ℕ) → c < length net.channels → serves net n p c ≡ false
  no_port p h behind = count_none (length net.channels) (serves net n p) (served net n (obeys.ports n below) p h ∙ rw behind)

  -- a channel that the node reads is at one of its ports
  pub read_in : (c : ℕ) → c < length net.channels → eqb (channel_of net c).reader n ≡ true → (channel_of net c).port < inputs (node_of net n).kind
  read_in c there reads =
      let port = (channel_of net c).port in
      by_test (ltb port (inputs (node_of net n).kind)) (λ e. ltb-true port (inputs (node_of net n).kind) e)
      (λ e. true_or_false (and_both reads (eq-eqb port port refl)) (no_port port (obeys.in_bits c there).port e c there))

  pub read_at : (c : ℕ) → c < length net.channels → eqb (channel_of net c).reader n ≡ true → lowest (length net.channels) (serves net n (channel_of net c).port) ≡ c
  read_at c there reads =
      let port = (channel_of net c).port in
      count_lowest (length net.channels) (serves net n port) c (served_once port (read_in c there reads)) there (and_both reads (eq-eqb port port refl))
