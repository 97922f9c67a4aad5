-- The earliest of the nodes' next releases and due instants: it is not later than each, and from an instant up to it nothing is due, no node
-- is released, and the arrays stand for the same state. Assumes nothing.
use Prim.Native.Nat.{ℕ, zero, suc, ◌+◌, ◌-◌, ◌%◌, ◌^◌, ◌≤◌, ◌<◌}
use native.Mathlib.Nat.{le_refl, not-suc-le-zero, zero-add, mod-add-mod, mod-eq_of_lt}
use native.Mathlib.Omega.{arith}
use mathlib.Core.Bool.{false}
use mathlib.Core.Option.{none, some}
use mathlib.Core.Path.{◌≡◌, sym, ◌∙◌, ap}
use lib.Dec.{eqb, ltb}
use lib.ListN.{length, get_or, get_or-eq_default}
use borrow.Author.Tests.{ltb-true, ltb-false, eqb-true, ne_eqb}
use Rattle.rules.specs.declared.Node.{Node}
use Rattle.rules.specs.Kinds.{signed}
use Rattle.rules.specs.Network.{Network, node_of}
use Rattle.rules.specs.Instant.{State, waiting_of, is_due, released}
use Rattle.rules.proofs.ListLaws.{by_test}
use Rattle.rules.proofs.Sound.{Sound}
use Rattle.layout.specs.Views.{Shape, Cells, Pendings}
use Rattle.kinds.specs.Nodes.{never, waiting_by}
use Rattle.arrays.specs.Nodes.{soon_at, soonest}
use Rattle.arrays.specs.Represents.{NextRelease, Represents}

module _ (p : Pendings) (given : ℕ) where
  pub soonest_given : (k : ℕ) → soonest p given k ≤ given
  unfolding soonest
  soonest_given zero = le_refl given
  soonest_given (suc k) = omega (arith, soonest_given k)

  pub soonest_at : (k n : ℕ) → n < k → soonest p given k ≤ soon_at p n
  unfolding soonest
  soonest_at zero n h = absurd (not-suc-le-zero h)
  soonest_at (suc k) n h =
      by_test (ltb n k) (λ e. omega (arith, soonest_at k n (ltb-true n k e)))
      (λ e.
      let last : n ≡ k = omega (arith, ltb-false n k e) in
      rw last (omega arith))

  pub soonest_from : (t k : ℕ) → t ≤ given → ((n : ℕ) → n < k → t ≤ soon_at p n) → t ≤ soonest p given k
  unfolding soonest
  soonest_from t zero h each = h
  soonest_from t (suc k) h each =
      omega (arith, soonest_from t k h (λ n below. each n (omega arith)), each k (omega arith))

-- what lies less than a period before a multiple is none
before_multiple : (period i d : ℕ) → 0 < d → d < period → (i + d) % period ≡ 0 → eqb (i % period) 0 ≡ false
before_multiple period i d positive small multiple =
    ne_eqb (i % period) 0
    (λ e.
    let rest : (i + d) % period ≡ d =
    sym (mod-add-mod i period d) ∙ ap (λ (r : ℕ). (r + d) % period) e ∙ ap (λ (n : ℕ). n % period) (zero-add d) ∙ mod-eq_of_lt small in
    omega arith)

before_release : (node : Node) (t next i : ℕ) → NextRelease node t next → t ≤ i → i < next → eqb (i % node.period) 0 ≡ false
before_release node t next i release from before =
    let whole : i + (next - i) ≡ next = omega arith in
    before_multiple node.period i (next - i) (omega arith) (omega (arith, release.within))
    (ap (λ (n : ℕ). n % node.period) whole ∙ release.multiple)

-- the next release from t on is that from any instant up to it on
release_from : (node : Node) (t later next : ℕ) → NextRelease node t next → t ≤ later → later ≤ next → NextRelease node later next
release_from node t later next release from before =
    record { multiple = release.multiple; from = before; within = omega (arith, release.within) }

-- what waits is not due before its due instant
not_due_before : (due value i : ℕ) → i < due → is_due (waiting_by due value) i ≡ false
not_due_before due value i before =
    by_test (eqb due never) (λ e. rw e) (λ e. rw e (ne_eqb due i (λ same. omega arith)))

module _ (net : Network) (s : Shape) (t : ℕ) (st : State) (x : Cells) (p : Pendings) (sound : Sound net t st) (rep : Represents net s t st x p) where
  pub node_later : t ≤ 2 ^ 24 → (n : ℕ) → n < length net.nodes → t ≤ soon_at p n
  node_later early n below =
      let due = get_or p.due n 0 in
      let value = get_or p.value n 0 in
      let next = (rep.next n below).from in
      by_test (eqb due never)
      (λ e.
      let out = eqb-true due never e in
      omega arith)
      (λ e.
      let waits : waiting_of st n ≡ some (record { due = due; value = signed value }) = rep.waits n below ∙ rw e in
      let still = (sound.due n _ waits).still in
      omega arith)

  pub none_due_law : (i : ℕ) → ((n : ℕ) → n < length net.nodes → i < soon_at p n) → (n : ℕ) → is_due (waiting_of st n) i ≡ false
  none_due_law i before n =
      by_test (ltb n (length net.nodes))
      (λ e.
      let below = ltb-true n (length net.nodes) e in
      rw (rep.waits n below) (not_due_before (get_or p.due n 0) (get_or p.value n 0) i (omega (arith, before n below))))
      (λ e.
      let past : length st.waiting ≤ n = omega (arith, ltb-false n (length net.nodes) e, sound.nodes) in
      rw (get_or-eq_default st.waiting none past))

module _ (net : Network) (s : Shape) (t : ℕ) (st : State) (x : Cells) (p : Pendings) (rep : Represents net s t st x p) where
  pub none_released_law : (i : ℕ) → t ≤ i → ((n : ℕ) → n < length net.nodes → i < soon_at p n) → (n : ℕ) → released net i n ≡ false
  none_released_law i up before n =
      by_test (ltb n (length net.nodes))
      (λ e.
      let below = ltb-true n (length net.nodes) e in
      rw (e, before_release (node_of net n) t (get_or p.next n 0) i (rep.next n below) up (omega (arith, before n below))))
      (λ e. rw e)

  pub represents_later : (later : ℕ) → t ≤ later → ((n : ℕ) → n < length net.nodes → later ≤ soon_at p n) → Represents net s later st x p
  represents_later later up before =
      record {
        rings = rep.rings;
        held = rep.held;
        waits = rep.waits;
        next = λ n below. release_from (node_of net n) t later (get_or p.next n 0) (rep.next n below) up (omega (arith, before n below));
      }
