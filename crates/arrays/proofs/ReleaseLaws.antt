-- Laws of a node's releases: the multiples of its period, its next release, and what it has waiting when it is released. Assumes nothing.
use Prim.Native.Nat.{ℕ, suc, ◌+◌, ◌/◌, ◌%◌, ◌≤◌, ◌<◌}
use native.Mathlib.Nat.{div-add-mod', mul-le-mul_right, suc-mul, add-mod_right}
use native.Mathlib.Omega.{arith}
use mathlib.Core.Bool.{cond}
use mathlib.Core.Option.{Option, none, some}
use mathlib.Core.Path.{◌≡◌, refl, sym, ◌∙◌}
use lib.Dec.{eqb, ltb}
use lib.ListN.{get_or}
use borrow.Author.Tests.{ltb-true, ltb-false, eqb-true, eqb-false, eq-eqb, ne_eqb}
use Rattle.rules.specs.declared.Node.{Node}
use Rattle.rules.specs.Instant.{Waiting, is_due}
use Rattle.rules.proofs.ListLaws.{by_test}
use Rattle.rules.proofs.Sound.{Due}
use Rattle.kinds.specs.Nodes.{never, waiting_by}
use Rattle.layout.specs.Views.{Wires, Pendings}
use Rattle.arrays.specs.Nodes.{next_then}
use Rattle.arrays.specs.Represents.{NextRelease}

-- two multiples of a period are at least a period apart
pub multiples_apart : (period a b : ℕ) → a % period ≡ 0 → b % period ≡ 0 → a < b → a + period ≤ b
multiples_apart period a b one other less =
    let low = div-add-mod' a period in
    let high = div-add-mod' b period in
    by_test (ltb (a / period) (b / period))
    (λ e.
    let more : suc (a / period) ≤ b / period = ltb-true (a / period) (b / period) e in
    omega (arith, low, high, mul-le-mul_right period more, suc-mul (a / period) period))
    (λ e.
    let most : b / period ≤ a / period = ltb-false (a / period) (b / period) e in
    absurd (omega (arith, low, high, mul-le-mul_right period most)))

-- a node is released where its next release is now
pub next_is_now : (node : Node) (t next : ℕ) → NextRelease node t next → eqb (t % node.period) 0 ≡ eqb next t
next_is_now node t next release =
    by_test (eqb next t)
    (λ e.
    let now : next ≡ t = eqb-true next t e in
    eq-eqb (t % node.period) 0 (rw now at release.multiple) ∙ sym e)
    (λ e.
    let later : next ≡ t → ⊥ = eqb-false next t e in
    ne_eqb (t % node.period) 0
    (λ multiple.
    by_test (ltb t next)
    (λ l.
    let apart : t + node.period ≤ next = multiples_apart node.period t next multiple release.multiple (ltb-true t next l) in
    omega (arith, release.within))
    (λ l. later (omega (arith, ltb-false t next l, release.from))))
    ∙ sym e)

-- the next release after an instant
pub next_after : (w : Wires) (p : Pendings) (n : ℕ) (node : Node) (t : ℕ) → get_or w.period n 0 ≡ node.period
    → NextRelease node t (get_or p.next n 0) → NextRelease node (suc t) (next_then w p t n)
next_after w p n node t its release =
    let next = get_or p.next n 0 in
    by_test (eqb next t)
    (λ e.
    let now : next ≡ t = eqb-true next t e in
    rw (e, its)
    (record {
      multiple = add-mod_right t node.period ∙ rw now at release.multiple;
      from = omega arith;
      within = omega arith;
    }))
    (λ e.
    rw e
    (record {
      multiple = release.multiple;
      from = omega (arith, release.from, eqb-false next t e);
      within = omega (arith, release.within);
    }))

-- what waits when its node is released is due then
pub due_at_release : (node : Node) (t : ℕ) (entry : Option Waiting) → ((w : Waiting) → entry ≡ some w → Due node t w.due) → t % node.period ≡ 0
    → cond (is_due entry t) none entry ≡ none
due_at_release node t none due multiple = refl
due_at_release node t (some w) due multiple =
    let d = due w refl in
    let apart = multiples_apart node.period d.release t d.multiple multiple d.begun in
    let now : w.due ≡ t = omega (arith, apart, d.within, d.still) in
    rw (eq-eqb w.due t now)

-- what is due now goes, by its due instant as by its entry
pub due_goes : (t due value : ℕ) → cond (is_due (waiting_by due value) t) none (waiting_by due value) ≡ cond (eqb due t) none (waiting_by due value)
due_goes t due value =
    by_test (eqb due never) (λ e. rw e (by_test (eqb due t) (λ f. rw f) (λ f. rw f))) (λ e. rw e)
