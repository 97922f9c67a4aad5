-- The results that are due: those of all nodes for a channel to a node are what its writer has due now, and for a channel to the outside
-- there are none. Assumes nothing.
use Prim.Native.Nat.{ℕ, zero, suc, ◌≤◌, ◌<◌, ◌^◌}
use native.Mathlib.Omega.{arith}
use mathlib.Core.Bool.{Bool, true, false, cond, and-false}
use mathlib.Core.List.{List, [], ◌∷◌, map, append-nil}
use mathlib.Core.Option.{none}
use mathlib.Core.Path.{◌≡◌, refl}
use lib.Dec.{eqb, ltb}
use lib.ListN.{length, get_or, get_or-eq_default}
use borrow.Author.Tests.{ltb-true, ltb-false, lt-ltb, le-ltb, eqb-true, eqb-false, ne_eqb}
use Rattle.rules.specs.Kinds.{signed}
use Rattle.rules.specs.Network.{Network, channel_of, is_out}
use Rattle.rules.specs.Instant.{State, waiting_of, due_now}
use Rattle.rules.proofs.ListLaws.{by_test}
use Rattle.kinds.specs.Nodes.{never, waiting_by}
use Rattle.arrays.specs.Writes.{due_below}
use Rattle.layout.specs.Views.{Pendings}
use Rattle.arrays.specs.Nodes.{waiting_at}
use Rattle.arrays.specs.Represents.{writes_to}

-- a number other than n is below the next one exactly where it is below n
below_next : (m n : ℕ) → eqb m n ≡ false → ltb m (suc n) ≡ ltb m n
below_next m n e =
    by_test (ltb m n) (λ h. rw h (lt-ltb m (suc n) (omega (arith, ltb-true m n h))))
    (λ h. rw h (le-ltb m (suc n) (omega (arith, ltb-false m n h, eqb-false m n e))))

-- a value if it is due at t
abbrev value_if : ℕ → ℕ → ℕ → List ℕ
value_if due value t = cond (eqb due t) (value ∷ []) []

none_either_way : (b : Bool) → ◌≡◌ {A = List ℕ} (cond b [] []) []
none_either_way true = refl
none_either_way false = refl

module _ (net : Network) (t : ℕ) (due value : List ℕ) (c : ℕ) where
  pub due_out : (n : ℕ) → is_out (channel_of net c) ≡ true → due_below n t due value (writes_to net) c ≡ []
  unfolding due_below
  due_out zero out = refl
  due_out (suc n) out =
      rw (due_out n out, out, and-false) (none_either_way (eqb (get_or due n 0) t))

  -- the writer's alone
  due_by_writer : (n : ℕ) → is_out (channel_of net c) ≡ false
      → due_below n t due value (writes_to net) c ≡ cond (ltb (channel_of net c).writer n) (value_if (get_or due (channel_of net c).writer 0) (get_or value (channel_of net c).writer 0) t) []
  unfolding due_below
  due_by_writer zero inner = rw (le-ltb (channel_of net c).writer 0 (omega arith))
  due_by_writer (suc n) inner =
      let w = (channel_of net c).writer in
      by_test (eqb w n)
      (λ e.
      let last : w ≡ n = eqb-true w n e in
      rw (due_by_writer n inner, e, inner, le-ltb w n (omega arith), lt-ltb w (suc n) (omega arith), last))
      (λ e.
      rw (due_by_writer n inner, e, none_either_way (eqb (get_or due n 0) t), append-nil, below_next w n e))

-- what is due of what waits
pub due_of_waiting : (due value t : ℕ) → t < 2 ^ 24 → map signed (value_if due value t) ≡ due_now (waiting_by due value) t
due_of_waiting due value t early =
    by_test (eqb due never)
    (λ e.
    let d : due ≡ never = eqb-true due never e in
    rw (e, ne_eqb due t (λ s. omega arith)))
    (λ e. by_test (eqb due t) (λ n. rw (e, n)) (λ n. rw (e, n)))

pub due_values : (net : Network) (t : ℕ) (st : State) (p : Pendings) (c : ℕ) → t < 2 ^ 24
    → length st.waiting ≡ length net.nodes
    → ((n : ℕ) → n < length net.nodes → waiting_of st n ≡ waiting_at p n)
    → is_out (channel_of net c) ≡ false
    → map signed (due_below (length net.nodes) t p.due p.value (writes_to net) c) ≡ due_now (waiting_of st (channel_of net c).writer) t
due_values net t st p c early nodes waits inner =
    let w = (channel_of net c).writer in
    rw (due_by_writer net t p.due p.value c (length net.nodes) inner)
    (by_test (ltb w (length net.nodes))
    (λ e.
    rw (e, waits w (ltb-true w (length net.nodes) e)) (due_of_waiting (get_or p.due w 0) (get_or p.value w 0) t early))
    (λ e.
    let past : length st.waiting ≤ w = omega (arith, ltb-false w (length net.nodes) e) in
    rw (e, get_or-eq_default st.waiting none past)))
