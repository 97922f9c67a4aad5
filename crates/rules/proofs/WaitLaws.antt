-- Laws of what a node has waiting, from one instant to the next. Assumes nothing.
use Prim.Native.Nat.{ℕ, suc, ◌+◌, ◌%◌, ◌<◌}
use native.Mathlib.Omega.{arith}
use mathlib.Core.Bool.{true, cond}
use mathlib.Core.List.{List}
use mathlib.Core.Option.{Option, none, some}
use mathlib.Core.Path.{◌≡◌, refl}
use lib.Dec.{eqb, ltb}
use lib.IntN.{ℤ}
use lib.ListN.{length}
use mir.Syntax.{w32}
use mir.Val.{SFits}
use borrow.Author.Tests.{eqb-true, eqb-false}
use Rattle.rules.specs.declared.Node.{Node}
use Rattle.rules.specs.Lists.{lowest}
use Rattle.rules.specs.Network.{Network, Obeys, node_of, serves}
use Rattle.rules.specs.Instant.{Waiting, State, waiting_of, held_in, is_due, due_now, released, ready, goes_ahead, input_at, result_of, wait_for, waiting_after}
use Rattle.rules.proofs.Checks.{NodeFields, node_fields_law}
use Rattle.rules.proofs.KindLaws.{either_has, result_fits}
use Rattle.rules.proofs.ListLaws.{and_left, and_right, by_test}
use Rattle.rules.proofs.Sound.{Due}
use Rattle.rules.proofs.TokenLaws.{AllFit, none_fit, cons_fit, oldest_fits}

-- before instant t a node has nothing waiting, or a token that is due in its time
abbrev pub Waits : Node → ℕ → Option Waiting → Type 0
Waits node t none = Unit {0}
Waits node t (some w) = Due node t w.due × SFits w32 w.value

pub entry_waits : (node : Node) (t : ℕ) (entry : Option Waiting)
    → ((w : Waiting) → entry ≡ some w → Due node t w.due) → ((w : Waiting) → entry ≡ some w → SFits w32 w.value) → Waits node t entry
entry_waits node t none due fits = tt
entry_waits node t (some w) due fits = (due w refl, fits w refl)

-- what is written of an entry is a token
pub due_fit : (node : Node) (t : ℕ) (entry : Option Waiting) → Waits node t entry → AllFit (due_now entry t)
due_fit node t none waits = none_fit
due_fit node t (some w) waits = either_has AllFit (eqb w.due t) (cons_fit waits.1 none_fit) none_fit

-- an entry that is not written at t waits on
waits_on : (node : Node) (t : ℕ) (entry : Option Waiting) → Waits node t entry → Waits node (suc t) (cond (is_due entry t) none entry)
waits_on node t none waits = tt
waits_on node t (some w) waits =
    by_test (eqb w.due t) (λ e. rw e tt)
    (λ e.
    let old = waits.0 in
    rw e (
      record {
        release = old.release;
        multiple = old.multiple;
        begun = omega arith;
        exact = old.exact;
        after = old.after;
        within = old.within;
        still = omega (arith, old.still, eqb-false w.due t e);
      },
      waits.1,
    ))

-- the result of a node that is released at t waits from then on
released_waits : (node : Node) (t : ℕ) (entry : Option ℤ) → NodeFields node → t % node.period ≡ 0
    → ((v : ℤ) → entry ≡ some v → SFits w32 v) → Waits node (suc t) (wait_for (t + node.deadline) entry)
released_waits node t none fields multiple fits = tt
released_waits node t (some v) fields multiple fits = (
  record {
    release = t;
    multiple = multiple;
    begun = omega arith;
    exact = refl;
    after = omega arith;
    within = omega arith;
    still = omega arith;
  },
  fits v refl,
)

-- one node's reads, from tokens
module _ (net : Network) (held : List (List ℤ)) (n : ℕ) (fit : (c : ℕ) → AllFit (held_in held c)) where
  input_fits : (p : ℕ) → SFits w32 (input_at net held n p)
  unfolding input_at
  input_fits p =
      let c = lowest (length net.channels) (serves net n p) in
      oldest_fits (held_in held c) (fit c)

  pub result_of_fits : SFits w32 (node_of net n).constant → (v : ℤ) → result_of net held n ≡ some v → SFits w32 v
  unfolding result_of
  result_of_fits constant v =
      let input = input_at net held n in
      result_fits (node_of net n).kind (node_of net n).constant (input 0) (input 1) (input 2) v constant (input_fits 0) (input_fits 1) (input_fits 2)

-- a node that goes ahead is released
pub ahead_multiple : (net : Network) (held : List (List ℤ)) (t n : ℕ) → goes_ahead net held t n ≡ true → t % (node_of net n).period ≡ 0
unfolding goes_ahead
ahead_multiple net held t n e =
    let multiple = eqb (t % (node_of net n).period) 0 in
    eqb-true (t % (node_of net n).period) 0
    (and_right (ltb n (length net.nodes)) multiple (and_left (released net t n) (ready net held n) e))

pub waits_after : (net : Network) (held : List (List ℤ)) (t : ℕ) (st : State) (n : ℕ) → Obeys net → ((c : ℕ) → AllFit (held_in held c)) → n < length net.nodes
    → Waits (node_of net n) t (waiting_of st n) → Waits (node_of net n) (suc t) (waiting_after net held t st n)
unfolding waiting_after
waits_after net held t st n obeys fit below waits =
    by_test (goes_ahead net held t n)
    (λ e.
    rw e
    (released_waits (node_of net n) t (result_of net held n) (node_fields_law (node_of net n) (obeys.node_fields n below))
    (ahead_multiple net held t n e) (result_of_fits net held n fit (obeys.constants n below))))
    (λ e. rw e (waits_on (node_of net n) t (waiting_of st n) waits))
