-- What the promise of an instant settles: for a network and a state that the arrays stand for, two outcomes have the same answer and the same list.
-- The state is settled in what it stands for: where the arrivals go on, each node's next release and due instant. Assumes nothing.
use Prim.Native.Nat.{ℕ, suc, ◌+◌, ◌≤◌, ◌<◌, min}
use native.Mathlib.Omega.{arith}
use mathlib.Core.List.{List, [], ◌++◌}
use mathlib.Core.Option.{Option, none, some}
use mathlib.Core.Path.{◌≡◌, refl, sym, ◌∙◌, ◌∙⁻¹◌, ap}
use lib.Dec.{eqb, ltb}
use lib.ListN.{length, get_or, take, drop}
use borrow.Author.Tests.{ltb-true, ltb-false, eqb-true}
use Rattle.rules.specs.declared.Node.{Node}
use Rattle.rules.specs.Network.{Network, node_of}
use Rattle.rules.specs.Instant as rules
use Rattle.rules.specs.Instant.{State, Waiting, stops, goes}
use Rattle.rules.proofs.ListLaws.{by_test}
use Rattle.std.specs.Prelude.{Result, Ok, Err}
use Rattle.steps.specs.declared.On.{On}
use Rattle.steps.specs.declared.Stop.{Stop}
use Rattle.layout.specs.declared.Plan.{Plan}
use Rattle.layout.specs.declared.State as layout
use Rattle.layout.specs.Views.{Shape, Cells, Pendings, shape_of, cells_of, pendings_of}
use Rattle.kinds.specs.Nodes.{never, waiting_by}
use Rattle.arrays.specs.Writes.{arrival_at}
use Rattle.arrays.specs.Nodes.{soon_at, soonest}
use Rattle.arrays.specs.Represents.{NextRelease, Represents, Cursor}
use Rattle.arrays.specs.Instants.{WentOn}
use Rattle.steps.specs.Steps.{StepSays}
use Rattle.arrays.proofs.ReleaseLaws.{multiples_apart}
use Rattle.arrays.proofs.ReadLaws.{soonest_same}

-- a node has one next release from an instant on
next_once : (node : Node) (t a b : ℕ) → NextRelease node t a → NextRelease node t b → a ≡ b
next_once node t a b one other =
    by_test (ltb a b)
    (λ e. absurd (omega (arith, multiples_apart node.period a b one.multiple other.multiple (ltb-true a b e), one.from, other.within)))
    (λ e.
    by_test (ltb b a)
    (λ f. absurd (omega (arith, multiples_apart node.period b a other.multiple one.multiple (ltb-true b a f), other.from, one.within)))
    (λ f. omega (arith, ltb-false a b e, ltb-false b a f)))

-- what waits has one due instant, and never where nothing waits
abbrev due_of : Option Waiting → ℕ
due_of none = never
due_of (some w) = w.due

due_is : (due value : ℕ) → due_of (waiting_by due value) ≡ due
due_is due value = by_test (eqb due never) (λ e. rw e (sym (eqb-true due never e))) (λ e. rw e)

-- the arrivals go on at one index
cursor_once : (arrivals : List ℕ) (a b t : ℕ) → Cursor arrivals a t → Cursor arrivals b t → a ≡ b
cursor_once arrivals a b t one other =
    by_test (ltb a b)
    (λ e.
    let less : a < b = ltb-true a b e in
    absurd (omega (arith, one.ahead a (omega arith) (omega (arith, less, other.within)), other.passed a less)))
    (λ e.
    by_test (ltb b a)
    (λ f.
    let less : b < a = ltb-true b a f in
    absurd (omega (arith, other.ahead b (omega arith) (omega (arith, less, one.within)), one.passed b less)))
    (λ f. omega (arith, ltb-false a b e, ltb-false b a f)))

-- arrays that stand for one state have the same next instant at which something happens
module _ (net : Network) (s : Shape) (t : ℕ) (st : State) (x y : Cells) (p q : Pendings) (one : Represents net s t st x p) (other : Represents net s t st y q) where
  soon_at_once : (n : ℕ) → n < length net.nodes → soon_at p n ≡ soon_at q n
  soon_at_once n here =
      let next : get_or p.next n 0 ≡ get_or q.next n 0 = next_once (node_of net n) t _ _ (one.next n here) (other.next n here) in
      let due : get_or p.due n 0 ≡ get_or q.due n 0 =
      sym (due_is _ (get_or p.value n 0)) ∙ ap due_of (sym (one.waits n here) ∙ other.waits n here) ∙ due_is _ (get_or q.value n 0) in
      λ i. min (next i) (due i)

  soonest_once : (from k : ℕ) → k ≤ length net.nodes → soonest p from k ≡ soonest q from k
  soonest_once from k within = soonest_same q p from k (λ n h. soon_at_once n (omega (arith, within)))

-- what an instant of the rules comes to, part by part: the number and channel of a stop, or the words and the state
abbrev number_in : rules.Step → ℕ
number_in (stops number channel) = number
number_in (goes words state) = 0

abbrev channel_at : rules.Step → ℕ
channel_at (stops number channel) = channel
channel_at (goes words state) = 0

abbrev words_in : rules.Step → List ℕ
words_in (stops number channel) = []
words_in (goes words state) = words

abbrev state_in : State → rules.Step → State
state_in st (stops number channel) = st
state_in st (goes words state) = state

module _ (net : Network) (arrivals : List ℕ) (p : Plan) (t : ℕ) (st : State) (out : List ℕ) (count : ℕ) (after list : List ℕ) (y z : layout.State) where
  went_on_once : (a b : On) → WentOn net arrivals p t st out count after a.more a.next a.soon y → WentOn net arrivals p t st out count list b.more b.next b.soon z
      → (a ≡ b) × (after ≡ list)
  went_on_once a b one other =
      let same : goes one.words one.state ≡ goes other.words other.state = sym one.goes_on ∙ other.goes_on in
      let words : one.words ≡ other.words = ap words_in same in
      let state : one.state ≡ other.state = ap (state_in st) same in
      let count_once : a.more ≡ b.more = sym one.many ∙ ap length words ∙ other.many in
      let next_index : a.next ≡ b.next = cursor_once arrivals a.next b.next (suc t) one.cursor other.cursor in
      let represents : Represents net (shape_of p) (suc t) other.state (cells_of y) (pendings_of y) = rw state at one.represents in
      let moment_once : a.soon ≡ b.soon =
      one.earliest ∙ ap (λ i. soonest (pendings_of y) (arrival_at arrivals i) (length net.nodes)) next_index
      ∙ soonest_once net (shape_of p) (suc t) other.state (cells_of y) (cells_of z) (pendings_of y) (pendings_of z) represents other.represents (arrival_at arrivals b.next) (length net.nodes) (omega arith)
      ∙ sym other.earliest in (
        (λ i. record { more = count_once i; next = next_index i; soon = moment_once i }),
        one.list ∙ (λ i. take count out ++ (words i ++ drop (count + count_once i) out)) ∙ sym other.list,
      )

  pub step_once : (r a : Result On Stop) → StepSays net arrivals p t st out count r after y → StepSays net arrivals p t st out count a list z → (r ≡ a) × (after ≡ list)
  step_once (Err (Stop.Full c)) (Err (Stop.Full d)) one other = (ap (λ step. Err (Stop.Full (channel_at step))) (sym one.0 ∙ other.0), one.1 ∙⁻¹ other.1)
  step_once (Err (Stop.Full c)) (Err Stop.Short) one other = absurd (omega (arith, ap number_in (sym one.0 ∙ other.0)))
  step_once (Err (Stop.Full c)) (Ok on) one other = absurd (omega (arith, ap number_in (sym one.0 ∙ other.goes_on)))
  step_once (Err Stop.Short) (Err (Stop.Full d)) one other = absurd (omega (arith, ap number_in (sym one.0 ∙ other.0)))
  step_once (Err Stop.Short) (Err Stop.Short) one other = (refl, one.1 ∙⁻¹ other.1)
  step_once (Err Stop.Short) (Ok on) one other = absurd (omega (arith, ap number_in (sym one.0 ∙ other.goes_on)))
  step_once (Ok on) (Err (Stop.Full d)) one other = absurd (omega (arith, ap number_in (sym one.goes_on ∙ other.0)))
  step_once (Ok on) (Err Stop.Short) one other = absurd (omega (arith, ap number_in (sym one.goes_on ∙ other.0)))
  step_once (Ok on) (Ok more) one other = let so = went_on_once on more one other in (ap Ok so.0, so.1)
