-- The words of an instant are those of the rules: for each channel to the outside what its writer has due, since nothing arrives there.
-- Assumes nothing.
use Prim.Native.Nat.{ℕ, zero, suc, ◌<◌, ◌^◌}
use native.Mathlib.Omega.{arith}
use mathlib.Core.Bool.{Bool, cond, ◌&&◌}
use mathlib.Core.List.{List, [], ◌∷◌, ◌++◌, map, append-nil}
use mathlib.Core.Path.{◌≡◌, refl, sym, ◌∙◌, ap, ap₂}
use lib.Dec.{eqb, ltb}
use lib.ListN.{length, get_or, take}
use borrow.Author.Tests.{lt-ltb}
use Rattle.rules.specs.Lists.{tab_from, tab, joined}
use Rattle.rules.specs.Kinds.{signed}
use Rattle.rules.specs.Network.{Network, Obeys, channel_of, is_out}
use Rattle.rules.specs.Instant.{State, due_now, word, written, out_words}
use Rattle.rules.proofs.Checks.{few_nodes, fields_of, end_node}
use Rattle.rules.proofs.LongerLists.{tab_more, joined_more}
use Rattle.rules.proofs.ListLaws.{by_test}
use Rattle.rules.proofs.Arrivals.{Faultless, nothing_arrives_out}
use Rattle.layout.specs.Views.{Shape, Cells, Wires, Pendings, Ways}
use Rattle.arrays.specs.Writes.{words_below, Gathered}
use Rattle.kinds.specs.Nodes.{waiting_by}
use Rattle.arrays.specs.Represents.{Wired, Represents}
use Rattle.arrays.proofs.DueLaws.{due_of_waiting}

-- the words of channel c, by its writer
abbrev words_of : ℕ → List ℕ → List ℕ → List ℕ → (ℕ → Bool) → ℕ → List ℕ
words_of t writer due value outs c =
    cond (outs c && (ltb (get_or writer c 0) 32 && eqb (get_or due (get_or writer c 0) 0) t)) (word c t (signed (get_or value (get_or writer c 0) 0)) ∷ []) []

words_joined : (t : ℕ) (writer due value : List ℕ) (outs : ℕ → Bool) (f : ℕ → List ℕ) (n : ℕ)
    → ((c : ℕ) → c < n → words_of t writer due value outs c ≡ f c) → words_below n t writer due value outs ≡ joined (tab n f)
unfolding words_below joined tab tab_from
words_joined t writer due value outs f zero same = refl
words_joined t writer due value outs f (suc n) same =
    ap₂ ◌++◌ (words_joined t writer due value outs f n (λ c h. same c (omega arith))) (same n (omega arith)) ∙ sym (ap joined (tab_more n f) ∙ joined_more (tab n f) (f n))

-- the word of what is due of what waits
word_of_waiting : (c due value t : ℕ) → t < 2 ^ 24 → cond (eqb due t) (word c t (signed value) ∷ []) [] ≡ map (word c t) (due_now (waiting_by due value) t)
word_of_waiting c due value t early =
    by_test (eqb due t) (λ e. rw e) (λ e. rw e) ∙ ap (map (word c t)) (due_of_waiting due value t early)

module _ (net : Network) (arrivals : List ℕ) (t : ℕ) (st : State) (s : Shape) (w : Wires) (v : Ways) (x : Cells) (p : Pendings) (obeys : Obeys net) (faultless : Faultless net arrivals) (early : t < 2 ^ 24) (wired : Wired net s w v) (rep : Represents net s t st x p) where
  words_by_rules : (c : ℕ) → c < length net.channels
      → words_of t v.writer p.due p.value (λ d. is_out (channel_of net d)) c ≡ cond (is_out (channel_of net c)) (map (word c t) (written net arrivals t st c)) []
  unfolding written
  words_by_rules c below =
      by_test (is_out (channel_of net c))
      (λ e.
      let n = (channel_of net c).writer in
      let inside : n < length net.nodes = end_node (length net.nodes) n (fields_of net obeys c below).writer ((fields_of net obeys c below).written e) in
      let few : n < 32 = omega (arith, few_nodes net obeys) in
      rw (e, wired.writer c below, lt-ltb n 32 few, nothing_arrives_out net arrivals obeys faultless t c below e, append-nil, rep.waits n inside)
      (word_of_waiting c (get_or p.due n 0) (get_or p.value n 0) t early))
      (λ e. rw e)

pub words_stand :
    (net : Network) (arrivals : List ℕ) (t : ℕ) (st : State) (s : Shape) (w : Wires) (v : Ways) (x : Cells) (p : Pendings) (words : List ℕ) (count : ℕ)
    → Obeys net
    → Faultless net arrivals
    → t < 2 ^ 24
    → Wired net s w v
    → Represents net s t st x p
    → Gathered (length net.channels) t v.follow_out v.first_out v.writer p.due p.value words count
    → take count words ≡ out_words net arrivals t st
unfolding out_words
words_stand net arrivals t st s w v x p words count obeys faultless early wired rep gathered =
    gathered.gathers (λ c. is_out (channel_of net c)) wired.outs
    ∙ words_joined t v.writer p.due p.value (λ c. is_out (channel_of net c)) _ (length net.channels)
    (words_by_rules net arrivals t st s w v x p obeys faultless early wired rep)
