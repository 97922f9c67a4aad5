-- A plan says an obeying network's wiring: the walks over the channels of each node and to the outside, and the channel at each
-- port. Assumes nothing.
use Prim.Native.Nat.{ℕ, suc, ◌<◌}
use native.Mathlib.Omega.{arith}
use mathlib.Core.Bool.{Bool, true, false, not, ◌&&◌, not-not}
use mathlib.Core.List.{List}
use mathlib.Core.Path.{◌≡◌, sym, ◌∙◌, ap}
use lib.Dec.{eqb, leb, ltb}
use lib.ListN.{length}
use borrow.Author.Tests.{lt-ltb, eqb-true}
use Rattle.rules.specs.Lists.{lowest}
use Rattle.rules.specs.Kinds.{inputs}
use Rattle.rules.specs.Network.{Network, Obeys, node_of, channel_of, is_out, serves}
use Rattle.rules.proofs.Checks.{few_nodes, fields_of, end_node}
use Rattle.rules.proofs.ListLaws.{by_test, and_left, and_right, lowest_is}
use Rattle.rules.proofs.Agreeing.{lowest_ext}
use Rattle.arrays.specs.Writes.{next_from, Walk}
use Rattle.setup.specs.Setup.{inner_of, outer_of, PortsOf}
use Rattle.arrays.specs.Taking.{port_of}
use Rattle.arrays.specs.Represents.{writes_to}
use Rattle.arrays.proofs.PortLaws.{port_there, read_at}

-- properties that agree below n have the same next numbers, and so the same walk
next_ext : (n : ℕ) (f g : ℕ → Bool) (k : ℕ) → ((c : ℕ) → c < n → f c ≡ g c) → next_from n f k ≡ next_from n g k
unfolding next_from
next_ext n f g k same =
    rw (lowest_ext n (λ i. leb k i && f i) (λ i. leb k i && g i) (λ i h. ap (λ (b : Bool). leb k i && b) (same i h)))

pub walk_ext : {n first : ℕ} {follow : List ℕ} (f g : ℕ → Bool) → ((c : ℕ) → c < n → f c ≡ g c) → Walk n follow first f → Walk n follow first g
walk_ext {n} f g same walk =
    record {
      starts = walk.starts ∙ next_ext n f g 0 same;
      goes_on = λ c h mine. walk.goes_on c h (same c h ∙ mine) ∙ next_ext n f g (suc c) same;
    }

-- channel c is the one at port p of node n
pub record AtPort (net : Network) (n p c : ℕ) : Type 0 where
  pub there : c < length net.channels
  pub reader : (channel_of net c).reader ≡ n
  pub port : (channel_of net c).port ≡ p

module _ (net : Network) (obeys : Obeys net) where
  -- a channel is read by a node unless it is read by the outside
  reader_node : (c : ℕ) → c < length net.channels → ltb (channel_of net c).reader 32 ≡ not (is_out (channel_of net c))
  reader_node c h =
      by_test (is_out (channel_of net c))
      (λ e. rw (e, eqb-true (channel_of net c).reader 63 e))
      (λ e.
      let inner : (channel_of net c).reader < length net.nodes
      = end_node (length net.nodes) (channel_of net c).reader (fields_of net obeys c h).reader e in
      rw e (lt-ltb (channel_of net c).reader 32 (omega (arith, few_nodes net obeys))))

  pub at_port_law : (n : ℕ) → n < length net.nodes → (p : ℕ) → p < inputs (node_of net n).kind → AtPort net n p (lowest (length net.channels) (serves net n p))
  at_port_law n h p k =
      let c = lowest (length net.channels) (serves net n p) in
      let there : c < length net.channels = port_there net obeys n h p k in
      let both : serves net n p c ≡ true = (lowest_is (length net.channels) (serves net n p)).found there in
      record {
        there = there;
        reader = eqb-true _ _ (and_left (eqb (channel_of net c).reader n) (eqb (channel_of net c).port p) both);
        port = eqb-true _ _ (and_right (eqb (channel_of net c).reader n) (eqb (channel_of net c).port p) both);
      }

  -- no other channel is at the port
  alone : (n : ℕ) → n < length net.nodes → (p d : ℕ) → lowest (length net.channels) (serves net n p) < d → d < length net.channels → serves net n p d ≡ false
  alone n h p d over under =
      by_test (serves net n p d)
      (λ e.
      let reads : eqb (channel_of net d).reader n ≡ true = and_left (eqb (channel_of net d).reader n) (eqb (channel_of net d).port p) e in
      let port : (channel_of net d).port ≡ p = eqb-true _ _ (and_right (eqb (channel_of net d).reader n) (eqb (channel_of net d).port p) e) in
      let same : lowest (length net.channels) (serves net n p) ≡ d
      = ap (λ (q : ℕ). lowest (length net.channels) (serves net n q)) (sym port) ∙ read_at net obeys n h d under reads in
      absurd (omega arith))
      (λ e. e)

  pub inner_walk : {first : ℕ} {follow : List ℕ} (n : ℕ) → Walk (length net.channels) follow first (inner_of net.channels n) → Walk (length net.channels) follow first (writes_to net n)
  inner_walk n walk = walk_ext (inner_of net.channels n) (writes_to net n) (λ c h. rw (reader_node c h)) walk

  pub outer_walk : {first : ℕ} {follow : List ℕ} → Walk (length net.channels) follow first (outer_of net.channels) → Walk (length net.channels) follow first (λ c. is_out (channel_of net c))
  outer_walk walk =
      walk_ext (outer_of net.channels) (λ c. is_out (channel_of net c)) (λ c h. rw (reader_node c h) (not-not (is_out (channel_of net c)))) walk

  -- the channel at each port, where the last one that serves a port stands there
  pub input_port : {input : List (List ℕ)} → PortsOf (length net.channels) net.channels input → (n : ℕ) → n < length net.nodes → (p : ℕ) → p < inputs (node_of net n).kind → port_of input n p ≡ lowest (length net.channels) (serves net n p)
  input_port ports n h p k =
      let c = lowest (length net.channels) (serves net n p) in
      let here = at_port_law n h p k in
      rw (here.reader, here.port) at
      (ports.last c here.there (omega (arith, here.reader, few_nodes net obeys))
      (λ d over under. rw (here.reader, here.port) (alone n h p d over under)))
