-- What the rules of the counts, of a node's fields, of a channel's fields and of the ports say of them. Assumes nothing.
use Prim.Native.Nat.{ℕ, ◌≤◌, ◌<◌}
use mathlib.Core.Bool.{Bool, true, false, cond, ◌&&◌, and-false}
use mathlib.Core.Path.{◌≡◌}
use lib.Dec.{eqb, leb, ltb}
use lib.ListN.{length}
use borrow.Author.Tests.{leb-true, ltb-true, eqb-true}
use Rattle.rules.specs.declared.Node.{Node}
use Rattle.rules.specs.declared.Channel.{Channel}
use Rattle.rules.specs.Lists.{count}
use Rattle.rules.specs.Kinds.{inputs, constant_ok}
use Rattle.rules.specs.Network.{Network, Obeys, node_of, channel_of, outside, is_register, is_out, counts_ok, node_ok, end_ok, channel_ok, serves, ports_ok}
use Rattle.rules.proofs.ListLaws.{and_left, and_right, by_test, true_or_false, every_at}

-- at most 32 nodes and 64 channels
pub counts_within : (nodes channels : ℕ) → counts_ok nodes channels ≡ true → (nodes ≤ 32) × (channels ≤ 64)
unfolding counts_ok
counts_within nodes channels ok =
    let some = leb 1 nodes in
    let few = leb nodes 32 in (
      leb-true nodes 32 (and_right some few (and_left (some && few) (leb channels 64) ok)),
      leb-true channels 64 (and_right (some && few) (leb channels 64) ok),
    )

pub few_nodes : (net : Network) → Obeys net → length net.nodes ≤ 32
few_nodes net obeys = (counts_within _ _ obeys.counts).0

pub few_channels : (net : Network) → Obeys net → length net.channels ≤ 64
few_channels net obeys = (counts_within _ _ obeys.counts).1

-- the kind is one of those listed, the period at most 65,535, the deadline 1 to the period, and the constant one that the kind may have
pub record NodeFields (node : Node) : Type 0 where
  pub kind : node.kind < 12
  pub period : node.period ≤ 65535
  pub deadline : 1 ≤ node.deadline
  pub within : node.deadline ≤ node.period
  pub constant : constant_ok node.kind node.constant ≡ true

pub node_fields_law : (node : Node) → node_ok node ≡ true → NodeFields node
unfolding node_ok
node_fields_law node ok =
    let kind = ltb node.kind 12 in
    let period = leb node.period 65535 in
    let periods = leb 1 node.period && period in
    let deadline = leb 1 node.deadline in
    let within = leb node.deadline node.period in
    let constant = constant_ok node.kind node.constant in
    let front = and_left (kind && periods && (deadline && within)) constant ok in
    let first = and_left (kind && periods) (deadline && within) front in
    let times = and_right (kind && periods) (deadline && within) front in
    record {
      kind = ltb-true node.kind 12 (and_left kind periods first);
      period = leb-true node.period 65535 (and_right (leb 1 node.period) period (and_right kind periods first));
      deadline = leb-true 1 node.deadline (and_left deadline within times);
      within = leb-true node.deadline node.period (and_right deadline within times);
      constant = and_right (kind && periods && (deadline && within)) constant ok;
    }

-- a test passes if all tests together do and they do not without it
must : (test : Bool) {all : Bool} → all ≡ true → (test ≡ false → all ≡ false) → test ≡ true
must test ok without = by_test test (λ e. e) (λ e. true_or_false ok (without e))

-- writer and reader are nodes or the outside and not both the outside, there is a place, the initial count is within the capacity, both
-- are 1 for a register, and no register is to the outside, to which nothing is held at first
pub record ChannelFields (nodes : ℕ) (ch : Channel) : Type 0 where
  pub writer : end_ok nodes ch.writer ≡ true
  pub reader : end_ok nodes ch.reader ≡ true
  pub some : 1 ≤ ch.capacity
  pub within : ch.initial ≤ ch.capacity
  pub single : is_register ch ≡ true → ch.capacity ≡ 1
  pub register : is_register ch ≡ true → ch.initial ≡ 1
  pub inner : is_register ch ≡ true → is_out ch ≡ false
  pub out : is_out ch ≡ true → ch.initial ≡ 0
  pub written : is_out ch ≡ true → eqb ch.writer outside ≡ false

pub channel_fields_law : (nodes : ℕ) (ch : Channel) → channel_ok nodes ch ≡ true → ChannelFields nodes ch
unfolding channel_ok
channel_fields_law nodes ch ok =
    record {
      writer = must (end_ok nodes ch.writer) ok (λ e. simp (channel_ok, e));
      reader = must (end_ok nodes ch.reader) ok (λ e. simp (channel_ok, e, and-false));
      some = leb-true _ _ (must (leb 1 ch.capacity) ok (λ e. simp (channel_ok, e, and-false)));
      within = leb-true _ _ (must (leb ch.initial ch.capacity) ok (λ e. simp (channel_ok, e, and-false)));
      single = λ r. eqb-true _ _ (must (eqb ch.capacity 1) ok (λ e. simp (channel_ok, r, e, and-false)));
      register = λ r. eqb-true _ _ (must (eqb ch.initial 1) ok (λ e. simp (channel_ok, r, e, and-false)));
      inner = λ r. by_test (is_out ch) (λ e. true_or_false ok (simp (channel_ok, r, e, and-false))) (λ e. e);
      out = λ o. eqb-true _ _ (must (eqb ch.initial 0) ok (λ e. simp (channel_ok, o, e, and-false)));
      written = λ o. by_test (eqb ch.writer outside) (λ e. true_or_false ok (simp (channel_ok, o, e, and-false))) (λ e. e);
    }

pub fields_of : (net : Network) → Obeys net → (c : ℕ) → c < length net.channels → ChannelFields (length net.nodes) (channel_of net c)
fields_of net obeys c below = channel_fields_law (length net.nodes) (channel_of net c) (obeys.channel_fields c below)

-- an end that is not the outside is a node
pub end_node : (nodes n : ℕ) → end_ok nodes n ≡ true → eqb n outside ≡ false → n < nodes
end_node nodes n ok inside = ltb-true n nodes (must (ltb n nodes) ok (λ e. rw (e, inside)))

-- port p of node n is served by as many channels as the node's kind says
pub served : (net : Network) (n : ℕ) → ports_ok net n ≡ true → (p : ℕ) → p < 4
    → count (length net.channels) (serves net n p) ≡ cond (ltb p (inputs (node_of net n).kind)) 1 0
unfolding ports_ok
served net n ok p below = eqb-true _ _ (every_at 4 _ ok p below)
