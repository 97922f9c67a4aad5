-- What the rules say of the fields of an obeying network's nodes, and that a plan and a state that are made of its arrays have its nodes' and
-- channels' fields as entries. Assumes nothing.
use Prim.Native.Nat.{ℕ, ◌≤◌, ◌<◌}
use native.Mathlib.Omega.{arith}
use mathlib.Core.Bool.{true, false}
use mathlib.Core.List.{List, map}
use mathlib.Core.Path.{◌≡◌, ◌∙◌, ap}
use lib.ListN.{length, get_or, replicate, take}
use borrow.Author.Tests.{not-true}
use Rattle.std.proofs.lemmas.List.{ext_get_or, length-take-le, get_or-take}
use Rattle.rules.specs.declared.Node.{Node}
use Rattle.rules.specs.declared.Channel.{Channel}
use Rattle.rules.specs.Lists.{tab}
use Rattle.rules.specs.Kinds.{signed, pattern, is_zero, constant_ok}
use Rattle.rules.specs.Network.{Network, Obeys, node_of, channel_of, node_among, channel_among, node_ok, capacities}
use Rattle.rules.proofs.Checks.{node_fields_law, few_nodes, few_channels}
use Rattle.rules.proofs.KindLaws.{signed_pattern}
use Rattle.rules.proofs.ListLaws.{get_or_tab, length_tab}
use Rattle.table.specs.Laid.{laid, all_places, padded}
use Rattle.layout.specs.declared.Plan.{Plan}
use Rattle.layout.specs.declared.State.{State}
use Rattle.layout.specs.Views.{sort_number, wires_of, ways_of, cells_of}
use Rattle.setup.specs.Setup.{WalksOf, CountsOf, PortsOf}
use Rattle.setup.specs.Fields.{PlanFields, StateFields, channels_in}

-- the kind is one of those listed, the divisor is not 0, the period has 16 bits and is not 0, and so the deadline
pub record NodeLimits (node : Node) : Type 0 where
  pub kind : node.kind < 12
  pub divisor : node.kind ≡ 7 → is_zero node.constant ≡ false
  pub some : 1 ≤ node.period
  pub period : node.period < 65536
  pub deadline : node.deadline < 65536

pub node_limits : (node : Node) → node_ok node ≡ true → NodeLimits node
unfolding constant_ok
node_limits node ok =
    let fields = node_fields_law node ok in
    record {
      kind = fields.kind;
      divisor = λ seven. not-true (is_zero node.constant) (rw seven at fields.constant);
      some = omega (arith, fields.deadline, fields.within);
      period = omega (arith, fields.period);
      deadline = omega (arith, fields.within, fields.period);
    }

-- a plan has the fields of a network's nodes and channels as entries, and what is made of them
pub record Entries (net : Network) (p : Plan) : Type 0 where
  pub nodes : p.nodes ≡ length net.nodes
  pub channels : p.channels ≡ length net.channels
  pub kind : (n : ℕ) → n < length net.nodes → get_or (wires_of p).kind n 0 ≡ (node_of net n).kind
  pub constant : (n : ℕ) → n < length net.nodes → signed (get_or (wires_of p).constant n 0) ≡ (node_of net n).constant
  pub period : (n : ℕ) → n < length net.nodes → get_or (wires_of p).period n 0 ≡ (node_of net n).period
  pub deadline : (n : ℕ) → n < length net.nodes → get_or (wires_of p).deadline n 0 ≡ (node_of net n).deadline
  pub count : CountsOf (length net.nodes) (wires_of p).kind (wires_of p).count
  pub sort : (c : ℕ) → c < length net.channels → get_or (map sort_number p.sort) c 0 ≡ (channel_of net c).sort
  pub base : (c : ℕ) → c < length net.channels → get_or p.base c 0 ≡ capacities net c
  pub capacity : (c : ℕ) → c < length net.channels → get_or p.capacity c 0 ≡ (channel_of net c).capacity
  pub writer : (c : ℕ) → c < length net.channels → get_or p.writer c 0 ≡ (channel_of net c).writer
  pub walks : WalksOf net.channels (ways_of p).first p.follow p.out p.outs
  pub input : PortsOf (length net.channels) net.channels (wires_of p).input

-- and a state those of its channels' initial tokens
pub record Filled (net : Network) (s : State) : Type 0 where
  pub head : (cells_of s).head ≡ replicate 64 0
  pub size : length (cells_of s).len ≡ 64
  pub initial : (c : ℕ) → c < length net.channels → get_or (cells_of s).len c 0 ≡ (channel_of net c).initial
  pub tokens : s.tokens ≡ padded 1024 (all_places net.channels net.tokens)

-- the first entries of a list that was tabulated
take_tab : {A : Type 0} (l : List A) (n : ℕ) (d : A) → length l ≤ n → take (length l) (tab n (λ i. get_or l i d)) ≡ l
take_tab l n d h =
    let all : length (tab n (λ i. get_or l i d)) ≡ n = length_tab n (λ i. get_or l i d) in
    let size : length (take (length l) (tab n (λ i. get_or l i d))) ≡ length l = length-take-le (length l) _ (omega arith) in
    ext_get_or d _ l size (λ i under. get_or-take (length l) _ i d (omega arith) ∙ get_or_tab n (λ j. get_or l j d) i d (omega arith))

module _ (net : Network) (obeys : Obeys net) where
  node_entry : {B : Type 0} (f : Node → B) (n : ℕ) (d : B) → n < length net.nodes → get_or (tab 32 (λ m. f (node_among (tab 32 (node_of net)) m))) n d ≡ f (node_of net n)
  node_entry f n d h =
      let there : n < 32 = omega (arith, few_nodes net obeys) in
      get_or_tab 32 (λ m. f (node_among (tab 32 (node_of net)) m)) n d there ∙ ap f (get_or_tab 32 (node_of net) n _ there)

  channel_entry : (f : Channel → ℕ) (c : ℕ) → c < length net.channels → get_or (tab 64 (λ d. f (channel_among (tab 64 (channel_of net)) d))) c 0 ≡ f (channel_of net c)
  channel_entry f c h =
      let there : c < 64 = omega (arith, few_channels net obeys) in
      get_or_tab 64 (λ d. f (channel_among (tab 64 (channel_of net)) d)) c 0 there ∙ ap f (get_or_tab 64 (channel_of net) c _ there)

  -- the channels of the network's arrays that are there
  pub channels_laid : channels_in (laid net) ≡ net.channels
  unfolding laid
  channels_laid = take_tab net.channels 64 _ (few_channels net obeys)

  pub laid_entries : {p : Plan} → PlanFields (laid net) p → Entries net p
  unfolding laid capacities
  laid_entries {p} fields =
      record {
        nodes = fields.nodes;
        channels = fields.channels;
        kind = λ n h. rw fields.kind (node_entry (λ node. node.kind) n 0 h);
        constant = λ n h.
            rw (fields.constant, node_entry (λ node. pattern node.constant) n 0 h) (signed_pattern _ (obeys.constants n h));
        period = λ n h. rw fields.period (node_entry (λ node. node.period) n 0 h);
        deadline = λ n h. rw fields.deadline (node_entry (λ node. node.deadline) n 0 h);
        count = fields.count;
        sort = λ c h. rw fields.sort (channel_entry (λ ch. ch.sort) c h);
        base = (rw channels_laid at fields.base).sums;
        capacity = λ c h. rw fields.capacity (channel_entry (λ ch. ch.capacity) c h);
        writer = λ c h. rw fields.writer (channel_entry (λ ch. ch.writer) c h);
        walks = rw channels_laid at fields.walks;
        input = rw channels_laid at fields.input;
      }

  pub laid_filled : {s : State} → StateFields (laid net) s → Filled net s
  unfolding laid
  laid_filled fields =
      record {
        head = fields.head;
        size = rw fields.len (length_tab 64 (λ c. (channel_among (tab 64 (channel_of net)) c).initial));
        initial = λ c h. rw fields.len (channel_entry (λ ch. ch.initial) c h);
        tokens = fields.tokens;
      }
