-- What it takes to show that orders are fair and that a network extends another: a test of the orders, and more nodes and channels behind
-- a network's own. Assumes nothing.
use Prim.Native.Nat.{ℕ, ◌%◌, ◌<◌}
use native.Mathlib.Omega.{arith}
use mathlib.Core.Bool.{Bool, true}
use mathlib.Core.List.{List}
use mathlib.Core.Path.{◌≡◌}
use lib.Dec.{eqb}
use lib.IntN.{ℤ}
use lib.ListN.{length, length-append, get_or-append}
use borrow.Author.Tests.{eqb-true}
use Rattle.rules.specs.declared.Node.{Node}
use Rattle.rules.specs.declared.Channel.{Channel}
use Rattle.rules.specs.Lists.{every}
use Rattle.rules.specs.Network.{Network, outside}
use Rattle.rules.proofs.ListLaws.{by_test, every_at}
use Rattle.theorems.specs.Turns.{times, Orders, Fair}
use Rattle.theorems.specs.Demand.{Extends}
use Rattle.theorems.specs.Instances.{more, by_turns}

-- each number below n stands in the list once
abbrev pub each_once : ℕ → List ℕ → Bool
each_once n order = every n (λ i. eqb (times i order) 1)

-- orders are fair if they pass three tests
pub fair_if : (net : Network) (orders : Orders) → let n = length net.nodes in each_once n orders.writes ≡ true
    → eqb (times outside orders.writes) 1 ≡ true → each_once n orders.reads ≡ true → Fair net orders
fair_if net orders written out read =
    let n = length net.nodes in
    record {
      writes_once = λ i h. eqb-true _ _ (every_at n (λ i. eqb (times i orders.writes) 1) written i h);
      outside_once = eqb-true _ _ out;
      reads_once = λ i h. eqb-true _ _ (every_at n (λ i. eqb (times i orders.reads) 1) read i h);
    }

pub fair_by_turns : (net : Network) (even odd : Orders) → Fair net even → Fair net odd → (t : ℕ) → Fair net (by_turns even odd t)
fair_by_turns net even odd first second t = by_test (eqb (t % 2) 0) (λ e. rw e first) (λ e. rw e second)

pub more_extends : (net : Network) (nodes : List Node) (channels : List Channel) (tokens : List (List ℤ))
    → length net.tokens ≡ length net.channels → Extends net (more net nodes channels tokens)
more_extends net nodes channels tokens held =
    record {
      more_nodes = omega (arith, length-append net.nodes nodes);
      more_channels = omega (arith, length-append net.channels channels);
      same_node = λ n h. get_or-append net.nodes nodes _ n h;
      same_channel = λ c h. get_or-append net.channels channels _ c h;
      same_tokens = λ c h.
          let there : c < length net.tokens = omega arith in
          get_or-append net.tokens tokens _ c there;
    }
