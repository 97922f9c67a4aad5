-- What a channel's writer brings at the start of an instant is what the rules say is written there: nothing arrives on a channel that a
-- node writes, and the outside is no node, so that it has nothing waiting. Assumes nothing.
use Prim.Native.Nat.{ℕ, ◌≤◌}
use native.Mathlib.Omega.{arith}
use mathlib.Core.List.{List, append-nil}
use mathlib.Core.Option.{none}
use mathlib.Core.Path.{◌≡◌}
use lib.Dec.{eqb}
use lib.ListN.{length, get_or-eq_default}
use borrow.Author.Tests.{eqb-true}
use Rattle.rules.specs.Network.{Network, Obeys, channel_of, outside}
use Rattle.rules.specs.Instant.{State, waiting_of, written}
use Rattle.rules.proofs.Arrivals.{Faultless, node_alone}
use Rattle.rules.proofs.Checks.{few_nodes}
use Rattle.rules.proofs.ListLaws.{by_test}
use Rattle.rules.proofs.Sound.{Sound}
use Rattle.theorems.specs.Turns.{begin, brings}

-- the outside has nothing waiting
pub outside_waits : (net : Network) → Obeys net → (t : ℕ) (st : State) → Sound net t st → waiting_of st outside ≡ none
outside_waits net obeys t st sound =
    let past : length st.waiting ≤ outside = omega (arith, few_nodes net obeys, sound.nodes) in
    get_or-eq_default st.waiting none past

pub brings_written : (net : Network) (arrivals : List ℕ) (t : ℕ) (st : State) → Obeys net → Faultless net arrivals → Sound net t st
    → (c : ℕ) → brings net arrivals t (begin net st) (channel_of net c).writer c ≡ written net arrivals t st c
unfolding brings begin written
brings_written net arrivals t st obeys faultless sound c =
    let writer = (channel_of net c).writer in
    by_test (eqb writer outside) (λ e. rw (eqb-true writer outside e, outside_waits net obeys t st sound))
    (λ e. rw (e, node_alone net arrivals faultless t c e, append-nil))
