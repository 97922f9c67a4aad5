-- What holds of every state that a run reaches, and what an idle instant is: the statements of the laws in Reach and Idle. Assumes nothing.
use Prim.Native.Nat.{ℕ, ◌+◌, ◌%◌, ◌≤◌, ◌<◌}
use mathlib.Core.Bool.{true, false}
use mathlib.Core.List.{List, []}
use mathlib.Core.Option.{some}
use mathlib.Core.Path.{◌≡◌}
use lib.Dec.{eqb}
use lib.IntN.{pos}
use lib.ListN.{length, get_or}
use mir.Syntax.{w32}
use mir.Val.{SFits}
use Rattle.rules.specs.declared.Node.{Node}
use Rattle.rules.specs.Network.{Network, node_of, channel_of, is_register, is_out}
use Rattle.rules.specs.Instant.{time_in, Waiting, State, waiting_of, held_in, is_due, released}

-- a result of a node that waits before instant t for `due`: it is due after its release, no later than the node's next release, and not
-- written yet
pub record Due (node : Node) (t due : ℕ) : Type 0 where
  pub release : ℕ
  pub multiple : release % node.period ≡ 0
  pub begun : release < t
  pub exact : due ≡ release + node.deadline
  pub after : release < due
  pub within : due ≤ release + node.period
  pub still : t ≤ due

-- a state before instant t: an entry for each node and each channel, each waiting result due in its time, each register holding exactly
-- one token, each queue at most its capacity, nothing held for the outside, and every token in 32 bits
pub record Sound (net : Network) (t : ℕ) (st : State) : Type 0 where
  pub nodes : length st.waiting ≡ length net.nodes
  pub channels : length st.held ≡ length net.channels
  pub due : (n : ℕ) (w : Waiting) → waiting_of st n ≡ some w → Due (node_of net n) t w.due
  pub value_fits : (n : ℕ) (w : Waiting) → waiting_of st n ≡ some w → SFits w32 w.value
  pub register : (c : ℕ) → c < length net.channels → is_register (channel_of net c) ≡ true → length (held_in st.held c) ≡ 1
  pub queue : (c : ℕ) → c < length net.channels → is_register (channel_of net c) ≡ false → length (held_in st.held c) ≤ (channel_of net c).capacity
  pub out : (c : ℕ) → c < length net.channels → is_out (channel_of net c) ≡ true → held_in st.held c ≡ []
  pub token_fits : (c i : ℕ) → SFits w32 (get_or (held_in st.held c) i (pos 0))

-- nothing happens at instant t: no waiting result is due, no node is released and no arrival stands
pub record Idle (net : Network) (arrivals : List ℕ) (t : ℕ) (st : State) : Type 0 where
  pub none_due : (n : ℕ) → is_due (waiting_of st n) t ≡ false
  pub none_released : (n : ℕ) → released net t n ≡ false
  pub no_arrival : (i : ℕ) → i < length arrivals → eqb (time_in (get_or arrivals i 0)) t ≡ false
