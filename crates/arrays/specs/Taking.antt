-- What a released node finds at its ports. Assumes nothing.
use Rattle.std.specs.Prelude.{ℕ, ◌≤◌, ◌<◌, Bool, false, cond, not, ◌&&◌, List, [], ◌≡◌, eqb, ltb, get_or}
use Rattle.rules.specs.Lists.{every, is_empty}
use Rattle.layout.specs.Views.{Shape, Cells}
use Rattle.rings.specs.Rings.{held_at, register_at, oldest_of}

-- the channel at port p of node n
abbrev pub port_of : List (List ℕ) → ℕ → ℕ → ℕ
port_of input n p = get_or (get_or input n []) p 0

-- the ports of node n below a count lead to different channels
pub record Ported (channels : ℕ) (input : List (List ℕ)) (n count : ℕ) : Type 0 where
  pub few : count ≤ 3
  pub there : (p : ℕ) → p < count → port_of input n p < channels
  pub different : (p q : ℕ) → p < q → q < count → eqb (port_of input n p) (port_of input n q) ≡ false

-- channel c is at one of the first `count` ports of node n
unfoldable pub at_port : List (List ℕ) → ℕ → ℕ → ℕ → Bool
at_port input n count c = not (every count (λ p. not (eqb (port_of input n p) c)))

-- every channel at the node's ports holds a token
unfoldable pub all_hold : Shape → Cells → List (List ℕ) → ℕ → ℕ → Bool
all_hold s x input n count = every count (λ p. not (is_empty (held_at s x (port_of input n p))))

-- the oldest token at port p, 0 where the node has no such port
unfoldable pub found : Shape → Cells → List (List ℕ) → ℕ → ℕ → ℕ → ℕ
found s x input n count p = cond (ltb p count) (oldest_of (held_at s x (port_of input n p))) 0

-- where every port holds a token, one is taken from each channel at the ports that is a queue
abbrev pub taken_at : Shape → Cells → List (List ℕ) → ℕ → ℕ → ℕ → Bool
taken_at s x input n count c = (all_hold s x input n count && at_port input n count c) && not (register_at s c)
