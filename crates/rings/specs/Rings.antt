-- The channels' rings: where each stands among the tokens, and what it holds. Assumes nothing.
use Rattle.std.specs.Prelude.{ℕ, zero, suc, ◌+◌, ◌-◌, ◌≤◌, ◌<◌, Bool, true, cond, not, ◌&&◌, List, [], ◌∷◌, ◌++◌, ◌≡◌, eqb, ltb, length, get_or, take, drop}
use Rattle.rules.specs.Lists.{last_of, lowest}
use Rattle.layout.specs.Views.{Shape, Cells}

-- a place of a ring, counted on from its first one
unfoldable pub wrapped : ℕ → ℕ → ℕ
wrapped capacity x = cond (ltb x capacity) x (x - capacity)

-- the n tokens of a ring, oldest first: the oldest stands `head` places behind the base
unfoldable pub queue_of : List ℕ → ℕ → ℕ → ℕ → ℕ → List ℕ
queue_of tokens base capacity head zero = []
queue_of tokens base capacity head (suc n) =
    get_or tokens (base + head) 0 ∷ queue_of tokens base capacity (wrapped capacity (suc head)) n

abbrev pub base_of : Shape → ℕ → ℕ
base_of s c = get_or s.base c 0

abbrev pub capacity_of : Shape → ℕ → ℕ
capacity_of s c = get_or s.capacity c 0

abbrev pub register_at : Shape → ℕ → Bool
register_at s c = eqb (get_or s.sort c 0) 1

-- what channel c holds, oldest first, each token by its 32 bits
unfoldable pub held_at : Shape → Cells → ℕ → List ℕ
held_at s x c = queue_of x.tokens (base_of s c) (capacity_of s c) (get_or x.head c 0) (get_or x.len c 0)

-- the rings stand apart among the 1,024 tokens, each with at least one place, a register with one
pub record Placed (s : Shape) : Type 0 where
  pub few : s.channels ≤ 64
  pub some : (c : ℕ) → c < s.channels → 1 ≤ capacity_of s c
  pub within : (c : ℕ) → c < s.channels → base_of s c + capacity_of s c ≤ 1024
  pub apart : (c d : ℕ) → c < d → d < s.channels → base_of s c + capacity_of s c ≤ base_of s d
  pub single : (c : ℕ) → c < s.channels → register_at s c ≡ true → capacity_of s c ≡ 1

-- each ring is within its places, and a register holds one token
pub record Rings (s : Shape) (x : Cells) : Type 0 where
  pub placed : Placed s
  pub heads : length x.head ≡ 64
  pub lens : length x.len ≡ 64
  pub all : length x.tokens ≡ 1024
  pub head_in : (c : ℕ) → c < s.channels → get_or x.head c 0 < capacity_of s c
  pub len_in : (c : ℕ) → c < s.channels → get_or x.len c 0 ≤ capacity_of s c
  pub one : (c : ℕ) → c < s.channels → register_at s c ≡ true → get_or x.len c 0 ≡ 1

-- what channel c keeps of old and new: a register the last, a queue what its capacity takes
unfoldable pub kept : Shape → ℕ → List ℕ → List ℕ → List ℕ
kept s c old new = cond (register_at s c) (last_of (old ++ new)) (take (capacity_of s c) (old ++ new))

-- channel c is a queue without room for all of it
unfoldable pub over : Shape → ℕ → List ℕ → List ℕ → Bool
over s c old new = not (register_at s c) && ltb (capacity_of s c) (length (old ++ new))

-- new tokens are written to each channel: what it then keeps, and the lowest channel without room, or the number of channels
pub record Wrote (s : Shape) (x : Cells) (new : ℕ → List ℕ) (y : Cells) (full : ℕ) : Type 0 where
  pub rings : Rings s y
  pub heads : y.head ≡ x.head
  pub keeps : (c : ℕ) → c < s.channels → held_at s y c ≡ kept s c (held_at s x c) (new c)
  pub lowest_full : full ≡ lowest s.channels (λ c. over s c (held_at s x c) (new c))

-- the oldest token is taken from some channels, which are queues
pub record Took (s : Shape) (x : Cells) (from : ℕ → Bool) (y : Cells) : Type 0 where
  pub rings : Rings s y
  pub same : y.tokens ≡ x.tokens
  pub taken : (c : ℕ) → c < s.channels → held_at s y c ≡ cond (from c) (drop 1 (held_at s x c)) (held_at s x c)

-- a value for each channel with a property
abbrev pub to_each : (ℕ → Bool) → ℕ → ℕ → List ℕ
to_each mine v c = cond (mine c) (v ∷ []) []

-- the oldest token, 0 where there is none
abbrev pub oldest_of : List ℕ → ℕ
oldest_of [] = 0
oldest_of (x ∷ xs) = x
