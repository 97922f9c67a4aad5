-- What a write to a channel and a take from it make of the state, entry by entry, and what they answer; and what that means for the rings.
-- Assumes nothing.
use Rattle.std.specs.Prelude.{ℕ, ◌+◌, ◌-◌, min, Bool, cond, not, ◌&&◌, ◌≡◌, eqb, ltb, ℤ, pos, get_or, set}
use Rattle.layout.specs.declared.Plan.{Plan}
use Rattle.layout.specs.declared.Ring.{Ring}
use Rattle.layout.specs.declared.State.{State}
use Rattle.layout.specs.Views.{shape_of, cells_of, nodes_from}
use Rattle.rings.specs.Rings.{wrapped, base_of, capacity_of, register_at, held_at, Wrote, Took, to_each, oldest_of}

-- what the state has of channel c's ring
abbrev pub ring_of : State → ℕ → Ring
ring_of s c = get_or s.ring c (record { head = 0; len = 0 })

abbrev pub has_room_in : Plan → State → ℕ → Bool
has_room_in p s c = ltb (ring_of s c).len (capacity_of (shape_of p) c)

-- the place behind the last token of channel c
abbrev pub behind_in : Plan → State → ℕ → ℕ
behind_in p s c =
    base_of (shape_of p) c + wrapped (capacity_of (shape_of p) c) ((ring_of s c).head + (ring_of s c).len)

-- a token is written to channel c: a register keeps it, a queue appends it where it has room
unfoldable pub put_in : Plan → State → ℕ → ℤ → State
put_in p s c v =
    cond (register_at (shape_of p) c) (record s { tokens = set s.tokens (base_of (shape_of p) c) v })
    (cond (has_room_in p s c)
    (record s {
      ring = set s.ring c (record { head = (ring_of s c).head; len = (ring_of s c).len + 1 });
      tokens = set s.tokens (behind_in p s c) v;
    })
    s)

-- the lower of `full` and a channel without room
unfoldable pub full_by : Plan → State → ℕ → ℕ → ℕ
full_by p s c full = cond (register_at (shape_of p) c) full (cond (has_room_in p s c) full (min full c))

-- the oldest token of channel c, or what a register holds
unfoldable pub oldest_in : Plan → State → ℕ → ℤ
oldest_in p s c = get_or s.tokens (base_of (shape_of p) c + (ring_of s c).head) (pos 0)

-- it is taken, if the channel is a queue
unfoldable pub taken_in : Plan → State → ℕ → State
taken_in p s c =
    cond (register_at (shape_of p) c) s
    (record s {
      ring = set s.ring c
          (record {
            head = wrapped (capacity_of (shape_of p) c) ((ring_of s c).head + 1);
            len = (ring_of s c).len - 1;
          });
    })

-- ---- What that means

-- v is written to channel c alone, and no node is touched; the answer is the lower of the one before and the lowest channel without room
pub record PutDone (p : Plan) (s : State) (c v before : ℕ) (z : State) (r : ℕ) : Type 0 where
  pub full : ℕ
  pub wrote : Wrote (shape_of p) (cells_of s) (to_each (λ d. eqb d c) v) (cells_of z) full
  pub least : r ≡ min before full
  pub nodes : nodes_from z ≡ nodes_from s

-- the oldest token of channel c is answered, and taken if c is a queue, and no node is touched
pub record TakeDone (p : Plan) (s : State) (c : ℕ) (z : State) (r : ℕ) : Type 0 where
  pub took : Took (shape_of p) (cells_of s) (λ d. eqb d c && not (register_at (shape_of p) c)) (cells_of z)
  pub oldest : r ≡ oldest_of (held_at (shape_of p) (cells_of s) c)
  pub nodes : nodes_from z ≡ nodes_from s
