-- What a write to a channel and a take from it mean for the rings: the write keeps its token or finds the channel full, the take gives the
-- oldest token, and neither touches a node. Assumes nothing.
use Prim.Native.Nat.{ℕ, ◌+◌, ◌-◌, ◌≤◌, ◌<◌, min}
use native.Mathlib.Omega.{arith}
use mathlib.Core.Bool.{Bool, true, false, cond}
use mathlib.Core.List.{map}
use mathlib.Core.Path.{◌≡◌, refl}
use lib.ListN.{get_or, set, get_or-map}
use lib.Seq.{map-set, map-set_same}
use lib.IntN.{ℤ, pos}
use borrow.Author.Tests.{ltb-true, ltb-false}
use Rattle.rules.specs.Kinds.{pattern}
use Rattle.layout.specs.declared.Plan.{Plan}
use Rattle.layout.specs.declared.Ring.{Ring}
use Rattle.layout.specs.declared.State.{State}
use Rattle.layout.specs.declared.Sort.{Sort}
use Rattle.layout.specs.Views.{channels_of, shape_of, cells_of, sort_number}
use Rattle.rings.specs.Rings.{Rings, wrapped, held_at, register_at, base_of, capacity_of, oldest_of}
use Rattle.rings.specs.Access.{ring_of, has_room_in, behind_in, put_in, full_by, taken_in, oldest_in, PutDone, TakeDone}
use Rattle.rings.proofs.PutLaws.{put_register, put_room, put_full}
use Rattle.rings.proofs.TakeLaws.{take_register, take_queue, oldest_held}

-- the sort of a channel, as it is seen and as the code reads it
pub sort_seen : (p : Plan) (c : ℕ) → get_or (map sort_number p.sort) c 0 ≡ sort_number (get_or p.sort c Sort.Queue)
sort_seen p c = get_or-map sort_number p.sort c Sort.Queue

-- a ring's head and length, as they are seen and as the code reads them
pub head_seen : (s : State) (c : ℕ) → get_or (cells_of s).head c 0 ≡ (ring_of s c).head
head_seen s c = get_or-map (λ (r : Ring). r.head) s.ring c (record { head = 0; len = 0 })

pub len_seen : (s : State) (c : ℕ) → get_or (cells_of s).len c 0 ≡ (ring_of s c).len
len_seen s c = get_or-map (λ (r : Ring). r.len) s.ring c (record { head = 0; len = 0 })

-- what a channel's sort and ring are in the views
pub ruleset ring_seen = (sort_seen, head_seen, len_seen)

-- another length alone
len_set : (s : State) (c l : ℕ) → map (λ (r : Ring). r.head) (set s.ring c (record { head = (ring_of s c).head; len = l })) ≡ (cells_of s).head
len_set s c l = map-set_same (λ (r : Ring). r.head) s.ring c (record { head = (ring_of s c).head; len = l }) (record { head = 0; len = 0 }) refl

-- a write, by the outcomes of its two tests: a register, a queue with room, a queue without
put_by : (p : Plan) (s : State) (c : ℕ) (v : ℤ) (full : ℕ) (register room : Bool) → register_at (shape_of p) c ≡ register → has_room_in p s c ≡ room → Rings (shape_of p) (cells_of s) → c < channels_of p → full ≤ channels_of p
    → PutDone p s c (pattern v) full
    (cond register (record s { tokens = set s.tokens (base_of (shape_of p) c) v })
    (cond room
    (record s {
      ring = set s.ring c (record { head = (ring_of s c).head; len = (ring_of s c).len + 1 });
      tokens = set s.tokens (behind_in p s c) v;
    })
    s))
    (cond register full (cond room full (min full c)))
put_by p s c v full true room e f rings h before =
    record {
      full = channels_of p;
      wrote = rw (map-set pattern s.tokens (base_of (shape_of p) c) v) (put_register (shape_of p) (cells_of s) c (pattern v) rings h e);
      least = omega arith;
      nodes = refl;
    }
put_by p s c v full false true e f rings h before =
    let r : Ring = record { head = (ring_of s c).head; len = (ring_of s c).len + 1 } in
    let room : get_or (cells_of s).len c 0 < capacity_of (shape_of p) c = omega (arith, len_seen s c, ltb-true _ _ f) in
    record {
      full = channels_of p;
      wrote = rw
          (map-set pattern s.tokens (behind_in p s c) v, len_set s c r.len, map-set (λ (q : Ring). q.len) s.ring c r, ← head_seen s c, ← len_seen s c)
          (put_room (shape_of p) (cells_of s) c (pattern v) rings h e room);
      least = omega arith;
      nodes = refl;
    }
put_by p s c v full false false e f rings h before =
    let none : capacity_of (shape_of p) c ≤ get_or (cells_of s).len c 0 = omega (arith, len_seen s c, ltb-false _ _ f) in
    record {
      full = c;
      wrote = put_full (shape_of p) (cells_of s) c (pattern v) rings h e none;
      least = refl;
      nodes = refl;
    }

pub put_wrote : (p : Plan) (s : State) (c : ℕ) (v : ℤ) (full : ℕ) → Rings (shape_of p) (cells_of s) → c < channels_of p → full ≤ channels_of p
    → PutDone p s c (pattern v) full (put_in p s c v) (full_by p s c full)
unfolding put_in full_by
put_wrote p s c v full rings h before =
    put_by p s c v full (register_at (shape_of p) c) (has_room_in p s c) refl refl rings h before

-- the same of the state and the answer that `put` promises
pub put_done : {p : Plan} {s z : State} {c : ℕ} (v : ℤ) {full r : ℕ} → z ≡ put_in p s c v → r ≡ full_by p s c full → Rings (shape_of p) (cells_of s) → c < channels_of p → full ≤ channels_of p
    → PutDone p s c (pattern v) full z r
put_done {p} {s} {c = c} v {full = full} after answer rings h before =
    rw (after, answer) (put_wrote p s c v full rings h before)

-- what is read at the head is the oldest token
oldest : (p : Plan) (s : State) (c : ℕ) → 1 ≤ get_or (cells_of s).len c 0 → pattern (oldest_in p s c) ≡ oldest_of (held_at (shape_of p) (cells_of s) c)
unfolding oldest_in
oldest p s c some =
    rw (← get_or-map pattern s.tokens (base_of (shape_of p) c + (ring_of s c).head) (pos 0), ← head_seen s c)
    (oldest_held (shape_of p) (cells_of s) c some)

-- a take, by whether the channel is a register
take_by : (p : Plan) (s : State) (c : ℕ) (register : Bool) → register_at (shape_of p) c ≡ register → Rings (shape_of p) (cells_of s) → c < channels_of p → 1 ≤ get_or (cells_of s).len c 0
    → TakeDone p s c
    (cond register s
    (record s {
      ring = set s.ring c
          (record {
            head = wrapped (capacity_of (shape_of p) c) ((ring_of s c).head + 1);
            len = (ring_of s c).len - 1;
          });
    }))
    (pattern (oldest_in p s c))
take_by p s c true e rings h some =
    record {
      took = take_register (shape_of p) (cells_of s) c rings e;
      oldest = oldest p s c some;
      nodes = refl;
    }
take_by p s c false e rings h some =
    let r : Ring = record { head = wrapped (capacity_of (shape_of p) c) ((ring_of s c).head + 1); len = (ring_of s c).len - 1 } in
    record {
      took = rw (map-set (λ (q : Ring). q.head) s.ring c r, map-set (λ (q : Ring). q.len) s.ring c r, ← head_seen s c, ← len_seen s c)
          (take_queue (shape_of p) (cells_of s) c rings h some e);
      oldest = oldest p s c some;
      nodes = refl;
    }

pub take_took : (p : Plan) (s : State) (c : ℕ) → Rings (shape_of p) (cells_of s) → c < channels_of p → 1 ≤ get_or (cells_of s).len c 0
    → TakeDone p s c (taken_in p s c) (pattern (oldest_in p s c))
unfolding taken_in
take_took p s c rings h some = take_by p s c (register_at (shape_of p) c) refl rings h some
