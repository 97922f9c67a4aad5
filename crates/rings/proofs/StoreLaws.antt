-- Laws of a store in one channel's ring: its bounds, that the rings stay rings, and that the other channels hold what they held.
-- Assumes nothing.
use Prim.Native.Nat.{ℕ, ◌+◌, ◌≤◌, ◌<◌}
use native.Mathlib.Omega.{arith}
use mathlib.Core.Bool.{true, false}
use mathlib.Core.List.{List}
use mathlib.Core.Logic.{◌≢◌}
use mathlib.Core.Path.{◌≡◌, ◌∙◌}
use lib.Dec.{eqb, ltb}
use lib.ListN.{length, get_or, set, length-set}
use lib.Seq.{get_or-set_same, get_or-set_other}
use borrow.Author.Tests.{eqb-true, eqb-false, ltb-true, ltb-false}
use Rattle.rules.proofs.ListLaws.{by_test, true_or_false}
use Rattle.layout.specs.Views.{Shape, Cells, cells}
use Rattle.rings.specs.Rings.{Placed, Rings, held_at, register_at, base_of, capacity_of}
use Rattle.rings.proofs.RingLaws.{queue_elsewhere}

-- the bounds of channel c's ring
pub record Bounds (s : Shape) (x : Cells) (c : ℕ) : Type 0 where
  pub channel : c < 64
  pub head_there : c < length x.head
  pub len_there : c < length x.len
  pub ring : base_of s c + capacity_of s c ≤ length x.tokens
  pub tokens : length x.tokens ≡ 1024
  pub head : get_or x.head c 0 < capacity_of s c
  pub len : get_or x.len c 0 ≤ capacity_of s c

pub bounds : {s : Shape} {x : Cells} {c : ℕ} → Rings s x → c < s.channels → Bounds s x c
bounds {s} {x} {c} rings h =
    let few : s.channels ≤ 64 = rings.placed.few in
    let heads : length x.head ≡ 64 = rings.heads in
    let lens : length x.len ≡ 64 = rings.lens in
    record {
      channel = omega arith;
      head_there = omega arith;
      len_there = omega arith;
      ring = rw rings.all (rings.placed.within c h);
      tokens = rings.all;
      head = rings.head_in c h;
      len = rings.len_in c h;
    }

-- by whether a channel is the one meant
pub by_channel : {P : Type 0} (d c : ℕ) → (d ≡ c → P) → (d ≢ c → P) → P
by_channel d c same other =
    by_test (eqb d c) (λ e. same (eqb-true d c e)) (λ e. other (eqb-false d c e))

-- what holds of every entry, and of one that is stored, holds of every entry after the store
pub entry_stored : (P : ℕ → ℕ → Type 0) (l : List ℕ) (c v : ℕ) → c < length l → P c v → ((d : ℕ) → P d (get_or l d 0)) → (d : ℕ) → P d (get_or (set l c v) d 0)
entry_stored P l c v h new old d =
    by_channel d c (λ e. rw (e, get_or-set_same l c v 0 h) new) (λ e. rw (get_or-set_other l c d v 0 e) (old d))

-- another head and length of a queue, within its places
pub rings_stored : (s : Shape) (x : Cells) (c head len : ℕ) (tokens : List ℕ) → Rings s x → c < s.channels → register_at s c ≡ false
    → head < capacity_of s c → len ≤ capacity_of s c → length tokens ≡ 1024 → Rings s (cells (set x.head c head) (set x.len c len) tokens)
rings_stored s x c head len tokens rings h queue head_in len_in all =
    let b = bounds rings h in
    record {
      placed = rings.placed;
      heads = length-set x.head c head ∙ rings.heads;
      lens = length-set x.len c len ∙ rings.lens;
      all = all;
      head_in = entry_stored (λ d k. d < s.channels → k < capacity_of s d) x.head c head b.head_there (λ k. head_in) rings.head_in;
      len_in = entry_stored (λ d k. d < s.channels → k ≤ capacity_of s d) x.len c len b.len_there (λ k. len_in) rings.len_in;
      one = entry_stored (λ d k. d < s.channels → register_at s d ≡ true → k ≡ 1) x.len c len b.len_there (λ k t. true_or_false t queue) rings.one;
    }

-- a place of one ring is none of another's
ring_apart : (s : Shape) (c d k j : ℕ) → Placed s → c < s.channels → d < s.channels → d ≢ c → k < capacity_of s c → j < capacity_of s d → base_of s d + j ≢ base_of s c + k
ring_apart s c d k j placed hc hd other hk hj =
    by_test (ltb c d)
    (λ e. omega (arith, placed.apart c d (ltb-true c d e) hd))
    (λ e.
    let less : d < c = omega (arith, ltb-false c d e) in
    omega (arith, placed.apart d c less hc))

-- a store in channel c's ring, seen from another channel
pub held_elsewhere : (s : Shape) (x : Cells) (len : List ℕ) (c d k place v : ℕ) → Rings s x → c < s.channels → d < s.channels → d ≢ c → k < capacity_of s c → place ≡ base_of s c + k → get_or len d 0 ≡ get_or x.len d 0 → held_at s (cells x.head len (set x.tokens place v)) d ≡ held_at s x d
unfolding held_at
held_elsewhere s x len c d k place v rings hc hd other hk here same =
    rw (same, here)
    (queue_elsewhere x.tokens (base_of s d) (capacity_of s d) (get_or x.head d 0) (get_or x.len d 0) (base_of s c + k) v (rings.head_in d hd)
    (λ j hj. ring_apart s c d k j rings.placed hc hd other hk hj))
