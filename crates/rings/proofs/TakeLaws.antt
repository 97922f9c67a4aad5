-- A token taken from one channel, by its two outcomes, a register and a queue, and that it is the oldest. Assumes nothing.
use Prim.Native.Nat.{ℕ, ◌+◌, ◌-◌, ◌≤◌, ◌<◌}
use native.Mathlib.Omega.{arith}
use mathlib.Core.Bool.{true, false, not, ◌&&◌, and-false}
use mathlib.Core.Path.{◌≡◌, refl, sym, ap}
use lib.Dec.{eqb}
use lib.ListN.{get_or, set, drop}
use lib.Seq.{get_or-set_same, get_or-set_other}
use borrow.Author.Tests.{eq-eqb, ne_eqb}
use Rattle.layout.specs.Views.{Shape, Cells, cells}
use Rattle.rings.specs.Rings.{Rings, Took, wrapped, held_at, register_at, base_of, capacity_of, oldest_of}
use Rattle.rings.proofs.RingLaws.{queue_pop, wrapped_below}
use Rattle.rings.proofs.StoreLaws.{bounds, by_channel, rings_stored}

pub oldest_held : (s : Shape) (x : Cells) (c : ℕ) → 1 ≤ get_or x.len c 0 → get_or x.tokens (base_of s c + get_or x.head c 0) 0 ≡ oldest_of (held_at s x c)
unfolding held_at
oldest_held s x c some = rw (queue_pop x.tokens (base_of s c) (capacity_of s c) (get_or x.head c 0) (get_or x.len c 0) some)

pub take_register : (s : Shape) (x : Cells) (c : ℕ) → Rings s x → register_at s c ≡ true → Took s x (λ d. eqb d c && not (register_at s c)) x
take_register s x c rings e = record { rings = rings; same = refl; taken = λ d h. rw (e, and-false) }

-- the head goes on by a place, and there is a token less
abbrev pub popped : Shape → Cells → ℕ → Cells
popped s x c = cells (set x.head c (wrapped (capacity_of s c) (get_or x.head c 0 + 1))) (set x.len c (get_or x.len c 0 - 1)) x.tokens

pub take_queue : (s : Shape) (x : Cells) (c : ℕ) → Rings s x → c < s.channels → 1 ≤ get_or x.len c 0 → register_at s c ≡ false → Took s x (λ d. eqb d c && not (register_at s c)) (popped s x c)
unfolding held_at
take_queue s x c rings h some e =
    let next : ℕ = wrapped (capacity_of s c) (get_or x.head c 0 + 1) in
    let less : ℕ = get_or x.len c 0 - 1 in
    let b = bounds rings h in
    record {
      rings = rings_stored s x c next less x.tokens rings h e (wrapped_below _ _ (omega arith)) (omega arith) rings.all;
      same = refl;
      taken = λ d k.
          by_channel d c
          (λ same. rw (e, eq-eqb d c same, same, get_or-set_same x.head c next 0 b.head_there, get_or-set_same x.len c less 0 b.len_there)
          (sym (ap (drop 1) (queue_pop x.tokens (base_of s c) (capacity_of s c) (get_or x.head c 0) (get_or x.len c 0) some))))
          (λ other. rw (ne_eqb d c other, get_or-set_other x.head c d next 0 other, get_or-set_other x.len c d less 0 other));
    }
