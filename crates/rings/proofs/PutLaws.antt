-- A write to one channel, by its three outcomes: a register, a queue with room, a queue without. Assumes nothing.
use Prim.Native.Nat.{ℕ, ◌+◌, ◌≤◌, ◌<◌}
use native.Mathlib.Numerals.{add-one}
use native.Mathlib.Omega.{arith}
use mathlib.Core.Bool.{Bool, true, false, cond}
use mathlib.Core.List.{List, [], ◌∷◌, ◌++◌}
use mathlib.Core.Logic.{◌≢◌}
use mathlib.Core.Path.{◌≡◌, refl, sym, ◌∙◌, ap}
use lib.Dec.{eqb}
use lib.ListN.{length, get_or, set, length-set}
use lib.Seq.{take_all, take_at, set-get_or, get_or-set_same, get_or-set_other}
use borrow.Author.Tests.{eq-eqb, ne_eqb, lt-ltb, le-ltb}
use Rattle.rules.specs.Lists.{last_of, lowest}
use Rattle.rules.proofs.ListLaws.{by_test, lowest_only, lowest_none}
use Rattle.rules.proofs.LongerLists.{length_more}
use Rattle.layout.specs.Views.{Shape, Cells, cells}
use Rattle.rings.specs.Rings.{Rings, Wrote, wrapped, queue_of, held_at, kept, over, register_at, base_of, capacity_of, to_each}
use Rattle.rings.proofs.RingLaws.{length_held, queue_push, wrapped_below}
use Rattle.rings.proofs.WroteLaws.{kept_none, over_none}
use Rattle.rings.proofs.StoreLaws.{Bounds, bounds, by_channel, rings_stored, held_elsewhere}

last_more : (l : List ℕ) (v : ℕ) → last_of (l ++ (v ∷ [])) ≡ v ∷ []
unfolding last_of
last_more [] v = refl
last_more (x ∷ []) v = refl
last_more (x ∷ y ∷ ys) v = last_more (y ∷ ys) v

-- the lowest number with a property that only c may have
lowest_one : (n c : ℕ) (f : ℕ → Bool) → c < n → ((d : ℕ) → d < n → d ≢ c → f d ≡ false) → lowest n f ≡ cond (f c) c n
lowest_one n c f h off =
    by_test (f c)
    (λ e.
    rw e
    (lowest_only (record { most = omega arith; without = λ d k. off d (omega arith) (omega arith); found = λ k. e })))
    (λ e. rw e (lowest_none n f (λ d k. by_channel d c (λ same. ap f same ∙ e) (off d k))))

-- a write to channel c alone
wrote_one : (s : Shape) (x y : Cells) (c v full : ℕ) → Rings s x → Rings s y → c < s.channels → y.head ≡ x.head
    → ((d : ℕ) → d < s.channels → d ≢ c → held_at s y d ≡ held_at s x d) → held_at s y c ≡ kept s c (held_at s x c) (v ∷ [])
    → full ≡ cond (over s c (held_at s x c) (v ∷ [])) c s.channels → Wrote s x (to_each (λ d. eqb d c) v) y full
wrote_one s x y c v full rings after hc heads others here lowest-here =
    record {
      rings = after;
      heads = heads;
      keeps = λ d h.
          by_channel d c (λ e. rw (eq-eqb d c e, e) here)
          (λ e. rw (ne_eqb d c e) (others d h e ∙ sym (kept_none s x d rings h)));
      lowest_full =
          rw (
            lowest_one s.channels c (λ d. over s d (held_at s x d) (to_each (λ d. eqb d c) v d)) hc
                (λ d h e. rw (ne_eqb d c e) (over_none s x d rings h)),
            eq-eqb c c refl,
          )
          lowest-here;
    }

pub put_register : (s : Shape) (x : Cells) (c v : ℕ) → Rings s x → c < s.channels → register_at s c ≡ true
    → Wrote s x (to_each (λ d. eqb d c) v) (cells x.head x.len (set x.tokens (base_of s c) v)) s.channels
unfolding held_at queue_of kept over
put_register s x c v rings h e =
    let single : capacity_of s c ≡ 1 = rings.placed.single c h e in
    let b = bounds rings h in
    let first : base_of s c + get_or x.head c 0 ≡ base_of s c = omega arith in
    wrote_one s x (cells x.head x.len (set x.tokens (base_of s c) v)) c v s.channels rings
    (record {
      placed = rings.placed;
      heads = rings.heads;
      lens = rings.lens;
      all = length-set x.tokens (base_of s c) v ∙ rings.all;
      head_in = rings.head_in;
      len_in = rings.len_in;
      one = rings.one;
    })
    h refl
    (λ d k other. held_elsewhere s x x.len c d 0 (base_of s c) v rings h k other (omega arith) (omega arith) refl)
    (rw (e, last_more, rings.one c h e, first, get_or-set_same x.tokens (base_of s c) v 0 (omega arith)))
    (rw e)

-- the place behind the last token of channel c's ring, counted from its base
abbrev pub behind : Shape → Cells → ℕ → ℕ
behind s x c = wrapped (capacity_of s c) (get_or x.head c 0 + get_or x.len c 0)

pub behind_below : {s : Shape} {x : Cells} {c : ℕ} → Bounds s x c → behind s x c < capacity_of s c
behind_below {s} {x} {c} b = wrapped_below (capacity_of s c) (get_or x.head c 0 + get_or x.len c 0) (omega arith)

-- a token stored there, and counted
abbrev pub pushed : Shape → Cells → ℕ → ℕ → Cells
pushed s x c v = cells x.head (set x.len c (get_or x.len c 0 + 1)) (set x.tokens (base_of s c + behind s x c) v)

held_pushed : (s : Shape) (x : Cells) (c v : ℕ) → Rings s x → c < s.channels → get_or x.len c 0 < capacity_of s c → held_at s (pushed s x c v) c ≡ held_at s x c ++ (v ∷ [])
unfolding held_at
held_pushed s x c v rings h room =
    let b = bounds rings h in
    rw (get_or-set_same x.len c (get_or x.len c 0 + 1) 0 b.len_there, add-one)
    (queue_push x.tokens (base_of s c) (capacity_of s c) (get_or x.head c 0) (get_or x.len c 0) (base_of s c + behind s x c) v b.head room b.ring refl)

pub put_room : (s : Shape) (x : Cells) (c v : ℕ) → Rings s x → c < s.channels → register_at s c ≡ false → get_or x.len c 0 < capacity_of s c
    → Wrote s x (to_each (λ d. eqb d c) v) (pushed s x c v) s.channels
unfolding kept over
put_room s x c v rings h e room =
    let within : length (held_at s x c ++ (v ∷ [])) ≤ capacity_of s c = rw (length_more, length_held) room in
    let b = bounds rings h in
    let more : ℕ = get_or x.len c 0 + 1 in
    wrote_one s x (pushed s x c v) c v s.channels rings
    (rw set-get_or at
    (rings_stored s x c (get_or x.head c 0) more (set x.tokens (base_of s c + behind s x c) v) rings h e b.head (omega arith) (rw length-set rings.all)))
    h refl
    (λ d k other.
    held_elsewhere s x (set x.len c more) c d (behind s x c) _ v rings h k other (behind_below b) refl (get_or-set_other x.len c d more 0 other))
    (rw (e, take_all (capacity_of s c) (held_at s x c ++ (v ∷ [])) within) (held_pushed s x c v rings h room))
    (rw (e, le-ltb (capacity_of s c) (length (held_at s x c ++ (v ∷ []))) within))

pub put_full : (s : Shape) (x : Cells) (c v : ℕ) → Rings s x → c < s.channels → register_at s c ≡ false → capacity_of s c ≤ get_or x.len c 0
    → Wrote s x (to_each (λ d. eqb d c) v) x c
unfolding kept over
put_full s x c v rings h e full =
    let all : length (held_at s x c) ≡ capacity_of s c = omega (arith, length_held s x c, rings.len_in c h) in
    let long : capacity_of s c < length (held_at s x c ++ (v ∷ [])) = rw length_more (omega arith) in
    wrote_one s x x c v c rings rings h refl (λ d k other. refl) (rw (e, take_at (held_at s x c) (v ∷ []) (capacity_of s c) all))
    (rw (e, lt-ltb (capacity_of s c) (length (held_at s x c ++ (v ∷ []))) long))
