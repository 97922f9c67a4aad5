-- What a ring keeps of old and new tokens is what the channel keeps by the rules, and it has no room exactly where the channel is overfull.
-- Assumes nothing.
use Prim.Native.Nat.{ℕ}
use mathlib.Core.Bool.{true, false, not, ◌&&◌}
use mathlib.Core.List.{List, [], ◌∷◌, ◌++◌, map}
use mathlib.Core.Path.{◌≡◌, refl}
use lib.Dec.{ltb}
use lib.IntN.{ℤ}
use lib.ListN.{length, get_or, length-map}
use lib.Seq.{take_all, take-nil}
use borrow.Author.Tests.{ltb-false}
use Rattle.rules.specs.declared.Channel.{Channel}
use Rattle.rules.specs.Lists.{last_of}
use Rattle.rules.specs.Kinds.{signed}
use Rattle.rules.specs.Network.{is_register, is_out}
use Rattle.rules.specs.Instant.{keeping}
use Rattle.rules.proofs.ListLaws.{by_test}
use Rattle.layout.specs.Views.{Shape}
use Rattle.rings.specs.Rings.{register_at, capacity_of, kept, over}

last_map : (f : ℕ → ℤ) (l : List ℕ) → last_of (map f l) ≡ map f (last_of l)
unfolding last_of
last_map f [] = refl
last_map f (x ∷ []) = refl
last_map f (x ∷ y ∷ ys) = last_map f (y ∷ ys)

-- channel c of the rings is this channel; old and new tokens together are those of the rules, none for a channel to the outside
pub record SameTokens (s : Shape) (c : ℕ) (ch : Channel) (old new : List ℕ) (held written : List ℤ) : Type 0 where
  pub sort : get_or s.sort c 0 ≡ ch.sort
  pub capacity : capacity_of s c ≡ ch.capacity
  pub inner : is_out ch ≡ false → held ++ written ≡ map signed (old ++ new)
  pub out : is_out ch ≡ true → old ++ new ≡ []

module _ {s : Shape} {c : ℕ} {ch : Channel} {old new : List ℕ} {held written : List ℤ} (same : SameTokens s c ch old new held written) where
  pub over_full : over s c old new ≡ (not (is_register ch) && ltb ch.capacity (length (keeping ch held written)))
  unfolding over keeping
  over_full =
      rw (same.sort, same.capacity)
      (by_test (is_out ch)
      (λ e. rw (e, same.out e))
      (λ e.
      by_test (is_register ch) (λ r. rw r) (λ r. rw (e, r, same.inner e, length-map))))

  pub kept_by_rules : over s c old new ≡ false → keeping ch held written ≡ map signed (kept s c old new)
  unfolding over keeping kept last_of
  kept_by_rules room =
      by_test (is_out ch)
      (λ e. rw (e, same.out e) (by_test (register_at s c) (λ r. rw r) (λ r. rw (r, take-nil))))
      (λ e.
      by_test (is_register ch)
      (λ r. rw (same.sort, e, r, same.inner e) (last_map signed (old ++ new)))
      (λ r.
      let fits : ltb (capacity_of s c) (length (old ++ new)) ≡ false = rw (same.sort, r) at room in
      rw (same.sort, e, r, same.inner e, take_all (capacity_of s c) (old ++ new) (ltb-false (capacity_of s c) (length (old ++ new)) fits))))
