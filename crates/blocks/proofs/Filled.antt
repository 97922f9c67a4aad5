-- A buffer that is filled from the front: what was read into it, and what the next read puts behind. Assumes nothing.
use Rattle.std.proofs.Common.{◌≡◌, ℕ, ◌+◌, ◌≤◌, ◌<◌, List, ◌++◌, length, take, ap, sym, ◌∙◌, subst, le_refl, drop_at, length-take-le, Option, arith}
use Rattle.std.proofs.lemmas.Slice.{take-put_mid_below}
use Rattle.std.proofs.KnownBytes.{Consumes-trans, Consumes-kept}
use Rattle.std.specs.Io.KnownBytes.{Consumes, Keeps}
use Rattle.blocks.specs.Filled.{FilledInPart}
use borrow.Rule.Slice.PartMut.{put_mid, post_of}
use lib.Seq.{take-add, take-append-le}

-- the front of the buffer, once `part` stands in it from `done` on
front_of : (done k n : ℕ) (buf part : List ℕ) → done ≤ length buf → n ≤ length part
    → take (done + n) (put_mid done k buf part) ≡ take done buf ++ take n part
front_of done k n buf part room fits =
    let behind = post_of done k buf in
    let new = drop_at (take done buf) (part ++ behind) done (length-take-le done buf room) in
    take-add done n (put_mid done k buf part)
    ∙ (λ i. take-put_mid_below done k buf part done (le_refl done) room i
    ++ (ap (take n) new ∙ take-append-le n part behind fits) i)

-- where a first read left `b` and a second one `c`, what both consumed stands in front
pub consumed_both : (a b c : Option (List ℕ)) (done k n : ℕ) (buf part : List ℕ) → done ≤ length buf → n ≤ length part
    → Consumes a b (take done buf) → Consumes b c (take n part) → Consumes a c (take (done + n) (put_mid done k buf part))
consumed_both a b c done k n buf part room fits first second =
    subst (Consumes a c) (sym (front_of done k n buf part room fits)) (Consumes-trans a b c _ _ first second)

-- where the second read failed, what the first one consumed still stands in front
pub kept_front : (a b c : Option (List ℕ)) (done k : ℕ) (buf part : List ℕ) → done < length buf
    → length (put_mid done k buf part) ≡ length buf
    → Consumes a b (take done buf) → Keeps b c → FilledInPart a c (put_mid done k buf part)
unfolding FilledInPart
kept_front a b c done k buf part room same first kept =
    let within : done ≤ length buf = omega arith in (
      done,
      omega arith,
      subst (Consumes a c) (sym (take-put_mid_below done k buf part done (le_refl done) within))
          (Consumes-kept a b c _ first kept),
    )
