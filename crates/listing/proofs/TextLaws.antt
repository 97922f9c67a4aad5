-- Laws of bytes put into a text: a text keeps its size, and bytes put one behind another stand as one list. Assumes nothing.
use Rattle.std.proofs.Common.{ℕ, suc, ◌+◌, ◌-◌, ◌≤◌, List, [], ◌∷◌, ◌++◌, length, take, drop, ◌≡◌, refl, sym, ◌∙◌, ap, arith, add-zero, add-suc, suc-add, length-append, append_assoc}
use Rattle.std.proofs.Math.ListN.{set}
use Rattle.std.proofs.Math.Seq.{length-sets}
use Rattle.std.proofs.lemmas.List.Edits.{sets, sets-eq, paste_all}
use Rattle.std.proofs.lemmas.Slice.{put_mid-paste}
use borrow.Rule.Slice.PartMut.{put_mid}
use Rattle.listing.specs.declared.Text.{Text}
use Rattle.listing.specs.Text.{Put, Puts}

sets_append : (l : List ℕ) (i : ℕ) (a b : List ℕ) → sets (sets l i a) (i + length a) b ≡ sets l i (a ++ b)
sets_append l i [] b = ap (λ k. sets l k b) (add-zero i)
sets_append l i (x ∷ a) b =
    ap (λ k. sets (sets (set l i x) (suc i) a) k b) (add-suc i (length a) ∙ sym (suc-add i (length a)))
    ∙ sets_append (set l i x) (suc i) a b

pub put_size : {t u : List ℕ} {at end : ℕ} (a : List ℕ) → Put t at a u end → length u ≡ length t
put_size {t} {u} {at} a p = ap length p.text ∙ length-sets t at a

-- bytes copied over as many
pub put_copied : (l : List ℕ) (at : ℕ) {copied : List ℕ} (bytes : List ℕ) → copied ≡ bytes → at + length bytes ≤ length l → Put l at bytes (put_mid at (at + length bytes - at) l copied) (at + length bytes)
put_copied l at {copied} bytes e room =
    record {
      behind = refl;
      text =
          put_mid-paste at (at + length bytes - at) l copied bytes (length bytes) e (omega arith) refl
          ∙ paste_all l at bytes (length bytes) refl
          ∙ sym (append_assoc (take at l) bytes (drop (at + length bytes) l))
          ∙ sym (sets-eq bytes l at room);
    }

pub put_then : {t u v a b : List ℕ} {at mid end : ℕ} → Put t at a u mid → Put u mid b v end → Put t at (a ++ b) v end
put_then {t} {u} {v} {a} {b} {at} {mid} {end} p q =
    record {
      behind = omega (arith, p.behind, q.behind, length-append a b);
      text = q.text ∙ rw (p.text, p.behind) (sets_append t at a b);
    }

-- the same place and bytes by another list
pub puts_as : {t u : Text} {a b : List ℕ} → a ≡ b → Puts t a u → Puts t b u
puts_as e p = rw e at p

pub puts_then : {t u v : Text} {a b : List ℕ} → Puts t a u → Puts u b v → Puts t (a ++ b) v
puts_then p q = record { same = q.same ∙ p.same; size = q.size ∙ p.size; put = put_then p.put q.put }
