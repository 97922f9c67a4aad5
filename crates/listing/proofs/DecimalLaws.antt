-- The rules' decimal numbers are the library's: a number of 64 bits and a token of 32 have the same digits there. Assumes nothing.
use Rattle.std.proofs.Common.{ℕ, zero, suc, ◌+◌, ◌/◌, ◌%◌, ◌^◌, ◌≤◌, ◌<◌, [], ◌∷◌, ◌++◌, length, ◌≡◌, sym, ◌∙◌, ap, arith, ltb, ℤ, pos, negsuc, FitsSigned, w32, to_z, of_z, length-append}
use borrow.Author.Tests.{ltb-true, ltb-false, lt-ltb, le-ltb}
use Rattle.std.proofs.lemmas.Fmt.{decimal_digit, decimal_step}
use Rattle.std.proofs.lemmas.Int.{to_z-of_z}
use native.Mathlib.Nat.{pow-suc}
use Rattle.std.specs.Fmt as std
use Rattle.rules.specs.Kinds.{signed}
use Rattle.rules.specs.Listing.{digits, decimal, signed_decimal}
use Rattle.rules.proofs.KindLaws.{signed_fits}
use Rattle.rules.proofs.ListLaws.{by_test}

digits_one : (m n : ℕ) → n < 10 → digits (suc m) n ≡ (48 + n) ∷ []
unfolding digits
digits_one m n h = rw (lt-ltb n 10 h)

digits_last : (m n : ℕ) → 10 ≤ n → digits (suc m) n ≡ digits m (n / 10) ++ ((48 + n % 10) ∷ [])
unfolding digits
digits_last m n h = rw (le-ltb n 10 h)

digits_small : (m n : ℕ) → n < 10 → digits (suc m) n ≡ std.decimal n
digits_small m n h = digits_one m n h ∙ sym (decimal_digit n h)

-- where so many digits suffice, they are the library's
digits_are : (k m n : ℕ) → n < 10 ^ suc k → k ≤ m → n < 2 ^ 64 → digits (suc m) n ≡ std.decimal n
digits_are zero m n h enough below = digits_small m n (omega arith)
digits_are (suc k) zero n h enough below = absurd (omega arith)
digits_are (suc k) (suc m) n h enough below =
    by_test (ltb n 10) (λ e. digits_small (suc m) n (ltb-true n 10 e))
    (λ e.
    let large : 10 ≤ n = ltb-false n 10 e in
    let front : n / 10 < 10 ^ suc k = omega (arith, pow-suc 10 (suc k)) in
    digits_last (suc m) n large
    ∙ ap (λ ds. ds ++ ((48 + n % 10) ∷ [])) (digits_are k m (n / 10) front (omega arith) (omega arith))
    ∙ sym (decimal_step n large below))

pub decimal_is : (n : ℕ) → n < 2 ^ 64 → decimal n ≡ std.decimal n
unfolding decimal
decimal_is n h = digits_are 19 19 n (omega arith) (omega arith) h

pub signed_is : (z : ℤ) → FitsSigned w32 z → signed_decimal z ≡ std.signed_decimal z
unfolding signed_decimal
signed_is (pos n) h = let small = h.sfits in decimal_is n (omega arith)
signed_is (negsuc n) h = let small = h.sfits in ap (λ l. 45 ∷ l) (decimal_is (suc n) (omega arith))

-- as many digits as the power of ten that the number is below, at most 20
digits_length : (m k n : ℕ) → n < 10 ^ suc k → length (digits m n) ≤ suc k
unfolding digits
digits_length zero k n h = omega arith
digits_length (suc m) zero n h = rw (lt-ltb n 10 (omega arith)) (omega arith)
digits_length (suc m) (suc k) n h =
    by_test (ltb n 10) (λ e. rw e (omega arith))
    (λ e.
    let front : n / 10 < 10 ^ suc k = omega (arith, pow-suc 10 (suc k)) in
    rw (e, length-append (digits m (n / 10)) ((48 + n % 10) ∷ [])) (omega (arith, digits_length m k (n / 10) front)))

pub decimal_length : (k n : ℕ) → n < 10 ^ suc k → length (decimal n) ≤ suc k
unfolding decimal
decimal_length k n h = digits_length 20 k n h

-- a token that is read from 32 bits
module _ (v : ℕ) (below : v < 2 ^ 32) {z : ℤ} (e : z ≡ signed v) where
  token_read : to_z w32 (of_z w32 z) ≡ signed v
  token_read = rw e (to_z-of_z w32 (signed v) (signed_fits v below))

  pub token_text : std.signed_decimal (to_z w32 (of_z w32 z)) ≡ signed_decimal (signed v)
  token_text = ap std.signed_decimal token_read ∙ sym (signed_is (signed v) (signed_fits v below))
