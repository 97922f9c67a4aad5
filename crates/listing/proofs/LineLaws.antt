-- Laws of the listing's lines: one item's text more, the numbers of a line, and the most that a word's line has. Assumes nothing.
use Rattle.std.proofs.Common.{ℕ, suc, ◌+◌, ◌^◌, ◌≤◌, ◌<◌, List, [], ◌∷◌, ◌++◌, map, length, get_or, take, ◌≡◌, refl, sym, ◌∙◌, ap, arith, add-one, append_assoc, drop, drop-cons, length-append, ℤ, FitsSigned, w32, to_z, of_z}
use Rattle.std.proofs.lemmas.Fmt.{length-decimal-le, length_signed_le}
use Rattle.std.proofs.lemmas.Int.{to_z-of_z}
use Rattle.std.specs.Fmt as std
use mathlib.Core.List.{map-append}
use lib.Seq.{take-suc}
use Rattle.rules.specs.declared.End.{End}
use Rattle.rules.specs.declared.Refusal.{Refusal}
use Rattle.rules.specs.Lists.{joined}
use Rattle.rules.specs.Listing.{decimal, line}
use Rattle.rules.specs.Refusals.{number_of, end_number}
use Rattle.rules.proofs.LongerLists.{joined_more}
use Rattle.rules.proofs.RefusalNumbers.{case_in_range}
use Rattle.listing.specs.declared.Text.{Text}
use Rattle.listing.specs.Text.{Puts}
use Rattle.listing.proofs.DecimalLaws.{decimal_is, decimal_length}
use Rattle.listing.proofs.TextLaws.{puts_as, puts_then}

-- where the texts of the first items are put, that of the next is put behind them
pub puts_next : (f : ℕ → List ℕ) (xs : List ℕ) (i : ℕ) {t u v : Text} → i < length xs → Puts t (joined (map f (take i xs))) u → Puts u (f (get_or xs i 0)) v → Puts t (joined (map f (take (i + 1) xs))) v
puts_next f xs i h p q =
    rw (add-one, take-suc xs i 0, map-append)
    (puts_as (sym (joined_more (map f (take i xs)) (f (get_or xs i 0)))) (puts_then p q))

-- a number of a line, behind a blank
abbrev pub blank_and : ℕ → List ℕ
blank_and n = 32 ∷ decimal n

-- the numbers of a line
abbrev pub numbered : List ℕ → List ℕ
numbered ns = joined (map blank_and ns)

pub line_of_numbers : (first ns : List ℕ) → line (first ∷ map decimal ns) ≡ first ++ (numbered ns ++ (10 ∷ []))
unfolding line joined
line_of_numbers first [] = refl
line_of_numbers first (n ∷ ns) =
    ap (λ l. first ++ (32 ∷ l)) (line_of_numbers (decimal n) ns ∙ sym (append_assoc (decimal n) (numbered ns) (10 ∷ [])))

-- how long a line is, and what is left of it before a number
pub line_length : (first ns : List ℕ) → length (line (first ∷ map decimal ns)) ≡ length first + length (numbered ns) + 1
line_length first ns =
    rw (line_of_numbers first ns, length-append first, length-append (numbered ns)) (omega arith)

pub left_length : (ns : List ℕ) (i : ℕ) → i < length ns → get_or ns i 0 < 2 ^ 64 → length (numbered (drop i ns)) ≡ 1 + length (std.decimal (get_or ns i 0)) + length (numbered (drop (i + 1) ns))
unfolding joined
left_length ns i h below =
    rw (drop-cons ns i 0 h, add-one, ← decimal_is (get_or ns i 0) below)
    (length-append (blank_and (get_or ns i 0)) (numbered (drop (suc i) ns)) ∙ omega arith)

pub ruleset line_room = (line_length, left_length)

-- how long a line of given parts is
pub length_last : (part : List ℕ) → length (line (part ∷ [])) ≡ length part + 1
unfolding line
length_last part = length-append part (10 ∷ [])

pub length_more : (part next : List ℕ) (parts : List (List ℕ)) → length (line (part ∷ next ∷ parts)) ≡ length part + 1 + length (line (next ∷ parts))
unfolding line
length_more part next parts = length-append part (32 ∷ line (next ∷ parts)) ∙ omega arith

-- the most digits of the numbers in a last line
pub any_digits : (n : ℕ) → n < 2 ^ 64 → length (decimal n) ≤ 20
any_digits n h = decimal_length 19 n (omega arith)

pub number_digits : (n : ℕ) → n < 100 → length (decimal n) ≤ 2
number_digits n h = decimal_length 1 n (omega arith)

pub end_number_small : (end : End) → end_number end ≤ 12
end_number_small End.Horizon = omega arith
end_number_small (End.Overfull instant channel) = omega arith
end_number_small (End.NoRoom instant) = omega arith

pub number_small : (why : Refusal) → number_of why ≤ 10
number_small why = (case_in_range why).1

pub ruleset last_lines = (length_last, length_more, any_digits, number_digits, end_number_small, number_small)

-- the most digits of a word's time, channel and value
pub time_digits : (n : ℕ) → n < 2 ^ 24 → length (std.decimal n) ≤ 8
time_digits n h = length-decimal-le 8 n (omega arith) (omega arith) (omega arith)

pub channel_digits : (n : ℕ) → n < 256 → length (std.decimal n) ≤ 3
channel_digits n h = length-decimal-le 3 n (omega arith) (omega arith) (omega arith)

pub magnitude_digits : (n : ℕ) → n < 10 ^ 10 → length (std.decimal n) ≤ 10
magnitude_digits n h = length-decimal-le 10 n (omega arith) h (omega arith)

pub token_digits : (z : ℤ) → FitsSigned w32 z → length (std.signed_decimal (to_z w32 (of_z w32 z))) ≤ 11
token_digits z h = let small = h.sfits in rw (to_z-of_z w32 z h) (length_signed_le 10 z (omega arith) (omega arith))

pub ruleset word_digits = (time_digits, channel_digits, token_digits)
