-- A law of a number's ones, for a node's result. Assumes nothing.
use Rattle.std.proofs.Common.{◌≡◌, ℕ, zero, suc, ◌+◌, ◌/◌, ◌%◌, ◌^◌, ◌<◌, sym, ap, ◌∙◌, pow-suc, arith}
use lib.Count.{ones_in, ones as count_ones, ones_step}

-- all the ones of a number are among as many digits as it has
pub ones_within : (w n : ℕ) → n < 2 ^ w → ones_in w n ≡ count_ones n
unfolding ones_in count_ones
ones_within zero n h = let none : n ≡ 0 = omega arith in rw none
ones_within (suc w) n h =
    let rest : n / 2 < 2 ^ w = omega (arith, pow-suc 2 w) in
    ap (λ m. n % 2 + m) (ones_within w (n / 2) rest) ∙ sym (ones_step n)
