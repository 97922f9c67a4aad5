-- An input of 24,581 bytes or more is badly framed. So it has the listing of its first 24,581 bytes, and need be read no further.
-- Assumes nothing.
use Prim.Native.Nat.{ℕ, ◌+◌, ◌-◌, ◌/◌, ◌%◌, ◌≤◌}
use native.Mathlib.Omega.{arith}
use mathlib.Core.Bool.{true}
use mathlib.Core.List.{List}
use mathlib.Core.Path.{◌≡◌, ◌∙◌, sym}
use lib.ListN.{length, take}
use lib.Seq.{length-take-le}
use Rattle.rules.specs.Listing.{framed, listing, last_line, table_length}
use Rattle.rules.specs.Refusals.{refused}
use Rattle.rules.proofs.ListLaws.{by_test}
use Rattle.listing.proofs.InputLaws.{frame_of, unframed_listing}

-- a table of at most 8,191 bytes and at most 2,048 whole arrivals make at most 24,580 bytes
at_most : (n table : ℕ) → table ≤ 8191 → (n - (5 + table)) % 8 ≡ 0 → (n - (5 + table)) / 8 ≤ 2048 → n ≤ 24580
at_most n table short whole few = omega arith

framed_at_most : (s : List ℕ) → framed s ≡ true → length s ≤ 24580
framed_at_most s good =
    let frame = frame_of s good in
    at_most (length s) (table_length s) frame.table frame.whole frame.few

long_listing : (s : List ℕ) → 24581 ≤ length s → listing s ≡ last_line 0 (refused 13 0)
long_listing s long =
    unframed_listing s (by_test (framed s) (λ e. absurd (omega (arith, framed_at_most s e))) (λ e. e))

pub listing_of_front : (s : List ℕ) → 24581 ≤ length s → listing (take 24581 s) ≡ listing s
listing_of_front s long =
    let same = length-take-le 24581 s long in
    let front : 24581 ≤ length (take 24581 s) = omega arith in
    long_listing (take 24581 s) front ∙ sym (long_listing s long)
