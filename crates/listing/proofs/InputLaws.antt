-- Laws of the listing's input: the listing of one that is not well framed, what is known of one that is, and its arrivals by its bytes
-- behind the horizon. Assumes nothing.
use Rattle.std.proofs.Common.{ℕ, zero, suc, ◌+◌, ◌-◌, ◌*◌, ◌/◌, ◌%◌, ◌^◌, ◌≤◌, true, false, ◌&&◌, List, length, drop, get_or, ◌≡◌, refl, ◌∙◌, ap, ap₂, arith, length-drop, eqb, leb}
use Rattle.std.proofs.lemmas.List.{get_or-drop}
use borrow.Author.Tests.{leb-true, eqb-true}
use Rattle.rules.specs.Lists.{tab}
use Rattle.rules.specs.Table.{bit_at, field_at}
use Rattle.rules.specs.Refusals.{refused}
use Rattle.rules.specs.Listing.{bytes_at, table_length, arrival_bytes, arrivals_in, framed, last_line, listing}
use Rattle.rules.proofs.ListLaws.{and_left, and_right, tab_ext}

-- the listing of an input that is not well framed is the line of refusal 13
pub unframed_listing : (s : List ℕ) → framed s ≡ false → listing s ≡ last_line 0 (refused 13 0)
unfolding listing
unframed_listing s h = rw h

-- what is known of a well framed input
pub record Frame (s : List ℕ) : Type 0 where
  pub long : 2 ≤ length s
  pub table : table_length s ≤ 8191
  pub there : 5 + table_length s ≤ length s
  pub whole : arrival_bytes s % 8 ≡ 0
  pub few : arrival_bytes s / 8 ≤ 2048

pub frame_of : (s : List ℕ) → framed s ≡ true → Frame s
unfolding framed
frame_of s good =
    let a = leb 2 (length s) in
    let b = leb (table_length s) 8191 in
    let c = leb (5 + table_length s) (length s) in
    let d = eqb (arrival_bytes s % 8) 0 in
    let e = leb (arrival_bytes s / 8) 2048 in
    let first_four = and_left (a && b && c && d) e good in
    let first_three = and_left (a && b && c) d first_four in
    let first_two = and_left (a && b) c first_three in
    record {
      long = leb-true 2 (length s) (and_left a b first_two);
      table = leb-true (table_length s) 8191 (and_right a b first_two);
      there = leb-true (5 + table_length s) (length s) (and_right (a && b) c first_three);
      whole = eqb-true (arrival_bytes s % 8) 0 (and_right (a && b && c) d first_four);
      few = leb-true (arrival_bytes s / 8) 2048 (and_right (a && b && c && d) e good);
    }

-- a field behind so many bytes
bit_behind : (s : List ℕ) (n at : ℕ) → bit_at (drop n s) at ≡ bit_at s (8 * n + at)
bit_behind s n at =
    let byte : n + at / 8 ≡ (8 * n + at) / 8 = omega arith in
    let bit : at % 8 ≡ (8 * n + at) % 8 = omega arith in
    ap₂ (λ b k. b / 2 ^ (7 - k) % 2) (get_or-drop n s (at / 8) 0 ∙ ap (λ i. get_or s i 0) byte) bit

field_behind : (s : List ℕ) (n at width : ℕ) → field_at (drop n s) at width ≡ field_at s (8 * n + at) width
unfolding field_at
field_behind s n at zero = refl
field_behind s n at (suc width) =
    let place : 8 * n + (at + width) ≡ 8 * n + at + width = omega arith in
    ap₂ (λ front bit. 2 * front + bit) (field_behind s n at width) (bit_behind s n (at + width) ∙ ap (bit_at s) place)

-- the arrivals are the numbers of the bytes behind the horizon
pub arrivals_behind : (s : List ℕ) → tab (length (drop (5 + table_length s) s) / 8) (λ i. bytes_at (drop (5 + table_length s) s) (8 * i) 8) ≡ arrivals_in s
arrivals_behind s =
    let behind = 5 + table_length s in
    let place = λ (i : ℕ). let e : 8 * behind + 8 * (8 * i) ≡ 8 * (behind + 8 * i) = omega arith in e in
    tab_ext (length (drop behind s) / 8) _ _ 0 (λ i h. field_behind s behind (8 * (8 * i)) 64 ∙ ap (λ at. field_at s at 64) (place i))
    ∙ ap (λ n. tab (n / 8) (λ i. bytes_at s (behind + 8 * i) 8)) (length-drop behind s)
