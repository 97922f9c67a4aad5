-- Refusals have the paper's numbers, 1 to 10: the cases of an answer, and what the reading of a table is refused by. Assumes nothing.
use Prim.Native.Nat.{ℕ, zero, suc, ◌+◌, ◌*◌, ◌≤◌}
use mathlib.Core.Bool.{Bool, true, false, ◌&&◌}
use mathlib.Core.List.{List}
use mathlib.Core.Path.{◌≡◌, refl, sym}
use lib.Dec.{eqb, leb, ltb}
use lib.ListN.{length}
use borrow.Author.Tests.{ltb-true, leb-true}
use Rattle.rules.specs.declared.Refusal.{Refusal}
use Rattle.rules.specs.Kinds.{signed}
use Rattle.rules.specs.Network.{Network, counts_ok, node_ok, channel_ok}
use Rattle.rules.specs.Refusals.{number_of}
use Rattle.rules.specs.Table.{Reading, refusal, read, ◌then◌, unless, field_at, Header, header_at, node_at, node_piece, nodes_up_to, token_piece, tokens_up_to, channel_at, channel_piece, channels_up_to, ends_at, faulty_node, network}
use Rattle.rules.proofs.ListLaws.{and_left, and_right}
use Rattle.rules.proofs.ReadingLaws.{refused_or_read, by_reading}

-- a number from 1 to 10
abbrev pub is_number : ℕ → Bool
is_number number = ltb 0 number && leb number 10

pub in_range : (number : ℕ) → is_number number ≡ true → (1 ≤ number) × (number ≤ 10)
in_range number h = (
  ltb-true 0 number (and_left (ltb 0 number) (leb number 10) h),
  leb-true number 10 (and_right (ltb 0 number) (leb number 10) h),
)

pub case_in_range : (why : Refusal) → (1 ≤ number_of why) × (number_of why ≤ 10)
case_in_range why = in_range (number_of why) (by_case why)
  where
    by_case : (why : Refusal) → is_number (number_of why) ≡ true
    by_case (Refusal.BitsEnd place) = refl
    by_case Refusal.Version = refl
    by_case Refusal.Counts = refl
    by_case (Refusal.NodeField node) = refl
    by_case (Refusal.ChannelField channel) = refl
    by_case (Refusal.Capacities channel) = refl
    by_case Refusal.Leftover = refl
    by_case (Refusal.Ports node) = refl
    by_case Refusal.Horizon = refl
    by_case (Refusal.Arrival index) = refl

-- a reading that is refused by no other number
pub record Numbered {A : Type 0} (r : Reading A) : Type 0 where
  pub from : (number place : ℕ) → r ≡ refusal number place → is_number number ≡ true

read_numbered : {A : Type 0} {a : A} → Numbered (read a)
read_numbered = record { from = λ number place e. refused_or_read (sym e) }

refusal_numbered : {A : Type 0} (number place : ℕ) → is_number number ≡ true → Numbered {A = A} (refusal number place)
refusal_numbered number place h = record { from = λ m p e. cc }

then_numbered : {A B : Type 0} {r : Reading A} {go : A → Reading B} → Numbered r → ((a : A) → Numbered (go a)) → Numbered (r then go)
then_numbered {r = r} first rest =
    by_reading r (λ number place e. rw e (refusal_numbered number place (first.from number place e))) (λ a e. rw e (rest a))

-- a test, and then the rest
unless_numbered : {A B : Type 0} (test : Bool) (number place : ℕ) (a : A) (go : A → Reading B) → is_number number ≡ true → Numbered (go a) → Numbered (unless test number place a then go)
unless_numbered true number place a go h rest = rest
unless_numbered false number place a go h rest = refusal_numbered number place h

-- a last test
test_numbered : {A : Type 0} (test : Bool) (number place : ℕ) (a : A) → is_number number ≡ true → Numbered (unless test number place a)
test_numbered true number place a h = read_numbered
test_numbered false number place a h = refusal_numbered number place h

header_numbered : (s : List ℕ) → Numbered (header_at s)
unfolding header_at
header_numbered s =
    let h : Header = record { nodes = field_at s 4 6; channels = field_at s 10 7 } in
    unless_numbered (leb (0 + 24) (8 * length s)) 1 0 h _ refl
    (unless_numbered (eqb (field_at s 0 4) 1) 2 0 h _ refl
    (test_numbered (counts_ok h.nodes h.channels && eqb (field_at s 17 7) 0) 3 0 h refl))

node_numbered : (s : List ℕ) (n : ℕ) → Numbered (node_piece s n)
unfolding node_piece
node_numbered s n =
    let at = 24 + 69 * n in
    unless_numbered (leb (at + 69) (8 * length s)) 1 at (node_at s at) _ refl (test_numbered (node_ok (node_at s at)) 4 n (node_at s at) refl)

nodes_numbered : (s : List ℕ) (n : ℕ) → Numbered (nodes_up_to s n)
unfolding nodes_up_to
nodes_numbered s zero = read_numbered
nodes_numbered s (suc n) = then_numbered (nodes_numbered s n) (λ nodes. then_numbered (node_numbered s n) (λ node. read_numbered))

token_numbered : (s : List ℕ) (at : ℕ) → Numbered (token_piece s at)
unfolding token_piece
token_numbered s at = test_numbered (leb (at + 32) (8 * length s)) 1 at (signed (field_at s at 32)) refl

tokens_numbered : (s : List ℕ) (at n : ℕ) → Numbered (tokens_up_to s at n)
unfolding tokens_up_to
tokens_numbered s at zero = read_numbered
tokens_numbered s at (suc n) =
    then_numbered (tokens_numbered s at n) (λ tokens. then_numbered (token_numbered s (at + 32 * n)) (λ token. read_numbered))

channel_numbered : (s : List ℕ) (nodes c at together : ℕ) → Numbered (channel_piece s nodes c at together)
unfolding channel_piece
channel_numbered s nodes c at together =
    let ch = channel_at s at in
    unless_numbered (leb (at + 29) (8 * length s)) 1 at ch _ refl
    (unless_numbered (channel_ok nodes ch) 5 c ch _ refl (test_numbered (leb (together + ch.capacity) 1024) 6 c ch refl))

channels_numbered : (s : List ℕ) (nodes c : ℕ) → Numbered (channels_up_to s nodes c)
unfolding channels_up_to
channels_numbered s nodes zero = read_numbered
channels_numbered s nodes (suc c) =
    then_numbered (channels_numbered s nodes c)
    (λ before.
    then_numbered (channel_numbered s nodes c before.end before.together)
    (λ ch. then_numbered (tokens_numbered s (before.end + 29) ch.initial) (λ tokens. read_numbered)))

pub network_numbered : (s : List ℕ) → Numbered (network s)
unfolding network
network_numbered s =
    then_numbered (header_numbered s)
    (λ h.
    then_numbered (nodes_numbered s h.nodes)
    (λ nodes.
    then_numbered (channels_numbered s h.nodes h.channels)
    (λ all.
    let net : Network = record { nodes = nodes; channels = all.channels; tokens = all.tokens } in
    unless_numbered (ends_at s all.end) 7 0 net _ refl
    (test_numbered (eqb (faulty_node net) (length net.nodes)) 8 (faulty_node net) net refl))))
