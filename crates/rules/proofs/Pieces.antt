-- What the pieces of a table give where they are read: a header's counts, nodes, tokens and channels that obey the rules of a network,
-- as many as were asked for. Assumes nothing.
use Prim.Native.Nat.{ℕ, zero, suc, ◌+◌, ◌*◌, ◌≤◌, ◌<◌}
use native.Mathlib.Nat.{not-suc-le-zero}
use native.Mathlib.Omega.{arith}
use mathlib.Core.Bool.{true, ◌&&◌}
use mathlib.Core.List.{List, []}
use mathlib.Core.Path.{◌≡◌, refl, sym, ap, ◌∙◌}
use lib.Dec.{eqb, leb}
use lib.IntN.{ℤ, pos}
use lib.ListN.{length, get_or}
use mir.Syntax.{w32}
use mir.Val.{SFits}
use borrow.Author.Tests.{leb-true}
use Rattle.rules.specs.declared.Node.{Node}
use Rattle.rules.specs.declared.Channel.{Channel}
use Rattle.rules.specs.Lists.{total}
use Rattle.rules.specs.Kinds.{signed}
use Rattle.rules.specs.Network.{InBits, node_among, channel_among, counts_ok, node_ok, channel_ok}
use Rattle.rules.specs.Table.{field_at, read, Header, header_at, node_at, node_piece, nodes_up_to, channel_at, token_piece, tokens_up_to, Channels, with_channel, channel_piece, channels_up_to}
use Rattle.rules.proofs.FieldLaws.{field_below, token_fits_law}
use Rattle.rules.proofs.ListLaws.{and_left}
use Rattle.rules.proofs.LongerLists.{length_more, total_more, pairs_more}
use Rattle.rules.proofs.ReadingLaws.{Gives, read_gives, then_gives, unless_gives, unless_then_gives, piece_then_gives, Entries, entries_read}

-- a header that was read has lawful counts
pub header_read : (s : List ℕ) → Gives (λ h. counts_ok h.nodes h.channels ≡ true) (header_at s)
unfolding header_at
header_read s =
    let h : Header = record { nodes = field_at s 4 6; channels = field_at s 10 7 } in
    piece_then_gives s 0 24 h _
    (λ there.
    unless_then_gives (eqb (field_at s 0 4) 1) 2 0 h _
    (λ version.
    unless_gives (counts_ok h.nodes h.channels && eqb (field_at s 17 7) 0) 3 0 h (and_left _ _)))

-- a node that was read: lawful fields and a constant in 32 bits
pub record LawfulNode (node : Node) : Type 0 where
  pub lawful : node_ok node ≡ true
  pub fits : SFits w32 node.constant

node_read : (s : List ℕ) (n : ℕ) → Gives LawfulNode (node_piece s n)
unfolding node_piece node_at
node_read s n =
    let node = node_at s (24 + 69 * n) in
    piece_then_gives s (24 + 69 * n) 69 node _
    (λ there. unless_gives (node_ok node) 4 n node (λ h. record { lawful = h; fits = token_fits_law s (24 + 69 * n + 37) }))

-- as many nodes as were asked for, each lawful
pub nodes_read : (s : List ℕ) (n : ℕ) → Gives (Entries LawfulNode (node_among [] 0) n) (nodes_up_to s n)
unfolding nodes_up_to
nodes_read s = entries_read (nodes_up_to s) (node_piece s) refl (λ n. refl) (node_read s)

-- as many tokens as were asked for, each in 32 bits
abbrev pub LawfulTokens : ℕ → List ℤ → Type 0
LawfulTokens n tokens = Entries (SFits w32) (pos 0) n tokens

token_read : (s : List ℕ) (at : ℕ) → Gives (SFits w32) (token_piece s at)
unfolding token_piece
token_read s at = unless_gives (leb (at + 32) (8 * length s)) 1 at (signed (field_at s at 32)) (λ there. token_fits_law s at)

pub tokens_read : (s : List ℕ) (at n : ℕ) → Gives (LawfulTokens n) (tokens_up_to s at n)
unfolding tokens_up_to
tokens_read s at = entries_read (tokens_up_to s at) (λ n. token_piece s (at + 32 * n)) refl (λ n. refl) (λ n. token_read s (at + 32 * n))

-- a channel that was read behind others: lawful fields, and not too much capacity together with theirs
pub record LawfulChannel (nodes before : ℕ) (ch : Channel) : Type 0 where
  pub lawful : channel_ok nodes ch ≡ true
  pub in_bits : InBits ch
  pub enough : before + ch.capacity ≤ 1024

pub channel_read : (s : List ℕ) (nodes c at before : ℕ) → Gives (LawfulChannel nodes before) (channel_piece s nodes c at before)
unfolding channel_piece channel_at
channel_read s nodes c at before =
    let ch = channel_at s at in
    piece_then_gives s at 29 ch _
    (λ there.
    unless_then_gives (channel_ok nodes ch) 5 c ch _
    (λ lawful.
    unless_gives (leb (before + ch.capacity) 1024) 6 c ch
    (λ enough.
    record {
      lawful = lawful;
      in_bits = record { sort = field_below s at 1; port = field_below s (at + 13) 2 };
      enough = leb-true (before + ch.capacity) 1024 enough;
    })))

-- a channel with its tokens: lawful fields, and as many tokens as it says, each in 32 bits
pub record Filled (nodes : ℕ) (ch : Channel) (tokens : List ℤ) : Type 0 where
  pub lawful : channel_ok nodes ch ≡ true
  pub in_bits : InBits ch
  pub initially : LawfulTokens ch.initial tokens

-- channels that were read: as many as were asked for, each lawful with its tokens, and their capacities together at most 1024
pub record LawfulChannels (nodes n : ℕ) (all : Channels) : Type 0 where
  pub count : length all.channels ≡ n
  pub held : length all.tokens ≡ n
  pub each : (c : ℕ) → c < length all.channels → Filled nodes (channel_among all.channels c) (get_or all.tokens c [])
  pub sum : total (length all.channels) (λ c. (channel_among all.channels c).capacity) ≡ all.together
  pub enough : all.together ≤ 1024

pub channels_read : (s : List ℕ) (nodes n : ℕ) → Gives (LawfulChannels nodes n) (channels_up_to s nodes n)
unfolding channels_up_to with_channel
channels_read s nodes zero =
    read_gives
    (record { count = refl; held = refl; each = λ c h. absurd (not-suc-le-zero h); sum = unfold total in refl; enough = omega arith })
channels_read s nodes (suc n) =
    then_gives (channels_read s nodes n)
    (λ before front.
    then_gives (channel_read s nodes n before.end before.together)
    (λ ch new.
    then_gives (tokens_read s (before.end + 29) ch.initial)
    (λ tokens filled.
    read_gives
    (record {
      count = length_more before.channels ch ∙ ap suc front.count;
      held = length_more before.tokens tokens ∙ ap suc front.held;
      each =
          pairs_more (Filled nodes) before.channels before.tokens ch _ tokens _ (front.held ∙ sym front.count) front.each
          (record { lawful = new.lawful; in_bits = new.in_bits; initially = filled });
      sum = total_more (λ c. c.capacity) before.channels ch _ ∙ ap (λ (k : ℕ). k + ch.capacity) front.sum;
      enough = new.enough;
    }))))

-- what was read has the counts that were asked for
pub tokens_count : (s : List ℕ) (at n : ℕ) (tokens : List ℤ) → tokens_up_to s at n ≡ read tokens → length tokens ≡ n
tokens_count s at n tokens e = ((tokens_read s at n).given tokens e).count

pub channels_count : (s : List ℕ) (nodes n : ℕ) (all : Channels) → channels_up_to s nodes n ≡ read all → (length all.channels ≡ n) × (length all.tokens ≡ n)
channels_count s nodes n all e =
    let got = (channels_read s nodes n).given all e in
    (got.count, got.held)
