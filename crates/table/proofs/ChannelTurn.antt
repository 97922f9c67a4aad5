-- What a turn of `read_channels` does: the channels up to the next one are read and laid out, or its refusal refuses them all. Assumes
-- nothing.
use Prim.Native.Nat.{ℕ, suc, ◌+◌, ◌-◌, ◌*◌, ◌<◌}
use native.Mathlib.Numerals.{add-one}
use native.Mathlib.Omega.{arith}
use mathlib.Core.List.{List, [], ◌∷◌, ◌++◌}
use mathlib.Core.Path.{◌≡◌, refl, sym, ◌∙◌, ap}
use lib.IntN.{ℤ, pos}
use lib.ListN.{length, set, take, replicate, length-append}
use Rattle.std.proofs.lemmas.List.{take_all, take_more_set}
use Rattle.rules.specs.declared.Channel.{Channel}
use Rattle.rules.specs.declared.Refusal.{Refusal}
use Rattle.rules.specs.Table.{Reading, refusal, read, Channels, ◌then◌, with_channel, tokens_up_to, channel_piece, channels_up_to}
use Rattle.rules.proofs.Pieces.{tokens_count, channels_count}
use Rattle.rules.proofs.ReadingLaws.{channels_refused}
use Rattle.table.specs.Laid.{all_places, padded}
use Rattle.pieces.specs.Says.{refused_by}
use Rattle.table.specs.Reads.{ChannelDone, ChannelsDone}
use Rattle.table.proofs.Piece.{channel_room}
use Rattle.table.proofs.Places.{length_places, places_more, stored_places}

-- a refusal on the way stands whatever would follow
refused_through : {A B C : Type 0} (r : Reading A) (go : A → Reading B) (last : A → B → Reading C) (number place : ℕ) → (r then go) ≡ refusal number place → (r then λ a. go a then last a) ≡ refusal number place
refused_through (refusal m q) go last number place e = cc
refused_through (read a) go last number place e = rw e

-- the first c channels are read, up to a bit, and laid out, with their capacities together
pub record Reached (s : List ℕ) (nodes c at together : ℕ) (channels : List Channel) (placed : List ℤ) : Type 0 where
  pub all : Channels
  pub reads : channels_up_to s nodes c ≡ read all
  pub ends : at ≡ all.end
  pub sum : together ≡ all.together
  pub listed : take c channels ≡ all.channels
  pub filled : length (all_places all.channels all.tokens) ≡ all.together
  pub laid : placed ≡ padded 1024 (all_places all.channels all.tokens)

-- the same, kept shut for the searches
unfoldable pub UpTo : List ℕ → ℕ → ℕ → ℕ → ℕ → List Channel → List ℤ → Type 0
UpTo s nodes c at together channels placed = Reached s nodes c at together channels placed

module _ (s : List ℕ) (nodes : ℕ) (channels : List Channel) (placed : List ℤ) where
  -- before the first channel all is zero
  pub no_channels : placed ≡ replicate 1024 (pos 0) → UpTo s nodes 0 (24 + 69 * nodes) 0 channels placed
  unfolding UpTo channels_up_to padded all_places
  no_channels zero =
      record {
        all = record { channels = []; tokens = []; together = 0; end = 24 + 69 * nodes };
        reads = refl;
        ends = refl;
        sum = refl;
        listed = refl;
        filled = refl;
        laid = zero;
      }

  module _ (c at together : ℕ) where
    -- the next channel's refusal refuses them all
    pub refused_next : (count : ℕ) (why : Refusal) → UpTo s nodes c at together channels placed → c < count → (channel_piece s nodes c at together then λ ch. tokens_up_to s (at + 29) ch.initial) ≡ refused_by why → channels_up_to s nodes count ≡ refused_by why
    unfolding UpTo channels_up_to
    refused_next count why before more got =
        let all = before.all in
        let next = rw (before.ends, before.sum) at got in
        let through = refused_through (channel_piece s nodes c all.end all.together) (λ ch. tokens_up_to s (all.end + 29) ch.initial) (λ ch tokens. read (with_channel all ch tokens)) _ _ next in
        let here : channels_up_to s nodes (suc c) ≡ refused_by why = rw before.reads through in
        let rest : suc c + (count - suc c) ≡ count = omega arith in
        rw rest at (channels_refused s nodes (suc c) (count - suc c) _ _ here)

    -- one channel more is read and laid out
    pub channel_next : (ch : Channel) (after : List ℤ) → UpTo s nodes c at together channels placed → c < length channels → ChannelDone s nodes c at together placed ch after → UpTo s nodes (c + 1) (at + (29 + 32 * ch.initial)) (together + ch.capacity) (set channels c ch) after
    unfolding UpTo channels_up_to with_channel
    channel_next ch after before more new =
        let all = before.all in
        let room = channel_room s nodes c at together new.piece in
        let piece = rw (before.ends, before.sum) at new.piece in
        let tokens = rw before.ends at new.reads in
        let held = tokens_count s (at + 29) ch.initial new.tokens new.reads in
        let counts = channels_count s nodes c all before.reads in
        let same : length all.tokens ≡ length all.channels = omega arith in
        record {
          all = with_channel all ch new.tokens;
          reads = rw (add-one, before.reads, piece, tokens);
          ends = omega (arith, before.ends);
          sum = ap (λ (k : ℕ). k + ch.capacity) before.sum;
          listed = take_more_set channels c ch more ∙ ap (λ l. l ++ (ch ∷ [])) before.listed;
          filled = rw (places_more all.channels all.tokens ch new.tokens same, length-append, before.filled, length_places ch new.tokens (omega (arith, held, room.within)));
          laid =
              new.stored
              ∙ rw before.laid
              (stored_places all.channels all.tokens ch new.tokens together ch.initial (before.sum ∙ sym before.filled) same held room.within room.enough);
        }

    -- all are read
    pub all_done : UpTo s nodes c at together channels placed → length channels ≡ c → at < 65536 → ChannelsDone s nodes c at channels placed
    unfolding UpTo
    all_done got long near =
        record {
          all = got.all;
          reads = got.reads;
          ends = got.ends;
          near = near;
          listed = sym (take_all c channels (omega arith)) ∙ got.listed;
          laid = got.laid;
        }

-- the loop over the channels: before it, a turn, a refusal, and behind it
pub ruleset channel_turns = (no_channels, channel_next, refused_next, all_done)
