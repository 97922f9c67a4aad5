-- What a channel's piece says of the channel's tokens: that they have room. Assumes nothing.
use Prim.Native.Nat.{ℕ, ◌+◌, ◌-◌, ◌≤◌}
use mathlib.Core.List.{List}
use mathlib.Core.Path.{◌≡◌}
use Rattle.std.proofs.Math.Nat.{add-sub_cancel_left}
use Rattle.rules.specs.declared.Channel.{Channel}
use Rattle.rules.specs.Table.{read, channel_piece}
use Rattle.rules.proofs.Checks.{channel_fields_law}
use Rattle.rules.proofs.Pieces.{channel_read}

-- a channel behind others that take so many places: its own places are there, and its tokens have room in them
pub record Room (together : ℕ) (ch : Channel) : Type 0 where
  pub within : ch.initial ≤ ch.capacity
  pub enough : together + ch.capacity ≤ 1024

module _ (s : List ℕ) (nodes c at together : ℕ) where
  pub channel_room : {ch : Channel} → channel_piece s nodes c at together ≡ read ch → Room together ch
  channel_room {ch} e =
      let got = (channel_read s nodes c at together).given ch e in
      record { within = (channel_fields_law nodes ch got.lawful).within; enough = got.enough }

-- a part of so many places has so many
pub part_long : (from count : ℕ) → from + count - from ≡ count
part_long from count = add-sub_cancel_left from count
