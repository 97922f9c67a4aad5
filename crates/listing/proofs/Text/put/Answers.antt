-- The bytes are copied over as many.
use Rattle.std.proofs.Common.{refl}
use Rattle.listing.proofs.TextLaws.{put_size, put_copied}
use Rattle.listing.proofs.Text.put.Goals as goal

pub returns : goal.returns
returns c =
    let put = put_copied c.args.self.now.bytes.now c.args.self.now.len c.args.bytes.now c.copy_from_slice.ensures.after c.requires in
    record { same = refl; size = put_size c.args.bytes.now put; put = put }
