-- The listing is the text of what the calls left, and its length.
use Rattle.std.proofs.Common.{rules}
use Rattle.listing.specs.Listings.{listing_text, text_room}
use Rattle.listing.proofs.Rooms.{input-fits}
use Rattle.listing.proofs.Texts.{listing-is, text-within}
use Rattle.listing.proofs.call.list_shades.Goals as goal

pub write_work-length-requires : goal.write_work-length-requires
write_work-length-requires c = (rw c.work_input-work.ensures (input-fits c.args.input.now), search rules)

pub returns : goal.returns
unfolding listing_text text_room
returns c =
    let put = rw c.work_input-work.ensures at c.write_work-length.ensures in
    (listing-is c.args.input.now put.ends put.text_is, text-within c.args.input.now put.ends put.text_is)
