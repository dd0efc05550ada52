-- Glossary. The entries of the palette stand in palette_means/specs, its outcome and contract in palette/specs.
--   channel_group        the levels of one channel in the group of a shade, weights counted
--   short_rooms          the test of 7 SHORT ROOM: members or palette bytes are too few
--   group_rows           the tests of the call in its order, with their refusals
--   made_by_groups f     the outcome where nothing is refused and the first f shades are fixed
--   palette_from_groups  the outcome of the call
-- With the first f shades fixed
--   bad_group_count f   the test of 4 BAD COUNT: the coordinates are not those of 1 to 64 shades, or none is free
--   group_rows_fixed f  the tests of the call in its order, with their refusals
--   palette_from_groups_fixed f  the outcome of the call
pub mod Outcomes
unfoldable pub use Outcomes.{channel_group, short_rooms, group_rows, made_by_groups, palette_from_groups}
pub mod Fixed
unfoldable pub use Fixed.{bad_group_count, group_rows_fixed, palette_from_groups_fixed}
