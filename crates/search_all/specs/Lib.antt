-- Glossary.
--   scaled_at     the levels of a key's colour, each times a number
--   point_at      a point of those whose coordinates are laid out in three lists
--   RoomFor       three lists have room for the coordinates of so many points
--   PointsOnGrid  so many points are on the grid
--   looked_at     the least packed number so far, with one shade more looked at
pub mod Asking
pub use Asking.{RoomFor}
unfoldable pub use Asking.{scaled_at, point_at, PointsOnGrid, looked_at}
