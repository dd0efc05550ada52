-- Glossary. Shades lie in a list of coordinates, three by three: shade q has the places 3q, 3q + 1 and 3q + 2.
--   most_shades           64
--   most_coordinates      192, three for each of 64 shades
--   shade_at s q          shade q of the coordinates s
--   colour_at ks i        where the colour with the key at place i stands
--   levels_at ks i        that colour in whole levels
--   axis e p              coordinate e of a point: red, green, blue
--   coordinate_of f n     coordinate n of the shades f 0, f 1, ..
--   laid k f d            the shades f 0 .. f (k - 1) in front of d, the rest kept
--   put_shade s q p       s with shade q at p
--   same_place p q        two points have the same coordinates
--   OnGrid s              no coordinate is above 4080
--   Shades k s            room for k shades, at most 64, all on the grid
--   to_shade s c q        the distance from c to shade q
--   nearest_shade s k c   the nearest of k shades, the lowest number at a tie
--   tried s c p q         q is another shade than p, at most 4d from it, where d is the distance from c to p
--   LookedAt s k c p q    the shortened search from p looks at q: it is p, or tried
--   worked s k c p        the distances that the shortened search from p works out: 1, and one for each q tried
--   pack s c q            64 times that distance plus q: distance and number in one
--   packed_nearest s k c  the same of the nearest shade
--   bad_triples most n    n numbers are not 3 to most, or not a multiple of 3
--   bad_coordinates n     the test of 4 BAD COUNT for n lent coordinates
--   bad_centre s          the test of 8 BAD CENTRE
--   off_grid s i          coordinate i is above 4080
pub mod Places
pub mod Distances
pub mod Tests
unfoldable pub use Places.{
  most_shades,
  most_coordinates,
  shade_at,
  colour_at,
  levels_at,
  axis,
  coordinate_of,
  laid,
  put_shade,
  same_place,
  OnGrid,
}
pub use Places.{Shades}
unfoldable pub use Distances.{to_shade, nearest_shade, tried, LookedAt, worked, pack, packed_nearest}
unfoldable pub use Tests.{bad_triples, bad_coordinates, bad_centre, off_grid}
