-- Glossary.
--   Entry, entry             a colour's key with its weight
--   entries n ks ws          the table in two slices: the first n keys with the first n weights
--   keys_of, weights_of      the two columns of a table
--   keys_into, weights_into  a table's columns laid into the fronts of slices, the rest kept
--   pixels_of                a table's pixel total
--   levels_of f              f of the keys added up, weights counted: a channel's sum where f is its level
--   weight_of c              the weight of colour c
--   sound low                keys rise strictly from `low` on and are keys; weights are at least 1
--   strip_keys               the keys of a strip's pixels
--   key_at s i               the key of the pixel whose bytes stand from place i on
--   count_of c               how many pixels have colour c
--   Keys                     all numbers of a list are keys
--   most_entries             1,048,576
--   give k w, put k          w pixels of colour k, one pixel of colour k, added to a table
--   put_all                  the pixels of a list, added from first to last
--   stops room es k          a pixel of colour k does not go into the table es
--   taken_of                 how many pixels of a list are taken
--   with_taken               the table with the pixels taken
--   Prefix                   so many pixels are the longest prefix of a list that goes in, pixel by pixel
--   Tabled n ks ws           n entries lie in two slices, no more of them and of their pixels than a table may have
pub mod Content
pub mod Strip
pub mod Adding
pub mod Lying
pub use Content.{Entry}
unfoldable pub use Content.{
  entry,
  entries,
  keys_of,
  weights_of,
  keys_into,
  weights_into,
  pixels_of,
  levels_of,
  weight_of,
  sound,
}
unfoldable pub use Strip.{strip_keys, key_at, count_of}
pub use Strip.{Keys}
unfoldable pub use Adding.{most_entries, give, put, put_all, stops, taken_of, with_taken}
pub use Adding.{Prefix}
pub use Lying.{Tabled}
