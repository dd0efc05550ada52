-- Glossary. Entry q of a palette has the bytes 3q, 3q + 1 and 3q + 2; a palette has a third as many entries as bytes.
--   Twins               lower, higher: the numbers of two equal entries
--   same_entry p i j    entries i and j are equal
--   equal_before p q    the number of the equal before entry q, q where none is
--   has_equal p q       entry q has an equal before it
--   higher_twin p       the first number that has an equal before it, the count of entries where none has
--   twin_shade p        the test of 18 TWIN SHADE
--   first_twins p       that number and its equal
--   twins_of p          these; none where all entries differ
--   no_twins            0 and 0
--   told_pair twins     the twins in numbers: 0 and 0 for none
--   TwoEqual p          two entries are equal, whichever they are
--   AreTwins p t        t is the pair with the smallest higher number
--   AllDiffer p         no two entries are equal
--   entry_key p q       the key of entry q
--   sites, site_of p q  1021, and the entry's key modulo that
pub mod Pairs
pub mod Sites
pub use declared.Twins.{Twins}
unfoldable pub use Pairs.{
  same_entry,
  equal_before,
  has_equal,
  higher_twin,
  twin_shade,
  first_twins,
  twins_of,
  no_twins,
  told_pair,
  AllDiffer,
}
pub use Pairs.{TwoEqual, AreTwins}
unfoldable pub use Sites.{entry_key, sites, site_of}
