-- Glossary.
--   most_fixed         189, the most bytes of a fixed list
--   fixed_in fixed     how many shades are fixed
--   stock fixed        where they stand, three coordinates each
--   colours_left       how many used colours are unlike every fixed shade
--   bad_fixed          the test of 10 BAD PALETTE for a fixed list
--   bad_free           the test of 4 BAD COUNT of a run with fixed shades
--   few_left           the test of 5 FEW COLOURS of such a run
--   UsedKeys used ks   the used keys of a table: there, rising, each of a colour
--   key_at ks i        the key of entry i
--   fixed_key fixed q  the key of fixed shade q
--   among n f v        v is one of the first n values of f
--   has_equal fixed q  a fixed shade equal to shade q stands before it
--   takes_one          a fixed shade is a used colour, and has no equal before it
pub mod Stock
pub mod Keys
unfoldable pub use Stock.{most_fixed, fixed_in, stock, colours_left, bad_fixed, bad_free, few_left}
pub use Keys.{UsedKeys}
unfoldable pub use Keys.{key_at, fixed_key, among, has_equal, takes_one}
