-- Glossary.
--   Record        used, pixels, red, green, blue: how many entries are used, the pixel total, the three channel sums
--   room_of       the shorter of the two lent slices, capped at 1,048,576
--   record_of     the record of a table
--   empty_record  the record of an empty table
--   same_record   two records say the same; same_sums their channel sums
--   bad_table     the test of 2 BAD TABLE; bad_entries its part on the used entries
--   bad_counts    the same test with no look at the channel sums; other_sums the look at them alone
--   GoodTable     a good table, fact by fact
--   falls_at      a key that the next one is not above; empty_at a weight of 0; weight_at the weight at a place
pub mod Tables
pub mod Goods
pub mod Testing
pub use declared.Record.{Record}
unfoldable pub use Tables.{
  room_of,
  record_of,
  empty_record,
  same_sums,
  same_record,
  bad_entries,
  bad_table,
  bad_counts,
  other_sums,
}
pub use Goods.{GoodTable}
unfoldable pub use Testing.{falls_at, empty_at, weight_at}
