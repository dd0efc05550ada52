-- Glossary.
--   usual_limit     100, what a limit of 0 means
--   limit_of limit  the limit asked for
--   bad_count k     the test of 4 BAD COUNT of a run
--   no_free f k     of k shades, f of them fixed, none is free: 4 BAD COUNT too
--   few_colours     the test of 5 FEW COLOURS
--   bad_limit       the test of 6 BAD LIMIT
--   short_members, short_totals  the two parts of 7 SHORT ROOM
--   bad_member      the test of 9 BAD MEMBER
--   member_off      the member of an entry is not below the count
pub mod Tests
unfoldable pub use Tests.{
  usual_limit,
  limit_of,
  bad_count,
  no_free,
  few_colours,
  bad_limit,
  short_members,
  short_totals,
  member_off,
  bad_member,
}
