-- Glossary.
--   is_white               white bytes
--   hash                   `#`, which opens a comment
--   ends_comment, is_text  LF and CR, which end a comment; every other byte
--   text_at input at       the bytes of text of the comment that opens at `at`
--   text_end input at      where its text ends
--   comment_end input at   the place behind that comment
--   white_end input at     the place behind the white byte or the comment at `at`
--   gap_from, gap_end      the place behind so many of them, and behind all, from `at` on
--   White, Whites          one of them stands from one place to another; so many, or none
--   Gap                    what may stand between two parts of a header: one of them, or more
--   Unended                a comment opens here that never ends
--   GapRead                white bytes and comments are read from one place to another
--   replaced one bytes     the bytes with each comment replaced by one byte
pub mod Bytes
pub mod Gaps
pub mod Standing
pub mod Replacing
unfoldable pub use Bytes.{is_white, hash, ends_comment, is_text}
unfoldable pub use Gaps.{text_at, text_end, comment_end, white_end, gap_from, gap_end}
pub use Standing.{White, Whites, Gap, Unended, GapRead}
unfoldable pub use Replacing.{replaced_from, replaced}
