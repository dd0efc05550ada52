-- Glossary.
--   Rounded                   the answer of a single round
--   plain_rows, short_rows    the tests of each call in its order, with their refusals
--   member_row                the row that a shortened round has besides those of a plain one
--   RoundOutcome              the answer and both lent slices at exit
--   kept_round                the outcome of a refusal: its error, and no slice changes
--   made_round rule           the outcome where nothing is refused, by a rule
--   plain_round, short_round  the outcome of each call
--   RoundMeets                the contract: answer and slices are those of the outcome
pub mod Refusals
pub mod Outcomes
pub use declared.Rounded.{Rounded}
unfoldable pub use Refusals.{plain_rows, member_row, short_rows}
pub use Outcomes.{RoundOutcome, RoundMeets}
unfoldable pub use Outcomes.{kept_round, made_round, plain_round, short_round}
