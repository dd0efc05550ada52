-- Glossary. The words of the tests stand in lloyd_tests/specs, their order in a run in lloyd_refusal/specs, those of
-- single rounds in lloyd_rounds/specs.
--   Ran                 the answer of a run
--   RunOutcome          the answer and both lent slices at exit
--   kept_run            the outcome of a refusal: its error, and no slice changes
--   made_ran rule       the answer where nothing is refused, by a rule
--   made_run rule       the outcome there
--   run_by              the outcome of a run by any rows, rule and given shades
--   run_with rule       the outcome of a run by a rule from the table's mean
--   run_of, jancey_run  the outcome of a run, and of Jancey's run
--   RunMeets            the contract: answer and slices are those of the outcome
--   AcceptedBy o        answer and slices are those of an accepted run of this outcome
--   AcceptedRun         answer and slices are those of a run that is accepted
--   AcceptedJancey      those of a Jancey run that is accepted
--   FarthestColour      a table colour is the farthest from its nearest shade, lowest key at a tie
--   left r members      the shades and the members that a run leaves
--   short_calls         what calls of short_round leave, each on what the one before left
--   lent_start          where a run begins, three coordinates for each shade
--   distances_told      the distances that the answer of a round tells, none where it is refused
--   Stays o a total     a round is accepted and changes nothing, and answers this total
pub mod Outcomes
pub mod Beginning
pub mod Calling
unfoldable pub use Rattle.lloyd_tests.specs.{
  usual_limit,
  limit_of,
  bad_count,
  few_colours,
  bad_limit,
  short_members,
  short_totals,
  member_off,
  bad_member,
}
pub use Rattle.lloyd_rounds.specs.{Rounded, RoundOutcome, RoundMeets}
unfoldable pub use Rattle.lloyd_rounds.specs.{
  plain_rows,
  member_row,
  short_rows,
  kept_round,
  made_round,
  plain_round,
  short_round,
}
pub use declared.Ran.{Ran}
unfoldable pub use Rattle.lloyd_refusal.specs.{run_rows}
pub use Outcomes.{RunOutcome, RunMeets, AcceptedBy, AcceptedRun, AcceptedJancey}
unfoldable pub use Outcomes.{kept_run, made_ran, made_run, run_by, run_with, run_of, jancey_run, left}
pub use Beginning.{FarthestColour}
pub use Calling.{Stays}
unfoldable pub use Calling.{short_calls, lent_start, distances_told}
