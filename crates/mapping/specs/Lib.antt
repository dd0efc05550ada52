-- Glossary.
--   Mapped                  error, errors, mean, means: the answer
--   Unmapped                refusal, twins: the answer of a refused call
--   many_pixels             the test of 11 MANY PIXELS
--   short_index             the test of 7 SHORT ROOM of a mapping
--   map_rows                the tests in their order, with their refusals
--   MapOutcome              the answer and the index picture at exit
--   answer_with, answer_of  answers with the figures of their errors
--   twins_told              the twins that a refusal tells: the palette's with TWIN SHADE, else none
--   unmapped                the answer of a refused call: the refusal, and the twins that it tells
--   refusal_in              the refusal of an answer, if it is refused
--   answered_twins          the twins that an answer tells: none where it is accepted
--   mapped_in               the errors and figures of an answer: zeros and "no pixels" where it is refused
--   made_map, kept_map      the outcome where nothing is refused, and where something is
--   map_strip               the outcome of a call
--   MapMeets                the contract: answer and index picture are those of the outcome
--   OfEachError             a fact of each of the four errors in an answer
--   OfEachFigure            the mean holds one figure, and a fact of each of the four figures and its own error
--   NoFigure                the mean says "no pixels", and the channel means are zeros
--   Pieced, in_strips       what calls one after the other leave: index picture and errors added up
--   left_by                 the same of one call
--   EachAccepted            every one of them is accepted
pub mod Outcomes
pub mod Pieces
pub use declared.Mapped.{Mapped}
pub use declared.Unmapped.{Unmapped}
unfoldable pub use Outcomes.{
  many_pixels,
  short_index,
  map_rows,
  answer_with,
  answer_of,
  twins_told,
  unmapped,
  refusal_in,
  answered_twins,
  mapped_in,
  made_map,
  kept_map,
  map_strip,
}
pub use Outcomes.{MapOutcome, MapMeets, OfEachError, OfEachFigure, NoFigure}
unfoldable pub use Pieces.{left_by, in_strips, EachAccepted}
pub use Pieces.{Pieced}
