-- Glossary.
--   Refusal             the refusals by name: BadStrip, BadTable, .., BadRaster, TwinShade
--   number_of refusal   its number, from 1 on
--   done                0, the answer where nothing is refused
--   number_in refusal   the number that stands for a refusal or none
--   Row, row t r        a row of an order: the test t, and the refusal r given where it holds
--   first_refusal rows  the refusal of the first row whose test holds; none where none does
--   first_of rows       its number; done where none does
--   outcome_of rows made refused  the outcome of a call: `made`, or what `refused` says for that number
--   outcome_at refusal made refused  the outcome of a call: `made`, or what `refused` says for the refusal
--   outcome_by rows made refused  that at the refusal of the first row whose test holds
--   Given rows r        r is the refusal of the first row whose test holds
--   NoneHolds rows      no row's test holds
--   Refuses rows outcome number made left  a call refuses by an order: `made`, or what is `left` for the first refusal
--   RefusesBy rows outcome refusal made left  the same, where the outcome has the refusal itself
pub mod Numbers
pub mod Order
pub mod Calls
unfoldable pub use Numbers.{number_of, done, number_in}
pub use Numbers.{
  Refusal,
  BadStrip,
  BadTable,
  Full,
  BadCount,
  FewColours,
  BadLimit,
  ShortRoom,
  BadCentre,
  BadMember,
  BadPalette,
  ManyPixels,
  BadHeader,
  BadSize,
  BadDepth,
  BadRaster,
  TwinShade,
}
unfoldable pub use Order.{row, first_refusal, first_of, outcome_of, outcome_at, outcome_by, Given, NoneHolds}
pub use Order.{Row}
pub use Calls.{Refuses, RefusesBy}
