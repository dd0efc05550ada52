-- Glossary. How records and answers lie in arrays is said by the crate arrays.
--   AddCrosses, RoundCrosses, RunCrosses, PaletteCrosses, MapCrosses, PictureCrosses
--                     the contracts: number, arrays and slices are those of the outcome beneath
pub mod Crossing
pub use Crossing.{AddCrosses, RoundCrosses, RunCrosses, PaletteCrosses, MapCrosses, PictureCrosses}
