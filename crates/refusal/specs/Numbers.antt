-- The refusals by name, and the number that the tables of documents 01 and 02 give to each.
use Rattle.std.specs.Prelude.{ℕ, Option, None, Some}
pub use Rattle.refusal.specs.declared.Refusal.{Refusal}
pub use Rattle.refusal.specs.declared.Refusal.TheVariants.{
  BadStrip,
  BadTable,
  Full,
  BadCount,
  FewColours,
  BadLimit,
  ShortRoom,
  BadCentre,
  BadMember,
  BadPalette,
  ManyPixels,
  BadHeader,
  BadSize,
  BadDepth,
  BadRaster,
  TwinShade,
}

-- the number of a refusal
abbrev pub number_of : Refusal → ℕ
number_of BadStrip = 1
number_of BadTable = 2
number_of Full = 3
number_of BadCount = 4
number_of FewColours = 5
number_of BadLimit = 6
number_of ShortRoom = 7
number_of BadCentre = 8
number_of BadMember = 9
number_of BadPalette = 10
number_of ManyPixels = 11
number_of BadHeader = 12
number_of BadSize = 13
number_of BadDepth = 14
number_of BadRaster = 15
number_of TwinShade = 18

-- what a call answers in a refusal's place where it refuses nothing
abbrev pub done : ℕ
done = 0

-- the number that stands for a refusal or none
abbrev pub number_in : Option Refusal → ℕ
number_in None = done
number_in (Some refusal) = number_of refusal
