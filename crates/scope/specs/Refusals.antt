-- Document 01, "Refusal numbers", and document 02: each refusal by name, and its number.
use Rattle.std.specs.Prelude.{List, [], ◌∷◌}
use Rattle.refusal.specs.{
  number_of,
  done,
  BadStrip,
  BadTable,
  Full,
  BadCount,
  FewColours,
  BadLimit,
  ShortRoom,
  BadCentre,
  BadMember,
  BadPalette,
  ManyPixels,
  BadHeader,
  BadSize,
  BadDepth,
  BadRaster,
  TwinShade,
}
use Rattle.sheets.specs.{Example}
use Rattle.scope.specs.Lines.{says}

-- the refusals, and what is answered where nothing is refused
abbrev pub refusals : List Example
refusals =
    says done 0
    ∷ says (number_of BadStrip) 1
    ∷ says (number_of BadTable) 2
    ∷ says (number_of Full) 3
    ∷ says (number_of BadCount) 4
    ∷ says (number_of FewColours) 5
    ∷ says (number_of BadLimit) 6
    ∷ says (number_of ShortRoom) 7
    ∷ says (number_of BadCentre) 8
    ∷ says (number_of BadMember) 9
    ∷ says (number_of BadPalette) 10
    ∷ says (number_of ManyPixels) 11
    ∷ says (number_of BadHeader) 12
    ∷ says (number_of BadSize) 13
    ∷ says (number_of BadDepth) 14
    ∷ says (number_of BadRaster) 15
    ∷ says (number_of TwinShade) 18
    ∷ []
