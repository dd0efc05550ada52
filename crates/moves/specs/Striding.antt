-- How far a shade goes, as the rules on one coordinate are asked for it.
use Rattle.std.specs.Prelude.{Bool, true, false}
use Rattle.moves.specs.declared.Stride.{Stride}
use Rattle.moves.specs.declared.Stride.TheVariants.{ToMean, PastMean}

-- do the shades leap past their means?
abbrev pub leaps : Stride → Bool
leaps ToMean = false
leaps PastMean = true
