-- The one table.
use Rattle.std.specs.Prelude.{List, ◌++◌}
use Rattle.sheets.specs.{Example}
use Rattle.scope.specs.Refusals.{refusals}
use Rattle.scope.specs.Constants.{constants}
use Rattle.scope.specs.Bounds.{bounds}
use Rattle.scope.specs.Comments.{comments}

-- refusals, constants, the tests at their boundaries, and headers with comments
abbrev pub scope_table : List Example
scope_table = refusals ++ constants ++ bounds ++ comments
