-- The table comes out as written, by computation.
use mathlib.Core.Bool.{true}
use mathlib.Core.Path.{◌≡◌, refl}
use Rattle.number.specs.{sq, how_many, first_that, first_best, numbers_below}
use Rattle.colour.specs.{distance}
use Rattle.grammar.specs.{is_digit, decimal, number_at}
use Rattle.palette_twins.specs.{twins_of}
use Rattle.p6_gap.specs.{is_white, ends_comment, comment_end, white_end, gap_from}
use Rattle.p6_header.specs.{field_at, header_of}
use Rattle.sheets.specs.{all_hold}
use Rattle.scope.specs.Table.{scope_table}
use Rattle.scope.specs.Fixed.{scope_table_fixed}

-- every line at once
pub table-holds : all_hold scope_table ≡ true
unfolding sq how_many first_that numbers_below distance twins_of is_digit decimal number_at is_white ends_comment
    comment_end
    white_end gap_from field_at header_of
table-holds = refl

-- and every line of fixed shades
pub table-holds-fixed : all_hold scope_table_fixed ≡ true
unfolding sq how_many first_best distance
table-holds-fixed = refl
