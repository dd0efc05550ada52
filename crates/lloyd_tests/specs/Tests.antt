-- When a round, a run or a palette of groups is refused for a count, a limit, a room or a member: one test a row of
-- document 01's table.
use Rattle.std.specs.Prelude.{ℕ, Bool, cond, ◌||◌, List, get_or, length, ltb, leb, eqb}
use Rattle.number.specs.{how_many}
use Rattle.table_test.specs.{Record}
use Rattle.shades.specs.{most_shades}
use Rattle.method.specs.{most_rounds}

-- what a limit of 0 means
abbrev pub usual_limit : ℕ
usual_limit = 100

-- the limit asked for
abbrev pub limit_of : ℕ → ℕ
limit_of limit = cond (eqb limit 0) usual_limit limit

-- BAD COUNT of a run: shades not 1 to 64
abbrev pub bad_count : ℕ → Bool
bad_count k = ltb k 1 || ltb most_shades k

-- BAD COUNT also: of k shades, of which f are fixed, none is left free
abbrev pub no_free : ℕ → ℕ → Bool
no_free f k = leb k f

-- FEW COLOURS: a run wants more shades than used entries
abbrev pub few_colours : Record → ℕ → Bool
few_colours rec k = ltb rec.used k

-- BAD LIMIT: round limit above 200
abbrev pub bad_limit : ℕ → Bool
bad_limit limit = ltb most_rounds limit

-- SHORT ROOM: members fewer than the used entries
abbrev pub short_members : Record → List ℕ → Bool
short_members rec ms = ltb (length ms) rec.used

-- SHORT ROOM: totals fewer than the round limit, which is 100 for 0
abbrev pub short_totals : ℕ → List ℕ → Bool
short_totals limit ts = ltb (length ts) (limit_of limit)

-- the member of entry i is not below the count
abbrev pub member_off : ℕ → List ℕ → ℕ → Bool
member_off k ms i = leb k (get_or ms i 0)

-- BAD MEMBER: a used entry's former shade number not below the count
abbrev pub bad_member : ℕ → ℕ → List ℕ → Bool
bad_member used k ms = ltb 0 (how_many used (member_off k ms))
