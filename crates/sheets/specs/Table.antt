-- The sheets of document 01 as one table of examples: beside what the definitions give stands what is written there.
use Rattle.std.specs.Prelude.{ℕ, ◌+◌, ◌*◌, List, [], ◌∷◌, ◌++◌, replicate}
use Rattle.refusal.specs.{done}
use Rattle.table.specs.{empty_record, add_strip}
use Rattle.method.specs.{colours_of, least_of, mean_of, to_mean, state_of, short_distances, after, starts, flat, begin}
use Rattle.lloyd.specs.{plain_round, short_round, run_of}
use Rattle.palette.specs.{palette_from_shades}
use Rattle.palette_groups.specs.{palette_from_groups}
use Rattle.mapping.specs.{map_strip}
use Rattle.sheets.specs.Drawing.{
  drawing,
  keys_a,
  weights_a,
  palette_c,
  whole,
  record_a,
  weights_f,
  record_f,
  keys_g,
  weights_g,
  record_g,
  keys_h,
  weights_h,
  record_h,
  members,
  totals,
}
use Rattle.sheets.specs.Numbers.{
  add_sheet,
  round_sheet,
  run_sheet,
  palette_sheet,
  figure_row,
  map_sheet,
}
use Rattle.sheets.specs.Examples.{Example}

-- A. That picture's table: keys 0, 655360; weights 3, 1.
-- Nothing is refused, 4 pixels are taken, the red levels come to 10, and a place more of each slice keeps its value.
abbrev pub sheet_a : Example
sheet_a = record {
  computed = add_sheet (add_strip empty_record (replicate 3 7) (replicate 3 9) drawing);
  written = (done ∷ 4 ∷ []) ∷ (2 ∷ 4 ∷ 10 ∷ 0 ∷ 0 ∷ []) ∷ (keys_a ++ 7 ∷ []) ∷ (weights_a ++ 9 ∷ []) ∷ [];
}

-- B. One shade: (40,0,0), round total 19200, settled in 1 round, least cost 19200, times 4 pixels.
-- Two distances; answered shades past the count are zeros, members and totals past those filled keep their values.
abbrev pub sheet_b : Example
sheet_b = record {
  computed = run_sheet (run_of record_a keys_a weights_a 1 0 members totals)
      ++ (least_of (colours_of 2 keys_a weights_a) ∷ [])
      ∷ [];
  written = (done ∷ 1 ∷ 1 ∷ 2 ∷ 19200 ∷ [])
      ∷ (40 ∷ 0 ∷ 0 ∷ replicate 189 0)
      ∷ (0 ∷ 0 ∷ 8 ∷ [])
      ∷ (19200 ∷ replicate 99 5)
      ∷ ((4 * 19200) ∷ [])
      ∷ [];
}

-- C. Its palette (3,0,0); mapping error 76; figure 19.
-- The error is all red. A byte past the palette and the index bytes around the stretch keep their values. The palette
-- of the groups (document 02) is the same: the mean is 2 and a half, and a half goes up.
abbrev pub sheet_c : Example
sheet_c = record {
  computed = palette_sheet (palette_from_shades (40 ∷ 0 ∷ 0 ∷ []) (replicate 4 9))
      ++ palette_sheet
      (palette_from_groups record_a keys_a weights_a (state_of (40 ∷ 0 ∷ 0 ∷ []) (0 ∷ 0 ∷ 8 ∷ [])) (replicate 4 9))
      ++ map_sheet (map_strip drawing palette_c (replicate 6 8) 1);
  written = (done ∷ [])
      ∷ (palette_c ++ 9 ∷ [])
      ∷ (done ∷ [])
      ∷ (palette_c ++ 9 ∷ [])
      ∷ (done ∷ 76 ∷ 76 ∷ 0 ∷ 0 ∷ 0 ∷ 0 ∷ [])
      ∷ (1 ∷ [])
      ∷ figure_row (whole 19)
      ∷ figure_row (whole 19)
      ∷ figure_row (whole 0)
      ∷ figure_row (whole 0)
      ∷ (8 ∷ 0 ∷ 0 ∷ 0 ∷ 0 ∷ 8 ∷ [])
      ∷ [];
}

-- the distances that D's run works out in round r, counted from 0
abbrev pub distances_d : ℕ → ℕ
distances_d r =
    let colours = colours_of 2 keys_a weights_a in
    short_distances colours 2 (after to_mean colours 2 (begin colours 2 members) r)

-- D. Two shades: starts (40,0,0), (160,0,0); totals 4800, 0; distances 3, then 2.
-- The distances stand round by round, and added up in the run's answer. It settles in 2 rounds at (0,0,0), (160,0,0),
-- with a final total of 0.
abbrev pub sheet_d : Example
sheet_d = record {
  computed = starts (colours_of 2 keys_a weights_a) 2
      ∷ (distances_d 0 ∷ distances_d 1 ∷ [])
      ∷ run_sheet (run_of record_a keys_a weights_a 2 0 members totals);
  written = (40 ∷ 0 ∷ 0 ∷ 160 ∷ 0 ∷ 0 ∷ [])
      ∷ (3 ∷ 2 ∷ [])
      ∷ (done ∷ 2 ∷ 1 ∷ (3 + 2) ∷ 0 ∷ [])
      ∷ (0 ∷ 0 ∷ 0 ∷ 160 ∷ 0 ∷ 0 ∷ replicate 186 0)
      ∷ (0 ∷ 1 ∷ 8 ∷ [])
      ∷ (4800 ∷ 0 ∷ replicate 98 5)
      ∷ [];
}

-- E. D with limit 1: total 4800, not settled, final total 0.
abbrev pub sheet_e : Example
sheet_e = record {
  computed = run_sheet (run_of record_a keys_a weights_a 2 1 members totals);
  written = (done ∷ 1 ∷ 0 ∷ 3 ∷ 0 ∷ [])
      ∷ (0 ∷ 0 ∷ 0 ∷ 160 ∷ 0 ∷ 0 ∷ replicate 186 0)
      ∷ (0 ∷ 1 ∷ 8 ∷ [])
      ∷ (4800 ∷ replicate 99 5)
      ∷ [];
}

-- F. Weights 1 and 1 on the same colours, two shades: second start (0,0,0); totals 6400, 0.
-- Of two colours as far the second start has the lowest key.
abbrev pub sheet_f : Example
sheet_f = record {
  computed = starts (colours_of 2 keys_a weights_f) 2 ∷ run_sheet (run_of record_f keys_a weights_f 2 0 members totals);
  written = (80 ∷ 0 ∷ 0 ∷ 0 ∷ 0 ∷ 0 ∷ [])
      ∷ (done ∷ 2 ∷ 1 ∷ 6 ∷ 0 ∷ [])
      ∷ (160 ∷ 0 ∷ 0 ∷ 0 ∷ 0 ∷ 0 ∷ replicate 186 0)
      ∷ (1 ∷ 0 ∷ 8 ∷ [])
      ∷ (6400 ∷ 0 ∷ replicate 98 5)
      ∷ [];
}

-- G. Shades (0,0,0), (160,0,0), colour (5,0,0), former shade 1: joins 0, two distances.
-- Shade 0 is just four times as far from shade 1 as the colour is.
abbrev pub sheet_g : Example
sheet_g = record {
  computed = round_sheet
      (short_round record_g keys_g weights_g (state_of (0 ∷ 0 ∷ 0 ∷ 160 ∷ 0 ∷ 0 ∷ []) (1 ∷ 8 ∷ [])));
  written = (done ∷ 6400 ∷ 1 ∷ 2 ∷ []) ∷ (80 ∷ 0 ∷ 0 ∷ 160 ∷ 0 ∷ 0 ∷ []) ∷ (0 ∷ 8 ∷ []) ∷ [];
}

-- H. 17 pixels (10,0,0) and 15 of (11,0,0): R mean 168, palette byte 11.
-- That is the byte of the shade. The byte of its group is 10 (document 02): the exact mean is 10 and 15/32.
abbrev pub sheet_h : Example
sheet_h = record {
  computed = flat (mean_of (colours_of 2 keys_h weights_h))
      ∷ palette_sheet (palette_from_shades (168 ∷ 0 ∷ 0 ∷ []) (replicate 3 9))
      ++ palette_sheet
      (palette_from_groups record_h keys_h weights_h (state_of (168 ∷ 0 ∷ 0 ∷ []) (0 ∷ 0 ∷ [])) (replicate 3 9));
  written = (168 ∷ 0 ∷ 0 ∷ [])
      ∷ (done ∷ [])
      ∷ (11 ∷ 0 ∷ 0 ∷ [])
      ∷ (done ∷ [])
      ∷ (10 ∷ 0 ∷ 0 ∷ [])
      ∷ [];
}

-- I. A's table, shades (0,0,0) twice: both join 0, shade 1 stays.
-- A plain round, then a shortened one: it works out 4 distances too, as a twin of the former shade is another shade.
abbrev pub sheet_i : Example
sheet_i = record {
  computed = round_sheet (plain_round record_a keys_a weights_a (state_of (replicate 6 0) members))
      ++ round_sheet (short_round record_a keys_a weights_a (state_of (replicate 6 0) (0 ∷ 0 ∷ 8 ∷ [])));
  written = (done ∷ 25600 ∷ 1 ∷ 4 ∷ [])
      ∷ (40 ∷ replicate 5 0)
      ∷ (0 ∷ 0 ∷ 8 ∷ [])
      ∷ (done ∷ 25600 ∷ 1 ∷ 4 ∷ [])
      ∷ (40 ∷ replicate 5 0)
      ∷ (0 ∷ 0 ∷ 8 ∷ [])
      ∷ [];
}

-- the table: sheets A to I, from first to last
abbrev pub sheets : List Example
sheets =
    sheet_a ∷ sheet_b ∷ sheet_c ∷ sheet_d ∷ sheet_e ∷ sheet_f ∷ sheet_g ∷ sheet_h ∷ sheet_i ∷ []
