-- A picture that passes its tests, and an accepted run on it: its palette is accepted, and its mapping unless two
-- entries are equal. Then the index picture has a number of a shade for every pixel, and every number that is told is
-- small.
use Prim.Native.Nat.{ℕ, ◌+◌, ◌*◌, ◌/◌, ◌^◌, ◌≤◌, ◌<◌}
use mathlib.Core.Bool.{Bool, true, false}
use mathlib.Core.List.{List}
use mathlib.Core.Logic.{◌↔◌, inl, inr}
use mathlib.Core.Path.{◌≡◌, sym, ◌∙◌}
use native.Mathlib.Omega.{arith}
use lib.ListN.{length, get_or, take, replicate, length-replicate}
use lib.Seq.{length-take-le, get_or-take}
use borrow.Author.Tests.{le-ltb}
use Rattle.number.specs.{bit}
use Rattle.number.proofs.Cases.{never}
use Rattle.number.proofs.Fills.{zeros-at}
use Rattle.number.proofs.Parts.{take-at-most}
use Rattle.std.specs.Prelude.{None}
use Rattle.std.specs.Result.{result_err}
use Rattle.refusal.specs.{Refusal, done, first_of, Given, TwinShade}
use Rattle.refusal.proofs.Promises.{done-exactly}
use Rattle.colour.specs.{Bytes, most_level, most_pixels}
use Rattle.table.specs.{empty_record}
use Rattle.table.proofs.Promises.{accepted-pixels}
use Rattle.shades.specs.{most_shades, most_coordinates, bad_coordinates}
use Rattle.shades.proofs.Checks.{bad-coordinates-exactly}
use Rattle.method.specs.{front_of}
use Rattle.lloyd.specs.{Ran, left}
use Rattle.lloyd.proofs.Promises.{
  bad-count-exactly,
  limit_is,
  rounds-within,
  total-most,
  distances-most,
}
use Rattle.palette_groups.proofs.Meaning.{groups-bytes}
use Rattle.palette_runs.proofs.Promises.{run-palette-accepted}
use Rattle.palette_twins.specs.{TwoEqual, AllDiffer}
use Rattle.palette_twins.proofs.Promises.{all-differ-exactly}
use Rattle.mapping.specs.{many_pixels, short_index, refusal_in, mapped_in}
use Rattle.mapping.proofs.Promises.{
  map-refused-exactly,
  map-accepted-exactly,
  twins-refused-exactly,
  entries-differ,
  index-is-nearest,
  errors-below,
}
use Rattle.p6.specs.{raster_of}
use Rattle.listing_lines.specs.{Summary, head_fields}
use Rattle.listing_lines.proofs.Fields.{Each}
use Rattle.listing_test.specs.{small_rows}
use Rattle.listing_test.proofs.Smalls.{small-raster}
use Rattle.listing_work.specs.Works.{
  listed_zeros,
  listed_limit,
  table_of,
  run_on,
  ran_on,
  run_tests,
  palette_on,
  entries_on,
  mapped_raster,
  map_tests,
  work_tests,
  summary_of,
}
use Rattle.listing_work.proofs.Accepted.{raster-whole, adding-accepted, few-entries}
use Rattle.listing_work.proofs.Rooms.{zeros-length, picture-palette-length, index-length}
use Rattle.listing_work.proofs.Works.{run-passed, map-passed, run_is}

-- a test as a number is small
bit-small : (t : Bool) → bit t < 10 ^ 20
bit-small true = omega arith
bit-small false = omega arith

module _ (p : List ℕ) (count : ℕ) (small : first_of (small_rows p) ≡ done) (ok : first_of (run_tests p count) ≡ done)
  where
    -- there are 1 to 64 shades
    count-within : (1 ≤ count) × (count ≤ most_shades)
    count-within = (bad-count-exactly count).0 ((done-exactly (run_tests p count)).0 ok).1.0

    -- three places for each are whole shades
    three-each : (l : List ℕ) → length l ≡ 3 * count → bad_coordinates (length l) ≡ false
    three-each l e =
        let within = count-within in
        (bad-coordinates-exactly (length l)).1 (omega (arith, e), omega (arith, e), omega (arith, e))

    -- ---- the palette

    -- there are three bytes for each shade
    palette_room : 3 * count ≤ length (replicate {A = ℕ} most_coordinates 0)
    palette_room = omega (arith, count-within.1, length-replicate {A = ℕ} most_coordinates 0)

    -- a palette of its groups is accepted
    pub palette-accepted : result_err (palette_on p count).answer ≡ None
    palette-accepted = run-palette-accepted (run_is p count ok) (replicate most_coordinates 0) palette_room

    -- it has three bytes for each shade
    palette-long : length (entries_on p count) ≡ 3 * count
    palette-long =
        length-take-le (3 * count) (palette_on p count).palette
        (omega (arith, count-within.1, picture-palette-length p count))

    -- so it has an entry for each
    pub entries-count : length (entries_on p count) / 3 ≡ count
    entries-count = omega (arith, palette-long)

    -- they are bytes
    pub entries-bytes : Bytes (entries_on p count)
    entries-bytes i =
        let each = groups-bytes (table_of p).answer.rec (table_of p).keys (table_of p).weights
        (front_of count (left (ran_on p count) (run_on p count).members)) (replicate most_coordinates 0)
        palette-accepted
        (λ j. omega (arith, zeros-at most_coordinates j)) in
        omega (arith, take-at-most (3 * count) most_level (palette_on p count).palette (λ j. omega (arith, each j)) i)

    -- ---- the mapping's tests

    -- the raster's pixels are few, and the index picture has room for them
    pixels-fit : (many_pixels (raster_of p) ≡ false) × (short_index (raster_of p) listed_zeros 0 ≡ false)
    pixels-fit =
        let few = small-raster p small in
        let room : 0 + length (raster_of p) / 3 ≤ length listed_zeros = omega (arith, zeros-length) in
        let most : length (raster_of p) / 3 ≤ most_pixels = omega arith in
        (le-ltb _ _ most, le-ltb _ _ room)

    -- mapping the raster to the palette is refused for twins alone
    pub mapping-refusals : (n : Refusal) → Given (map_tests p count) n → n ≡ TwinShade
    mapping-refusals n (inl (t, e)) = never (sym t ∙ raster-whole p small)
    mapping-refusals n (inr (f, inl (t, e))) = never (sym t ∙ three-each (entries_on p count) palette-long)
    mapping-refusals n (inr (f, inr (g, inl (t, e)))) = sym e
    mapping-refusals n (inr (f, inr (g, inr (h, inl (t, e))))) = never (sym t ∙ pixels-fit.0)
    mapping-refusals n (inr (f, inr (g, inr (h, inr (i, inl (t, e)))))) = never (sym t ∙ pixels-fit.1)
    mapping-refusals n (inr (f, inr (g, inr (h, inr (i, inr (j, none)))))) = absurd none

    -- so where all entries differ it is accepted
    pub mapping-accepted : AllDiffer (entries_on p count)
        → refusal_in (mapped_raster (raster_of p) (palette_on p count).palette count).answer ≡ None
    mapping-accepted unlike =
        (map-accepted-exactly (raster_of p) (entries_on p count) listed_zeros 0).1 (
          raster-whole p small,
          (
            three-each (entries_on p count) palette-long,
            ((all-differ-exactly (entries_on p count)).1 unlike, (pixels-fit.0, (pixels-fit.1, tt))),
          ),
        )

    -- and it is refused exactly where two are equal
    pub twins-exactly : Given (map_tests p count) TwinShade ↔ TwoEqual (entries_on p count)
    twins-exactly = (
      λ g.
          ((twins-refused-exactly (raster_of p) (entries_on p count) listed_zeros 0).0
          ((map-refused-exactly (raster_of p) (entries_on p count) listed_zeros 0 TwinShade).1 g)
          ).2,
      λ t.
          (map-refused-exactly (raster_of p) (entries_on p count) listed_zeros 0 TwinShade).0
          ((twins-refused-exactly (raster_of p) (entries_on p count) listed_zeros 0).1
          (raster-whole p small, three-each (entries_on p count) palette-long, t)),
    )

module _ (p : List ℕ) (count : ℕ) (small : first_of (small_rows p) ≡ done) (ok : first_of (work_tests p count) ≡ done)
  where
    -- the run's tests fail
    run_ok : first_of (run_tests p count) ≡ done
    run_ok = run-passed p count ok

    -- the run's answer
    abbrev ran : Ran
    ran = ran_on p count

    -- the pixels
    abbrev pixels : ℕ
    pixels = length (raster_of p) / 3

    -- ---- the mapping

    -- mapping the raster to the palette is accepted
    mapping-ok : refusal_in (mapped_raster (raster_of p) (palette_on p count).palette count).answer ≡ None
    mapping-ok =
        (map-accepted-exactly (raster_of p) (entries_on p count) listed_zeros 0).1
        ((done-exactly (map_tests p count)).0 (map-passed p count ok))

    -- so all entries differ
    pub listed-differ : AllDiffer (entries_on p count)
    listed-differ = entries-differ (raster_of p) (entries_on p count) listed_zeros 0 mapping-ok

    -- there is an index for each pixel
    pub index-count : length (take pixels (mapped_raster (raster_of p) (palette_on p count).palette count).index)
        ≡ pixels
    index-count =
        length-take-le pixels (mapped_raster (raster_of p) (palette_on p count).palette count).index
        (omega (
          arith,
          small-raster p small,
          index-length (raster_of p) (entries_on p count) listed_zeros 0,
          zeros-length,
        ))

    -- each is the number of a shade
    pub index_below : (i : ℕ) → i < pixels
        → get_or (take pixels (mapped_raster (raster_of p) (palette_on p count).palette count).index) i 0 < count
    index_below i h =
        let z : 0 + i ≡ i = omega arith in
        let near = index-is-nearest (raster_of p) (entries_on p count) listed_zeros 0 mapping-ok i h in
        rw (get_or-take pixels (mapped_raster (raster_of p) (palette_on p count).palette count).index i 0 h)
        (omega (arith, rw z at near.entry, entries-count p count small run_ok))

    -- ---- the numbers that are told

    -- the table has the picture's pixels
    pub table-pixels : (table_of p).answer.rec.pixels ≡ pixels
    table-pixels =
        omega (arith, accepted-pixels empty_record listed_zeros listed_zeros (raster_of p) (adding-accepted p small))

    -- the run made at most 20 rounds
    pub rounds-most : ran.rounds ≤ listed_limit
    rounds-most = omega (arith, (rounds-within (run_is p count run_ok)).1, (limit_is listed_limit).1 (omega arith))

    -- what is told besides the shades
    abbrev told : Summary
    told =
        summary_of (table_of p).answer.rec ran
        (mapped_in (mapped_raster (raster_of p) (palette_on p count).palette count).answer).error

    module _ (bytes : Bytes (raster_of p)) where
      -- the numbers of line 1 have at most 20 digits
      pub head_small : Each (λ n. n < 10 ^ 20) (head_fields told)
      head_small =
          let run = run_is p count run_ok in
          let few = small-raster p small in
          let few-rounds = rounds-most in (
            omega (arith, few-entries p small bytes count),
            (
              omega (arith, table-pixels),
              (
                omega arith,
                (bit-small ran.settled, (omega (arith, total-most run), (omega (arith, distances-most run), tt))),
              ),
            ),
          )

      -- and so has the error
      pub error-small : told.error < 10 ^ 20
      error-small =
          omega (
            arith,
            (errors-below (raster_of p) (entries_on p count) listed_zeros 0 mapping-ok bytes
                (entries-bytes p count small run_ok)
                ).whole,
          )
