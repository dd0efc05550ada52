-- The numbers of a listing: the pixels of the shades add up to the picture's, the rounds are at most 20, every number
-- has at most 20 digits, and all entries differ.
use Prim.Native.Nat.{ℕ, suc, ◌+◌, ◌*◌, ◌/◌, ◌^◌, ◌≤◌, ◌<◌}
use mathlib.Core.List.{List}
use mathlib.Core.Path.{◌≡◌, sym, ◌∙◌, subst}
use native.Mathlib.Omega.{arith}
use lib.ListN.{length, get_or, take}
use lib.Seq.{get_or-drop}
use Rattle.number.specs.{sum}
use Rattle.refusal.specs.{done, first_of, NoneHolds}
use Rattle.refusal.proofs.Order.{none-front, none-back}
use Rattle.refusal.proofs.Promises.{done-exactly}
use Rattle.colour.specs.{Bytes}
use Rattle.grammar.specs.{most_decimal, digits_at}
use Rattle.palette_twins.specs.{AllDiffer}
use Rattle.std.proofs.Common.{Ok}
use Rattle.p6_header.specs.{header_of}
use Rattle.p6.specs.{Picture, width_in, height_in, start_in, read_picture, raster_of}
use Rattle.mapping.specs.{mapped_in}
use Rattle.p6.proofs.Promises.{raster-is-stretch}
use Rattle.listing_lines.specs.{Summary, mapped_to, field_at}
use Rattle.listing_lines.proofs.Fields.{lines-count, pixels-add, every-field, mapped-most}
use Rattle.listing_test.specs.{small_rows}
use Rattle.listing_test.proofs.Smalls.{small-accepted, small-pixels, small-raster}
use Rattle.listing_work.specs.{
  listed_limit,
  table_of,
  ran_on,
  palette_on,
  entries_on,
  mapped_raster,
  work_tests,
  summary_of,
  work_run,
}
use Rattle.listing_work.proofs.Works.{run-passed, run-count}
use Rattle.listing_work.proofs.Mapped.{
  entries-count,
  entries-bytes,
  index-count,
  index_below,
  table-pixels,
  rounds-most,
  head_small,
  error-small,
  listed-differ,
}
use Rattle.listing.specs.Refusals.{count_in, picture_in, input_rows, listing_rows}
use Rattle.listing.specs.Listings.{listing_lines}

module _ (p : List ℕ) (count : ℕ) (small : first_of (small_rows p) ≡ done) (ok : first_of (work_tests p count) ≡ done)
  where
    -- what is told besides the shades
    abbrev told : Summary
    told =
        summary_of (table_of p).answer.rec (ran_on p count)
        (mapped_in (mapped_raster (raster_of p) (palette_on p count).palette count).answer).error

    -- the palette of the shades
    abbrev palette : List ℕ
    palette = take (3 * count) (palette_on p count).palette

    -- the index picture
    abbrev index : List ℕ
    index = take (length (raster_of p) / 3) (mapped_raster (raster_of p) (palette_on p count).palette count).index

    -- there is a line for each shade, one before them and one behind
    lines-printed : length (listing_lines p count) ≡ count + 2
    unfolding work_run
    lines-printed = omega (arith, lines-count told palette index, entries-count p count small (run-passed p count ok))

    -- line 1 has the picture's pixels
    pixels-printed : field_at (listing_lines p count) 0 1 ≡ width_in (header_of p) * height_in (header_of p)
    unfolding work_run
    pixels-printed = table-pixels p count small ok ∙ small-pixels p small

    -- those of the shades add up to them
    shades-add : sum count (λ q. field_at (listing_lines p count) (suc q) 4) ≡ field_at (listing_lines p count) 0 1
    unfolding work_run
    shades-add =
        let entries = entries-count p count small (run-passed p count ok) in
        let places = index-count p count small ok in
        subst (λ k. sum k (λ q. field_at (listing_lines p count) (suc q) 4) ≡ (table_of p).answer.rec.pixels) entries
        (pixels-add told palette index
        (λ i h. omega (arith, entries, index_below p count small ok i (omega (arith, places))))
        ∙ places ∙ sym (table-pixels p count small ok))

    -- line 1 tells at most 20 rounds
    rounds-printed : field_at (listing_lines p count) 0 2 ≤ listed_limit
    unfolding work_run
    rounds-printed = rounds-most p count small ok

    -- every number has at most 20 digits
    numbers-small : Bytes (raster_of p) → (i j : ℕ) → field_at (listing_lines p count) i j < 10 ^ most_decimal
    unfolding work_run
    numbers-small bytes =
        every-field told palette index (λ n. n < 10 ^ most_decimal) (omega arith) (head_small p count small ok bytes)
        (λ q h. (
          omega (arith, entries-count p count small (run-passed p count ok), run-count p count (run-passed p count ok)),
          (
            byte (3 * q),
            (byte (3 * q + 1), (byte (3 * q + 2), (mapped q, tt))),
          ),
        )) (error-small p count small ok bytes)
      where
        byte : (i : ℕ) → get_or palette i 0 < 10 ^ most_decimal
        byte i = omega (arith, entries-bytes p count small (run-passed p count ok) i)

        mapped : (q : ℕ) → mapped_to index q < 10 ^ most_decimal
        mapped q = omega (arith, mapped-most index q, index-count p count small ok, small-raster p small)

-- ---- of an input

module _ (s : List ℕ) (none : NoneHolds (listing_rows s)) where
  -- the picture passes its tests
  small_of : first_of (small_rows (picture_in s)) ≡ done
  small_of =
      let rows = work_tests (picture_in s) (count_in s) in
      (done-exactly (small_rows (picture_in s))).1 (none-front (input_rows s) rows none).1.1

  -- run and mapping are accepted
  work-of : first_of (work_tests (picture_in s) (count_in s)) ≡ done
  work-of =
      let rows = work_tests (picture_in s) (count_in s) in
      (done-exactly rows).1 (none-back (input_rows s) rows none)

  -- the raster is bytes where the input is
  raster-bytes : Bytes s → Bytes (raster_of (picture_in s))
  raster-bytes bytes i =
      let p = picture_in s in
      let start = start_in (header_of p) in
      rw (
        raster-is-stretch p (small-accepted p small_of),
        get_or-drop start p i 0,
        get_or-drop (digits_at s 0 + 1) s (start + i) 0,
      ) (bytes (digits_at s 0 + 1 + (start + i)))

  -- a line for each shade, one before them and one behind
  pub lines-of-input : length (listing_lines (picture_in s) (count_in s)) ≡ count_in s + 2
  lines-of-input = lines-printed (picture_in s) (count_in s) small_of work-of

  -- the pixels of the shades add up to the picture's
  pub pixels-of-input : (let lines = listing_lines (picture_in s) (count_in s) in
      (sum (count_in s) (λ q. field_at lines (suc q) 4) ≡ field_at lines 0 1)
      × (picture : Picture) × (read_picture (picture_in s) ≡ Ok picture)
      × (field_at lines 0 1 ≡ picture.width * picture.height))
  pixels-of-input = (
    shades-add (picture_in s) (count_in s) small_of work-of,
    _,
    small-accepted (picture_in s) small_of,
    pixels-printed (picture_in s) (count_in s) small_of work-of,
  )

  -- the rounds are at most 20
  pub rounds-of-input : field_at (listing_lines (picture_in s) (count_in s)) 0 2 ≤ listed_limit
  rounds-of-input = rounds-printed (picture_in s) (count_in s) small_of work-of

  -- every number has at most 20 digits
  pub numbers-of-input : Bytes s → (i j : ℕ)
      → field_at (listing_lines (picture_in s) (count_in s)) i j < 10 ^ most_decimal
  numbers-of-input bytes = numbers-small (picture_in s) (count_in s) small_of work-of (raster-bytes bytes)

  -- all entries of the palette differ
  pub differ-of-input : AllDiffer (entries_on (picture_in s) (count_in s))
  differ-of-input = listed-differ (picture_in s) (count_in s) small_of work-of
