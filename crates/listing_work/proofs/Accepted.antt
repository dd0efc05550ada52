-- What is never refused in a listing: adding the picture, and of the run's tests all but the count and the colours.
use Prim.Native.Nat.{ℕ, suc, ◌+◌, ◌*◌, ◌/◌, ◌≤◌}
use mathlib.Core.Bool.{Bool, true, false, ◌&&◌, ◌||◌}
use mathlib.Core.List.{List, [], ◌∷◌}
use mathlib.Core.Logic.{◌⊎◌, inl, inr}
use mathlib.Core.Path.{◌≡◌, refl, sym, ap, ◌∙◌}
use native.Mathlib.Omega.{arith}
use lib.Dec.{eqb}
use lib.ListN.{length}
use borrow.Author.Tests.{lt-leb, le-ltb}
use Rattle.std.specs.Prelude.{None}
use Rattle.number.specs.{sum}
use Rattle.refusal.specs.{Refusal, done, first_of, Given, BadCount, FewColours}
use Rattle.colour.specs.{Bytes, bad_strip, most_pixels}
use Rattle.colour.proofs.Strips.{whole-exactly}
use Rattle.table_entries.specs.{Entry, pixels_of, weight_of, stops, taken_of, strip_keys, put, with_taken}
use Rattle.table_entries.proofs.Gives.{give-length, give-pixels}
use Rattle.table_entries.proofs.Strips.{strip-length, byte-keys}
use Rattle.table_entries.proofs.Promises.{taken-within-limits}
use Rattle.table.specs.{Record, GoodTable, empty_record, room_of, full}
use Rattle.table.proofs.Promises.{accepted_exactly, bad-table-exactly, stays-good, after-taken}
use Rattle.p6.specs.{raster_of}
use Rattle.listing_test.specs.{most_listed, small_rows}
use Rattle.listing_test.proofs.Smalls.{small-raster, small-whole}
use Rattle.listing_work.specs.Works.{listed_zeros, listed_limit, listed_totals, table_of, run_tests}
use Rattle.lloyd.specs.{short_members, short_totals}
use Rattle.lloyd.proofs.Promises.{short-members-exactly}
use Rattle.number.proofs.Cases.{never}
use Rattle.listing_work.proofs.Rooms.{zeros-length}

-- a test joined by "and" with one that fails fails
and-false : (a : Bool) → (a && false) ≡ false
and-false true = refl
and-false false = refl

-- pixels that are fewer than the room and the most pixels all go in
all-taken : (room : ℕ) (ks : List ℕ) (es : List Entry) → length es + length ks ≤ room
    → pixels_of es + length ks ≤ most_pixels → taken_of room es ks ≡ length ks
all-taken room [] es a b = refl
all-taken room (k ∷ ks) es a b =
    let goes : stops room es k ≡ false =
    rw (lt-leb most_pixels (pixels_of es) (omega arith), lt-leb room (length es) (omega arith))
    (and-false (eqb (weight_of k es) 0)) in
    rw goes
    (ap suc (all-taken room ks (put k es) (omega (arith, give-length k 1 es)) (omega (arith, give-pixels k 1 es))))

-- there is room for 8,192 colours
room-is : room_of listed_zeros listed_zeros ≡ most_listed
room-is = rw zeros-length

-- an empty table is good in any slices
empty-good : (ks ws : List ℕ) → GoodTable empty_record ks ws
unfolding sum
empty-good ks ws = record {
  in_room = omega arith;
  rises = λ p q h l. absurd (omega arith);
  keys = λ p h. absurd (omega arith);
  weights = λ p h. absurd (omega arith);
  pixels = refl;
  most = omega arith;
  reds = refl;
  greens = refl;
  blues = refl;
}

module _ (p : List ℕ) (ok : first_of (small_rows p) ≡ done) where
  -- the raster is a whole strip
  pub raster-whole : bad_strip (raster_of p) ≡ false
  raster-whole = (whole-exactly (raster_of p)).1 (small-whole p ok)

  -- adding it is never refused: there is room for as many colours as it has pixels
  pub adding-accepted : (table_of p).answer.refusal ≡ None
  adding-accepted =
      let s = raster_of p in
      let whole = small-whole p ok in
      let few = small-raster p ok in
      let three : length s ≡ 3 * (length s / 3) = omega arith in
      let long : length (strip_keys s) ≡ length s / 3 = strip-length (length s / 3) s three in
      let all : taken_of (room_of listed_zeros listed_zeros) [] (strip_keys s) ≡ length (strip_keys s) =
      all-taken (room_of listed_zeros listed_zeros) (strip_keys s) [] (rw room-is (omega (arith, long)))
      (omega (arith, long)) in
      let same : length (strip_keys s) ≤ taken_of (room_of listed_zeros listed_zeros) [] (strip_keys s) =
      omega (arith, all) in
      let fits : full empty_record listed_zeros listed_zeros s ≡ false = le-ltb _ _ same in
      let good = (bad-table-exactly empty_record listed_zeros listed_zeros).1 (empty-good listed_zeros listed_zeros) in
      (accepted_exactly empty_record listed_zeros listed_zeros s).1 (raster-whole, (good, (fits, tt)))

  -- ---- the run

  module _ (bytes : Bytes (raster_of p)) (count : ℕ) where
    -- the table is good
    table-good : GoodTable (table_of p).answer.rec (table_of p).keys (table_of p).weights
    table-good = stays-good empty_record listed_zeros listed_zeros (raster_of p) bytes
        (empty-good listed_zeros listed_zeros)

    -- it has at most 8,192 entries
    pub few-entries : (table_of p).answer.rec.used ≤ most_listed
    few-entries =
        let s = raster_of p in
        let good = (bad-table-exactly empty_record listed_zeros listed_zeros).1 (empty-good listed_zeros listed_zeros)
        in
        let after = after-taken empty_record listed_zeros listed_zeros s raster-whole good in
        let used : (table_of p).answer.rec.used ≡ length (with_taken (room_of listed_zeros listed_zeros) []
        (strip_keys s)) =
        ap (λ (r : Record). r.used) after.1 ∙ ap (λ (es : List Entry). length es) after.0 in
        let room = (taken-within-limits (room_of listed_zeros listed_zeros) [] (byte-keys s bytes) refl (omega arith)
        (omega arith)).0 in
        omega (arith, used, room, room-is)

    -- so there is a member for each, and a total for each of 20 rounds
    room-enough : (short_members (table_of p).answer.rec listed_zeros || short_totals listed_limit listed_totals) ≡
        false
    room-enough =
        rw ((short-members-exactly (table_of p).answer.rec listed_zeros).1 (omega (arith, few-entries, zeros-length)))

    -- so a run on it is refused by the count or for want of colours alone
    pub run-refusals : (n : Refusal) → Given (run_tests p count) n → (n ≡ BadCount) ⊎ (n ≡ FewColours)
    run-refusals n (inl (t, e)) = never (sym t ∙ (bad-table-exactly _ _ _).1 table-good)
    run-refusals n (inr (f, inl (t, e))) = inl (sym e)
    run-refusals n (inr (f, inr (g, inl (t, e)))) = inr (sym e)
    run-refusals n (inr (f, inr (g, inr (h, inl (t, e))))) = never (sym t)
    run-refusals n (inr (f, inr (g, inr (h, inr (i, inl (t, e)))))) = never (sym t ∙ room-enough)
    run-refusals n (inr (f, inr (g, inr (h, inr (i, inr (j, none)))))) = absurd none
