-- Laws of the public call: what the outcome is on each way out of `add_strip`.
use mathlib.Core.Path.{◌≡◌, sym, ap}
use mathlib.Core.Bool.{true, false, not}
use mathlib.Core.List.{List}
use Prim.Native.Nat.{ℕ, ◌+◌, ◌*◌, ◌/◌, ◌%◌, ◌≤◌, ◌<◌}
use native.Mathlib.Omega.{arith}
use lib.ListN.{length, take, length-take}
use borrow.Author.Tests.{lt-ltb, le-ltb, eq-eqb, ne_eqb}
use Rattle.std.specs.Prelude.{Option, Some, None}
use Rattle.refusal.specs.{Refusal, BadStrip, BadTable, Full}
use Rattle.number.specs.{sum_of}
use Rattle.table_entries.specs.{entries, pixels_of, levels_of, strip_keys, taken_of, with_taken}
use Rattle.table_entries.proofs.Gives.{put_all-levels}
use Rattle.table_entries.proofs.Strips.{strip-length}
use Rattle.table_entries.proofs.Takes.{taken-at-most, taken-few, taken-pixels}
use Rattle.colour.specs.{bad_strip, most_pixels, most_sum, red_of, green_of, blue_of}
use Rattle.table_channels.specs.{ChannelSums, SumsLow}
use Rattle.table_channels.proofs.Sums.{sums-low}
use Rattle.table_test.specs.{Record, room_of, record_of, bad_table}
use Rattle.table.specs.Refusals.{full}
use Rattle.table.specs.Outcomes.{refused, as_it_came, with_pixels, add_strip, AddMeets}
use Rattle.table_fill.specs.{TookMeets}
use Rattle.table.specs.declared.Added.{Added}
use Rattle.table_test.proofs.Goods.{good-of-test, table-of-good, sums-at-most, five-same}

module _ (rec : Record) (ks ws s : List ℕ) where
  -- ---- what the outcome is, by the tests

  -- 1
  pub outcome-bad-strip : bad_strip s ≡ true → add_strip rec ks ws s ≡ as_it_came (Some BadStrip) rec ks ws
  unfolding add_strip
  outcome-bad-strip a = simp a

  -- 2
  pub outcome-bad-table : bad_strip s ≡ false → bad_table rec ks ws ≡ true
      → add_strip rec ks ws s ≡ as_it_came (Some BadTable) rec ks ws
  unfolding add_strip
  outcome-bad-table a b = simp (a, b)

  -- 3
  pub outcome-full : bad_strip s ≡ false → bad_table rec ks ws ≡ false → full rec ks ws s ≡ true
      → add_strip rec ks ws s
      ≡ with_pixels (Some Full) (room_of ks ws) (entries rec.used ks ws) (strip_keys s) ks ws
  unfolding add_strip
  outcome-full a b c = simp (a, b, c)

  -- done
  pub outcome-done : bad_strip s ≡ false → bad_table rec ks ws ≡ false → full rec ks ws s ≡ false
      → add_strip rec ks ws s ≡ with_pixels None (room_of ks ws) (entries rec.used ks ws) (strip_keys s) ks ws
  unfolding add_strip
  outcome-done a b c = simp (a, b, c)

  -- ---- what each way out owes

  -- bytes not a multiple of 3
  pub meets-bad-strip : {r : Added} → (length s % 3 ≡ 0 → ⊥) → r ≡ refused (Some BadStrip) rec
      → AddMeets rec ks ws s r ks ws
  meets-bad-strip h e =
      let o = outcome-bad-strip (ap not (ne_eqb (length s % 3) 0 h)) in
      record { answer = rw o e; keys = rw o; weights = rw o }

  module _ (h : length s % 3 ≡ 0) where
    -- the strip is whole
    whole : bad_strip s ≡ false
    whole = ap not (eq-eqb (length s % 3) 0 h)

    -- a bad table
    pub meets-bad-table : {r : Added} → bad_table rec ks ws ≡ true → r ≡ refused (Some BadTable) rec
        → AddMeets rec ks ws s r ks ws
    meets-bad-table b e =
        let o = outcome-bad-table whole b in record { answer = rw o e; keys = rw o; weights = rw o }

    -- as many pixels as a third of the bytes
    count-is : length (strip_keys s) ≡ length s / 3
    count-is = strip-length (length s / 3) s (omega arith)

    -- the pixels taken
    module _ (b : bad_table rec ks ws ≡ false) {ks' ws' : List ℕ} {used taken : ℕ} {sums : ChannelSums}
        (t : TookMeets (room_of ks ws) (entries rec.used ks ws) (strip_keys s) ks ws used taken sums ks' ws') where
      -- no more than there are
      pub taken-small : taken ≤ length s / 3
      taken-small =
          omega (arith, t.taken_is, taken-at-most (room_of ks ws) (entries rec.used ks ws) (strip_keys s), count-is)

      -- with them the pixels are no more than a table has
      pub taken-few-enough : rec.pixels + taken ≤ most_pixels
      taken-few-enough =
          let g = good-of-test rec ks ws b in
          let e : pixels_of (entries rec.used ks ws) ≡ rec.pixels = ap (λ (r : Record). r.pixels) g.is in
          omega (
            arith,
            t.taken_is,
            taken-few (room_of ks ws) (entries rec.used ks ws) (strip_keys s) (omega (arith, g.most)),
          )

      -- and their sums are such as a table may have
      taken-sums-low : SumsLow sums
      taken-sums-low =
          rw t.sums_are
          (sums-low (take taken (strip_keys s)) (omega (arith, length-take taken (strip_keys s), taken-few-enough)))

      -- with those of the table before they stay far below the limit of their type
      pub sums-small : (rec.red + sums.red ≤ 2 * most_sum) × (rec.green + sums.green ≤ 2 * most_sum)
          × (rec.blue + sums.blue ≤ 2 * most_sum)
      sums-small =
          let g = good-of-test rec ks ws b in
          let before = sums-at-most (table-of-good rec ks ws g) in
          let low = taken-sums-low in (
            omega (arith, low.red_low, before.0, g.most),
            omega (arith, low.green_low, before.1, g.most),
            omega (arith, low.blue_low, before.2, g.most),
          )

      -- the record of the table with them
      abbrev after : Record
      after = record {
        used = used;
        pixels = rec.pixels + taken;
        red = rec.red + sums.red;
        green = rec.green + sums.green;
        blue = rec.blue + sums.blue;
      }

      after_is : after ≡ record_of (with_taken (room_of ks ws) (entries rec.used ks ws) (strip_keys s))
      after_is =
          let es = entries rec.used ks ws in
          let ps = strip_keys s in
          let is = (good-of-test rec ks ws b).is in
          let sums = t.sums_are in
          let more : (f : ℕ → ℕ) → levels_of f es + sum_of f (take taken ps) ≡ levels_of f
          (with_taken (room_of ks ws) es ps)
          = λ f. rw t.taken_is (sym (put_all-levels f es (take (taken_of (room_of ks ws) es ps) ps))) in
          five-same t.used_is
          (omega (arith, ap (λ (r : Record). r.pixels) is, t.taken_is, taken-pixels (room_of ks ws) es ps))
          (omega (arith, ap (λ (r : Record). r.red) is, ap (λ (x : ChannelSums). x.red) sums, more red_of))
          (omega (arith, ap (λ (r : Record). r.green) is, ap (λ (x : ChannelSums). x.green) sums, more green_of))
          (omega (arith, ap (λ (r : Record). r.blue) is, ap (λ (x : ChannelSums). x.blue) sums, more blue_of))

      -- the answer with this refusal or none is the outcome's
      answered : (n : Option Refusal)
          → add_strip rec ks ws s ≡ with_pixels n (room_of ks ws) (entries rec.used ks ws) (strip_keys s) ks ws
          → AddMeets rec ks ws s (record { refusal = n; taken = taken; rec = after }) ks' ws'
      answered n o = record {
        answer = rw (o, after_is, t.taken_is);
        keys = rw o t.keys_are;
        weights = rw o t.weights_are;
      }

      -- a pixel is left
      pub meets-full : taken < length s / 3
          → AddMeets rec ks ws s (record { refusal = Some Full; taken = taken; rec = after }) ks' ws'
      meets-full l =
          answered (Some Full) (outcome-full whole b
          (rw (← t.taken_is) (lt-ltb taken (length (strip_keys s)) (omega (arith, count-is)))))

      -- none is
      pub meets-done : length s / 3 ≤ taken
          → AddMeets rec ks ws s (record { refusal = None; taken = taken; rec = after }) ks' ws'
      meets-done l =
          answered None (outcome-done whole b
          (rw (← t.taken_is) (le-ltb taken (length (strip_keys s)) (omega (arith, count-is)))))
