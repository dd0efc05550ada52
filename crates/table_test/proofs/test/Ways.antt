-- Each way out of the test of a table, on plain lists: what the answer is there.
use mathlib.Core.Path.{◌≡◌, refl, sym, ◌∙◌}
use mathlib.Core.Bool.{true, not, ◌&&◌, or-true, or-false}
use mathlib.Core.Logic.{inl, inr}
use mathlib.Core.List.{List}
use Prim.Native.Nat.{ℕ, ◌≤◌, ◌<◌}
use native.Mathlib.Omega.{arith}
use lib.Dec.{eqb}
use borrow.Author.Tests.{lt-ltb, le-ltb, eq-eqb, ne_eqb}
use Rattle.number.specs.{sum}
use Rattle.number.proofs.Cases.{bool}
use Rattle.colour.specs.{most_pixels, red_of, green_of, blue_of}
use Rattle.table_entries.specs.{entries, sound, Tabled}
use Rattle.table_entries.proofs.Slices.{entries-length}
use Rattle.table_entries.proofs.Rows.{pixels-sum, levels-sum}
use Rattle.table_sums.specs.{red_sum, green_sum, blue_sum, three_same}
use Rattle.table_test.specs.Tables.{room_of, record_of, same_record, bad_entries, bad_table}
use Rattle.table_test.specs.Testing.{weight_at}
use Rattle.table_test.specs.declared.Record.{Record}
use Rattle.table_test.proofs.test.Faultless.{Faultless, sound-of-faultless, unsound-of-fault}

-- used entries above the room are bad
pub bad-over-room : (rec : Record) (ks ws : List ℕ) → room_of ks ws < rec.used → bad_table rec ks ws ≡ true
bad-over-room rec ks ws h = simp (lt-ltb (room_of ks ws) rec.used h)

-- the used entries are within the room
pub record InRoom (rec : Record) (ks ws : List ℕ) : Type 0 where
  pub within : rec.used ≤ room_of ks ws

module _ {rec : Record} {ks ws : List ℕ} (r : InRoom rec ks ws) where
  -- entries whose weights come to no more pixels than a table has are a table's
  pub tabled-in-room : sum rec.used (weight_at ws) ≡ rec.pixels → rec.pixels ≤ most_pixels → Tabled rec.used ks ws
  tabled-in-room e l = record {
    keys_room = omega (arith, r.within);
    weights_room = omega (arith, r.within);
    few = omega (arith, r.within);
    pixels = omega (arith, e);
  }

  -- within the room it is the entries that make a table bad
  bad-in-room : bad_table rec ks ws ≡ bad_entries rec (entries rec.used ks ws)
  bad-in-room = simp (le-ltb (room_of ks ws) rec.used r.within)

  -- the sums of the used entries, as they lie
  abbrev reds : ℕ
  reds = red_sum rec.used ks ws

  abbrev greens : ℕ
  greens = green_sum rec.used ks ws

  abbrev blues : ℕ
  blues = blue_sum rec.used ks ws

  -- the record is that of the entries where the weights come to its pixels and the channels to its sums
  same-by-sums : same_record (record_of (entries rec.used ks ws)) rec
      ≡ (eqb (sum rec.used (weight_at ws)) rec.pixels
      && three_same reds greens blues rec.red rec.green rec.blue)
  same-by-sums =
      rw (
        entries-length rec.used ks ws (omega arith) (omega arith),
        pixels-sum rec.used ks ws (omega arith) (omega arith),
        levels-sum red_of rec.used ks ws (omega arith) (omega arith),
        levels-sum green_of rec.used ks ws (omega arith) (omega arith),
        levels-sum blue_of rec.used ks ws (omega arith) (omega arith),
        eq-eqb rec.used rec.used refl,
      )

  -- an empty table is bad where its record has pixels
  pub bad-of-pixels-alone : rec.used ≡ 0 → (rec.pixels ≡ 0 → ⊥) → bad_table rec ks ws ≡ true
  bad-of-pixels-alone e n = bad-in-room ∙ rw (e, ne_eqb 0 rec.pixels (λ q. n (sym q)))

  -- and else where it has a channel sum
  pub bad-of-empty : rec.used ≡ 0 → rec.pixels ≡ 0
      → bad_table rec ks ws ≡ not (three_same 0 0 0 rec.red rec.green rec.blue)
  bad-of-empty e z = bad-in-room ∙ rw (e, z) (or-false _)

  -- used entries with something at fault are bad
  pub bad-of-fault : (Faultless rec.used ks ws → ⊥) → bad_table rec ks ws ≡ true
  bad-of-fault fault =
      bad-in-room ∙ simp (unsound-of-fault rec.used ks ws (omega arith) (omega arith) fault)

  -- used entries whose weights do not come to the record's pixels are bad
  pub bad-of-sum : (sum rec.used (weight_at ws) ≡ rec.pixels → ⊥) → bad_table rec ks ws ≡ true
  bad-of-sum other = elim (bool (sound 0 (entries rec.used ks ws))) [
    | inl t ↦ bad-in-room ∙ rw (t, same-by-sums, ne_eqb (sum rec.used (weight_at ws)) rec.pixels other)
    | inr t ↦ bad-in-room ∙ rw t
  ]

  -- more pixels than a table holds are bad
  pub bad-of-many : most_pixels < rec.pixels → bad_table rec ks ws ≡ true
  bad-of-many l =
      bad-in-room
      ∙ rw (
        lt-ltb most_pixels rec.pixels l,
        or-true (not (same_record (record_of (entries rec.used ks ws)) rec)),
        or-true (not (sound 0 (entries rec.used ks ws))),
      )

  -- entries with nothing at fault, whose weights come to the record's pixels, none too many, are bad where a channel's
  -- sum is another
  pub bad-of-sums : Faultless rec.used ks ws → sum rec.used (weight_at ws) ≡ rec.pixels → rec.pixels ≤ most_pixels
      → bad_table rec ks ws ≡ not (three_same reds greens blues rec.red rec.green rec.blue)
  bad-of-sums f e l =
      bad-in-room
      ∙ rw (
        sound-of-faultless rec.used ks ws (omega arith) (omega arith) f,
        same-by-sums,
        eq-eqb (sum rec.used (weight_at ws)) rec.pixels e,
        le-ltb most_pixels rec.pixels l,
      ) (or-false _)
