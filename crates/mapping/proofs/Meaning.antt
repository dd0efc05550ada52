-- What the tests of a mapping mean, what is refused, and what an accepted call leaves.
use Prim.Native.Nat.{ℕ, ◌+◌, ◌≤◌, ◌<◌}
use mathlib.Core.Bool.{true}
use mathlib.Core.List.{List}
use mathlib.Core.Logic.{◌↔◌}
use mathlib.Core.Path.{◌≡◌, refl, ap}
use native.Mathlib.Omega.{arith}
use lib.ListN.{length, get_or}
use borrow.Author.Tests.{ltb-true, lt-ltb, ltb-false}
use Rattle.number.specs.{fill_from}
use Rattle.number.proofs.Parts.{from_at, from-before, from-behind, from-length}
use Rattle.std.specs.Prelude.{None}
use Rattle.refusal.specs.{RefusesBy}
use Rattle.refusal.proofs.By.{refuses_by}
use Rattle.colour.specs.{most_pixels}
use Rattle.map_blocks.specs.{pixel_count, entry_for}
use Rattle.mapping.specs.Outcomes.{
  many_pixels,
  short_index,
  map_rows,
  MapOutcome,
  refusal_in,
  made_map,
  kept_map,
  map_strip,
}

-- ---- the tests

-- more than 16,777,216 pixels
pub many-pixels-exactly : (s : List ℕ) → (many_pixels s ≡ true) ↔ (most_pixels < pixel_count s)
many-pixels-exactly s = (ltb-true _ _, lt-ltb _ _)

-- the stretch's first place plus the strip's pixels above the index length, as whole numbers
pub short-index-exactly : (s d : List ℕ) (a : ℕ) → (short_index s d a ≡ true) ↔ (length d < a + pixel_count s)
short-index-exactly s d a = (ltb-true _ _, lt-ltb _ _)

module _ (s p d : List ℕ) (a : ℕ) where
  -- ---- refusals

  -- mapping refuses by its rows: it is made, or its refusal answered with the twins told, and the index picture stays
  pub map-refuses : RefusesBy (map_rows s p d a) (map_strip s p d a) (λ o. refusal_in o.answer) (made_map s p d a)
      (kept_map p d)
  unfolding map_strip
  map-refuses = refuses_by _ _ _ _ refl (λ n. refl)

  -- ---- the index picture of an accepted call

  module _ (ok : refusal_in (map_strip s p d a).answer ≡ None) where
    -- its stretch is filled
    index_is : (map_strip s p d a).index ≡ fill_from a (pixel_count s) (entry_for p s) d
    index_is = ap (λ (o : MapOutcome). o.index) (map-refuses.accepted_is ok)

    -- the stretch lies within it
    pub stretch-within : a + pixel_count s ≤ length d
    stretch-within =
        let none = map-refuses.accepted_exactly.0 ok in
        ltb-false (length d) (a + pixel_count s) none.1.1.1.1.0

    -- each pixel's byte is the number of its entry
    pub index_at : (i : ℕ) → i < pixel_count s → get_or (map_strip s p d a).index (a + i) 0 ≡ entry_for p s i
    index_at i h = rw index_is (from_at a (pixel_count s) i (entry_for p s) d h (omega (arith, stretch-within)))

    -- bytes before the stretch stay
    pub index-before : (i : ℕ) → i < a → get_or (map_strip s p d a).index i 0 ≡ get_or d i 0
    index-before i h = rw index_is (from-before a (pixel_count s) i (entry_for p s) d h)

    -- and so do bytes behind it
    pub index-behind : (i : ℕ) → a + pixel_count s ≤ i → get_or (map_strip s p d a).index i 0 ≡ get_or d i 0
    index-behind i h = rw index_is (from-behind a (pixel_count s) i (entry_for p s) d h)

    -- the picture stays as long
    pub index-length : length (map_strip s p d a).index ≡ length d
    index-length = rw index_is (from-length a (pixel_count s) (entry_for p s) d)
