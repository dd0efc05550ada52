-- The entries of a palette of groups: what each is, that it is of levels, and that the sums of the groups give it.
use Prim.Native.Nat.{ℕ, zero, suc, ◌+◌, ◌*◌, ◌/◌, ◌%◌, ◌≤◌, ◌<◌}
use mathlib.Core.Bool.{Bool, true, false, cond}
use mathlib.Core.List.{List}
use mathlib.Core.Path.{◌≡◌, refl, sym, ap, ◌∙◌}
use native.Mathlib.Omega.{arith}
use lib.Dec.{ltb}
use lib.ListN.{get_or, length}
use borrow.Author.Tests.{lt-ltb, le-ltb}
use Rattle.number.specs.{fill, S, rounded_mean}
use Rattle.number.proofs.Fills.{fill-same}
use Rattle.colour.specs.{Within, most_level}
use Rattle.table_entries.specs.{Tabled}
use Rattle.shades.specs.{most_shades, most_coordinates, shade_at, axis, coordinate_of, OnGrid}
use Rattle.shades.proofs.Laying.{levels-within, coordinate-read, coordinate-at}
use Rattle.method.specs.{Colours, State, level_colours, on, pixels_in, group_at, to_mean}
use Rattle.method.proofs.Axes.{choice-axis, to-mean-axis, mean-axis, sum-axis}
use Rattle.method.proofs.Costs.{to-mean-moves, to-mean-stays, to-mean-within}
use Rattle.group_sums.specs.{Summed, member_at}
use Rattle.group_sums.proofs.Parts.{pixels_are, levels-are}
use Rattle.palette.specs.{level_of}
use Rattle.palette.proofs.Promises.{level-most}
use Rattle.palette_means.specs.Means.{shade_levels, group_entry, group_palette}
use Rattle.palette_means.specs.Reading.{level_by_sums}

-- ---- a shade's own levels

-- on one channel
own-axis : (s : List ℕ) (q e : ℕ) → axis e (shade_levels s q) ≡ level_of (axis e (shade_at s q))
own-axis s q zero = refl
own-axis s q (suc zero) = refl
own-axis s q (suc (suc e)) = refl

-- at a coordinate's place
own-level : (s : List ℕ) (n : ℕ) → coordinate_of (shade_levels s) n ≡ level_of (get_or s n 0)
own-level s n = own-axis s (n / 3) (n % 3) ∙ ap level_of (coordinate-read s n)

-- on channel e of shade q
own_at : (s : List ℕ) (q e : ℕ) → e < 3 → axis e (shade_levels s q) ≡ level_of (get_or s (3 * q + e) 0)
own_at s q e channel = sym (coordinate-at (shade_levels s) q e channel) ∙ own-level s (3 * q + e)

-- those of a shade on the grid are at most 255
own-within : (s : List ℕ) → OnGrid s → (q : ℕ) → Within most_level (shade_levels s q)
own-within s low q = record {
  r_low = level-most _ (low (3 * q));
  g_low = level-most _ (low (3 * q + 1));
  b_low = level-most _ (low (3 * q + 2));
}

-- ---- the entries

module _ (f used : ℕ) (ks ws : List ℕ) (a : State) where
  -- the group of shade q
  abbrev group : ℕ → Colours
  group q = group_at (level_colours used ks ws) a q

  -- the entry of a shade that is not fixed is by Lloyd's rule
  entry-of-free : (q : ℕ) → f ≤ q
      → group_entry f used ks ws a q ≡ to_mean q (group q) (shade_levels a.coordinates q)
  entry-of-free q free = rw (le-ltb q f free)

  -- with a group each channel is the rounded mean of the group's levels
  pub entry-of-group : (q e : ℕ) → f ≤ q → 0 < pixels_in (group_at (level_colours used ks ws) a q)
      → axis e (group_entry f used ks ws a q)
      ≡ rounded_mean (pixels_in (group_at (level_colours used ks ws) a q))
      (S (on (axis e) (group_at (level_colours used ks ws) a q)))
  entry-of-group q e free some =
      ap (axis e) (entry-of-free q free ∙ to-mean-moves q (group q) (shade_levels a.coordinates q) some)
      ∙ mean-axis (group q) e
      ∙ ap (rounded_mean (pixels_in (group q))) (sum-axis (group q) e)

  -- with none it is the level of the shade's coordinate
  pub entry-of-none : (q e : ℕ) → f ≤ q → pixels_in (group_at (level_colours used ks ws) a q) ≡ 0 → e < 3
      → axis e (group_entry f used ks ws a q) ≡ level_of (get_or a.coordinates (3 * q + e) 0)
  entry-of-none q e free none channel =
      ap (axis e) (entry-of-free q free ∙ to-mean-stays q (group q) (shade_levels a.coordinates q) none)
      ∙ own_at a.coordinates q e channel

  -- a fixed shade has it, group or none
  pub entry-of-fixed : (q e : ℕ) → q < f → e < 3
      → axis e (group_entry f used ks ws a q) ≡ level_of (get_or a.coordinates (3 * q + e) 0)
  entry-of-fixed q e fixed channel = rw (lt-ltb q f fixed) (own_at a.coordinates q e channel)

  -- an entry is of levels
  pub entry-within : OnGrid a.coordinates → (q : ℕ) → Within most_level (group_entry f used ks ws a q)
  entry-within low q = go (ltb q f)
    where
      own : Within most_level (shade_levels a.coordinates q)
      own = own-within a.coordinates low q

      go : (b : Bool) → Within most_level (cond b (shade_levels a.coordinates q)
          (to_mean q (group q) (shade_levels a.coordinates q)))
      go true = own
      go false =
          to-mean-within most_level q (group q) (shade_levels a.coordinates q)
          (levels-within most_level (omega arith) ks) own

  -- ---- by the sums of the groups

  module _ (t : Tabled used ks ws) (sums : List ℕ) (h : Summed (member_at a.members) ks ws used sums) where
    -- coordinate n has the level of its entry
    level-is : (n : ℕ) → n < most_coordinates
        → level_by_sums f sums a.coordinates n ≡ coordinate_of (group_entry f used ks ws a) n
    level-is n l =
        let below : n / 3 < most_shades = omega arith in
        let own = shade_levels a.coordinates (n / 3) in
        sym (choice-axis (ltb (n / 3) f) (n % 3) own (to_mean (n / 3) (group (n / 3)) own)
        ∙ rw (
          to-mean-axis (n / 3) (group (n / 3)) own (n % 3),
          own-level a.coordinates n,
          pixels_are used ks ws t (member_at a.members) sums h (n / 3) below,
          levels-are used ks ws t (member_at a.members) sums h (n % 3) (n / 3) below,
        ))

    -- so all levels are those of the palette
    pub palette-by-sums : (d : List ℕ) → length a.coordinates ≡ 3 * (length a.coordinates / 3)
        → length a.coordinates ≤ most_coordinates
        → fill (length a.coordinates) (level_by_sums f sums a.coordinates) d ≡ group_palette f used ks ws a d
    palette-by-sums d whole few =
        fill-same (length a.coordinates) _ _ d (λ n l. level-is n (omega arith))
        ∙ ap (λ m. fill m (coordinate_of (group_entry f used ks ws a)) d) whole
