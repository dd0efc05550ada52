-- What the calls leave fits: at most 64 shades, and slices with room for shades and pixels.
use Prim.Native.Nat.{ℕ, ◌*◌, ◌/◌, ◌≤◌}
use mathlib.Core.List.{List}
use mathlib.Core.Logic.{inl, inr}
use mathlib.Core.Path.{◌≡◌, refl, ◌∙◌}
use native.Mathlib.Omega.{arith}
use lib.ListN.{length, take, replicate, length-replicate}
use Rattle.number.proofs.Fills.{fill-length}
use Rattle.number.proofs.Parts.{from-length}
use Rattle.std.specs.Prelude.{None}
use Rattle.refusal.specs.{done, first_of}
use Rattle.refusal.proofs.By.{none-or-some, to-number, refuses-by-all}
use Rattle.shades.specs.{most_coordinates}
use Rattle.method.specs.{State, front_of}
use Rattle.table.specs.{Record}
use Rattle.lloyd.specs.{left}
use Rattle.palette_groups.specs.{palette_from_groups}
use Rattle.palette_groups.proofs.Meaning.{groups-refuses}
use Rattle.mapping.specs.{map_strip}
use Rattle.mapping.proofs.Meaning.{map-refuses}
use Rattle.p6.specs.{raster_of}
use Rattle.listing_test.specs.{most_listed}
use Rattle.listing_work.specs.Works.{
  listed_zeros,
  table_of,
  run_on,
  ran_on,
  run_tests,
  palette_on,
  work_tests,
  work_run,
  made_work,
  work_picture,
  Fits,
  LeftFits,
}
use Rattle.listing_work.proofs.Works.{work-refuses, run-passed, run-count}

-- ---- the slices stay as long as they are lent

-- 8,192 zeros are as many
pub zeros-length : length listed_zeros ≡ most_listed
unfolding listed_zeros
zeros-length = length-replicate {A = ℕ} most_listed 0

-- the lent palette of groups stays as long
pub palette-length : (rec : Record) (ks ws : List ℕ) (a : State) (d : List ℕ)
    → length (palette_from_groups rec ks ws a d).palette ≡ length d
palette-length rec ks ws a d =
    refuses-by-all (groups-refuses rec ks ws a d) (λ o. length o.palette ≡ length d) (fill-length _ _ d) (λ n. refl)

-- so that of a picture has three bytes for each of 64 shades
pub picture-palette-length : (p : List ℕ) (count : ℕ) → length (palette_on p count).palette ≡ most_coordinates
picture-palette-length p count =
    palette-length (table_of p).answer.rec (table_of p).keys (table_of p).weights
    (front_of count (left (ran_on p count) (run_on p count).members)) (replicate most_coordinates 0)
    ∙ length-replicate {A = ℕ} most_coordinates 0

-- the index picture stays as long as it is lent
pub index-length : (s p d : List ℕ) (a : ℕ) → length (map_strip s p d a).index ≡ length d
index-length s p d a =
    refuses-by-all (map-refuses s p d a) (λ o. length o.index ≡ length d) (from-length a (length s / 3) _ d) (λ n. refl)

-- ---- what is left fits

-- an accepted run on a picture of at most 8,192 pixels leaves at most 64 shades, and slices that are as long as lent
made-fits : (p : List ℕ) (count : ℕ) → first_of (run_tests p count) ≡ done → length (raster_of p) / 3 ≤ most_listed
    → Fits (made_work p count)
unfolding work_run
made-fits p count ok small =
    let few = run-count p count ok in
    let bytes = picture-palette-length p count in
    let places = index-length (raster_of p) (take (3 * count) (palette_on p count).palette) listed_zeros 0 in
    record {
      few = few;
      palette = omega (arith, few, bytes);
      index = omega (arith, small, places, zeros-length);
    }

-- a picture of at most 8,192 pixels
pub picture-fits : (p : List ℕ) (count : ℕ) → length (raster_of p) / 3 ≤ most_listed → LeftFits (work_picture p count)
picture-fits p count small = elim (none-or-some (work_tests p count)) [
  | inl e ↦
      rw ((work-refuses p count).by_none e)
      (made-fits p count (run-passed p count (to-number (work_tests p count) None e)) small)
  | inr g ↦ rw ((work-refuses p count).by_refusal g.0 g.1) tt
]
