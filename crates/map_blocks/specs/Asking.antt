-- What the strip mapper asks.
use Rattle.std.specs.Prelude.{ℕ, ◌*◌, ◌≤◌, ◌<◌, List, ◌≡◌, length}
use Rattle.colour.specs.{most_coordinate, most_pixels}
use Rattle.shades.specs.{most_shades}
use Rattle.map_errors.specs.{Errors}
use Rattle.map_blocks.specs.Meaning.{entry_count}

-- no error is above that of 16,777,216 pixels
pub record SmallErrors (a : Errors) : Type 0 where
  pub red_small : a.red ≤ most_coordinate * most_coordinate * most_pixels
  pub green_small : a.green ≤ most_coordinate * most_coordinate * most_pixels
  pub blue_small : a.blue ≤ most_coordinate * most_coordinate * most_pixels

-- a strip of n pixels, at most 16,777,216, and a palette of 1 to 64 entries
pub record Mappable (strip palette : List ℕ) (n : ℕ) : Type 0 where
  pub pixels : length strip ≡ 3 * n
  pub few : n ≤ most_pixels
  pub entries : length palette ≡ 3 * entry_count palette
  pub some : 0 < entry_count palette
  pub at_most : entry_count palette ≤ most_shades
