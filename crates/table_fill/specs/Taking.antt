-- What the functions that take pixels of a strip ask and answer.
use Rattle.std.specs.Prelude.{ℕ, ◌+◌, ◌*◌, ◌≤◌, ◌≡◌, List, length, take}
use Rattle.colour.specs.{most_pixels}
use Rattle.table_entries.specs.{Entry, entries, keys_into, weights_into, pixels_of, taken_of, with_taken}
use Rattle.table_channels.specs.{ChannelSums, channel_sums}
use Rattle.table_pixel.specs.{Standing}

-- a sound table stands in the slices, the strip has at least `end` pixels, and the table's total has place for them
pub record Able (used room : ℕ) (ks ws s : List ℕ) (end : ℕ) : Type 0 where
  pub table : Standing used room ks ws
  pub total : pixels_of (entries used ks ws) + end ≤ most_pixels
  pub bytes : 3 * end ≤ length s

-- the pixels ps were taken into the table es as far as they go in: `taken` of them, whose levels are `sums`, `used`
-- entries then, and the slices have that table
pub record TookMeets (room : ℕ) (es : List Entry) (ps ks ws : List ℕ) (used taken : ℕ) (sums : ChannelSums)
    (ks' ws' : List ℕ) : Type 0 where
  pub taken_is : taken ≡ taken_of room es ps
  pub used_is : used ≡ length (with_taken room es ps)
  pub sums_are : sums ≡ channel_sums (take taken ps)
  pub keys_are : ks' ≡ keys_into (with_taken room es ps) ks
  pub weights_are : ws' ≡ weights_into (with_taken room es ps) ws
