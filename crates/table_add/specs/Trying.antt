-- What the functions that add pixels ask and answer. They try: the table has the pixels unless it would have more
-- entries than the room, and is then as it was; the number of entries with them says which.
use Rattle.std.specs.Prelude.{ℕ, ◌+◌, ◌*◌, ◌≤◌, ◌<◌, ◌≡◌, List, length, take, drop}
use Rattle.colour.specs.{most_pixels}
use Rattle.table_entries.specs.{entries, pixels_of, strip_keys, put_all}
use Rattle.table_channels.specs.{ChannelSums, channel_sums}
use Rattle.table_pixel.specs.{Standing, laid_keys, laid_weights}

-- the strip has `most` pixels from `from` on, at least one, and the table's total has place for them
pub record Addable (used room : ℕ) (ks ws s : List ℕ) (from most : ℕ) : Type 0 where
  pub table : Standing used room ks ws
  pub total : pixels_of (entries used ks ws) + most ≤ most_pixels
  pub some : 0 < most
  pub bytes : 3 * (from + most) ≤ length s

-- n pixels of the strip, from `from` on
abbrev pub piece : List ℕ → ℕ → ℕ → List ℕ
piece s from n = take n (drop from (strip_keys s))

-- n pixels were tried, `next` is the number of entries with them, `sums` are their levels, and the slices have them if
-- they go in
pub record Tried (used room : ℕ) (ks ws s : List ℕ) (from most next n : ℕ) (sums : ChannelSums) (ks' ws' : List ℕ)
    : Type 0 where
  pub some : 0 < n
  pub within : n ≤ most
  pub used_is : next ≡ length (put_all (entries used ks ws) (piece s from n))
  pub sums_are : sums ≡ channel_sums (piece s from n)
  pub keys_are : ks' ≡ laid_keys room (put_all (entries used ks ws) (piece s from n)) ks
  pub weights_are : ws' ≡ laid_weights room (put_all (entries used ks ws) (piece s from n)) ws
