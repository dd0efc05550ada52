-- The mean of a table by its record: what is asked for it, and that it is the rounded mean of the table's colours.
use Prim.Native.Nat.{ℕ, ◌*◌, ◌≤◌, ◌<◌}
use mathlib.Core.List.{List}
use mathlib.Core.Path.{◌≡◌}
use lib.ListN.{get_or}
use Rattle.number.specs.{sum}
use Rattle.colour.specs.{most_level, most_pixels}
use Rattle.table_test.specs.{Record, GoodTable}
use Rattle.table_test.proofs.Promises.{sums-at-most}
use Rattle.method.specs.{colours_of, mean_of}
use Rattle.starts.specs.{mean_by_sums}
use Rattle.starts.proofs.Means.{mean-by-sums}

module _ {rec : Record} {ks ws : List ℕ} (g : GoodTable rec ks ws) where
  -- what is asked for the mean of a table with a pixel
  pub mean-asked : 0 < sum rec.used (λ i. get_or ws i 0)
      → (0 < rec.pixels) × (rec.pixels ≤ most_pixels) × (rec.red ≤ most_level * rec.pixels)
      × (rec.green ≤ most_level * rec.pixels) × (rec.blue ≤ most_level * rec.pixels)
  mean-asked some =
      let low = sums-at-most rec ks ws g in
      (rw g.pixels some, g.most, low.0, low.1, low.2)

  -- the mean by the record's sums is that of the table's colours
  pub mean-of-record : mean_by_sums rec.pixels rec.red rec.green rec.blue
      ≡ mean_of (colours_of rec.used ks ws)
  mean-of-record = mean-by-sums rec.used ks ws g.pixels g.reds g.greens g.blues
