-- A good table, fact by fact: what BAD TABLE refuses is exactly what is none.
use Rattle.std.specs.Prelude.{ℕ, ◌≤◌, ◌<◌, ◌≡◌, List, get_or}
use Rattle.number.specs.{sum}
use Rattle.colour.specs.{most_key, most_pixels}
use Rattle.table_sums.specs.{red_sum, green_sum, blue_sum}
use Rattle.table_test.specs.Tables.{room_of}
use Rattle.table_test.specs.Testing.{weight_at}
use Rattle.table_test.specs.declared.Record.{Record}

-- keys strictly rising, weights at least 1, used entries within the room, a pixel total that equals the sum of the used
-- weights and is at most 16,777,216, and for each channel the sum of its levels over the used entries, weights counted
pub record GoodTable (rec : Record) (ks ws : List ℕ) : Type 0 where
  pub in_room : rec.used ≤ room_of ks ws
  pub rises : (p q : ℕ) → p < q → q < rec.used → get_or ks p 0 < get_or ks q 0
  pub keys : (p : ℕ) → p < rec.used → get_or ks p 0 ≤ most_key
  pub weights : (p : ℕ) → p < rec.used → 1 ≤ get_or ws p 0
  pub pixels : rec.pixels ≡ sum rec.used (weight_at ws)
  pub most : rec.pixels ≤ most_pixels
  pub reds : rec.red ≡ red_sum rec.used ks ws
  pub greens : rec.green ≡ green_sum rec.used ks ws
  pub blues : rec.blue ≡ blue_sum rec.used ks ws
