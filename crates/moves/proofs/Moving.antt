-- The sums that a grouping leaves say where the shades move, by any rule that goes by coordinates.
use Prim.Native.Nat.{ℕ, ◌+◌, ◌*◌, ◌/◌, ◌%◌, ◌≤◌, ◌<◌}
use mathlib.Core.Bool.{not}
use mathlib.Core.List.{List}
use mathlib.Core.Path.{◌≡◌, sym, ap, ◌∙◌}
use native.Mathlib.Omega.{arith}
use Rattle.number.specs.{fill, how_many}
use Rattle.number.proofs.Fills.{fill-same}
use Rattle.number.proofs.Tallies.{how_many-same}
use Rattle.colour.specs.{Point}
use Rattle.shades.specs.{most_shades, most_coordinates, shade_at, coordinate_of, laid, same_place}
use Rattle.shades.proofs.Laying.{coordinate-at, coordinate-read, first-coordinate}
use Rattle.table_entries.specs.{Tabled}
use Rattle.method.specs.{Rule, Move, Goes, Colours, colours_of, group_of}
use Rattle.method.proofs.Axes.{sums-in-sixteenths}
use Rattle.group_sums.specs.{Summed}
use Rattle.group_sums.proofs.Parts.{pixels_are, levels-are}
use Rattle.moves.specs.Reading.{goes, stays}

module _ (used : ℕ) (ks ws : List ℕ) (t : Tabled used ks ws)
    (m : ℕ → ℕ) (sums : List ℕ) (h : Summed m ks ws used sums) where
  -- the group of shade q
  abbrev group : ℕ → Colours
  group q = group_of (colours_of used ks ws) m q

  module _ {rule : Rule} {move : Move} (by : Goes rule move) where
    -- where shade q moves
    abbrev moved : List ℕ → ℕ → Point
    moved s q = rule q (group q) (shade_at s q)

    -- coordinate n goes where the rule has it
    goes_moved : (s : List ℕ) (n : ℕ) → n < most_coordinates
        → goes move sums s n ≡ coordinate_of (λ q. rule q (group_of (colours_of used ks ws) m q) (shade_at s q)) n
    goes_moved s n l =
        let below : n / 3 < most_shades = omega arith in
        sym (by.on_axis (n / 3) (group (n / 3)) (shade_at s (n / 3)) (n % 3)
        ∙ rw (
          coordinate-read s n,
          sums-in-sixteenths used ks ws m (n / 3) (n % 3),
          pixels_are used ks ws t m sums h (n / 3) below,
          levels-are used ks ws t m sums h (n % 3) (n / 3) below,
        ))

    -- the shades that the moves leave
    pub moves-laid : (s : List ℕ) (k : ℕ) → k ≤ most_shades
        → fill (3 * k) (goes move sums s) s ≡ laid k (λ q. rule q (group_of (colours_of used ks ws) m q) (shade_at s q))
        s
    moves-laid s k few =
        fill-same (3 * k) (goes move sums s) (coordinate_of (moved s)) s (λ n l. goes_moved s n (omega arith))

    -- a shade stays exactly where the move leaves it in its place
    stays-is : (s : List ℕ) (q : ℕ) → q < most_shades → stays move sums s q ≡ same_place (moved s q) (shade_at s q)
    stays-is s q l =
        rw (
          goes_moved s (3 * q) (omega arith) ∙ first-coordinate (moved s) q,
          goes_moved s (3 * q + 1) (omega arith) ∙ coordinate-at (moved s) q 1 (omega arith),
          goes_moved s (3 * q + 2) (omega arith) ∙ coordinate-at (moved s) q 2 (omega arith),
        )

    -- as many shades move
    pub movers-are : (s : List ℕ) (k : ℕ) → k ≤ most_shades
        → how_many k (λ q. not (stays move sums s q))
        ≡ how_many k (λ q. not (same_place (rule q (group_of (colours_of used ks ws) m q) (shade_at s q))
        (shade_at s q)))
    movers-are s k few = how_many-same k _ _ (λ q l. ap not (stays-is s q (omega arith)))
