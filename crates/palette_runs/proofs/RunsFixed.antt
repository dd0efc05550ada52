-- The same with any number of fixed shades, of which there are fewer than shades: the palette of a run that is made, by
-- whatever rule, is never refused, and is that of its last grouping.
use Prim.Native.Nat.{ℕ, ◌+◌, ◌*◌, ◌/◌, ◌%◌, ◌≤◌, ◌<◌}
use mathlib.Core.Bool.{false}
use mathlib.Core.List.{List}
use mathlib.Core.Path.{◌≡◌, ap, ◌∙◌}
use native.Mathlib.Omega.{arith}
use lib.ListN.{get_or, length}
use lib.Seq.{get_or-take}
use Rattle.number.specs.{W, S, cost, Nearest}
use Rattle.std.specs.Prelude.{None}
use Rattle.std.specs.Result.{result_err}
use Rattle.colour.specs.{sixteenth}
use Rattle.table_test.specs.{Record, bad_table}
use Rattle.method.specs.{Rule, Colours, State, colours_of, front_of}
use Rattle.method.proofs.Fronts.{front_length, front-fit}
use Rattle.lloyd.specs.{Ran, left}
use Rattle.lloyd.proofs.Made.{Making, left-fit, member_below}
use Rattle.lloyd_stock.specs.{fixed_in}
use Rattle.palette.specs.{level_of}
use Rattle.palette_groups.specs.{channel_group}
use Rattle.palette_groups.proofs.Promises.{
  groups-accepted-fixed,
  byte-is-nearest-fixed,
  byte-is-best-fixed,
  byte-of-none-fixed,
  byte-of-fixed,
}
use Rattle.palette_runs.specs.Palettes.{run_palette_fixed}

module _ (f : ℕ) (rec : Record) (ks ws : List ℕ) {rule : Rule} {k limit : ℕ} {a : State} {ts : List ℕ} {r : Ran}
    {members totals : List ℕ} (table : bad_table rec ks ws ≡ false)
    (m : Making rule (colours_of rec.used ks ws) k limit a ts r members totals) (free : f < k) where
  -- the table's colours
  abbrev C : Colours
  C = colours_of rec.used ks ws

  -- three coordinates for each shade are lent
  three-each : length (front_of k (left r members)).coordinates ≡ 3 * k
  three-each = front_length C k (left r members) (left-fit m)

  module _ (d : List ℕ) (room : 3 * k ≤ length d) where
    -- it is accepted
    pub run-accepted-fixed : result_err (run_palette_fixed f rec ks ws k r members d).answer ≡ None
    run-accepted-fixed =
        groups-accepted-fixed f rec ks ws (front_of k (left r members)) d k free table
        (front-fit C k (left r members) (left-fit m)) three-each (member_below m) room

    -- coordinate 3q + e is lent as the run answers it
    lent_at : (q e : ℕ) → q < k → e < 3
        → get_or (front_of k (left r members)).coordinates (3 * q + e) 0 ≡ get_or r.shades (3 * q + e) 0
    lent_at q e few channel = get_or-take (3 * k) r.shades (3 * q + e) 0 (omega arith)

    -- a fixed shade has the level of its coordinate, group or none
    pub run-byte-of-fixed : (q e : ℕ) → q < f → e < 3
        → get_or (run_palette_fixed f rec ks ws k r members d).palette (3 * q + e) 0
        ≡ level_of (get_or r.shades (3 * q + e) 0)
    run-byte-of-fixed q e fixed channel =
        byte-of-fixed f rec ks ws (front_of k (left r members)) d run-accepted-fixed q e fixed channel
        ∙ ap level_of (lent_at q e (omega arith) channel)

    module _ (q e : ℕ) (behind : f ≤ q) (few : q < k) (channel : e < 3) where
      -- so many shades there are
      third : q < length (front_of k (left r members)).coordinates / 3
      third = omega (arith, three-each)

      -- a free shade with a group has the level nearest to the exact mean of its last group
      pub run-byte-nearest-fixed : 0 < W (channel_group rec ks ws (left r members) q e)
          → Nearest (W (channel_group rec ks ws (left r members) q e))
          (S (channel_group rec ks ws (left r members) q e))
          (get_or (run_palette_fixed f rec ks ws k r members d).palette (3 * q + e) 0)
      run-byte-nearest-fixed =
          byte-is-nearest-fixed f rec ks ws (front_of k (left r members)) d run-accepted-fixed q e behind third channel

      -- no other level gives that group a smaller sum of squared differences
      pub run-byte-best-fixed : 0 < W (channel_group rec ks ws (left r members) q e) → (z : ℕ)
          → cost (channel_group rec ks ws (left r members) q e)
          (get_or (run_palette_fixed f rec ks ws k r members d).palette (3 * q + e) 0)
          ≤ cost (channel_group rec ks ws (left r members) q e) z
      run-byte-best-fixed = byte-is-best-fixed f rec ks ws (front_of k (left r members)) d run-accepted-fixed q e behind
          third channel

      -- a free shade with none has the level of its coordinate
      pub run-byte-of-none-fixed : W (channel_group rec ks ws (left r members) q e) ≡ 0
          → get_or (run_palette_fixed f rec ks ws k r members d).palette (3 * q + e) 0
          ≡ level_of (get_or r.shades (3 * q + e) 0)
      run-byte-of-none-fixed none =
          byte-of-none-fixed f rec ks ws (front_of k (left r members)) d run-accepted-fixed q e behind third channel
          none
          ∙ ap level_of (lent_at q e few channel)

-- ---- fixed shades that stand as they were handed in

-- where a run leaves them in front, in sixteenths, the palette has their own bytes
pub own-bytes : (rec : Record) (ks ws fixed : List ℕ) {rule : Rule} {k limit : ℕ} {a : State} {ts : List ℕ} {r : Ran}
    {members totals : List ℕ} (table : bad_table rec ks ws ≡ false)
    (m : Making rule (colours_of rec.used ks ws) k limit a ts r members totals) (free : fixed_in fixed < k) (d : List ℕ)
    (room : 3 * k ≤ length d) → length fixed ≡ 3 * fixed_in fixed
    → ((i : ℕ) → i < length fixed → get_or r.shades i 0 ≡ sixteenth (get_or fixed i 0))
    → (i : ℕ) → i < length fixed
    → get_or (run_palette_fixed (fixed_in fixed) rec ks ws k r members d).palette i 0 ≡ get_or fixed i 0
own-bytes rec ks ws fixed {k = k} {r = r} {members = members} table m free d room whole stand i l =
    let z : 3 * (i / 3) + i % 3 ≡ i = omega arith in
    let palette = (run_palette_fixed (fixed_in fixed) rec ks ws k r members d).palette in
    let byte : get_or palette i 0 ≡ level_of (get_or r.shades i 0) =
    rw z at (run-byte-of-fixed (fixed_in fixed) rec ks ws table m free d room (i / 3) (i % 3) (omega arith)
    (omega arith)) in
    omega (arith, byte, stand i l)
