-- The palette of a run that is made, by whatever rule, is never refused, and is that of its last grouping.
use Prim.Native.Nat.{ℕ, ◌+◌, ◌*◌, ◌/◌, ◌≤◌, ◌<◌}
use mathlib.Core.Bool.{false}
use mathlib.Core.List.{List}
use mathlib.Core.Path.{◌≡◌, ap, ◌∙◌}
use native.Mathlib.Omega.{arith}
use lib.ListN.{get_or, length}
use lib.Seq.{get_or-take}
use Rattle.number.specs.{W, S, cost, Nearest}
use Rattle.std.specs.Prelude.{None}
use Rattle.std.specs.Result.{result_err}
use Rattle.table_test.specs.{Record, bad_table}
use Rattle.method.specs.{Rule, Colours, State, colours_of, front_of}
use Rattle.method.proofs.Fronts.{front_length, front-fit}
use Rattle.lloyd.specs.{Ran, left}
use Rattle.lloyd.proofs.Made.{Making, left-fit, member_below}
use Rattle.palette.specs.{level_of}
use Rattle.palette_groups.specs.{channel_group}
use Rattle.palette_groups.proofs.Promises.{groups-accepted, byte-is-nearest, byte-is-best, byte-of-none}
use Rattle.palette_runs.specs.Palettes.{run_palette}

module _ (rec : Record) (ks ws : List ℕ) {rule : Rule} {k limit : ℕ} {a : State} {ts : List ℕ} {r : Ran}
    {members totals : List ℕ} (table : bad_table rec ks ws ≡ false)
    (m : Making rule (colours_of rec.used ks ws) k limit a ts r members totals) where
  -- the table's colours
  abbrev C : Colours
  C = colours_of rec.used ks ws

  -- three coordinates for each shade are lent
  three-each : length (front_of k (left r members)).coordinates ≡ 3 * k
  three-each = front_length C k (left r members) (left-fit m)

  module _ (d : List ℕ) (room : 3 * k ≤ length d) where
    -- it is accepted
    pub run-accepted : result_err (run_palette rec ks ws k r members d).answer ≡ None
    run-accepted =
        groups-accepted rec ks ws (front_of k (left r members)) d k table
        (front-fit C k (left r members) (left-fit m)) three-each (member_below m) room

    module _ (q e : ℕ) (few : q < k) (channel : e < 3) where
      -- so many shades there are
      third : q < length (front_of k (left r members)).coordinates / 3
      third = omega (arith, three-each)

      -- a shade with a group has the level nearest to the exact mean of its last group
      pub run-byte-nearest : 0 < W (channel_group rec ks ws (left r members) q e)
          → Nearest (W (channel_group rec ks ws (left r members) q e))
          (S (channel_group rec ks ws (left r members) q e))
          (get_or (run_palette rec ks ws k r members d).palette (3 * q + e) 0)
      run-byte-nearest = byte-is-nearest rec ks ws (front_of k (left r members)) d run-accepted q e third channel

      -- no other level gives that group a smaller sum of squared differences
      pub run-byte-best : 0 < W (channel_group rec ks ws (left r members) q e) → (z : ℕ)
          → cost (channel_group rec ks ws (left r members) q e)
          (get_or (run_palette rec ks ws k r members d).palette (3 * q + e) 0)
          ≤ cost (channel_group rec ks ws (left r members) q e) z
      run-byte-best = byte-is-best rec ks ws (front_of k (left r members)) d run-accepted q e third channel

      -- a shade with none has the level of its coordinate
      pub run-byte-of-none : W (channel_group rec ks ws (left r members) q e) ≡ 0
          → get_or (run_palette rec ks ws k r members d).palette (3 * q + e) 0
          ≡ level_of (get_or r.shades (3 * q + e) 0)
      run-byte-of-none none =
          byte-of-none rec ks ws (front_of k (left r members)) d run-accepted q e third channel none
          ∙ ap level_of (get_or-take (3 * k) r.shades (3 * q + e) 0 (omega arith))
