-- What is shown of the palette of an accepted run, of either kind, each theorem in full; its body names the proof.
-- `AcceptedRun .. r members totals` says that r, members and totals are what an accepted run answers and leaves, and
-- `run_palette rec ks ws k r members d` is the outcome of `palette_from_groups` on these. `run_palette_fixed f` is that
-- of `palette_from_groups_fixed`, the first f shades fixed.
use Prim.Native.Nat.{ℕ, ◌+◌, ◌*◌, ◌≤◌, ◌<◌}
use mathlib.Core.List.{List}
use mathlib.Core.Path.{◌≡◌}
use lib.ListN.{get_or, length}
use Rattle.number.specs.{W, S, cost, Nearest}
use Rattle.std.specs.Prelude.{None}
use Rattle.std.specs.Result.{result_err}
use Rattle.colour.specs.{Bytes}
use Rattle.table_test.specs.{Record}
use Rattle.lloyd.specs.{Ran, AcceptedRun, AcceptedJancey, left}
use Rattle.lloyd.proofs.Accepted.{tests, making, jancey-tests, jancey-making}
use Rattle.lloyd_stock.specs.{fixed_in}
use Rattle.lloyd_stock.proofs.Promises.{bad-fixed-exactly}
use Rattle.lloyd_fixed.specs.{AcceptedFixed}
use Rattle.lloyd_fixed.proofs.Accepted.{fewer-fixed, fixed-tests, fixed-making}
use Rattle.lloyd_fixed.proofs.Promises.{fixed-stand}
use Rattle.palette.specs.{level_of}
use Rattle.palette_groups.specs.{channel_group}
use Rattle.palette_runs.specs.Palettes.{run_palette, run_palette_fixed}
use Rattle.palette_runs.proofs.Runs as runs
use Rattle.palette_runs.proofs.RunsFixed as fixed-runs

module _ {rec : Record} {ks ws : List ℕ} {k limit : ℕ} {ms ts : List ℕ} {r : Ran} {members totals : List ℕ}
    (h : AcceptedRun rec ks ws k limit ms ts r members totals) (d : List ℕ) (room : 3 * k ≤ length d) where
  -- Of an accepted run's answer and members, with three bytes for each shade, the call is never refused.
  pub run-palette-accepted : result_err (run_palette rec ks ws k r members d).answer ≡ None
  run-palette-accepted = runs.run-accepted rec ks ws (tests h).table (making h) d room

  -- After a run the palette is, for each channel of a shade with a group, the level nearest to the exact mean of the
  -- shade's last group, a half going up.
  pub run-byte-is-nearest : (q e : ℕ) → q < k → e < 3 → 0 < W (channel_group rec ks ws (left r members) q e)
      → Nearest (W (channel_group rec ks ws (left r members) q e)) (S (channel_group rec ks ws (left r members) q e))
      (get_or (run_palette rec ks ws k r members d).palette (3 * q + e) 0)
  run-byte-is-nearest = runs.run-byte-nearest rec ks ws (tests h).table (making h) d room

  -- No other level gives that group a smaller sum of squared level differences on this channel.
  pub run-byte-is-best : (q e : ℕ) → q < k → e < 3 → 0 < W (channel_group rec ks ws (left r members) q e) → (z : ℕ)
      → cost (channel_group rec ks ws (left r members) q e)
      (get_or (run_palette rec ks ws k r members d).palette (3 * q + e) 0)
      ≤ cost (channel_group rec ks ws (left r members) q e) z
  run-byte-is-best = runs.run-byte-best rec ks ws (tests h).table (making h) d room

  -- A shade with no group has the level of its coordinate, as by a palette from shades.
  pub run-byte-of-none : (q e : ℕ) → q < k → e < 3 → W (channel_group rec ks ws (left r members) q e) ≡ 0
      → get_or (run_palette rec ks ws k r members d).palette (3 * q + e) 0 ≡ level_of (get_or r.shades (3 * q + e) 0)
  run-byte-of-none = runs.run-byte-of-none rec ks ws (tests h).table (making h) d room

-- ---- the same of Jancey's run

module _ {rec : Record} {ks ws : List ℕ} {k limit : ℕ} {ms ts : List ℕ} {r : Ran} {members totals : List ℕ}
    (h : AcceptedJancey rec ks ws k limit ms ts r members totals) (d : List ℕ) (room : 3 * k ≤ length d) where
  -- Of an accepted Jancey run's answer and members, with three bytes for each shade, the call is never refused.
  pub jancey-palette-accepted : result_err (run_palette rec ks ws k r members d).answer ≡ None
  jancey-palette-accepted = runs.run-accepted rec ks ws (jancey-tests h).table (jancey-making h) d room

  -- For each channel of a shade with a group it has the level nearest to the exact mean of the shade's last group, a
  -- half going up, settled or not: a shade that stepped past the mean is bought at the mean.
  pub jancey-byte-is-nearest : (q e : ℕ) → q < k → e < 3 → 0 < W (channel_group rec ks ws (left r members) q e)
      → Nearest (W (channel_group rec ks ws (left r members) q e)) (S (channel_group rec ks ws (left r members) q e))
      (get_or (run_palette rec ks ws k r members d).palette (3 * q + e) 0)
  jancey-byte-is-nearest = runs.run-byte-nearest rec ks ws (jancey-tests h).table (jancey-making h) d room

  -- A shade with no group has the level of its coordinate.
  pub jancey-byte-of-none : (q e : ℕ) → q < k → e < 3 → W (channel_group rec ks ws (left r members) q e) ≡ 0
      → get_or (run_palette rec ks ws k r members d).palette (3 * q + e) 0 ≡ level_of (get_or r.shades (3 * q + e) 0)
  jancey-byte-of-none = runs.run-byte-of-none rec ks ws (jancey-tests h).table (jancey-making h) d room

-- ---- the same of a run with fixed shades, the call being told how many are fixed

module _ {rec : Record} {ks ws fixed : List ℕ} {k limit : ℕ} {ms ts : List ℕ} {r : Ran} {members totals : List ℕ}
    (h : AcceptedFixed rec ks ws fixed k limit ms ts r members totals) (bytes : Bytes fixed) (d : List ℕ)
    (room : 3 * k ≤ length d) where
  -- Of such a run's answer and members, with three bytes for each shade, the call is never refused.
  pub fixed-palette-accepted : result_err (run_palette_fixed (fixed_in fixed) rec ks ws k r members d).answer ≡ None
  fixed-palette-accepted =
      fixed-runs.run-accepted-fixed (fixed_in fixed) rec ks ws (fixed-tests h).table (fixed-making h bytes)
      (fewer-fixed (fixed-tests h)) d room

  -- The bytes of the fixed shades are those that were handed in, whatever their groups.
  pub fixed-byte-is-own : (i : ℕ) → i < length fixed
      → get_or (run_palette_fixed (fixed_in fixed) rec ks ws k r members d).palette i 0 ≡ get_or fixed i 0
  fixed-byte-is-own =
      fixed-runs.own-bytes rec ks ws fixed (fixed-tests h).table (fixed-making h bytes) (fewer-fixed (fixed-tests h)) d
      room
      ((bad-fixed-exactly fixed).0 (fixed-tests h).whole).2 (fixed-stand h bytes)

  -- For each channel of a free shade with a group the palette has the level nearest to the exact mean of the shade's
  -- last group, a half going up.
  pub free-byte-is-nearest : (q e : ℕ) → fixed_in fixed ≤ q → q < k → e < 3
      → 0 < W (channel_group rec ks ws (left r members) q e)
      → Nearest (W (channel_group rec ks ws (left r members) q e)) (S (channel_group rec ks ws (left r members) q e))
      (get_or (run_palette_fixed (fixed_in fixed) rec ks ws k r members d).palette (3 * q + e) 0)
  free-byte-is-nearest =
      fixed-runs.run-byte-nearest-fixed (fixed_in fixed) rec ks ws (fixed-tests h).table (fixed-making h bytes)
      (fewer-fixed (fixed-tests h)) d room

  -- A free shade with no group has the level of its coordinate.
  pub free-byte-of-none : (q e : ℕ) → fixed_in fixed ≤ q → q < k → e < 3
      → W (channel_group rec ks ws (left r members) q e) ≡ 0
      → get_or (run_palette_fixed (fixed_in fixed) rec ks ws k r members d).palette (3 * q + e) 0
      ≡ level_of (get_or r.shades (3 * q + e) 0)
  free-byte-of-none =
      fixed-runs.run-byte-of-none-fixed (fixed_in fixed) rec ks ws (fixed-tests h).table (fixed-making h bytes)
      (fewer-fixed (fixed-tests h)) d room
