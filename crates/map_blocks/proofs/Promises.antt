-- What is shown of mapped pixels, for whoever cites it. Each body names the proof.
use Prim.Native.Nat.{ℕ, ◌+◌, ◌*◌, ◌≤◌, ◌<◌}
use mathlib.Core.List.{List, ◌++◌}
use mathlib.Core.Path.{◌≡◌}
use lib.ListN.{length}
use Rattle.colour.specs.{Bytes, most_level}
use Rattle.map_errors.specs.{plus_errors}
use Rattle.map_blocks.specs.Meaning.{entry_count, entry_for, NearestEntry, errors_of, error_of}
use Rattle.map_blocks.proofs.Nears as nears
use Rattle.map_blocks.proofs.Totals as totals

-- ---- the number

-- A pixel gets the number of the nearest palette entry in whole levels, the lowest at a tie.
pub entry-is-nearest : (p s : List ℕ) (i : ℕ) → 0 < entry_count p → NearestEntry p s i (entry_for p s i)
entry-is-nearest = nears.entry-is-nearest

-- No other number is that.
pub nearest-entry-only : (p s : List ℕ) (i : ℕ) → 0 < entry_count p → (q : ℕ) → NearestEntry p s i q
    → q ≡ entry_for p s i
nearest-entry-only = nears.nearest-entry-only

-- ---- the errors

-- The three channel errors add up to the error.
pub channels-add : (p s : List ℕ) (n : ℕ)
    → (errors_of p s n).red + (errors_of p s n).green + (errors_of p s n).blue ≡ error_of p s n
channels-add = totals.channels-add

-- The error of n pixels is at most three squares of 255 for each.
pub error-most : (p s : List ℕ) (n : ℕ) → Bytes p → Bytes s → error_of p s n ≤ 3 * (most_level * most_level) * n
error-most = totals.error-most

-- ---- two strips joined, the first of n pixels

-- A pixel of the first strip gets the number it had, and so does one of the second.
pub entries-joined : (p s t : List ℕ) (n : ℕ) → length s ≡ 3 * n
    → ((i : ℕ) → i < n → entry_for p (s ++ t) i ≡ entry_for p s i)
    × ((i : ℕ) → entry_for p (s ++ t) (n + i) ≡ entry_for p t i)
entries-joined p s t n long = (totals.entry_first p s t n long, totals.entry-second p s t n long)

-- The error is that of both.
pub error-joined : (p s t : List ℕ) (n : ℕ) → length s ≡ 3 * n → (m : ℕ)
    → error_of p (s ++ t) (n + m) ≡ error_of p s n + error_of p t m
error-joined = totals.error-joined

-- And so on each channel.
pub errors-joined : (p s t : List ℕ) (n : ℕ) → length s ≡ 3 * n → (m : ℕ)
    → errors_of p (s ++ t) (n + m) ≡ plus_errors (errors_of p s n) (errors_of p t m)
errors-joined = totals.errors-joined
