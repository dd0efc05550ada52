-- The entry that a pixel gets: it is one of the palette, no entry is nearer, and every lower number is farther.
use Prim.Native.Nat.{ℕ, ◌<◌}
use mathlib.Core.List.{List}
use mathlib.Core.Path.{◌≡◌, refl}
use native.Mathlib.Omega.{arith}
use Rattle.shades.specs.{to_shade}
use Rattle.shades.proofs.Nearest.{nearest-below, nearest-least, nearest-lowest}
use Rattle.shades.proofs.Promises.{nearest-only}
use Rattle.map_errors.specs.{pixel_at}
use Rattle.map_blocks.specs.Meaning.{entry_count, entry_for, NearestEntry}

module _ (p s : List ℕ) (i : ℕ) (some : 0 < entry_count p) where
  -- what a pixel gets is the nearest entry
  pub entry-is-nearest : NearestEntry p s i (entry_for p s i)
  entry-is-nearest = record {
    entry = nearest-below p (entry_count p) (pixel_at s i) some;
    least = λ r h. nearest-least p (entry_count p) (pixel_at s i) r h;
    lowest = λ r h. nearest-lowest p (entry_count p) (pixel_at s i) r h some;
  }

  -- there is one only
  pub nearest-entry-only : (q : ℕ) → NearestEntry p s i q → q ≡ entry_for p s i
  nearest-entry-only q n =
      nearest-only p (entry_count p) (pixel_at s i) some {m = q} {d = to_shade p (pixel_at s i) q} (record {
        is = refl;
        member = n.entry;
        unbettered = λ r h l. omega (arith, n.least r h);
        lower = λ r h l. n.lowest r l;
      })
