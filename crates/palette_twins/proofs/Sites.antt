-- Equal entries have one key, and so one site; of bytes, entries with one key are equal.
use Prim.Native.Nat.{ℕ, ◌+◌, ◌*◌, ◌%◌}
use mathlib.Core.Bool.{true, false}
use mathlib.Core.List.{List}
use mathlib.Core.Logic.{inl, inr}
use mathlib.Core.Path.{◌≡◌, ap}
use native.Mathlib.Omega.{arith}
use lib.ListN.{get_or}
use Rattle.number.proofs.Cases.{bool}
use Rattle.colour.specs.{Bytes, Levels, point_key}
use Rattle.colour.proofs.Promises.{key-only}
use Rattle.shades.specs.{shade_at}
use Rattle.shades.proofs.Promises.{same-place-exactly}
use Rattle.palette_twins.specs.Pairs.{same_entry}
use Rattle.palette_twins.specs.Sites.{entry_key, sites, site_of}

-- the levels of an entry of bytes
entry-levels : (p : List ℕ) → Bytes p → (q : ℕ)
    → Levels (get_or p (3 * q) 0) (get_or p (3 * q + 1) 0) (get_or p (3 * q + 2) 0)
entry-levels p bytes q = record {
  red_low = omega (arith, bytes (3 * q));
  green_low = omega (arith, bytes (3 * q + 1));
  blue_low = omega (arith, bytes (3 * q + 2));
}

-- equal entries have one key
pub equal-keys : (p : List ℕ) (i j : ℕ) → same_entry p i j ≡ true → entry_key p i ≡ entry_key p j
equal-keys p i j h = ap point_key ((same-place-exactly (shade_at p i) (shade_at p j)).0 h)

-- and one site
pub equal-sites : (p : List ℕ) (i j : ℕ) → same_entry p i j ≡ true → site_of p i ≡ site_of p j
equal-sites p i j h = ap (λ k. k % sites) (equal-keys p i j h)

module _ (p : List ℕ) (bytes : Bytes p) (i j : ℕ) where
  -- entries with one key are equal
  pub keys-equal : entry_key p i ≡ entry_key p j → same_entry p i j ≡ true
  keys-equal e =
      let z = key-only _ _ _ _ _ _ (entry-levels p bytes i) (entry-levels p bytes j) e in
      (same-place-exactly (shade_at p i) (shade_at p j)).1 (rw (z.0, z.1, z.2))

-- entries with two keys are not
pub keys-differ : (p : List ℕ) (i j : ℕ) → ¬ (entry_key p i ≡ entry_key p j) → same_entry p i j ≡ false
keys-differ p i j d = elim (bool (same_entry p i j)) [
  | inl h ↦ absurd (d (equal-keys p i j h))
  | inr h ↦ h
]
