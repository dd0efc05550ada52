-- A key tells its colour's three levels, and the levels tell the key.
use Prim.Native.Nat.{ℕ, ◌≤◌}
use mathlib.Core.Path.{◌≡◌, sym, ap, ◌∙◌}
use native.Mathlib.Omega.{arith}
use Rattle.colour.specs.Key.{most_key, Levels, key_of, red_of, green_of, blue_of}

-- three levels make a key that is at most the greatest
pub key-most : (r g b : ℕ) → Levels r g b → key_of r g b ≤ most_key
key-most r g b l = omega (arith, l.red_low, l.green_low, l.blue_low)

-- any number's three levels are levels of a byte
pub levels-most : (key : ℕ) → Levels (red_of key) (green_of key) (blue_of key)
levels-most key = record { red_low = omega arith; green_low = omega arith; blue_low = omega arith }

-- the levels read from the key of three levels are those three
pub levels-of-key :
    (r g b : ℕ) → Levels r g b
    → (red_of (key_of r g b) ≡ r) × (green_of (key_of r g b) ≡ g) × (blue_of (key_of r g b) ≡ b)
levels-of-key r g b l =
    let record { red_low = x; green_low = y; blue_low = z } = l in
    (omega arith, omega arith, omega arith)

-- the key of a key's levels is that key
pub key-of-levels : (key : ℕ) → key ≤ most_key → key_of (red_of key) (green_of key) (blue_of key) ≡ key
key-of-levels key h = omega arith

-- two colours of one key are one colour
pub key-only :
    (r g b r' g' b' : ℕ) → Levels r g b → Levels r' g' b' → key_of r g b ≡ key_of r' g' b'
    → (r ≡ r') × (g ≡ g') × (b ≡ b')
key-only r g b r' g' b' l m e =
    let x = levels-of-key r g b l in
    let y = levels-of-key r' g' b' m in (
      sym x.0 ∙ ap red_of e ∙ y.0,
      sym x.1 ∙ ap green_of e ∙ y.1,
      sym x.2 ∙ ap blue_of e ∙ y.2,
    )

-- two keys of the same levels are one key
pub levels-only :
    (k l : ℕ) → k ≤ most_key → l ≤ most_key
    → red_of k ≡ red_of l → green_of k ≡ green_of l → blue_of k ≡ blue_of l → k ≡ l
levels-only k l h m x y z = sym (key-of-levels k h) ∙ rw (x, y, z) (key-of-levels l m)
