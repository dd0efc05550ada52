-- Laws of a strip's pixels: how many there are, which pixel stands where, and that bytes make keys.
use mathlib.Core.Path.{◌≡◌, refl, ap, ◌∙◌}
use mathlib.Core.List.{List, [], ◌∷◌, ◌++◌}
use Prim.Native.Nat.{ℕ, zero, suc, ◌+◌, ◌*◌, ◌≤◌, ◌<◌}
use native.Mathlib.Omega.{arith}
use native.Mathlib.Nat.{not-suc-le-zero}
use native.Mathlib.Numerals.{add-one, add-two}
use lib.ListN.{length, get_or, take, drop}
use lib.Seq.{drop-cons}
use Rattle.colour.specs.{key_of}
use Rattle.table_entries.specs.Strip.{strip_keys, key_at, Keys, none, more}

-- 3n bytes are n pixels
pub strip-length : (n : ℕ) (s : List ℕ) → length s ≡ 3 * n → length (strip_keys s) ≡ n
strip-length zero [] h = refl
strip-length (suc n) [] h = absurd (omega arith)
strip-length n (r ∷ []) h = absurd (omega arith)
strip-length n (r ∷ (g ∷ [])) h = absurd (omega arith)
strip-length zero (r ∷ (g ∷ (b ∷ s))) h = absurd (omega arith)
strip-length (suc n) (r ∷ (g ∷ (b ∷ s))) h = ap suc (strip-length n s (omega arith))

-- 3n bytes or more are n pixels or more
pub strip-at-least : (n : ℕ) (s : List ℕ) → 3 * n ≤ length s → n ≤ length (strip_keys s)
strip-at-least zero s h = omega arith
strip-at-least (suc n) [] h = absurd (omega arith)
strip-at-least (suc n) (r ∷ []) h = absurd (omega arith)
strip-at-least (suc n) (r ∷ (g ∷ [])) h = absurd (omega arith)
strip-at-least (suc n) (r ∷ (g ∷ (b ∷ s))) h = omega (arith, strip-at-least n s (omega arith))

-- pixel i has the key of the three bytes from place 3i on
pub strip-at : (i : ℕ) (s : List ℕ) → 3 * i + 2 < length s → get_or (strip_keys s) i 0 ≡ key_at s (3 * i)
strip-at i [] h = absurd (not-suc-le-zero h)
strip-at i (r ∷ []) h = absurd (omega arith)
strip-at i (r ∷ (g ∷ [])) h = absurd (omega arith)
strip-at zero (r ∷ (g ∷ (b ∷ s))) h = refl
strip-at (suc i) (r ∷ (g ∷ (b ∷ s))) h =
    let z : 3 * suc i ≡ suc (suc (suc (3 * i))) = omega arith in
    rw z (simp (add-one, add-two) at (strip-at i s (omega arith)) ∙ simp (add-one, add-two))

-- strips of whole pixels, joined, have the pixels of one and then of the other
pub strip-append : (n : ℕ) (s t : List ℕ) → length s ≡ 3 * n → strip_keys (s ++ t) ≡ strip_keys s ++ strip_keys t
strip-append zero [] t h = refl
strip-append (suc n) [] t h = absurd (omega arith)
strip-append n (r ∷ []) t h = absurd (omega arith)
strip-append n (r ∷ (g ∷ [])) t h = absurd (omega arith)
strip-append zero (r ∷ (g ∷ (b ∷ s))) t h = absurd (omega arith)
strip-append (suc n) (r ∷ (g ∷ (b ∷ s))) t h =
    ap (λ (x : List ℕ). key_of r g b ∷ x) (strip-append n s t (omega arith))

-- the pixel at place n, alone
pub strip-one : (n : ℕ) (s : List ℕ) → 3 * (n + 1) ≤ length s → take 1 (drop n (strip_keys s)) ≡ key_at s (3 * n) ∷ []
strip-one n s h =
    rw (drop-cons (strip_keys s) n 0 (omega (arith, strip-at-least (n + 1) s h)), strip-at n s (omega arith))

-- bytes make keys
pub byte-keys : (s : List ℕ) → ((i : ℕ) → get_or s i 0 < 256) → Keys (strip_keys s)
byte-keys [] h = none
byte-keys (r ∷ []) h = none
byte-keys (r ∷ (g ∷ [])) h = none
byte-keys (r ∷ (g ∷ (b ∷ s))) h =
    more {k = key_of r g b} (omega (arith, h 0, h 1, h 2)) (byte-keys s (λ i. h (suc (suc (suc i)))))

-- keys stay keys without the first n
pub keys-drop : (n : ℕ) {ps : List ℕ} → Keys ps → Keys (drop n ps)
keys-drop zero k = k
keys-drop (suc n) none = none
keys-drop (suc n) (more l r) = keys-drop n r
