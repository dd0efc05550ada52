-- Slots searched: the numbers found are those of the nearest shades.
use Prim.Native.Nat.{ℕ, ◌+◌, ◌*◌, ◌%◌, ◌≤◌, ◌<◌}
use mathlib.Core.List.{List}
use mathlib.Core.Path.{◌≡◌, refl, ap, ◌∙◌}
use native.Mathlib.Omega.{arith}
use lib.ListN.{length, get_or, take}
use lib.Seq.{length-take-le, get_or-take}
use Rattle.number.specs.{fill}
use Rattle.number.proofs.Fills.{fill-at, fill-length, fill-same}
use Rattle.colour.specs.{Point, Bytes, most_pixels}
use Rattle.colour.proofs.Promises.{levels-of-key}
use Rattle.shades.specs.{most_shades, shade_at, levels_at, nearest_shade, packed_nearest, Shades}
use Rattle.shades.proofs.Nearest.{nearest-below, packed-number}
use Rattle.map_errors.specs.{Errors, pixel_at, misses_of, Found, number_in, found_number}
use Rattle.map_block.specs.Blocks.{nearest_to, FewTaken, nearest_at}
use Rattle.map_slots.specs.{pixel_key, slot_key, slot_of, levels_of, Gathered}
use Rattle.map_join.specs.{few_slots}
use Rattle.map_errors.proofs.Misses.{misses-same}
use Rattle.map_errors.proofs.Pixels.{pixel-within}

-- the number of the nearest of k shades is found for each of the points c 0 to c (n - 1), at its slot
pub record Searched (c : ℕ → Point) (s : List ℕ) (k n : ℕ) (which best : List ℕ) : Type 0 where
  pub slotted : (i : ℕ) → i < n → slot_of which i < length best
  pub number : (i : ℕ) → i < n → found_number which best i ≡ nearest_shade s k (c i)

-- those read from the key of a pixel are the pixel's
pub levels-of-pixel : (strip keys : List ℕ) (i q : ℕ) → Bytes strip → slot_key keys q ≡ pixel_key strip i
    → levels_at keys q ≡ pixel_at strip i
levels-of-pixel strip keys i q bytes is =
    let w = pixel-within strip i bytes in
    let same = levels-of-key (get_or strip (3 * i) 0) (get_or strip (3 * i + 1) 0) (get_or strip (3 * i + 2) 0)
    (record { red_low = w.r_low; green_low = w.g_low; blue_low = w.b_low }) in
    rw is (rw (same.0, same.1, same.2))

-- what is filled from the levels of the first m keys is filled from the levels of the keys
front-levels : (f : Point → ℕ) (keys : List ℕ) (m : ℕ) (d : List ℕ) → m ≤ length keys
    → fill (length (take m keys)) (λ q. f (levels_at (take m keys) q)) d ≡ fill m (λ q. f (levels_at keys q)) d
front-levels f keys m d room =
    rw (length-take-le m keys room) (fill-same m _ _ d (λ q l. rw (get_or-take m keys q 0 l)))

-- so the nearest is found for n points whose keys are gathered in m slots, where the first m keys are searched
pub searched-all : {c : ℕ → Point} {f : ℕ → ℕ} {s : List ℕ} {k n : ℕ} {keys which : List ℕ} {m : ℕ}
    → Shades k s → 0 < k → Gathered f n keys which m
    → ((i q : ℕ) → i < n → slot_key keys q ≡ f i → levels_at keys q ≡ c i) → m ≤ length keys
    → (d : List ℕ) → m ≤ length d → {x : List ℕ}
    → x ≡ fill (length (take m keys)) (λ q. packed_nearest s k (levels_at (take m keys) q)) d
    → Searched c s k n which x
searched-all {c} {s = s} {k = k} {keys = keys} {which = which} {m = m} shades some g same front d room e =
    let is = e ∙ front-levels (packed_nearest s k) keys m d front in
    record {
      slotted = λ i l. rw (is, fill-length) (omega (arith, g.slotted i l));
      number = λ i l.
          let p = slot_of which i in
          ap (λ t. number_in t p) is
          ∙ ap (λ v. v % most_shades) (fill-at m p _ d (g.slotted i l) (omega (arith, g.slotted i l)))
          ∙ ap (λ t. packed_nearest s k t % most_shades) (same i p l (g.is i l))
          ∙ packed-number s k (c i) some shades.few;
    }

-- and for the pixels of a strip
pub searched-pixels : (strip : List ℕ) {s : List ℕ} {k n : ℕ} {keys which : List ℕ} {m : ℕ} → Bytes strip
    → Shades k s → 0 < k → Gathered (pixel_key strip) n keys which m → m ≤ length keys
    → (d : List ℕ) → m ≤ length d → {x : List ℕ}
    → x ≡ fill (length (take m keys)) (λ q. packed_nearest s k (levels_at (take m keys) q)) d
    → Searched (pixel_at strip) s k n which x
searched-pixels strip {keys = keys} bytes shades some g =
    searched-all shades some g (λ i q l. levels-of-pixel strip keys i q bytes)

module _ {c : ℕ → Point} {s : List ℕ} {k n : ℕ} {which best : List ℕ} (w : Searched c s k n which best) where
  -- the numbers found are those of shades in s
  pub searched-inside : Shades k s → 0 < k → (i : ℕ) → i < n → 3 * found_number which best i + 2 < length s
  searched-inside shades some i l = rw (w.number i l) (omega (arith, nearest-below s k (c i) some, shades.room))

  -- the numbers settled are those of the nearest shades
  pub searched-index : (d : List ℕ) {x : List ℕ} → x ≡ fill n (found_number which best) d
      → x ≡ fill n (λ i. nearest_shade s k (c i)) d
  searched-index d e = e ∙ fill-same n _ _ d w.number

  -- and the errors are those of the points
  pub searched-errors : {r : Errors} → r ≡ misses_of c s (found_number which best) n
      → r ≡ misses_of c s (λ i. nearest_shade s k (c i)) n
  searched-errors e =
      e ∙ misses-same n c c s s (found_number which best) _ (λ i l. refl) (λ i l. ap (shade_at s) (w.number i l))

-- which is what settling a block asks, where the points are the pixels
pub searched-found : (strip : List ℕ) {s : List ℕ} {k n : ℕ} {which best : List ℕ}
    → Searched (pixel_at strip) s k n which best → Shades k s → 0 < k → length strip ≡ 3 * n → n ≤ length which
    → n ≤ most_pixels → Found strip which s best n
searched-found strip w shades some pixels room few = record {
  pixels = pixels;
  room = room;
  slotted = w.slotted;
  inside = searched-inside w shades some;
  shades = shades.low;
  few = few;
}

-- ---- few slots

-- pixels gathered in few slots take those alone
pub gathered-taken : {f : ℕ → ℕ} {n : ℕ} {keys which : List ℕ} {m : ℕ} → Gathered f n keys which m → m ≤ few_slots
    → FewTaken n which m
gathered-taken g most = record { at_most = most; few = g.few; slotted = g.slotted }

module _ (strip : List ℕ) {n : ℕ} {keys which : List ℕ} {m : ℕ} (bytes : Bytes strip)
    (g : Gathered (pixel_key strip) n keys which m) where
  -- the colours at their slots are their own
  gathered-colour : (i : ℕ) → i < n → levels_of keys which i ≡ pixel_at strip i
  gathered-colour i l = levels-of-pixel strip keys i (slot_of which i) bytes (g.is i l)

  -- so the nearest shades of these are those of the pixels
  pub gathered-index : (s : List ℕ) (k : ℕ) (d : List ℕ) {x : List ℕ}
      → x ≡ fill n (nearest_at s k (levels_of keys which)) d → x ≡ fill n (nearest_to s k strip) d
  gathered-index s k d e = e ∙ fill-same n _ _ d (λ i l. ap (nearest_shade s k) (gathered-colour i l))

  -- and so are the errors
  pub gathered-errors : (s : List ℕ) (k : ℕ) {r : Errors}
      → r ≡ misses_of (levels_of keys which) s (nearest_at s k (levels_of keys which)) n
      → r ≡ misses_of (pixel_at strip) s (nearest_to s k strip) n
  gathered-errors s k e =
      e ∙ misses-same n (levels_of keys which) (pixel_at strip) s s _ (nearest_to s k strip) gathered-colour
      (λ i l. ap (λ c. shade_at s (nearest_shade s k c)) (gathered-colour i l))
