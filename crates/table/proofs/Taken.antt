-- What the pixels taken add, whether or not one is left: to the weight of each colour, to the pixel total and to the
-- channel sums; and that nothing changes where none is taken.
use mathlib.Core.Path.{◌≡◌, refl, ap, ap₂, ◌∙◌}
use mathlib.Core.Bool.{false}
use mathlib.Core.List.{List}
use Prim.Native.Nat.{ℕ, ◌+◌, ◌*◌, ◌/◌, ◌≤◌}
use native.Mathlib.Omega.{arith}
use lib.ListN.{length, get_or, take}
use Rattle.std.specs.Prelude.{Option}
use Rattle.refusal.specs.{Refusal}
use Rattle.number.specs.{sum, sum_of}
use Rattle.number.proofs.ListSums.{sum_of-take}
use Rattle.number.proofs.Sums.{sum-eq}
use Rattle.colour.specs.{bad_strip, Bytes, red_of, green_of, blue_of}
use Rattle.colour.proofs.Promises.{levels-of-key}
use Rattle.colour.proofs.Strips.{whole-exactly}
use Rattle.table_entries.specs.{
  Entry,
  entries,
  pixels_of,
  levels_of,
  weight_of,
  strip_keys,
  key_at,
  count_of,
  taken_of,
}
use Rattle.table_entries.proofs.Gives.{put_all-weight, put_all-levels}
use Rattle.table_entries.proofs.Slices.{keys-laid, weights-laid}
use Rattle.table_entries.proofs.Strips.{strip-at, strip-length}
use Rattle.table_entries.proofs.Takes.{taken-at-most, taken-pixels}
use Rattle.table_test.specs.{Record, room_of, bad_table}
use Rattle.table_test.proofs.Goods.{Good, good-of-test}
use Rattle.table.specs.Outcomes.{Outcome, as_it_came, with_pixels, add_strip, table_after}
use Rattle.table.proofs.Meaning.{outcome-taken, taken-after}

-- with this refusal or none, and none of these pixels taken, all is as it came
none-taken : (n : Option Refusal) (rec : Record) (ks ws ps : List ℕ) → Good rec ks ws
    → taken_of (room_of ks ws) (entries rec.used ks ws) ps ≡ 0
    → with_pixels n (room_of ks ws) (entries rec.used ks ws) ps ks ws ≡ as_it_came n rec ks ws
none-taken n rec ks ws ps g z =
    let a : rec.used ≤ length ks = omega (arith, g.in_room) in
    let b : rec.used ≤ length ws = omega (arith, g.in_room) in
    let k = keys-laid rec.used ks ws a b ks refl in
    let w = weights-laid rec.used ks ws a b ws refl in
    rw z (λ i. record { answer = record { refusal = n; taken = 0; rec = g.is i }; keys = k i; weights = w i })

module _ (rec : Record) (ks ws s : List ℕ) (whole : bad_strip s ≡ false) (test : bad_table rec ks ws ≡ false) where
  -- the table before, and the pixels of the strip
  abbrev es : List Entry
  es = entries rec.used ks ws

  abbrev ps : List ℕ
  ps = strip_keys s

  -- the pixels taken are those that go in
  taken_is : (add_strip rec ks ws s).answer.taken ≡ taken_of (room_of ks ws) es ps
  taken_is = ap (λ (o : Outcome). o.answer.taken) (outcome-taken rec ks ws s whole test)

  -- each colour's weight goes up by its pixels among them
  pub taken-weights : (c : ℕ)
      → weight_of c (table_after (add_strip rec ks ws s))
      ≡ weight_of c (entries rec.used ks ws) + count_of c (take (add_strip rec ks ws s).answer.taken (strip_keys s))
  taken-weights c =
      ap (weight_of c) (taken-after rec ks ws s whole test).0
      ∙ rw taken_is (put_all-weight c es (take (taken_of (room_of ks ws) es ps) ps))

  -- the record's pixels go up by their number
  pub taken-total : (add_strip rec ks ws s).answer.rec.pixels ≡ rec.pixels + (add_strip rec ks ws s).answer.taken
  taken-total =
      let g : pixels_of es ≡ rec.pixels = ap (λ (r : Record). r.pixels) (good-of-test rec ks ws test).is in
      rw (outcome-taken rec ks ws s whole test) (omega (arith, g, taken-pixels (room_of ks ws) es ps))

  -- and with none all is as it came
  pub taken_none : (add_strip rec ks ws s).answer.taken ≡ 0
      → add_strip rec ks ws s ≡ as_it_came (add_strip rec ks ws s).answer.refusal rec ks ws
  taken_none z =
      rw (outcome-taken rec ks ws s whole test)
      (none-taken _ rec ks ws ps (good-of-test rec ks ws test) (rw taken_is at z))

  -- f of the keys, weights counted, goes up by f of each pixel taken
  taken-levels : (f : ℕ → ℕ)
      → levels_of f (table_after (add_strip rec ks ws s))
      ≡ levels_of f es + sum_of f (take (add_strip rec ks ws s).answer.taken ps)
  taken-levels f =
      ap (levels_of f) (taken-after rec ks ws s whole test).0
      ∙ rw taken_is (put_all-levels f es (take (taken_of (room_of ks ws) es ps) ps))

  -- which are bytes of the strip, if f of a pixel's key is its byte number c
  taken-bytes : (f : ℕ → ℕ) (c : ℕ) → ((i : ℕ) → f (key_at s (3 * i)) ≡ get_or s (3 * i + c) 0)
      → sum_of f (take (add_strip rec ks ws s).answer.taken ps)
      ≡ sum (add_strip rec ks ws s).answer.taken (λ i. get_or s (3 * i + c) 0)
  taken-bytes f c byte =
      let t = (add_strip rec ks ws s).answer.taken in
      let few : t ≤ length ps = omega (arith, taken_is, taken-at-most (room_of ks ws) es ps) in
      let len : length s ≡ 3 * (length s / 3) = omega (arith, (whole-exactly s).0 whole) in
      sum_of-take f t ps few
      ∙ sum-eq t _ _ (λ i l. ap f (strip-at i s (omega (arith, strip-length (length s / 3) s len))) ∙ byte i)

  -- the record's sums go up by the bytes of their channel among the pixels taken
  pub taken-sums : Bytes s
      → ((add_strip rec ks ws s).answer.rec.red
      ≡ rec.red + sum (add_strip rec ks ws s).answer.taken (λ i. get_or s (3 * i + 0) 0))
      × ((add_strip rec ks ws s).answer.rec.green
      ≡ rec.green + sum (add_strip rec ks ws s).answer.taken (λ i. get_or s (3 * i + 1) 0))
      × ((add_strip rec ks ws s).answer.rec.blue
      ≡ rec.blue + sum (add_strip rec ks ws s).answer.taken (λ i. get_or s (3 * i + 2) 0))
  taken-sums bytes =
      let g = (good-of-test rec ks ws test).is in
      let after = (taken-after rec ks ws s whole test).1 in (
        ap (λ (r : Record). r.red) after ∙ taken-levels red_of
            ∙ ap₂ (λ (a b : ℕ). a + b) (ap (λ (r : Record). r.red) g) (taken-bytes red_of 0 (λ i. (byte i).0)),
        ap (λ (r : Record). r.green) after ∙ taken-levels green_of
            ∙ ap₂ (λ (a b : ℕ). a + b) (ap (λ (r : Record). r.green) g) (taken-bytes green_of 1 (λ i. (byte i).1)),
        ap (λ (r : Record). r.blue) after ∙ taken-levels blue_of
            ∙ ap₂ (λ (a b : ℕ). a + b) (ap (λ (r : Record). r.blue) g) (taken-bytes blue_of 2 (λ i. (byte i).2)),
      )
    where
      byte : (i : ℕ) → (red_of (key_at s (3 * i)) ≡ get_or s (3 * i + 0) 0)
          × (green_of (key_at s (3 * i)) ≡ get_or s (3 * i + 1) 0)
          × (blue_of (key_at s (3 * i)) ≡ get_or s (3 * i + 2) 0)
      byte i =
          let z : 3 * i + 0 ≡ 3 * i = omega arith in
          rw z (levels-of-key (get_or s (3 * i) 0) (get_or s (3 * i + 1) 0) (get_or s (3 * i + 2) 0) (record {
            red_low = omega (arith, bytes (3 * i));
            green_low = omega (arith, bytes (3 * i + 1));
            blue_low = omega (arith, bytes (3 * i + 2));
          }))
