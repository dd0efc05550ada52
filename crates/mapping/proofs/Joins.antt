-- A picture mapped in strips is the picture mapped whole.
use Prim.Native.Nat.{ℕ, ◌+◌, ◌*◌, ◌≤◌}
use mathlib.Core.Bool.{false}
use mathlib.Core.List.{List, [], ◌∷◌, ◌++◌}
use mathlib.Core.Path.{◌≡◌, sym, ap, ap₂, ◌∙◌}
use native.Mathlib.Omega.{arith}
use lib.ListN.{length, length-append, take-append-drop}
use borrow.Author.Tests.{le-ltb, ltb-false}
use Rattle.number.specs.{fill, fill_from, sum}
use Rattle.number.proofs.Parts.{from-joined, from-same}
use Rattle.std.specs.Prelude.{None}
use Rattle.colour.specs.{bad_strip, joined_strips, EachWhole, most_pixels}
use Rattle.colour.proofs.Strips.{whole-exactly, whole-behind}
use Rattle.palette.specs.{bad_palette}
use Rattle.palette_twins.specs.{twin_shade}
use Rattle.map_errors.specs.{plus_errors}
use Rattle.map_blocks.specs.{pixel_count, entry_for, error_of, errors_of}
use Rattle.map_blocks.proofs.Totals.{entry_first, entry-second, error-joined, errors-joined}
use Rattle.mapping.specs.Outcomes.{MapOutcome, refusal_in, mapped_in, map_strip}
use Rattle.mapping.specs.Pieces.{Pieced, left_by, in_strips, EachAccepted}
use Rattle.mapping.proofs.Meaning.{
  map-refuses,
  stretch-within,
  index-length,
}

-- a strip of whole pixels has three bytes for each
whole_length : (s : List ℕ) → bad_strip s ≡ false → length s ≡ 3 * pixel_count s
whole_length s h = let z = (whole-exactly s).0 h in omega arith

module _ (s t p d : List ℕ) (a : ℕ) (whole : bad_strip s ≡ false)
    (ok : refusal_in (map_strip (s ++ t) p d a).answer ≡ None) where
  -- the tests of the whole
  none : (bad_strip (s ++ t) ≡ false) × (bad_palette p ≡ false) × (twin_shade p ≡ false)
      × (pixel_count (s ++ t) ≤ most_pixels)
  none =
      let n = (map-refuses (s ++ t) p d a).accepted_exactly.0 ok in
      (n.0, n.1.0, n.1.1.0, ltb-false most_pixels (pixel_count (s ++ t)) n.1.1.1.0)

  -- its pixels are those of both
  pixels-joined : pixel_count (s ++ t) ≡ pixel_count s + pixel_count t
  pixels-joined = let z = (whole-exactly s).0 whole in rw (length-append s t) (omega arith)

  -- the second is of whole pixels too
  second-whole : bad_strip t ≡ false
  second-whole = whole-behind s t whole none.0

  -- the first is accepted
  first-accepted : refusal_in (map_strip s p d a).answer ≡ None
  first-accepted =
      let few : pixel_count s ≤ most_pixels = omega (arith, none.3, pixels-joined) in
      let room : a + pixel_count s ≤ length d = omega (arith, stretch-within (s ++ t) p d a ok, pixels-joined) in
      (map-refuses s p d a).accepted_exactly.1 (whole, (none.1, (none.2, (le-ltb _ _ few, (le-ltb _ _ room, tt)))))

  -- and so is the second, behind it
  second-accepted : refusal_in (map_strip t p (map_strip s p d a).index (a + pixel_count s)).answer ≡ None
  second-accepted =
      let e = (map_strip s p d a).index in
      let few : pixel_count t ≤ most_pixels = omega (arith, none.3, pixels-joined) in
      let room : a + pixel_count s + pixel_count t ≤ length e =
      omega (
        arith,
        stretch-within (s ++ t) p d a ok,
        pixels-joined,
        index-length s p d a first-accepted,
      ) in
      (map-refuses t p e (a + pixel_count s)).accepted_exactly.1
      (second-whole, (none.1, (none.2, (le-ltb _ _ few, (le-ltb _ _ room, tt)))))

  -- the index picture after both is that of the whole
  index-joined : (map_strip t p (map_strip s p d a).index (a + pixel_count s)).index ≡ (map_strip (s ++ t) p d a).index
  index-joined =
      let n = pixel_count s in
      let m = pixel_count t in
      let long = whole_length s whole in
      let f = entry_for p (s ++ t) in
      ap (λ (o : MapOutcome). o.index) ((map-refuses t p _ (a + n)).accepted_is second-accepted)
      ∙ ap (fill_from (a + n) m (entry_for p t))
      (ap (λ (o : MapOutcome). o.index) ((map-refuses s p d a).accepted_is first-accepted)
      ∙ from-same a n (entry_for p s) f d (λ i h. sym (entry_first p s t n long i h)))
      ∙ from-joined a n m f (entry_for p t) d (λ i h. sym (entry-second p s t n long i))
      ∙ ap (λ k. fill_from a k f d) (sym pixels-joined)
      ∙ sym (ap (λ (o : MapOutcome). o.index) ((map-refuses (s ++ t) p d a).accepted_is ok))

  -- the call for the whole
  abbrev whole-call : MapOutcome
  whole-call = map_strip (s ++ t) p d a

  -- that for the first
  abbrev first-call : MapOutcome
  first-call = map_strip s p d a

  -- and that for the second, behind it
  abbrev second_call : MapOutcome
  second_call = map_strip t p (map_strip s p d a).index (a + pixel_count s)

  -- the error of an accepted call is that of its strip
  error-is : (u : List ℕ) (e : List ℕ) (b : ℕ) → refusal_in (map_strip u p e b).answer ≡ None
      → (mapped_in (map_strip u p e b).answer).error ≡ error_of p u (pixel_count u)
  error-is u e b k = ap (λ (o : MapOutcome). (mapped_in o.answer).error) ((map-refuses u p e b).accepted_is k)

  -- and so on each channel
  errors_are : (u : List ℕ) (e : List ℕ) (b : ℕ) → refusal_in (map_strip u p e b).answer ≡ None
      → (mapped_in (map_strip u p e b).answer).errors ≡ errors_of p u (pixel_count u)
  errors_are u e b k = ap (λ (o : MapOutcome). (mapped_in o.answer).errors) ((map-refuses u p e b).accepted_is k)

  -- the errors of both add up to that of the whole
  error-of-both : (mapped_in first-call.answer).error + (mapped_in second_call.answer).error
      ≡ (mapped_in whole-call.answer).error
  error-of-both =
      ap₂ ◌+◌ (error-is s d a first-accepted) (error-is t _ (a + pixel_count s) second-accepted)
      ∙ sym (error-joined p s t (pixel_count s) (whole_length s whole) (pixel_count t))
      ∙ ap (error_of p (s ++ t)) (sym pixels-joined) ∙ sym (error-is (s ++ t) d a ok)

  -- and so on each channel
  errors-of-both : plus_errors (mapped_in first-call.answer).errors (mapped_in second_call.answer).errors
      ≡ (mapped_in whole-call.answer).errors
  errors-of-both =
      ap₂ plus_errors (errors_are s d a first-accepted) (errors_are t _ (a + pixel_count s) second-accepted)
      ∙ sym (errors-joined p s t (pixel_count s) (whole_length s whole) (pixel_count t))
      ∙ ap (errors_of p (s ++ t)) (sym pixels-joined) ∙ sym (errors_are (s ++ t) d a ok)

-- ---- any number of strips

-- no strips are a strip of no pixels
none-joined : (p d : List ℕ) (a : ℕ) → refusal_in (map_strip [] p d a).answer ≡ None
    → in_strips [] p d a ≡ left_by (map_strip [] p d a)
unfolding fill_from fill sum
none-joined p d a ok =
    ap (λ (x : List ℕ). record { index = x; error = 0; errors = record { red = 0; green = 0; blue = 0 } })
    (sym (take-append-drop a d))
    ∙ ap left_by (sym ((map-refuses [] p d a).accepted_is ok))

-- a picture that is accepted whole is accepted strip by strip
pub each-accepted : (ss : List (List ℕ)) (p d : List ℕ) (a : ℕ) → EachWhole ss
    → refusal_in (map_strip (joined_strips ss) p d a).answer ≡ None → EachAccepted ss p d a
each-accepted [] p d a w ok = tt
each-accepted (s ∷ ss) p d a (w, ws) ok = (
  first-accepted s (joined_strips ss) p d a w ok,
  each-accepted ss p _ (a + pixel_count s) ws (second-accepted s (joined_strips ss) p d a w ok),
)

-- and leaves the same index picture and the same errors
pub in-strips : (ss : List (List ℕ)) (p d : List ℕ) (a : ℕ) → EachWhole ss
    → refusal_in (map_strip (joined_strips ss) p d a).answer ≡ None
    → in_strips ss p d a ≡ left_by (map_strip (joined_strips ss) p d a)
in-strips [] p d a w ok = none-joined p d a ok
in-strips (s ∷ ss) p d a (w, ws) ok =
    let o = map_strip s p d a in
    let rest = in-strips ss p o.index (a + pixel_count s) ws (second-accepted s (joined_strips ss) p d a w ok) in
    ap (λ (r : Pieced). record {
      index = r.index;
      error = (mapped_in o.answer).error + r.error;
      errors = plus_errors (mapped_in o.answer).errors r.errors;
    }) rest
    ∙ rw (
      index-joined s (joined_strips ss) p d a w ok,
      error-of-both s (joined_strips ss) p d a w ok,
      errors-of-both s (joined_strips ss) p d a w ok,
    )
