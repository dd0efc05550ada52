-- The turns of the loops that take pixels, over the first `end` pixels of a strip: what a try asks, and what it leaves.
use mathlib.Core.Path.{◌≡◌, refl, sym, ◌∙◌}
use mathlib.Core.Logic.{inl, inr}
use mathlib.Core.List.{List, [], ◌∷◌}
use Prim.Native.Nat.{ℕ, zero, suc, ◌+◌, ◌≤◌, ◌<◌}
use native.Mathlib.Omega.{arith}
use lib.ListN.{length, get_or, take, drop, length-take}
use lib.Seq.{length-take-le, take-take, take_all}
use lib.Dec.{ltb}
use borrow.Author.Tests.{ltb-true, ltb-false}
use Rattle.number.proofs.Cases.{bool}
use Rattle.colour.specs.{most_pixels}
use Rattle.table_entries.specs.{Entry, entries, pixels_of, strip_keys, with_taken}
use Rattle.table_entries.proofs.Strips.{strip-at-least}
use Rattle.table_entries.proofs.Takes.{taken-at-most, taken-capped, with_taken-capped}
use Rattle.table_channels.specs.{ChannelSums, no_sums, together, SumsLow}
use Rattle.table_channels.proofs.Sums.{sums-low}
use Rattle.table_add.specs.{Addable, Tried, piece}
use Rattle.table_add.proofs.chunk.Listing.{piece-keys}
use Rattle.table_fill.specs.Taking.{Able, TookMeets}
use Rattle.table_fill.proofs.take.Turn.{Taking, taking-start, taking-done, taking-in, taking-out, taking-full}

-- a piece within the first e of a list is a piece of the list
piece-first : (p t e : ℕ) (xs : List ℕ) → t + p ≤ e → take p (drop t xs) ≡ take p (drop t (take e xs))
piece-first p zero e xs h = sym (take-take p e xs (omega arith))
piece-first p (suc t) zero xs h = absurd (omega arith)
piece-first p (suc t) (suc e) [] h = refl
piece-first p (suc t) (suc e) (x ∷ xs) h = piece-first p t e xs (omega arith)

-- before the first turn
pub steps-start : (ks ws s : List ℕ) (used room end : ℕ) → Able used room ks ws s end
    → Taking ks ws used room (take end (strip_keys s)) ks ws used 0 no_sums
steps-start ks ws s used room end a = taking-start ks ws used room (take end (strip_keys s)) a.table

-- taking the first `end` pixels is taking all, where there are no more or the pixel total allows no more
pub steps-whole : {room : ℕ} {es : List Entry} {ps ks ws : List ℕ} {used taken : ℕ} {sums : ChannelSums}
    {ks' ws' : List ℕ} (end : ℕ) → (end < length ps → most_pixels ≤ pixels_of es + end)
    → TookMeets room es (take end ps) ks ws used taken sums ks' ws' → TookMeets room es ps ks ws used taken sums ks' ws'
steps-whole {room} {es} {ps} {taken = taken} end h t = elim (bool (ltb end (length ps))) [
  | inl l ↦
      let m : most_pixels ≤ pixels_of es + end = h (ltb-true end (length ps) l) in
      let w : with_taken room es (take end ps) ≡ with_taken room es ps = with_taken-capped room es end ps m in
      record {
        taken_is = t.taken_is ∙ taken-capped room es end ps m;
        used_is = rw w at t.used_is;
        sums_are = rw (take-take taken end ps (omega (
          arith,
          t.taken_is,
          taken-at-most room es (take end ps),
          length-take end ps,
        ))) at t.sums_are;
        keys_are = rw w at t.keys_are;
        weights_are = rw w at t.weights_are;
      }
  | inr l ↦ rw (take_all end ps (ltb-false end (length ps) l)) at t
]

module _ {ks₀ ws₀ s : List ℕ} {used room end : ℕ} (a : Able used room ks₀ ws₀ s end) {ks ws : List ℕ} {now taken : ℕ}
    {sums : ChannelSums} (t : Taking ks₀ ws₀ used room (take end (strip_keys s)) ks ws now taken sums) where
  -- the strip has that many pixels
  length-first : length (take end (strip_keys s)) ≡ end
  length-first = length-take-le end (strip_keys s) (strip-at-least end s a.bytes)

  -- after the last turn
  pub steps-done : end ≤ taken
      → TookMeets room (entries used ks₀ ws₀) (take end (strip_keys s)) ks₀ ws₀ now taken sums ks ws
  steps-done l = taking-done t (omega (arith, length-first))

  -- what a try of `most` pixels asks
  pub steps-addable : (most : ℕ) → 0 < most → taken + most ≤ end → Addable now room ks ws s taken most
  steps-addable most p l = record {
    table = t.table;
    total = omega (arith, t.pixels, a.total);
    some = p;
    bytes = omega (arith, a.bytes);
  }

  -- what a try left
  module _ {most next n : ℕ} {more : ChannelSums} {ks' ws' : List ℕ}
      (r : Tried now room ks ws s taken most next n more ks' ws') (l : taken + n ≤ end) where
    -- the pixels tried are a piece of those to be taken
    same : piece s taken n ≡ take n (drop taken (take end (strip_keys s)))
    same = piece-first n taken end (strip_keys s) l

    -- their sums and those so far are such as a table may have
    pub steps_low : SumsLow sums × SumsLow more
    steps_low = (
      rw t.sums_are (sums-low (take taken (take end (strip_keys s)))
          (omega (arith, length-take taken (take end (strip_keys s)), a.total))),
      rw r.sums_are
          (sums-low (piece s taken n) (omega (arith, length-take n (drop taken (strip_keys s)), a.total))),
    )

    -- the pixels went in
    pub steps-in : ((i : ℕ) → get_or s i 0 < 256) → next ≤ room
        → Taking ks₀ ws₀ used room (take end (strip_keys s)) ks' ws' next (taken + n) (together sums more)
    steps-in b h =
        taking-in t n (omega (arith, length-first)) (rw same at r.used_is) (rw same at r.sums_are)
        (rw same at r.keys_are) (rw same at r.weights_are) h (omega (arith, a.total))
        (rw same at (piece-keys s taken n b))

    -- one pixel went in
    pub steps-in-one : n ≡ 1 → ((i : ℕ) → get_or s i 0 < 256) → next ≤ room
        → Taking ks₀ ws₀ used room (take end (strip_keys s)) ks' ws' next (taken + 1) (together sums more)
    steps-in-one z b h = rw z at (steps-in b h)

    -- they did not, and all is as it was
    pub steps-out : room < next → Taking ks₀ ws₀ used room (take end (strip_keys s)) ks' ws' now taken sums
    steps-out h =
        taking-out t n (omega (arith, length-first)) (rw same at r.used_is) (rw same at r.sums_are)
        (rw same at r.keys_are) (rw same at r.weights_are) h

    -- one pixel did not, which is the end
    pub steps-full : n ≡ 1 → room < next
        → TookMeets room (entries used ks₀ ws₀) (take end (strip_keys s)) ks₀ ws₀ now taken sums ks' ws'
    steps-full z h =
        taking-full t n (omega (arith, length-first)) (rw same at r.used_is) (rw same at r.sums_are)
        (rw same at r.keys_are) (rw same at r.weights_are) h z
