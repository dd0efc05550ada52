-- Where a run begins: with the given shades, and each next shade at the farthest colour, lowest key at a tie, where no
-- shade before it stands.
use Prim.Native.Nat.{ℕ, ◌+◌, ◌-◌, ◌≤◌, ◌<◌}
use mathlib.Core.List.{List}
use mathlib.Core.Path.{◌≡◌, refl, ap, ◌∙◌}
use native.Mathlib.Decide.{dec_lt}
use native.Mathlib.Omega.{arith}
use lib.ListN.{get_or}
use Rattle.number.specs.{most}
use Rattle.number.proofs.Promises.{most-is-best}
use Rattle.colour.specs.{Point, distance}
use Rattle.colour.proofs.Promises.{distance_self, colour-only}
use Rattle.table_test.specs.{Record, GoodTable}
use Rattle.shades.specs.{most_shades, shade_at, colour_at}
use Rattle.shades.proofs.Nearest.{nearest-least}
use Rattle.method.specs.{Base, colours_of, remote, unlike, starts_from, begin_from}
use Rattle.method.proofs.Begins.{start-stored, starts-stored}
use Rattle.method.proofs.Covers.{remote-same, unlike-more, unlike-find}
use Rattle.method.proofs.Startings.{next-given, next-chosen}
use Rattle.lloyd.specs.Beginning.{FarthestColour}

-- in a good table an entry with a lower key stands before
lower-key-before : {rec : Record} {ks ws : List ℕ} → GoodTable rec ks ws → (i j : ℕ) → j < rec.used
    → get_or ks j 0 < get_or ks i 0 → j < i
lower-key-before {ks = ks} g i j h l =
    elim (dec_lt j i) [
      | yes b ↦ b
      | no b ↦ elim (dec_lt i j) [
        | yes c ↦ absurd (omega (arith, g.rises i j c h))
        | no c ↦ let e : j ≡ i = omega arith in absurd (omega (arith, ap (λ n. get_or ks n 0) e))
      ]
    ]

-- and no two entries have one colour
pub colours-differ : {rec : Record} {ks ws : List ℕ} → GoodTable rec ks ws → (i j : ℕ) → i < rec.used → j < rec.used
    → distance (colour_at ks i) (colour_at ks j) ≡ 0 → i ≡ j
colours-differ {ks = ks} g i j h l e =
    let same = colour-only (get_or ks i 0) (get_or ks j 0) (g.keys i h) (g.keys j l) e in
    elim (dec_lt i j) [
      | yes b ↦ absurd (omega (arith, g.rises i j b l))
      | no b ↦ elim (dec_lt j i) [ yes c ↦ absurd (omega (arith, g.rises j i c h)) | no c ↦ omega arith ]
    ]

-- the farthest colour from the q shades of one list is that from the same q shades of another
farthest-same : {used : ℕ} {ks : List ℕ} (s t : List ℕ) (q : ℕ) (p : Point) → 0 < q
    → ((j : ℕ) → j < q → shade_at s j ≡ shade_at t j) → FarthestColour used ks s q p → FarthestColour used ks t q p
farthest-same {ks = ks} s t q p some same f =
    let e : (c : Point) → remote s q c ≡ remote t q c = λ c. remote-same s t q c some same in
    record {
      entry = f.entry;
      within = f.within;
      is = f.is;
      farthest = λ j h. omega (arith, e (colour_at ks j), e p, f.farthest j h);
      lowest_key = λ j h l. omega (arith, e (colour_at ks j), e p, f.lowest_key j h l);
    }

-- of shades that a colour is unlike all of, none stands where the farthest colour from them does
farthest-apart : {used : ℕ} {ks : List ℕ} (s : List ℕ) (q : ℕ) (z : Point) → 0 < unlike used (colour_at ks) s q
    → FarthestColour used ks s q z → (p : ℕ) → p < q → ¬ (shade_at s p ≡ z)
farthest-apart {used} {ks} s q z some f p l e =
    let off = unlike-find used (colour_at ks) s q some in
    absurd (omega (
      arith,
      nearest-least s q z p l,
      ap (distance z) e,
      distance_self z,
      f.farthest off.0 off.1,
      off.2,
    ))

-- the colour that `most` finds is the farthest, by keys
most-is-farthest : {rec : Record} {ks ws : List ℕ} → GoodTable rec ks ws → 0 < rec.used → (s : List ℕ) (q : ℕ)
    → FarthestColour rec.used ks s q (colour_at ks (most rec.used (λ j. remote s q (colour_at ks j))))
most-is-farthest {rec} {ks} g some s q =
    let f : ℕ → ℕ = λ j. remote s q (colour_at ks j) in
    let b = most-is-best rec.used f some in
    record {
      entry = most rec.used f;
      within = b.member;
      is = refl;
      farthest = λ j h. let none = b.unbettered j h in omega arith;
      lowest_key = λ j h l. b.lower j h (lower-key-before g (most rec.used f) j h l);
    }

module _ {rec : Record} {ks ws : List ℕ} (g : GoodTable rec ks ws) (B : Base) (k : ℕ) (ms : List ℕ)
    (few : k ≤ most_shades) where
  -- a given shade is where a run begins
  pub start-is-given : (q : ℕ) → q < k → q < B.given
      → shade_at (begin_from B (colours_of rec.used ks ws) k ms).coordinates q ≡ B.at q
  start-is-given q h l =
      let C = colours_of rec.used ks ws in
      start-stored B C k ms q few h ∙ next-given B C.n C.c q (starts_from B C.n C.c q) l

  -- each start after the given ones is such a colour, for the starts before it
  chosen-is-farthest : (q : ℕ) → 0 < rec.used → q < k → B.given ≤ q
      → FarthestColour rec.used ks (starts_from B rec.used (colour_at ks) q) q
      (shade_at (begin_from B (colours_of rec.used ks ws) k ms).coordinates q)
  chosen-is-farthest q some h l =
      let C = colours_of rec.used ks ws in
      rw (start-stored B C k ms q few h, next-chosen B C.n C.c q (starts_from B C.n C.c q) l)
      (most-is-farthest g some (starts_from B rec.used (colour_at ks) q) q)

  -- which are the first ones that the run begins with
  pub start-is-farthest : (q : ℕ) → 0 < rec.used → 0 < q → q < k → B.given ≤ q
      → FarthestColour rec.used ks (begin_from B (colours_of rec.used ks ws) k ms).coordinates q
      (shade_at (begin_from B (colours_of rec.used ks ws) k ms).coordinates q)
  start-is-farthest q some one h l =
      farthest-same (starts_from B rec.used (colour_at ks) q) _ q _ one
      (starts-stored B (colours_of rec.used ks ws) k ms q few (omega arith)) (chosen-is-farthest q some h l)

  -- where as many colours are unlike the given shades as are to be chosen, it stands where none before it does
  pub starts-differ : (p q : ℕ)
      → k ≤ B.given
      + unlike rec.used (colour_at ks) (begin_from B (colours_of rec.used ks ws) k ms).coordinates B.given
      → p < q → q < k → B.given ≤ q
      → ¬ (shade_at (begin_from B (colours_of rec.used ks ws) k ms).coordinates p
      ≡ shade_at (begin_from B (colours_of rec.used ks ws) k ms).coordinates q)
  starts-differ p q enough l h free =
      let s = (begin_from B (colours_of rec.used ks ws) k ms).coordinates in
      let c = colour_at ks in
      let e : B.given + (q - B.given) ≡ q = omega arith in
      let fewer : unlike rec.used c s B.given ≤ unlike rec.used c s q + (q - B.given) =
      rw e at (unlike-more rec.used c (colours-differ g) s B.given (q - B.given)) in
      let left : 0 < unlike rec.used c s q = omega (arith, fewer, enough) in
      let some : 0 < rec.used = omega (arith, (unlike-find rec.used c s q left).1) in
      farthest-apart s q _ left (start-is-farthest q some (omega arith) h free) p l
