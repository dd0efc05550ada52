-- Laws of the pixels that are taken: which pixel stops, that those taken are the longest prefix that goes in, that the
-- table with them stays within its limits, and that lists of pixels join.
use mathlib.Core.Path.{◌≡◌, refl, ap, ◌∙◌}
use mathlib.Core.Bool.{true, false, or-true}
use mathlib.Core.Logic.{inl, inr}
use mathlib.Core.List.{List, [], ◌∷◌, ◌++◌}
use Prim.Native.Nat.{ℕ, zero, suc, ◌+◌, ◌≤◌, ◌<◌}
use native.Mathlib.Omega.{arith}
use native.Mathlib.Nat.{le_of_suc-le-suc, not-suc-le-zero, suc_inj}
use lib.ListN.{length, get_or, take, length-take}
use lib.Seq.{length-take-le, take_all, take-take, take-append-add}
use lib.Dec.{leb, eqb}
use borrow.Author.Tests.{le-leb, lt-leb, leb-false}
use Rattle.number.proofs.Cases.{bool, never, neither}
use Rattle.table_entries.specs.Content.{Entry, pixels_of, weight_of, sound}
use Rattle.colour.specs.{most_pixels}
use Rattle.table_entries.specs.Strip.{Keys, none, more}
use Rattle.table_entries.specs.Adding.{put, put_all, stops, taken_of, with_taken, Prefix}
use Rattle.table_entries.proofs.Gives.{
  give-length-is,
  give-pixels,
  give-sound,
  put_all-length,
  put_all-pixels,
  put_all-append,
}

-- ---- the pixel that does not go in

-- at a full pixel total none goes in
stops-at-total : (room : ℕ) (es : List Entry) (k : ℕ) → most_pixels ≤ pixels_of es → stops room es k ≡ true
stops-at-total room es k h = simp (le-leb most_pixels (pixels_of es) h)

module _ (room : ℕ) (es : List Entry) (k : ℕ) (s : sound 0 es ≡ true) where
  -- where the table with the pixel has more entries than the room, it does not go in
  pub stops-at-room : length es ≤ room → room < length (put k es) → stops room es k ≡ true
  stops-at-room a h = elim (bool (eqb (weight_of k es) 0)) [
    | inl t ↦
        let n : length (put k es) ≡ length es + 1 = give-length-is k 1 0 es s ∙ simp t in
        simp (t, le-leb room (length es) (omega arith), or-true)
    | inr t ↦
        let n : length (put k es) ≡ length es + 0 = give-length-is k 1 0 es s ∙ simp t in
        absurd (omega arith)
  ]

  -- where the table with the pixel is within both limits, it goes in
  goes_in : length (put k es) ≤ room → pixels_of (put k es) ≤ most_pixels → stops room es k ≡ false
  goes_in a b =
      let u : leb most_pixels (pixels_of es) ≡ false = lt-leb most_pixels (pixels_of es)
      (omega (arith, give-pixels k 1 es))
      in
      elim (bool (eqb (weight_of k es) 0)) [
        | inl t ↦
            let n : length (put k es) ≡ length es + 1 = give-length-is k 1 0 es s ∙ simp t in
            simp (u, t, lt-leb room (length es) (omega arith))
        | inr t ↦ simp (u, t)
      ]

  -- a pixel that goes in leaves the table within both limits
  goes-in-fits : length es ≤ room → stops room es k ≡ false
      → (length (put k es) ≤ room) × (pixels_of (put k es) ≤ most_pixels)
  goes-in-fits a h = elim (bool (leb most_pixels (pixels_of es))) [
    | inl u ↦ never (simp u at h)
    | inr u ↦
        let p : pixels_of (put k es) ≤ most_pixels
        = omega (arith, leb-false most_pixels (pixels_of es) u, give-pixels k 1 es) in
        elim (bool (eqb (weight_of k es) 0)) [
          | inl t ↦
              let n : length (put k es) ≡ length es + 1 = give-length-is k 1 0 es s ∙ simp t in
              (omega (arith, leb-false room (length es) (simp (u, t) at h)), p)
          | inr t ↦
              let n : length (put k es) ≡ length es + 0 = give-length-is k 1 0 es s ∙ simp t in
              (omega arith, p)
        ]
  ]

-- ---- how many are taken

-- no more than there are
pub taken-at-most : (room : ℕ) (es : List Entry) (ps : List ℕ) → taken_of room es ps ≤ length ps
taken-at-most room es [] = omega arith
taken-at-most room es (k ∷ ps) = elim (bool (stops room es k)) [
  | inl a ↦ simp a (omega arith)
  | inr a ↦ simp a (omega (arith, taken-at-most room (put k es) ps))
]

-- and no more than the pixel total allows
pub taken-few : (room : ℕ) (es : List Entry) (ps : List ℕ) → pixels_of es ≤ most_pixels
    → pixels_of es + taken_of room es ps ≤ most_pixels
taken-few room es [] h = omega arith
taken-few room es (k ∷ ps) h = elim (bool (stops room es k)) [
  | inl a ↦ simp a (omega arith)
  | inr a ↦
      let l = leb-false most_pixels (pixels_of es) (neither (leb most_pixels (pixels_of es)) _ a).0 in
      let p = give-pixels k 1 es in
      simp a (omega (arith, taken-few room (put k es) ps (omega arith)))
]

-- the pixel total goes up by their number
pub taken-pixels : (room : ℕ) (es : List Entry) (ps : List ℕ)
    → pixels_of (with_taken room es ps) ≡ pixels_of es + taken_of room es ps
taken-pixels room es ps =
    omega (
      arith,
      put_all-pixels es (take (taken_of room es ps) ps),
      length-take-le (taken_of room es ps) ps (taken-at-most room es ps),
    )

-- where all are taken, the table is that of all
pub taken-all : (room : ℕ) (es : List Entry) (ps : List ℕ) → length ps ≤ taken_of room es ps
    → with_taken room es ps ≡ put_all es ps
taken-all room es ps h = ap (put_all es) (take_all (taken_of room es ps) ps h)

-- the table with those taken is within both limits
pub taken-fits : (room : ℕ) (es : List Entry) {ps : List ℕ} → Keys ps → sound 0 es ≡ true → length es ≤ room
    → pixels_of es ≤ most_pixels → (length (with_taken room es ps) ≤ room)
    × (pixels_of (with_taken room es ps) ≤ most_pixels)
taken-fits room es none s a b = (a, b)
taken-fits room es (more {k = k} l r) s a b = elim (bool (stops room es k)) [
  | inl t ↦ simp t (a, b)
  | inr t ↦
      let f : (length (put k es) ≤ room) × (pixels_of (put k es) ≤ most_pixels) = goes-in-fits room es k s a t in
      simp t (taken-fits room (put k es) r (give-sound k 1 0 es (omega arith) l (omega arith) s) f.0 f.1)
]

-- where the table with all pixels is within both limits, all are taken
pub fits-taken : (room : ℕ) (es : List Entry) {ps : List ℕ} → Keys ps → sound 0 es ≡ true
    → length (put_all es ps) ≤ room → pixels_of (put_all es ps) ≤ most_pixels → taken_of room es ps ≡ length ps
fits-taken room es none s a b = refl
fits-taken room es (more {k = k} {ps = ps} l r) s a b =
    let t : stops room es k ≡ false
    = goes_in room es k s (omega (arith, put_all-length (put k es) ps)) (omega (arith, put_all-pixels (put k es) ps)) in
    simp t (ap suc (fits-taken room (put k es) r (give-sound k 1 0 es (omega arith) l (omega arith) s) a b))

-- where all of one list are taken, a list joined to it is taken as far as it goes into the table of the first
pub taken-append : (room : ℕ) (es : List Entry) (ps qs : List ℕ) → taken_of room es ps ≡ length ps
    → taken_of room es (ps ++ qs) ≡ length ps + taken_of room (put_all es ps) qs
taken-append room es [] qs h = omega arith
taken-append room es (k ∷ ps) qs h = elim (bool (stops room es k)) [
  | inl t ↦ absurd (let z : 0 ≡ suc (length ps) = simp t at h in omega arith)
  | inr t ↦ simp t (omega (arith, taken-append room (put k es) ps qs (suc_inj (simp t at h))))
]

-- where all of two lists joined are taken, all of the first are
pub taken-front : (room : ℕ) (es : List Entry) (ps qs : List ℕ) → taken_of room es (ps ++ qs) ≡ length (ps ++ qs)
    → taken_of room es ps ≡ length ps
taken-front room es [] qs h = refl
taken-front room es (k ∷ ps) qs h = elim (bool (stops room es k)) [
  | inl t ↦ absurd (let z : 0 ≡ suc (length (ps ++ qs)) = simp t at h in omega arith)
  | inr t ↦ simp t (ap suc (taken-front room (put k es) ps qs (suc_inj (simp t at h))))
]

-- the table of two lists, where all of the first are taken, is that of the second after the first
pub with_taken-append : (room : ℕ) (es : List Entry) (ps qs : List ℕ) → taken_of room es ps ≡ length ps
    → with_taken room es (ps ++ qs) ≡ with_taken room (put_all es ps) qs
with_taken-append room es ps qs h =
    rw (taken-append room es ps qs h, take-append-add ps qs (taken_of room (put_all es ps) qs))
    (put_all-append es ps (take (taken_of room (put_all es ps) qs) qs))

-- pixels past what the pixel total allows change nothing
pub taken-capped : (room : ℕ) (es : List Entry) (n : ℕ) (ps : List ℕ) → most_pixels ≤ pixels_of es + n
    → taken_of room es (take n ps) ≡ taken_of room es ps
taken-capped room es zero [] h = refl
taken-capped room es zero (k ∷ ps) h = simp (stops-at-total room es k (omega arith))
taken-capped room es (suc n) [] h = refl
taken-capped room es (suc n) (k ∷ ps) h = elim (bool (stops room es k)) [
  | inl t ↦ simp t
  | inr t ↦ simp t (ap suc (taken-capped room (put k es) n ps (omega (arith, give-pixels k 1 es))))
]

-- nor does the table
pub with_taken-capped : (room : ℕ) (es : List Entry) (n : ℕ) (ps : List ℕ) → most_pixels ≤ pixels_of es + n
    → with_taken room es (take n ps) ≡ with_taken room es ps
with_taken-capped room es n ps h =
    let c : taken_of room es (take n ps) ≡ taken_of room es ps = taken-capped room es n ps h in
    let l : taken_of room es ps ≤ n = omega (arith, c, taken-at-most room es (take n ps), length-take n ps) in
    rw (c, take-take (taken_of room es ps) n ps l)

-- ---- those taken are the longest prefix that goes in, pixel by pixel

-- those taken are such a prefix
pub taken-prefix : (room : ℕ) (es : List Entry) (ps : List ℕ) → Prefix room es ps (taken_of room es ps)
taken-prefix room es [] = record {
  within = omega arith;
  goes = λ i l. absurd (not-suc-le-zero l);
  ends = λ l. absurd (not-suc-le-zero l);
}
taken-prefix room es (k ∷ ps) = elim (bool (stops room es k)) [
  | inl t ↦ simp t (record { within = omega arith; goes = λ i l. absurd (not-suc-le-zero l); ends = λ l. t })
  | inr t ↦ let p : Prefix room (put k es) ps (taken_of room (put k es) ps) = taken-prefix room (put k es) ps in
      simp t (record {
        within = omega (arith, p.within);
        goes = each p t;
        ends = λ l. p.ends (le_of_suc-le-suc l);
      })
] where
  each : {n : ℕ} → Prefix room (put k es) ps n → stops room es k ≡ false → (i : ℕ) → i < suc n
      → stops room (put_all es (take i (k ∷ ps))) (get_or (k ∷ ps) i 0) ≡ false
  each p t zero l = t
  each p t (suc i) l = p.goes i (le_of_suc-le-suc l)

-- there is one such number only
pub prefix-only : (room : ℕ) (es : List Entry) (ps : List ℕ) (n : ℕ) → Prefix room es ps n → n ≡ taken_of room es ps
prefix-only room es [] n p = omega (arith, p.within)
prefix-only room es (k ∷ ps) zero p = simp (p.ends (omega arith))
prefix-only room es (k ∷ ps) (suc n) p =
    simp (p.goes 0 (omega arith))
    (ap suc (prefix-only room (put k es) ps n (record {
      within = le_of_suc-le-suc p.within;
      goes = λ i l. p.goes (suc i) (omega arith);
      ends = λ l. p.ends (omega arith);
    })))
