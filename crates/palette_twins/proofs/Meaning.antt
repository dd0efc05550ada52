-- What the test of twins means, and which pair is told.
use Prim.Native.Nat.{ℕ, ◌/◌, ◌<◌}
use mathlib.Core.Bool.{true, false}
use mathlib.Core.List.{List}
use mathlib.Core.Logic.{◌↔◌, inl, inr}
use mathlib.Core.Path.{◌≡◌, refl, sym, ap, ◌∙◌}
use Rattle.std.specs.Option.{IsSomeAnd, is_some}
use Rattle.std.specs.Prelude.{Option, None, Some}
use native.Mathlib.Omega.{arith}
use lib.ListN.{length}
use lib.Dec.{ltb}
use borrow.Author.Tests.{ltb-true, ltb-false, lt-ltb}
use Rattle.number.proofs.Cases.{bool, never, cmp, lt, eq, gt}
use Rattle.number.proofs.Promises.{first-that-is}
use Rattle.shades.specs.{shade_at}
use Rattle.shades.proofs.Promises.{same-place-exactly}
use Rattle.palette_twins.specs.Pairs.{
  same_entry,
  equal_before,
  has_equal,
  higher_twin,
  twin_shade,
  first_twins,
  twins_of,
  no_twins,
  told_pair,
  TwoEqual,
  AreTwins,
  AllDiffer,
}
use Rattle.palette_twins.specs.declared.Twins.{Twins}

-- what holds of the twins that are told holds of their numbers
pub pair-told : (P : Twins → Type 0) (t : Option Twins) → IsSomeAnd t P → P (told_pair t)
pair-told P None h = absurd h
pair-told P (Some t) h = h

module _ (p : List ℕ) where
  -- ---- one entry

  -- an equal before an entry is before it, and equal to it
  equal_is : (q : ℕ) → has_equal p q ≡ true → (equal_before p q < q) × (shade_at p (equal_before p q) ≡ shade_at p q)
  equal_is q h =
      let l = ltb-true (equal_before p q) q h in
      (l, (same-place-exactly _ _).0 ((first-that-is q (λ i. same_entry p i q)).found l))

  -- an entry that has none differs from each before it
  differs : (q : ℕ) → has_equal p q ≡ false → (i : ℕ) → i < q → ¬ (shade_at p i ≡ shade_at p q)
  differs q h i l e =
      let past = ltb-false (equal_before p q) q h in
      never
      (sym ((same-place-exactly _ _).1 e) ∙ (first-that-is q (λ j. same_entry p j q)).before i (omega (arith, l, past)))

  -- ---- the test

  -- where it holds there are twins
  first-are : twin_shade p ≡ true → AreTwins p (first_twins p)
  first-are h =
      let l = ltb-true (higher_twin p) (length p / 3) h in
      let f = first-that-is (length p / 3) (has_equal p) in
      let e = equal_is (higher_twin p) (f.found l) in
      record {
        before = e.0;
        entries = l;
        equal = e.1;
        smallest = λ i j a b. differs j (f.before j b) i a;
      }

  -- which are told
  pub twins-are : twin_shade p ≡ true → IsSomeAnd (twins_of p) (AreTwins p)
  unfolding twins_of
  twins-are h = rw h (first-are h)

  -- in numbers too
  pub pair-are : twin_shade p ≡ true → AreTwins p (told_pair (twins_of p))
  pair-are h = pair-told (AreTwins p) (twins_of p) (twins-are h)

  -- where it fails all entries differ
  pub all-differ : twin_shade p ≡ false → AllDiffer p
  all-differ h i j a b =
      let past = ltb-false (higher_twin p) (length p / 3) h in
      let f = first-that-is (length p / 3) (has_equal p) in
      differs j (f.before j (omega (arith, b, past))) i a

  -- and none are told
  pub none_told : twin_shade p ≡ false → twins_of p ≡ None
  unfolding twins_of
  none_told h = rw h

  -- it holds exactly where two entries are equal
  pub twin-shade-exactly : (twin_shade p ≡ true) ↔ TwoEqual p
  twin-shade-exactly = (
    λ h.
        let t = first-are h in
        record {
          one = (first_twins p).lower;
          other = (first_twins p).higher;
          before = t.before;
          entries = t.entries;
          equal = t.equal;
        },
    λ t. elim (bool (twin_shade p)) [
      | inl h ↦ h
      | inr h ↦ absurd (all-differ h t.one t.other t.before t.entries t.equal)
    ],
  )

  -- it fails exactly where all entries differ
  pub all-differ-exactly : (twin_shade p ≡ false) ↔ AllDiffer p
  all-differ-exactly = (
    all-differ,
    λ d. elim (bool (twin_shade p)) [
      | inl h ↦ let t = first-are h in absurd (d _ _ t.before t.entries t.equal)
      | inr h ↦ h
    ],
  )

  -- what is told tells it
  pub told-exactly : twin_shade p ≡ is_some (twins_of p)
  unfolding twins_of
  told-exactly = elim (bool (twin_shade p)) [
    | inl h ↦ rw h refl
    | inr h ↦ rw h refl
  ]

  -- in numbers, none are told by 0 and 0
  pub none-in-numbers : twin_shade p ≡ false → told_pair (twins_of p) ≡ no_twins
  none-in-numbers h = ap told_pair (none_told h)

  -- and so the higher one tells the test: it is above 0 exactly where that holds
  pub told-in-numbers : twin_shade p ≡ ltb 0 (told_pair (twins_of p)).higher
  told-in-numbers = elim (bool (twin_shade p)) [
    | inl h ↦ h ∙ sym (lt-ltb 0 (told_pair (twins_of p)).higher (omega (arith, (pair-are h).before)))
    | inr h ↦ h ∙ sym (ap (λ (t : Twins). ltb 0 t.higher) (none-in-numbers h))
  ]

  -- so none are told exactly where all entries differ
  pub none-told-exactly : (twins_of p ≡ None) ↔ AllDiffer p
  none-told-exactly = (
    λ e. all-differ (told-exactly ∙ ap is_some e),
    λ d. none_told (all-differ-exactly.1 d),
  )

  -- ---- one pair only

  -- of two pairs of twins the higher numbers are one
  higher-only : {t u : Twins} → AreTwins p t → AreTwins p u → t.higher ≡ u.higher
  higher-only {t} {u} a b = elim (cmp t.higher u.higher) [
    | lt l _ ↦ absurd (b.smallest t.lower t.higher a.before l a.equal)
    | eq e _ _ ↦ e
    | gt l _ _ ↦ absurd (a.smallest u.lower u.higher b.before l b.equal)
  ]

  -- and so are the lower ones: both are equal to that entry, and so to each other
  lower_only : {t u : Twins} → AreTwins p t → AreTwins p u → t.lower ≡ u.lower
  lower_only {t} {u} a b =
      let one = higher-only a b in
      let same : shade_at p t.lower ≡ shade_at p u.lower =
      a.equal ∙ ap (shade_at p) one ∙ sym b.equal in
      elim (cmp t.lower u.lower) [
        | lt l _ ↦ absurd (b.smallest t.lower u.lower l b.before same)
        | eq e _ _ ↦ e
        | gt l _ _ ↦ absurd (a.smallest u.lower t.lower l a.before (sym same))
      ]

  -- so there is one pair
  pub twins-only : {t u : Twins} → AreTwins p t → AreTwins p u → t ≡ u
  twins-only {t} {u} a b =
      let l = lower_only a b in
      let h = higher-only a b in
      go t u l h
    where
      go : (t u : Twins) → t.lower ≡ u.lower → t.higher ≡ u.higher → t ≡ u
      go t u l h = rw (l, h)
