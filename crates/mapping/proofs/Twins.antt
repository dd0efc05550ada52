-- What a mapping tells of twins: with TWIN SHADE the pair, and none in every other answer.
use Prim.Native.Nat.{ℕ}
use mathlib.Core.Bool.{true, false}
use mathlib.Core.List.{List}
use mathlib.Core.Logic.{◌↔◌, inl, inr}
use mathlib.Core.Path.{◌≡◌, refl, sym, ap, ◌∙◌, subst}
use native.Mathlib.Omega.{arith}
use borrow.Author.Tests.{ne_eqb}
use Rattle.std.specs.Prelude.{None, Some}
use Rattle.std.specs.Option.{IsSomeAnd}
use Rattle.refusal.specs.{Refusal, number_of, Given, TwinShade}
use Rattle.refusal.proofs.Promises.{number-only}
use Rattle.colour.specs.{bad_strip}
use Rattle.palette.specs.{bad_palette}
use Rattle.palette_twins.specs.{twin_shade, TwoEqual, AreTwins, AllDiffer}
use Rattle.palette_twins.proofs.Promises.{twin-shade-exactly, all-differ-exactly, twins-are}
use Rattle.mapping.specs.Outcomes.{MapOutcome, map_rows, twins_told, refusal_in, answered_twins, map_strip}
use Rattle.mapping.proofs.Meaning.{map-refuses}

module _ (s p d : List ℕ) (a : ℕ) where
  -- where TWIN SHADE is given strip and palette are whole, and there are twins
  given-twins : Given (map_rows s p d a) TwinShade
      → (bad_strip s ≡ false) × (bad_palette p ≡ false) × (twin_shade p ≡ true)
  given-twins (inl (t, e)) = let z = ap number_of e in absurd (omega arith)
  given-twins (inr (f, inl (t, e))) = let z = ap number_of e in absurd (omega arith)
  given-twins (inr (f, inr (g, inl (t, e)))) = (f, g, t)
  given-twins (inr (f, inr (g, inr (h, inl (t, e))))) = let z = ap number_of e in absurd (omega arith)
  given-twins (inr (f, inr (g, inr (h, inr (i, inl (t, e)))))) = let z = ap number_of e in absurd (omega arith)
  given-twins (inr (f, inr (g, inr (h, inr (i, inr (j, none)))))) = absurd none

  -- it is given exactly where they are whole and two entries are equal
  pub twins-refused-exactly : (refusal_in (map_strip s p d a).answer ≡ Some TwinShade)
      ↔ ((bad_strip s ≡ false) × (bad_palette p ≡ false) × TwoEqual p)
  twins-refused-exactly = (
    λ e.
        let g = given-twins (((map-refuses s p d a).refused_exactly TwinShade).0 e) in
        (g.0, g.1, (twin-shade-exactly p).0 g.2),
    λ t.
        ((map-refuses s p d a).refused_exactly TwinShade).1
        (inr (t.0, inr (t.1, inl ((twin-shade-exactly p).1 t.2, refl)))),
  )

  -- the twins of a refusal are those that it tells
  told : (n : Refusal) → refusal_in (map_strip s p d a).answer ≡ Some n
      → answered_twins (map_strip s p d a).answer ≡ twins_told p n
  told n e = ap (λ (o : MapOutcome). answered_twins o.answer) ((map-refuses s p d a).refused_is n e)

  -- TWIN SHADE tells the pair
  pub twins-told : refusal_in (map_strip s p d a).answer ≡ Some TwinShade
      → IsSomeAnd (answered_twins (map_strip s p d a).answer) (AreTwins p)
  twins-told e =
      let g = given-twins (((map-refuses s p d a).refused_exactly TwinShade).0 e) in
      subst (λ t. IsSomeAnd t (AreTwins p)) (sym (told TwinShade e)) (twins-are p g.2)

  -- another refusal none
  pub no-twins-refused : (n : Refusal) → refusal_in (map_strip s p d a).answer ≡ Some n → ¬ (n ≡ TwinShade)
      → answered_twins (map_strip s p d a).answer ≡ None
  no-twins-refused n e other =
      told n e ∙ rw (ne_eqb (number_of n) (number_of TwinShade) (λ z. other (number-only n TwinShade z)))

  module _ (ok : refusal_in (map_strip s p d a).answer ≡ None) where
    -- and an accepted call none either
    pub no-twins-accepted : answered_twins (map_strip s p d a).answer ≡ None
    no-twins-accepted = ap (λ (o : MapOutcome). answered_twins o.answer) ((map-refuses s p d a).accepted_is ok)

    -- of an accepted call all entries differ
    pub entries-differ : AllDiffer p
    entries-differ = (all-differ-exactly p).0 ((map-refuses s p d a).accepted_exactly.0 ok).1.1.0
