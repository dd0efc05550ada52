-- What an accepted mapping answers: numbers, errors and figures.
use Prim.Native.Nat.{ℕ, ◌+◌, ◌^◌, ◌≤◌, ◌<◌}
use mathlib.Core.Bool.{false}
use mathlib.Core.List.{List, [], ◌∷◌}
use mathlib.Core.Path.{◌≡◌, refl, sym, ap, ◌∙◌, subst}
use native.Mathlib.Omega.{arith}
use lib.Ieee.{Float}
use lib.ListN.{length, get_or}
use lib.Ieee.Exact.{HasValue}
use lib.Pow.{pow_pos}
use borrow.Author.Tests.{ltb-false}
use Rattle.std.specs.Prelude.{None, Some}
use Rattle.refusal.specs.{Refusal}
use Rattle.refusal.proofs.By.{by-all}
use Rattle.colour.specs.{Bytes, most_pixels}
use Rattle.shades.proofs.Checks.{bad-coordinates-exactly}
use Rattle.figures.specs.{
  Means,
  most_exact,
  figure,
  mean_figure,
  channel_means,
  mean_number,
  mean_values,
  NearestTo,
  zero_figure,
}
use Rattle.figures.proofs.Promises as figures
use Rattle.figures.proofs.Nearest.{power_le}
use Rattle.map_blocks.specs.{pixel_count, NearestEntry, error_of, errors_of}
use Rattle.map_blocks.proofs.Promises as strips
use Rattle.map_blocks.proofs.Totals.{errors-most}
use Rattle.mapping.specs.Outcomes.{
  MapOutcome,
  map_rows,
  refusal_in,
  mapped_in,
  made_map,
  kept_map,
  map_strip,
  OfEachError,
  OfEachFigure,
  NoFigure,
}
use Rattle.mapping.specs.declared.Mapped.{Mapped}
use Rattle.mapping.proofs.Meaning.{map-refuses, index_at}

module _ (s p d : List ℕ) (a : ℕ) where
  -- the answer
  abbrev r : Mapped
  r = mapped_in (map_strip s p d a).answer

  -- the channels add up to the error, in refused calls too
  pub channels-add : r.errors.red + r.errors.green + r.errors.blue ≡ r.error
  unfolding map_strip
  channels-add =
      by-all (map_rows s p d a) (made_map s p d a) (kept_map p d)
      (λ (o : MapOutcome).
      (mapped_in o.answer).errors.red + (mapped_in o.answer).errors.green + (mapped_in o.answer).errors.blue
      ≡ (mapped_in o.answer).error)
      (strips.channels-add p s (pixel_count s)) (λ n. refl)

  -- a refusal holds no figure
  pub none-of-refused : (n : Refusal) → refusal_in (map_strip s p d a).answer ≡ Some n → NoFigure r
  none-of-refused n e =
      rw (ap (λ (o : MapOutcome). mapped_in o.answer) ((map-refuses s p d a).refused_is n e))
      (record { number = refl; values = refl; zeros = refl })

  module _ (ok : refusal_in (map_strip s p d a).answer ≡ None) where
    -- an accepted answer is that of the strip
    answer-made : r ≡ mapped_in (made_map s p d a).answer
    answer-made = ap (λ (o : MapOutcome). mapped_in o.answer) ((map-refuses s p d a).accepted_is ok)

    -- its error and its channel errors
    pub error-is : (r.error ≡ error_of p s (pixel_count s)) × (r.errors ≡ errors_of p s (pixel_count s))
    error-is = (ap (λ (x : Mapped). x.error) answer-made, ap (λ (x : Mapped). x.errors) answer-made)

    -- each index byte is the nearest entry's number
    pub index-is-nearest : (i : ℕ) → i < pixel_count s
        → NearestEntry p s i (get_or (map_strip s p d a).index (a + i) 0)
    index-is-nearest i h =
        let none = (map-refuses s p d a).accepted_exactly.0 ok in
        let palette = (bad-coordinates-exactly (length p)).0 none.1.0 in
        subst (NearestEntry p s i) (sym (index_at s p d a ok i h)) (strips.entry-is-nearest p s i palette.0)

    -- the mean and the channel means
    means_are : (r.mean ≡ mean_figure r.error (pixel_count s))
        × (r.means ≡ channel_means r.errors.red r.errors.green r.errors.blue (pixel_count s))
    means_are = rw answer-made (refl, refl)

    -- with no pixels
    pub mean-of-none : pixel_count s ≡ 0 → (mean_values r.mean ≡ [])
        × (r.means ≡ record { red = zero_figure; green = zero_figure; blue = zero_figure })
    mean-of-none z = (
      ap mean_values (means_are.0 ∙ ap (mean_figure r.error) z),
      means_are.1 ∙ ap (channel_means r.errors.red r.errors.green r.errors.blue) z,
    )

    -- with some
    pub mean-of-some : 0 < pixel_count s → (mean_values r.mean ≡ figure r.error (pixel_count s) ∷ [])
        × (r.means ≡ record {
          red = figure r.errors.red (pixel_count s);
          green = figure r.errors.green (pixel_count s);
          blue = figure r.errors.blue (pixel_count s);
        })
    mean-of-some some = (
      ap mean_values means_are.0 ∙ (figures.mean-of-some r.error (pixel_count s) some).1,
      means_are.1 ∙ figures.means-of-some r.errors.red r.errors.green r.errors.blue (pixel_count s) some,
    )

    -- an accepted strip has at most 16,777,216 pixels
    few : pixel_count s ≤ most_pixels
    few =
        let none = (map-refuses s p d a).accepted_exactly.0 ok in
        ltb-false most_pixels (pixel_count s) none.1.1.1.0

    -- so each of the four errors is converted without loss
    errors-convert : Bytes s → Bytes p → (F : ℕ → Type 0) → ((e : ℕ) → e < most_exact → F e) → OfEachError r F
    errors-convert strip palette F f =
        let n = pixel_count s in
        let most = strips.error-most p s n palette strip in
        let each = errors-most p s n palette strip in
        let low = few in
        rw answer-made
        (record {
          whole = f _ (omega arith);
          red = f _ (omega (arith, each.0));
          green = f _ (omega (arith, each.1));
          blue = f _ (omega (arith, each.2));
        })

    -- they are below 2 ^ 53
    pub errors-below : Bytes s → Bytes p → OfEachError r (λ e. e < most_exact)
    errors-below strip palette = errors-convert strip palette (λ e. e < most_exact) (λ e l. l)

    -- and the figure of each is the nearest
    pub figures-nearest : Bytes s → Bytes p → 0 < pixel_count s
        → OfEachError r (λ e. NearestTo (figure e (pixel_count s)) e (pixel_count s))
    figures-nearest strip palette some =
        errors-convert strip palette _
        (λ e l. figures.figure-nearest e (pixel_count s) (omega arith) some (omega (arith, few)))

    -- or exact
    pub figures-exact : (k : ℕ) → Bytes s → Bytes p → pixel_count s ≡ 2 ^ k
        → OfEachError r (λ e. HasValue (figure e (2 ^ k)) false e (2 ^ k))
    figures-exact k strip palette is =
        let low : k ≤ 24 = power_le k 24 (rw (← is) few) in
        errors-convert strip palette _ (λ e l. figures.figure-exact e k l (omega arith))

    -- ---- the figures that are answered

    -- with no pixels there is none
    pub none-of-no-pixels : pixel_count s ≡ 0 → NoFigure r
    none-of-no-pixels z = record {
      number = ap mean_number (means_are.0 ∙ ap (mean_figure r.error) z);
      values = (mean-of-none z).0;
      zeros = (mean-of-none z).1;
    }

    -- with some, what holds of the figure of each error holds of each figure answered
    each-figure : (F : Float → ℕ → Type 0) → 0 < pixel_count s → OfEachError r (λ e. F (figure e (pixel_count s)) e)
        → OfEachFigure r F
    each-figure F some each =
        let made = (mean-of-some some).1 in
        record {
          number = ap mean_number means_are.0 ∙ (figures.mean-of-some r.error (pixel_count s) some).0;
          mean = figure r.error (pixel_count s);
          values = (mean-of-some some).0;
          whole = each.whole;
          red = subst (λ x. F x r.errors.red) (sym (ap (λ (m : Means). m.red) made)) each.red;
          green = subst (λ x. F x r.errors.green) (sym (ap (λ (m : Means). m.green) made)) each.green;
          blue = subst (λ x. F x r.errors.blue) (sym (ap (λ (m : Means). m.blue) made)) each.blue;
        }

    -- so each is the nearest
    pub means-nearest : Bytes s → Bytes p → 0 < pixel_count s → OfEachFigure r (λ x e. NearestTo x e (pixel_count s))
    means-nearest strip palette some =
        each-figure (λ x e. NearestTo x e (pixel_count s)) some (figures-nearest strip palette some)

    -- or exact
    pub means-exact : (k : ℕ) → Bytes s → Bytes p → pixel_count s ≡ 2 ^ k
        → OfEachFigure r (λ x e. HasValue x false e (pixel_count s))
    means-exact k strip palette is =
        each-figure (λ x e. HasValue x false e (pixel_count s)) (rw is (pow_pos k))
        (rw is (figures-exact k strip palette is))
