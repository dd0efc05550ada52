-- A header with each comment replaced by one white byte has the same numbers.
use Prim.Native.Nat.{ℕ, ◌+◌, ◌≤◌}
use mathlib.Core.Bool.{true, false}
use mathlib.Core.List.{List, ◌++◌}
use mathlib.Core.Path.{◌≡◌, refl, sym, ap, ◌∙◌, subst}
use native.Mathlib.Omega.{arith}
use lib.ListN.{length, take, drop, length-append, length-drop}
use lib.Seq.{drop-length}
use Rattle.grammar.specs.{is_digit}
use Rattle.grammar.proofs.Decimals.{decimal-same}
use Rattle.p6_gap.specs.{is_white, replaced_from, replaced}
use Rattle.p6_gap.proofs.Bytes.{white-inside}
use Rattle.p6_gap.proofs.Replacing.{Onward, onward-byte, onward-blank, onward-gap, onward-digits}
use Rattle.p6_header.specs.Standing.{Field, HeaderIn}
use Rattle.p6_header.proofs.Headers.{header-long}
use Rattle.p6_header.proofs.Alone.{header-alone}

module _ (one : ℕ) (white : is_white one ≡ true) (s t behind : List ℕ) where
  -- t has from place b on what s has from place a on, with each comment replaced, and these bytes behind it
  abbrev On : ℕ → ℕ → Type 0
  On a b = Onward one white s t behind a b

  -- a field has the same value
  onward-field : (a b c value : ℕ) → Field s a c value → On a b → (e : ℕ) × Field t b e value × On c e
  onward-field a b c value f o =
      let g = onward-gap one white s t behind a b f.start f.gap o in
      let n = onward-digits one white s t behind f.digits f.start g.0 f.digit g.2 in (
        g.0 + f.digits,
        record {
          start = g.0;
          digits = f.digits;
          gap = g.1;
          some_digit = f.some_digit;
          few_digits = f.few_digits;
          digit = λ i l. ap is_digit (n.0 i l) ∙ f.digit i l;
          is = f.is ∙ decimal-same f.digits _ _ (λ i l. sym (n.0 i l));
          ends = refl;
        },
        subst (λ i. On i (g.0 + f.digits)) (sym f.ends) n.1,
      )

  -- where all of s is behind, so is the replaced
  onward-end : (b : ℕ) → b ≤ length t → On 0 0 → On (length s) b → length (replaced one s) ≡ b
  unfolding replaced_from
  onward-end b l all o =
      let rest : behind ≡ drop b t = sym (ap (λ x. replaced_from false one x ++ behind) (drop-length s)) ∙ o in
      omega (
        arith,
        sym (length-append (replaced one s) behind) ∙ ap length all,
        ap length rest ∙ length-drop b t,
      )

  -- a header alone has the same numbers
  onward-header : (w h d : ℕ) → HeaderIn s w h d (length s) → On 0 0 → HeaderIn t w h d (length (replaced one s))
  onward-header w h d H all =
      let long = header-long s w h d (length s) H in
      let letter = onward-byte one white s t behind 0 0 (omega arith) (λ z. omega (arith, H.letter)) all in
      let figure = onward-byte one white s t behind 1 1 (omega arith) (λ z. omega (arith, H.figure)) letter.1 in
      let width = onward-field 2 2 H.after-width w H.width_is figure.1 in
      let height = onward-field H.after-width width.0 H.after-height h H.height_is width.2 in
      let depth = onward-field H.after-height height.0 H.after-depth d H.depth_is height.2 in
      let last = onward-blank one white s t behind H.after-depth depth.0 H.last depth.2 in
      record {
        after-width = width.0;
        after-height = height.0;
        after-depth = depth.0;
        letter = letter.0 ∙ H.letter;
        figure = figure.0 ∙ H.figure;
        width_is = width.1;
        height_is = height.1;
        depth_is = depth.1;
        last = last.0;
        ends =
            onward-end (depth.0 + 1) (omega (arith, white-inside t depth.0 last.0)) all
            (subst (λ i. On i (depth.0 + 1)) (sym H.ends) last.1);
      }

-- a header at the front of an input has the same numbers with each comment replaced, whatever is behind it
pub header-replaced : (one : ℕ) → is_white one ≡ true → (s : List ℕ) (w h d n : ℕ) → HeaderIn s w h d n
    → (behind : List ℕ) → HeaderIn (replaced one (take n s) ++ behind) w h d (length (replaced one (take n s)))
header-replaced one white s w h d n H behind =
    onward-header one white (take n s) (replaced one (take n s) ++ behind) behind w h d (header-alone s w h d n H) refl
