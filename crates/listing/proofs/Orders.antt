-- Which text is printed exactly when: the line of a refusal, or lines. The first test that holds gives the line, lines
-- are never such a line, and the line tells the refusal.
use Prim.Native.Nat.{ℕ, ◌*◌, ◌^◌, ◌<◌}
use mathlib.Core.List.{List}
use mathlib.Core.Logic.{◌↔◌, inl, inr}
use mathlib.Core.Path.{◌≡◌, sym, ◌∙◌, subst}
use native.Mathlib.Omega.{arith}
use lib.ListN.{take}
use Rattle.refusal.specs.{Refusal, number_of, Given, NoneHolds, TwinShade}
use Rattle.refusal.proofs.Order.{none-front, none-back, given-split, given-behind}
use Rattle.refusal.proofs.Promises.{number-only, number-most, done-exactly, none-or-given}
use Rattle.palette_twins.specs.{TwoEqual}
use Rattle.grammar.specs.{most_decimal}
use Rattle.texts.specs.{lines_of}
use Rattle.listing_lines.specs.{refused_text}
use Rattle.listing_lines.proofs.Promises.{refused-only, refused-not-lines}
use Rattle.listing_test.specs.{small_rows}
use Rattle.listing_work.specs.{run_tests, entries_on, map_tests, work_tests, made_work}
use Rattle.listing_work.proofs.Mapped.{twins-exactly}
use Rattle.listing.specs.Refusals.{count_in, picture_in, input_rows, listing_rows}
use Rattle.listing.specs.Listings.{listing_lines, listing_text}
use Rattle.listing.proofs.Texts.{input-refused, input-accepted, picture-refused, picture-accepted}

-- a refusal's number has at most 20 digits
number_small : (n : Refusal) → number_of n < 10 ^ most_decimal
number_small n = omega (arith, number-most n)

-- the line tells the refusal
line-only : (m n : Refusal) → refused_text (number_of m) ≡ refused_text (number_of n) → m ≡ n
line-only m n e = number-only m n (refused-only (number_of m) (number_of n) (number_small m) (number_small n) e)

module _ (s : List ℕ) where
  -- the picture's lines
  abbrev lines : List (List ℕ)
  lines = listing_lines (picture_in s) (count_in s)

  -- no lines are the line of a refusal
  not-lines : (n : Refusal) → ¬ (refused_text (number_of n) ≡ lines_of lines)
  not-lines n =
      let w = made_work (picture_in s) (count_in s) in
      refused-not-lines (number_of n) w.summary (take (3 * w.shades) w.palette) (take w.pixels w.index)

  -- the first test that holds gives its line
  line-of-given : (n : Refusal) → Given (listing_rows s) n → listing_text s ≡ refused_text (number_of n)
  line-of-given n g = elim (given-split (input_rows s) (work_tests (picture_in s) (count_in s)) n g) [
    | inl f ↦ input-refused s n f
    | inr f ↦ input-accepted s f.0 ∙ picture-refused (picture_in s) (count_in s) n f.1
  ]

  -- where none does lines are printed
  lines-of-none : NoneHolds (listing_rows s) → listing_text s ≡ lines_of lines
  lines-of-none g =
      let work = work_tests (picture_in s) (count_in s) in
      input-accepted s (none-front (input_rows s) work g)
      ∙ picture-accepted (picture_in s) (count_in s) (none-back (input_rows s) work g)

  -- a refusal is printed exactly when the first test that holds gives it
  pub listing-refused-exactly : (n : Refusal) → (listing_text s ≡ refused_text (number_of n)) ↔ Given (listing_rows s) n
  listing-refused-exactly n = (
    λ e. elim (none-or-given (listing_rows s)) [
      | inl g ↦ absurd (not-lines n (sym e ∙ lines-of-none g))
      | inr g ↦ subst (Given (listing_rows s)) (line-only g.0 n (sym (line-of-given g.0 g.1) ∙ e)) g.1
    ],
    line-of-given n,
  )

  -- lines are printed exactly when no test holds
  pub listing-accepted-exactly : (listing_text s ≡ lines_of lines) ↔ NoneHolds (listing_rows s)
  listing-accepted-exactly = (
    λ e. elim (none-or-given (listing_rows s)) [
      | inl g ↦ g
      | inr g ↦ absurd (not-lines g.0 (sym (line-of-given g.0 g.1) ∙ e))
    ],
    lines-of-none,
  )

  -- where input and run are accepted, the line of TWIN SHADE is printed exactly when two entries are equal
  pub twins-listed-exactly : NoneHolds (input_rows s) → NoneHolds (run_tests (picture_in s) (count_in s))
      → (listing_text s ≡ refused_text (number_of TwinShade)) ↔ TwoEqual (entries_on (picture_in s) (count_in s))
  twins-listed-exactly none run =
      let p = picture_in s in
      let k = count_in s in
      let small = (done-exactly (small_rows p)).1 none.1.1 in
      let ok = (done-exactly (run_tests p k)).1 run in
      let line = listing-refused-exactly TwinShade in
      let input = given-behind (input_rows s) (work_tests p k) TwinShade none in
      let ran = given-behind (run_tests p k) (map_tests p k) TwinShade run in
      let twins = twins-exactly p k small ok in
      (λ e. twins.0 (ran.0 (input.0 (line.0 e))), λ t. line.1 (input.1 (ran.1 (twins.1 t))))
