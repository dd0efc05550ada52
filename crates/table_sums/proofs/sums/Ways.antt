-- Each way out of the comparison of three numbers with the sums that gave two.
use Prim.Native.Nat.{ℕ, ◌≤◌, ◌<◌}
use mathlib.Core.Bool.{true, not}
use mathlib.Core.Logic.{inl, inr}
use mathlib.Core.Path.{◌≡◌, sym}
use native.Mathlib.Omega.{arith}
use lib.Dec.{eqb}
use borrow.Author.Tests.{eq-eqb, eqb-true, eqb-false}
use Rattle.number.proofs.Cases.{bool}
use Rattle.colour.specs.{key_of, most_sum}
use Rattle.table_sums.specs.Telling.{Two, mix_of, three_same}
use Rattle.table_sums.proofs.Telling.{two-only}

module _ (red green blue R G B : ℕ) where
  -- three numbers that are not all the sums are others
  others : ((R ≡ red) × (G ≡ green) × (B ≡ blue) → ⊥) → true ≡ not (three_same R G B red green blue)
  others h = elim (bool (eqb R red)) [
    | inl r ↦ elim (bool (eqb G green)) [
      | inl g ↦ elim (bool (eqb B blue)) [
        | inl b ↦ absurd (h (eqb-true R red r, eqb-true G green g, eqb-true B blue b))
        | inr b ↦ simp (r, g, b)
      ]
      | inr g ↦ simp (r, g)
    ]
    | inr r ↦ simp r
  ]

  module _ {first second : ℕ} (t : Two R G B first second) where
    -- a number above every sum is none
    pub others-of-red : most_sum < red → true ≡ not (three_same R G B red green blue)
    others-of-red l = others (λ h. omega (arith, h.0, t.red_low))

    pub others-of-green : most_sum < green → true ≡ not (three_same R G B red green blue)
    others-of-green l = others (λ h. omega (arith, h.1, t.green_low))

    pub others-of-blue : most_sum < blue → true ≡ not (three_same R G B red green blue)
    others-of-blue l = others (λ h. omega (arith, h.2, t.blue_low))

    -- three that give another first number are others
    pub others-of-first : ¬ (key_of red green blue ≡ first) → true ≡ not (three_same R G B red green blue)
    others-of-first n = others (λ h. n (omega (arith, t.first_is, h.0, h.1, h.2)))

    -- three that give the first number are the sums exactly where they give the second
    pub others-by-second : red ≤ most_sum → green ≤ most_sum → blue ≤ most_sum → key_of red green blue ≡ first
        → not (eqb (mix_of red blue) second) ≡ not (three_same R G B red green blue)
    others-by-second lr lg lb e = elim (bool (eqb (mix_of red blue) second)) [
      | inl s ↦
          let q : mix_of red blue ≡ second = eqb-true (mix_of red blue) second s in
          let same = two-only t (record {
            first_is = sym e;
            second_is = sym q;
            red_low = lr;
            green_low = lg;
            blue_low = lb;
          }) in
          rw (s, eq-eqb R red same.0, eq-eqb G green same.1, eq-eqb B blue same.2)
      | inr s ↦
          rw s (others (λ h. eqb-false (mix_of red blue) second s (omega (arith, t.second_is, h.0, h.2))))
    ]
