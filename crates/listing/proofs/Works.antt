-- What the calls leave of an input: by what the tests said, and from what the calls answered.
use Prim.Native.Nat.{ℕ, ◌<◌}
use mathlib.Core.Bool.{true, false}
use mathlib.Core.List.{List}
use mathlib.Core.Path.{◌≡◌, refl, sym, ap, ap₂, ◌∙◌}
use lib.ListN.{length}
use borrow.Author.Tests.{lt-ltb, le-ltb}
use Rattle.std.proofs.Common.{Option, Some, None, Result, Err}
use Rattle.refusal.specs.{Refusal, first_refusal, BadCount, BadSize}
use Rattle.refusal.proofs.By.{by-made, by-refused}
use Rattle.listing_test.specs.{small_rows}
use Rattle.listing_work.specs.{Work, work_picture}
use Rattle.listing.specs.Refusals.{most_input, bad_line, count_in, picture_in, input_rows}
use Rattle.listing.specs.Works.{work_input}
use Rattle.listing.proofs.Fronts.{Line, line-good, count-is}

module _ (s : List ℕ) where
  -- a malformed count line
  pub input-bad-line : bad_line s ≡ true → ◌≡◌ {A = Result Work Refusal} (Err BadCount) (work_input s)
  unfolding work_input
  input-bad-line e = sym (by-refused (input_rows s) _ Err BadCount (rw e refl))

  -- an input that is too long
  pub input-long : bad_line s ≡ false → most_input < length s
      → ◌≡◌ {A = Result Work Refusal} (Err BadSize) (work_input s)
  unfolding work_input
  input-long e long = sym (by-refused (input_rows s) _ Err BadSize (rw (e, lt-ltb _ _ long) refl))

module _ {s : List ℕ} {value n : ℕ} (l : Line s value n) {p : List ℕ} (is : p ≡ picture_in s) where
  -- past the count line and the length the picture's tests decide
  past : (refusal : Option Refusal) → refusal ≡ first_refusal (small_rows p)
      → first_refusal (input_rows s) ≡ refusal
  past refusal tested =
      rw (line-good l.named l.few l.ended, le-ltb most_input (length s) l.short)
      (sym (tested ∙ ap (λ q. first_refusal (small_rows q)) is))

  -- a picture that is refused
  pub input-bad-picture : (r : Refusal) → Some r ≡ first_refusal (small_rows p)
      → ◌≡◌ {A = Result Work Refusal} (Err r) (work_input s)
  unfolding work_input
  input-bad-picture r tested =
      sym (by-refused (input_rows s) (work_picture (picture_in s) (count_in s)) Err r (past (Some r) tested))

  -- a picture that is accepted
  pub input-left : None ≡ first_refusal (small_rows p) → work_picture p value ≡ work_input s
  unfolding work_input
  input-left tested =
      ap₂ work_picture is (count-is l.named)
      ∙ sym (by-made (input_rows s) (work_picture (picture_in s) (count_in s)) Err (past None tested))
