-- The text of a comment as the loop meets it: none, one byte more, and where it ends.
use Prim.Native.Nat.{ℕ, ◌+◌, ◌-◌, ◌≤◌, ◌<◌}
use mathlib.Core.Bool.{true, false, not}
use mathlib.Core.List.{List}
use mathlib.Core.Path.{◌≡◌, ap, ◌∙◌}
use native.Mathlib.Omega.{arith}
use lib.ListN.{length}
use Rattle.grammar.specs.{byte_at, AllOf}
use Rattle.grammar.proofs.Spans.{all-step, byte_past}
use Rattle.p6_gap.specs.Bytes.{ends_comment, is_text}
use Rattle.p6_gap.specs.Gaps.{comment_end}
use Rattle.p6_gap.proofs.Bytes.{nothing_ends}
use Rattle.p6_gap.proofs.Ends.{text-only, text-whole, comment-ended, comment-open}

-- the bytes behind the one at `at` up to i are text, inside the input
pub record Passed (s : List ℕ) (at i : ℕ) : Type 0 where
  pub from : at + 1 ≤ i
  pub within : i ≤ length s
  pub text : AllOf is_text s (at + 1) (i - (at + 1))

-- at first none is passed
pub passed_start : (s : List ℕ) (at : ℕ) → at < length s → Passed s at (at + 1)
passed_start s at h = record { from = omega arith; within = omega arith; text = λ i l. absurd (omega arith) }

-- one byte of text is passed more
pub passed-step : {s : List ℕ} {at i : ℕ} → Passed s at i → i < length s → ends_comment (byte_at s i) ≡ false
    → Passed s at (i + 1)
passed-step {s} {at} {i} p l e =
    let here : at + 1 + (i - (at + 1)) ≡ i = omega (arith, p.from) in
    let more : i + 1 - (at + 1) ≡ i - (at + 1) + 1 = omega (arith, p.from) in
    record {
      from = omega (arith, p.from);
      within = omega arith;
      text = rw more (all-step is_text s (at + 1) (i - (at + 1)) p.text (rw here (ap not e)));
    }

-- the byte behind all text ends the comment, and is part of it
pub passed-done : {s : List ℕ} {at i : ℕ} → Passed s at i → ends_comment (byte_at s i) ≡ true → i + 1 ≡ comment_end s at
passed-done {s} {at} {i} p e =
    let n = i - (at + 1) in
    let here : at + 1 + n ≡ i = omega (arith, p.from) in
    let ends : ends_comment (byte_at s (at + 1 + n)) ≡ true = rw here e in
    omega (arith, p.from, comment-ended s at n (text-only s at n p.text ends) ends)

-- or the input ends there
pub passed-all : {s : List ℕ} {at i : ℕ} → Passed s at i → length s ≤ i → length s ≡ comment_end s at
passed-all {s} {at} {i} p h =
    let n = i - (at + 1) in
    let here : at + 1 + n ≡ i = omega (arith, p.from) in
    let past : ends_comment (byte_at s (at + 1 + n)) ≡ false =
    rw here (ap ends_comment (byte_past s i h) ∙ nothing_ends) in
    omega (
      arith,
      p.within,
      comment-open s at n (text-whole s at n p.text (omega (arith, p.within))) past,
    )
