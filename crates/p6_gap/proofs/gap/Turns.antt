-- White bytes and comments in a row as the loop meets them: those that are left end where all of them end.
use Prim.Native.Nat.{ℕ, ◌+◌, ◌-◌, ◌≤◌, ◌<◌}
use mathlib.Core.Bool.{true, false}
use mathlib.Core.List.{List}
use mathlib.Core.Path.{◌≡◌, refl, sym, ap, ◌∙◌}
use native.Mathlib.Omega.{arith}
use lib.ListN.{length}
use Rattle.grammar.specs.{byte_at}
use Rattle.p6_gap.specs.Bytes.{is_white, hash}
use Rattle.p6_gap.specs.Gaps.{comment_end, gap_end}
use Rattle.p6_gap.proofs.Ends.{byte-end, hash-end, neither-end, past_end, comment-later}
use Rattle.p6_gap.proofs.Gaps.{gap-on, gap_here}

-- those from i on end where those from `at` on do
pub record Left (s : List ℕ) (at i : ℕ) : Type 0 where
  pub ends : gap_end s i ≡ gap_end s at

-- at first all are left
pub left-start : (s : List ℕ) (at : ℕ) → Left s at at
left-start s at = record { ends = refl }

-- behind a white byte the others are left
pub left-white : {s : List ℕ} {at i : ℕ} → Left s at i → is_white (byte_at s i) ≡ true → Left s at (i + 1)
left-white {s} {i = i} p w = record { ends = ap (gap_end s) (sym (byte-end s i w)) ∙ gap-on s i ∙ p.ends }

-- behind a comment they are
pub left-comment : {s : List ℕ} {at i : ℕ} → Left s at i → (next : ℕ) → byte_at s i ≡ hash → next ≡ comment_end s i
    → Left s at next
left-comment {s} {i = i} p next h e = record {
  ends = ap (gap_end s) (e ∙ sym (hash-end s i h)) ∙ gap-on s i ∙ p.ends;
}

-- which is further on
pub comment-less : {s : List ℕ} {at i : ℕ} → Left s at i → (next : ℕ) → i < length s → byte_at s i ≡ hash
    → next ≡ comment_end s i → length s - next < length s - i
comment-less {s} {i = i} p next l h e = omega (arith, comment-later s i h)

-- where neither stands they end
pub left-done : {s : List ℕ} {at i : ℕ} → Left s at i → is_white (byte_at s i) ≡ false → ¬ (byte_at s i ≡ hash)
    → i ≡ gap_end s at
left-done {s} {i = i} p w h = sym (gap_here s i (neither-end s i w h)) ∙ p.ends

-- or the input ends there
pub left-all : {s : List ℕ} {at i : ℕ} → Left s at i → length s ≤ i → i ≡ gap_end s at
left-all {s} {i = i} p l = sym (gap_here s i (past_end s i l)) ∙ p.ends
