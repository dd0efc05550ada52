-- White bytes and comments stand in every input that has their bytes.
use Prim.Native.Nat.{ℕ, ◌+◌, ◌≤◌, ◌<◌}
use mathlib.Core.List.{List}
use mathlib.Core.Path.{◌≡◌, sym, ap, ◌∙◌}
use native.Mathlib.Omega.{arith}
use Rattle.grammar.specs.{byte_at}
use Rattle.p6_gap.specs.Bytes.{is_white, ends_comment, is_text}
use Rattle.p6_gap.specs.Standing.{White, byte, comment, Whites, none, more, Gap}
use Rattle.p6_gap.proofs.Gaps.{whites-later}

module _ (s t : List ℕ) (n : ℕ) (same : (i : ℕ) → i < n → byte_at s i ≡ byte_at t i) where
  -- one of them
  white-same : (a b : ℕ) → White s a b → b ≤ n → White t a b
  white-same a b (byte w e) h = byte (ap is_white (sym (same a (omega arith))) ∙ w) e
  white-same a b (comment m o all ends e) h =
      comment m (sym (same a (omega arith)) ∙ o)
      (λ i l. ap is_text (sym (same (a + 1 + i) (omega arith))) ∙ all i l)
      (ap ends_comment (sym (same (a + 1 + m) (omega arith))) ∙ ends) e

  -- so many
  whites-same : (a b : ℕ) → Whites s a b → b ≤ n → Whites t a b
  whites-same a b (none _ _ e) h = none a b e
  whites-same a b (more _ m _ w ws) h =
      more a m b (white-same a m w (omega (arith, whites-later s m b ws))) (whites-same m b ws h)

  -- a gap
  pub gap_same : (a b : ℕ) → Gap s a b → b ≤ n → Gap t a b
  gap_same a b g h = record {
    middle = g.middle;
    first = white-same a g.middle g.first (omega (arith, whites-later s g.middle b g.others));
    others = whites-same g.middle b g.others h;
  }
