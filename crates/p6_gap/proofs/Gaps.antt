-- White bytes and comments in a row: where they end as they are read is where they end as they stand.
use Prim.Native.Nat.{ℕ, zero, suc, ◌+◌, ◌≤◌, ◌<◌}
use mathlib.Core.Bool.{false}
use mathlib.Core.List.{List}
use mathlib.Core.Logic.{◌↔◌}
use mathlib.Core.Path.{◌≡◌, refl, sym, ap, ◌∙◌, subst}
use native.Mathlib.Decide.{ℕ_discrete}
use native.Mathlib.Omega.{arith}
use lib.ListN.{length}
use Rattle.grammar.specs.{byte_at, is_digit, AllOf}
use Rattle.grammar.proofs.Spans.{all_first, all_rest}
use Rattle.p6_gap.specs.Bytes.{is_white, hash}
use Rattle.p6_gap.specs.Gaps.{white_end, gap_from, gap_end}
use Rattle.p6_gap.specs.Standing.{
  White,
  byte,
  Whites,
  none,
  more,
  Gap,
  Unended,
  GapRead,
  stops,
  open_ended,
}
use Rattle.p6_gap.proofs.Ends.{
  neither-end,
  past_end,
  white-read,
  unended-read,
  Seen,
  one,
  endless,
  neither,
  seen,
  white-later,
  white-within,
  white-first,
  end_later,
}

-- ---- as they are read: two equations

-- where none stands so many end at once
gap-fixed : (m : ℕ) (s : List ℕ) (a : ℕ) → white_end s a ≡ a → gap_from m s a ≡ a
unfolding gap_from
gap-fixed zero s a e = refl
gap-fixed (suc m) s a e = ap (gap_from m s) e ∙ gap-fixed m s a e

-- one more is one behind the others
gap-last : (m : ℕ) (s : List ℕ) (a : ℕ) → gap_from (suc m) s a ≡ white_end s (gap_from m s a)
unfolding gap_from
gap-last zero s a = refl
gap-last (suc m) s a = gap-last m s (white_end s a)

-- behind as many as there are bytes none stands
gap-settled : (m : ℕ) (s : List ℕ) (a : ℕ) → length s ≤ a + m → white_end s (gap_from m s a) ≡ gap_from m s a
unfolding gap_from
gap-settled zero s a h = past_end s a (omega arith)
gap-settled (suc m) s a h = elim (ℕ_discrete (white_end s a) a) [
  | yes e ↦ let z : gap_from m s (white_end s a) ≡ a = ap (gap_from m s) e ∙ gap-fixed m s a e in rw z e
  | no n ↦ gap-settled m s (white_end s a) (omega (arith, (end_later s a n).0))
]

-- behind the first come the others
pub gap-on : (s : List ℕ) (a : ℕ) → gap_end s (white_end s a) ≡ gap_end s a
unfolding gap_from
gap-on s a = gap-last (length s) s a ∙ gap-settled (length s) s a (omega arith)

-- where none stands they end
pub gap_here : (s : List ℕ) (a : ℕ) → white_end s a ≡ a → gap_end s a ≡ a
gap_here s a e = gap-fixed (length s) s a e

-- ---- as they stand

module _ (s : List ℕ) where
  -- those in a row end not before they begin
  pub whites-later : (a b : ℕ) → Whites s a b → a ≤ b
  whites-later a b (none _ _ e) = omega arith
  whites-later a b (more _ m _ w ws) = omega (arith, white-later s a m w, whites-later m b ws)

  -- a gap has a byte at least
  pub gap-later : (a b : ℕ) → Gap s a b → a < b
  gap-later a b g = omega (arith, white-later s a g.middle g.first, whites-later g.middle b g.others)

  -- a gap is so many in a row
  pub gap-whites : (a b : ℕ) → Gap s a b → Whites s a b
  gap-whites a b g = more a g.middle b g.first g.others

  -- and so many in a row, one at least, are a gap
  pub whites-gap : (a b : ℕ) → Whites s a b → ¬ (a ≡ b) → Gap s a b
  whites-gap a b (none _ _ e) n = absurd (n e)
  whites-gap a b (more _ m _ w ws) n = record { middle = m; first = w; others = ws }

  -- a gap does not begin with a digit
  pub gap-first : (a b : ℕ) → Gap s a b → is_digit (byte_at s a) ≡ false
  gap-first a b g = white-first s a g.middle g.first

  -- those in a row do not, where no digit stands behind them
  pub whites-first : (a b : ℕ) → Whites s a b → is_digit (byte_at s b) ≡ false → is_digit (byte_at s a) ≡ false
  whites-first a b (none _ _ e) d = ap (λ i. is_digit (byte_at s i)) e ∙ d
  whites-first a b (more _ m _ w ws) d = white-first s a m w

  -- white bytes in a row stand so
  pub row-whites : (n a : ℕ) → AllOf is_white s a n → Whites s a (a + n)
  row-whites zero a all = none a (a + 0) (omega arith)
  row-whites (suc n) a all =
      let end : a + 1 + n ≡ a + suc n = omega arith in
      more a (a + 1) (a + suc n) (byte (all_first is_white s a (suc n) all (omega arith)) refl)
      (subst (Whites s (a + 1)) end (row-whites n (a + 1) (all_rest is_white s a n all)))

  -- ---- what is read stands

  -- behind those that stand the others are read
  pub gap-behind : (a b : ℕ) → Whites s a b → gap_end s a ≡ gap_end s b
  gap-behind a b (none _ _ e) = ap (gap_end s) e
  gap-behind a b (more _ m _ w ws) =
      sym (gap-on s a) ∙ ap (gap_end s) (white-read s a m w) ∙ gap-behind m b ws

  -- so many, and then neither a white byte nor `#`, are all of them
  pub gap-only : (a b : ℕ) → Whites s a b → is_white (byte_at s b) ≡ false → ¬ (byte_at s b ≡ hash) → gap_end s a ≡ b
  gap-only a b ws w h = gap-behind a b ws ∙ gap_here s b (neither-end s b w h)

  -- so many, and then a comment that never ends, are read up to the input's length
  pub gap-unended : (a b : ℕ) → Whites s a b → Unended s b → gap_end s a ≡ length s
  gap-unended a b ws u =
      gap-behind a b ws ∙ sym (gap-on s b) ∙ ap (gap_end s) (unended-read s b u)
      ∙ gap_here s (length s) (past_end s (length s) (omega arith))

  -- the same with one more before them
  read_more : (a b e : ℕ) → White s a b → GapRead s b e → GapRead s a e
  read_more a b e w (stops ws n h) = stops (more a b e w ws) n h
  read_more a b e w (open_ended from ws u z) = open_ended from (more a b from w ws) u z

  -- by what stands first
  read_by : (a : ℕ) → Seen s a → (White s a (white_end s a) → GapRead s (white_end s a) (gap_end s (white_end s a)))
      → GapRead s a (gap_end s a)
  read_by a (one w) further = subst (GapRead s a) (gap-on s a) (read_more a _ _ w (further w))
  read_by a (endless u) further = open_ended a (none a a refl) u (gap-unended a a (none a a refl) u)
  read_by a (neither w h) further =
      subst (GapRead s a) (sym (gap_here s a (neither-end s a w h))) (stops (none a a refl) w h)

  -- within so many bytes
  read-from : (m a : ℕ) → length s ≤ a + m → GapRead s a (gap_end s a)
  read-from zero a h =
      read_by a (seen s a) (λ w. absurd (omega (arith, white-later s a _ w, white-within s a _ w)))
  read-from (suc m) a h =
      read_by a (seen s a) (λ w. read-from m (white_end s a) (omega (arith, white-later s a _ w)))

  -- for all that is read
  pub gap-read : (a : ℕ) → GapRead s a (gap_end s a)
  gap-read a = read-from (length s) a (omega arith)

  -- and nothing else is
  pub gap-reads-exactly : (a e : ℕ) → (gap_end s a ≡ e) ↔ GapRead s a e
  gap-reads-exactly a e = (λ z. subst (GapRead s a) z (gap-read a), read)
    where
      read : GapRead s a e → gap_end s a ≡ e
      read (stops ws w h) = gap-only a e ws w h
      read (open_ended from ws u z) = gap-unended a from ws u ∙ sym z
