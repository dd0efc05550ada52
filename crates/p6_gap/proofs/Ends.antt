-- One white byte or comment: it ends as it is read where it ends as it stands. A comment that never ends is read up to
-- the input's length.
use Prim.Native.Nat.{ℕ, ◌+◌, ◌-◌, ◌≤◌, ◌<◌}
use mathlib.Core.Bool.{true, false, not}
use mathlib.Core.List.{List}
use mathlib.Core.Logic.{◌⊎◌, inl, inr}
use mathlib.Core.Path.{◌≡◌, refl, sym, ap, ◌∙◌}
use native.Mathlib.Decide.{ℕ_discrete, dec_lt}
use native.Mathlib.Omega.{arith}
use lib.ListN.{length}
use borrow.Author.Tests.{eq-eqb, ne_eqb, not-false}
use Rattle.number.proofs.Cases.{bool, never}
use Rattle.grammar.specs.{byte_at, is_digit, AllOf}
use Rattle.grammar.proofs.Spans.{span-all, span-ends, span-only, byte_past}
use Rattle.p6_gap.specs.Bytes.{is_white, hash, ends_comment, is_text}
use Rattle.p6_gap.specs.Gaps.{text_at, text_end, comment_end, white_end}
use Rattle.p6_gap.specs.Standing.{White, byte, comment, Unended}
use Rattle.p6_gap.proofs.Bytes.{
  nothing-white,
  nothing_ends,
  text-not-end,
  white-inside,
  end-inside,
  hash-inside,
  white-not-digit,
  hash-not-digit,
  hash-not-white,
}

-- ---- the text of a comment

module _ (s : List ℕ) (a : ℕ) where
  -- text that is ended is all of it
  pub text-only : (n : ℕ) → AllOf is_text s (a + 1) n → ends_comment (byte_at s (a + 1 + n)) ≡ true
      → n ≡ text_at s a
  text-only n all ends =
      span-only is_text (length s - (a + 1)) s (a + 1) n (omega (arith, end-inside s (a + 1 + n) ends)) all
      (λ l. ap not ends)

  -- text up to the input's end is
  pub text-whole : (n : ℕ) → AllOf is_text s (a + 1) n → n ≡ length s - (a + 1)
      → n ≡ text_at s a
  text-whole n all e =
      span-only is_text (length s - (a + 1)) s (a + 1) n (omega arith) all (λ l. absurd (omega arith))

  -- a comment with an end goes up to and including it
  pub comment-ended : (n : ℕ) → n ≡ text_at s a
      → ends_comment (byte_at s (a + 1 + n)) ≡ true → comment_end s a ≡ a + 1 + n + 1
  unfolding comment_end
  comment-ended n e t = rw (← e, t)

  -- one without goes up to the end of its text
  pub comment-open : (n : ℕ) → n ≡ text_at s a
      → ends_comment (byte_at s (a + 1 + n)) ≡ false → comment_end s a ≡ a + 1 + n
  unfolding comment_end
  comment-open n e t = rw (← e, t)

  -- where the byte behind its text does not end it, none does: the text goes up to the input's end
  never_ends : ends_comment (byte_at s (text_end s a)) ≡ false → (i : ℕ) → a < i → ends_comment (byte_at s i) ≡ false
  never_ends t i h = go (dec_lt i (text_end s a)) (dec_lt (text_at s a) (length s - (a + 1)))
    where
      go : Dec (i < text_end s a) → Dec (text_at s a < length s - (a + 1)) → ends_comment (byte_at s i) ≡ false
      go (yes l) m =
          let z : a + 1 + (i - (a + 1)) ≡ i = omega arith in
          let text = span-all is_text (length s - (a + 1)) s (a + 1) (i - (a + 1)) (omega arith) in
          ap (λ j. ends_comment (byte_at s j)) (sym z) ∙ text-not-end _ text
      go (no l) (yes m) = never (sym (not-false _ (span-ends is_text (length s - (a + 1)) s (a + 1) m)) ∙ t)
      go (no l) (no m) = ap ends_comment (byte_past s i (omega arith)) ∙ nothing_ends

-- ---- what is read at a place

-- a white byte
pub byte-end : (s : List ℕ) (a : ℕ) → is_white (byte_at s a) ≡ true → white_end s a ≡ a + 1
unfolding white_end
byte-end s a w = rw w

-- a comment
pub hash-end : (s : List ℕ) (a : ℕ) → byte_at s a ≡ hash → white_end s a ≡ comment_end s a
unfolding white_end
hash-end s a h = rw (hash-not-white _ h, eq-eqb _ _ h)

-- neither
pub neither-end : (s : List ℕ) (a : ℕ) → is_white (byte_at s a) ≡ false → ¬ (byte_at s a ≡ hash) → white_end s a ≡ a
unfolding white_end
neither-end s a w h = rw (w, ne_eqb (byte_at s a) hash h)

-- past the input's end neither stands
pub past_end : (s : List ℕ) (a : ℕ) → length s ≤ a → white_end s a ≡ a
past_end s a h =
    let z = byte_past s a h in
    neither-end s a (ap is_white z ∙ nothing-white) (λ e. omega (arith, z))

-- ---- what is read stands

-- one that stands is read
pub white-read : (s : List ℕ) (a b : ℕ) → White s a b → white_end s a ≡ b
white-read s a b (byte w e) = byte-end s a w ∙ sym e
white-read s a b (comment n h all ends e) =
    hash-end s a h ∙ comment-ended s a n (text-only s a n all ends) ends ∙ sym e

-- a comment that never ends is read up to the input's length
pub unended-read : (s : List ℕ) (a : ℕ) → Unended s a → white_end s a ≡ length s
unended-read s a u =
    let n = length s - (a + 1) in
    let z : a + 1 + n ≡ length s = omega (arith, hash-inside s a u.opens) in
    let all : AllOf is_text s (a + 1) n = λ i l. ap not (u.never (a + 1 + i) (omega arith)) in
    hash-end s a u.opens
    ∙ comment-open s a n (text-whole s a n all refl) (u.never (a + 1 + n) (omega arith)) ∙ z

-- at every place one stands, or a comment opens that never ends, or neither
pub data Seen (s : List ℕ) (a : ℕ) : Type 0 where
  one : White s a (white_end s a) → Seen s a
  endless : Unended s a → Seen s a
  neither : is_white (byte_at s a) ≡ false → ¬ (byte_at s a ≡ hash) → Seen s a

-- which it is
pub seen : (s : List ℕ) (a : ℕ) → Seen s a
seen s a = go (bool (is_white (byte_at s a))) (ℕ_discrete (byte_at s a) hash)
    (bool (ends_comment (byte_at s (text_end s a))))
  where
    go : (is_white (byte_at s a) ≡ true) ⊎ (is_white (byte_at s a) ≡ false) → Dec (byte_at s a ≡ hash)
        → (ends_comment (byte_at s (text_end s a)) ≡ true) ⊎ (ends_comment (byte_at s (text_end s a)) ≡ false)
        → Seen s a
    go (inl w) h t = one (byte w (byte-end s a w))
    go (inr w) (no h) t = neither w h
    go (inr w) (yes h) (inl t) =
        one (comment (text_at s a) h (span-all is_text (length s - (a + 1)) s (a + 1)) t
        (hash-end s a h ∙ comment-ended s a (text_at s a) refl t))
    go (inr w) (yes h) (inr t) = endless (record { opens = h; never = never_ends s a t })

-- ---- where it ends

-- one that stands has a byte at least
pub white-later : (s : List ℕ) (a b : ℕ) → White s a b → a < b
white-later s a b (byte w e) = omega arith
white-later s a b (comment n h all ends e) = omega arith

-- and stands inside
pub white-within : (s : List ℕ) (a b : ℕ) → White s a b → b ≤ length s
white-within s a b (byte w e) = omega (arith, white-inside s a w)
white-within s a b (comment n h all ends e) = omega (arith, end-inside s (a + 1 + n) ends)

-- it does not begin with a digit
pub white-first : (s : List ℕ) (a b : ℕ) → White s a b → is_digit (byte_at s a) ≡ false
white-first s a b (byte w e) = white-not-digit _ w
white-first s a b (comment n h all ends e) = hash-not-digit _ h

-- what is read ends further on and inside, or is nothing
pub end_later : (s : List ℕ) (a : ℕ) → ¬ (white_end s a ≡ a) → (a < white_end s a) × (white_end s a ≤ length s)
end_later s a n = elim (seen s a) [
  | one w ↦ (white-later s a _ w, white-within s a _ w)
  | endless u ↦ rw (unended-read s a u) (hash-inside s a u.opens, omega arith)
  | neither w h ↦ absurd (n (neither-end s a w h))
]

-- a comment ends behind its `#`
pub comment-later : (s : List ℕ) (a : ℕ) → byte_at s a ≡ hash → a < comment_end s a
comment-later s a h = rw (← hash-end s a h) (elim (seen s a) [
  | one w ↦ white-later s a _ w
  | endless u ↦ rw (unended-read s a u) (hash-inside s a h)
  | neither w n ↦ absurd (n h)
])
