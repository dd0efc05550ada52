-- What is read of a header is what the machine says: it walks over the bytes of each field, and dies where the field
-- fails.
use Prim.Native.Nat.{ℕ, zero, suc, ◌+◌, ◌-◌, ◌≤◌, ◌<◌}
use mathlib.Core.Bool.{true, false}
use mathlib.Core.List.{List, [], ◌∷◌, ◌++◌}
use mathlib.Core.Logic.{◌⊎◌, inl, inr}
use mathlib.Core.Option.{Option, none, some}
use mathlib.Core.Path.{◌≡◌, refl, sym, ap, ◌∙◌}
use native.Mathlib.Decide.{ℕ_discrete, dec_lt}
use native.Mathlib.Omega.{arith}
use lib.Dec.{eqb}
use lib.ListN.{length}
use borrow.Author.Tests.{eq-eqb, ne_eqb, lt-ltb, le-ltb}
use Rattle.std.proofs.Common.{Ok, Err}
use Rattle.number.proofs.Cases.{bool, never}
use Rattle.grammar.specs.{byte_at, is_digit, most_digits, AllOf, Digits, Reading}
use Rattle.grammar.proofs.Spans.{all_first, all_rest, kind-inside, digit-inside}
use Rattle.grammar.proofs.Places.{wrong_front, front-nothing, front-taken, front_ends, front_same, front-wrong}
use Rattle.p6_gap.specs.{is_white, hash, ends_comment, is_text, White, Whites, Gap, Unended}
use Rattle.p6_gap.specs.Standing.{byte, comment as remark, none as no_more, more}
use Rattle.p6_gap.proofs.Bytes.{
  text-not-end,
  white-inside,
  end-inside,
  hash-inside,
  digit-not-white,
  white-not-digit,
  hash-not-digit,
  hash-not-white,
}
use Rattle.p6_gap.proofs.Gaps.{whites-later, whites-gap}
use Rattle.p6_header.specs.Bytes.{letter_p, figure_six}
use Rattle.p6_header.specs.Fields.{field_at}
use Rattle.p6_header.specs.Headers.{HeaderReading, and_then, last_white, fields_by, header_of}
use Rattle.p6_header.specs.Standing.{FieldRead, FieldFailed, no_part, unended}
use Rattle.p6_header.proofs.Fields.{Told, read, failed, field_told}
use Rattle.p6_header.proofs.Items.{
  Part,
  inner,
  last,
  Item,
  exact,
  stop,
  number,
  digits,
  comment,
  gap_then,
  end_part,
  after,
  header_items,
}

-- the wrong place that a header says; none where it is read
abbrev pub wrong_in : HeaderReading → Option ℕ
wrong_in (Ok header) = none
wrong_in (Err at) = some at

-- what the machine says of s where these items are to come from place a on
abbrev says : List Item → List ℕ → ℕ → Option ℕ
says is s a = wrong_front after is s a

-- ---- over white bytes and comments

module _ (s : List ℕ) where
  -- it walks over the rest of a comment
  comment-walk : (rest : List Item) (n a : ℕ) → AllOf is_text s a n → ends_comment (byte_at s (a + n)) ≡ true
      → says (comment ∷ rest) s a ≡ says rest s (a + n + 1)
  comment-walk rest zero a all ends =
      let z : a + 0 ≡ a = omega arith in
      let e = rw z at ends in
      rw z (front-taken after comment rest [] s a (end-inside s a e) (rw e refl))
  comment-walk rest (suc n) a all ends =
      let next : a + suc n ≡ a + 1 + n = omega arith in
      let text : ends_comment (byte_at s a) ≡ false = text-not-end _ (all_first is_text s a (suc n) all (omega arith))
      in
      let inside : a < length s = omega (arith, end-inside s (a + suc n) ends) in
      front-taken after comment rest (comment ∷ []) s a inside (rw text refl)
      ∙ comment-walk rest n (a + 1) (all_rest is_text s a n all) (rw next at ends)
      ∙ ap (λ i. says rest s (i + 1)) (sym next)

  -- and in one that never ends up to the input's length
  comment-dies : (rest : List Item) (m a : ℕ) → a + m ≡ length s
      → ((i : ℕ) → a ≤ i → ends_comment (byte_at s i) ≡ false) → says (comment ∷ rest) s a ≡ some (length s)
  comment-dies rest zero a e never =
      let z : a ≡ length s = omega arith in front_ends after comment rest s a (omega arith) ∙ ap {B = Option ℕ} some z
  comment-dies rest (suc m) a e never =
      front-taken after comment rest (comment ∷ []) s a (omega arith) (rw (never a (omega arith)) refl)
      ∙ comment-dies rest m (a + 1) (omega arith) (λ i l. never i (omega arith))

  -- an item that a white byte or a comment leads on from, to these items
  abbrev LedOn : Item → List Item → Type 0
  LedOn i is = (b : ℕ) → is_digit b ≡ false → after i b ≡ gap_then is b

  module _ (i : Item) (is rest : List Item) (led : LedOn i is) where
    -- it walks into a comment
    hash-walk : (a : ℕ) → byte_at s a ≡ hash → says (i ∷ rest) s a ≡ says (comment ∷ (is ++ rest)) s (a + 1)
    hash-walk a h =
        front-taken after i rest (comment ∷ is) s a (hash-inside s a h)
        (led _ (hash-not-digit _ h) ∙ rw (hash-not-white _ h, eq-eqb _ _ h) refl)

    -- over a white byte or a comment
    white-walk : (a b : ℕ) → White s a b → says (i ∷ rest) s a ≡ says (is ++ rest) s b
    white-walk a b (byte w e) =
        front-taken after i rest is s a (white-inside s a w) (led _ (white-not-digit _ w) ∙ rw w refl)
        ∙ ap (says (is ++ rest) s) (sym e)
    white-walk a b (remark n h all ends e) =
        hash-walk a h ∙ comment-walk (is ++ rest) n (a + 1) all ends ∙ ap (says (is ++ rest) s) (sym e)

    -- and in a comment that never ends up to the input's length
    unended-walk : (a : ℕ) → Unended s a → says (i ∷ rest) s a ≡ some (length s)
    unended-walk a u =
        let inside = hash-inside s a u.opens in
        hash-walk a u.opens
        ∙ comment-dies (is ++ rest) (length s - (a + 1)) (a + 1) (omega arith) (λ j l. u.never j (omega arith))

  -- what ends a part but the depth is led on from to what comes, and a number to itself
  stop-led : LedOn (stop inner) []
  stop-led b d = refl

  number-led : (p : Part) → LedOn (number p) (number p ∷ [])
  number-led p b d = rw d refl

  -- it walks over so many of them before a number
  whites-walk : (p : Part) (rest : List Item) (a b : ℕ) → Whites s a b
      → says (number p ∷ rest) s a ≡ says (number p ∷ rest) s b
  whites-walk p rest a b (no_more _ _ e) = ap (says (number p ∷ rest) s) e
  whites-walk p rest a b (more _ m _ w ws) =
      white-walk (number p) (number p ∷ []) rest (number-led p) a m w ∙ whites-walk p rest m b ws

  -- and over a gap, whose first must stand
  gap_walk : (p : Part) (rest : List Item) (a b : ℕ) → Gap s a b
      → says (stop inner ∷ number p ∷ rest) s a ≡ says (number p ∷ rest) s b
  gap_walk p rest a b g =
      white-walk (stop inner) [] (number p ∷ rest) stop-led a g.middle g.first
      ∙ whites-walk p rest g.middle b g.others

-- ---- over a field

-- a digit ends no part
digit-ends-none : (p : Part) (b : ℕ) → is_digit b ≡ true → end_part p b ≡ none
digit-ends-none inner b d =
    rw (digit-not-white b d, ne_eqb b hash (λ h. never (sym d ∙ hash-not-digit b h))) refl
digit-ends-none last b d = rw (digit-not-white b d) refl

module _ (s : List ℕ) (p : Part) (rest : List Item) where
  -- it walks over digits
  digits-walk : (a n : ℕ) → Digits s a (suc n) → n < most_digits
      → says (number p ∷ rest) s a ≡ says (digits p (suc n) ∷ rest) s (a + suc n)
  digits-walk a zero all l =
      let d = all_first is_digit s a 1 all (omega arith) in
      front-taken after (number p) rest (digits p 1 ∷ []) s a (digit-inside s a d) (rw d refl)
  digits-walk a (suc n) all l =
      let z : a + suc (suc n) ≡ a + suc n + 1 = omega arith in
      let d : is_digit (byte_at s (a + suc n)) ≡ true = all (suc n) (omega arith) in
      digits-walk a n (λ i h. all i (omega arith)) (omega arith)
      ∙ rw z (front-taken after (digits p (suc n)) rest (digits p (suc (suc n)) ∷ []) s (a + suc n)
      (digit-inside s (a + suc n) d) (rw (d, lt-ltb (suc n) most_digits (omega arith)) refl))

  -- digits that are ended are followed by what ends the part, or by a wrong byte
  digits-ended : (a n : ℕ) → n ≤ most_digits → (n < most_digits → is_digit (byte_at s a) ≡ false)
      → says (digits p n ∷ rest) s a ≡ says (stop p ∷ rest) s a
  digits-ended a n l ended = front_same after (digits p n) (stop p) rest s a (go (bool (is_digit (byte_at s a))))
    where
      go : (is_digit (byte_at s a) ≡ true) ⊎ (is_digit (byte_at s a) ≡ false)
          → after (digits p n) (byte_at s a) ≡ after (stop p) (byte_at s a)
      go (inr d) = rw d refl
      go (inl d) = full (dec_lt n most_digits)
        where
          full : Dec (n < most_digits) → after (digits p n) (byte_at s a) ≡ after (stop p) (byte_at s a)
          full (yes k) = never (sym d ∙ ended k)
          full (no k) = rw (d, le-ltb n most_digits (omega arith)) (sym (digit-ends-none p (byte_at s a) d))

  -- a field that is read is walked over, up to what ends it
  read_walk : (a b value : ℕ) → FieldRead s a b value
      → says (stop inner ∷ number p ∷ rest) s a ≡ says (stop p ∷ rest) s b
  read_walk a b value f = go f.field.digits refl
    where
      go : (n : ℕ) → f.field.digits ≡ n → says (stop inner ∷ number p ∷ rest) s a ≡ says (stop p ∷ rest) s b
      go zero e = absurd (omega (arith, f.field.some_digit))
      go (suc n) e =
          let start = f.field.start in
          let few : suc n ≤ most_digits = omega (arith, f.field.few_digits) in
          let end : start + suc n ≡ b = omega (arith, f.field.ends) in
          let ended : suc n < most_digits → is_digit (byte_at s (start + suc n)) ≡ false =
          λ l. rw end (f.ended (omega arith)) in
          gap_walk s p rest a start f.field.gap
          ∙ digits-walk start n (rw e at f.field.digit) few
          ∙ digits-ended (start + suc n) (suc n) few ended
          ∙ ap (says (stop p ∷ rest) s) end

  -- where a field fails the machine dies
  failed-walk : (a at : ℕ) → FieldFailed s a at → says (stop inner ∷ number p ∷ rest) s a ≡ some at
  failed-walk a at (no_part ws w h d) = go (ℕ_discrete a at)
    where
      go : Dec (a ≡ at) → says (stop inner ∷ number p ∷ rest) s a ≡ some at
      go (yes z) =
          rw z (front-wrong after (stop inner) (number p ∷ rest) s at (rw (w, ne_eqb (byte_at s at) hash h) refl))
      go (no z) =
          let later : a < at = omega (arith, z, whites-later s a at ws) in
          gap_walk s p rest a at (whites-gap s a at ws z)
          ∙ front-wrong after (number p) rest s at (rw (d later, w, ne_eqb (byte_at s at) hash h) refl)
  failed-walk a at (unended from ws u e) = go (ℕ_discrete a from) ∙ ap {B = Option ℕ} some (sym e)
    where
      go : Dec (a ≡ from) → says (stop inner ∷ number p ∷ rest) s a ≡ some (length s)
      go (yes z) = rw z (unended-walk s (stop inner) [] (number p ∷ rest) (stop-led s) from u)
      go (no z) =
          gap_walk s p rest a from (whites-gap s a from ws z)
          ∙ unended-walk s (number p) (number p ∷ []) rest (number-led s p) from u

  -- a field, and what comes next: where that says what the machine says, so does all
  field-says : (a : ℕ) (next : ℕ → ℕ → HeaderReading)
      → ((value b : ℕ) → says (stop p ∷ rest) s b ≡ wrong_in (next value b))
      → says (stop inner ∷ number p ∷ rest) s a ≡ wrong_in (and_then (field_at s a) next)
  field-says a next then = go (field_told s a)
    where
      go : {r : Reading} → Told s a r → says (stop inner ∷ number p ∷ rest) s a ≡ wrong_in (and_then r next)
      go (read value b f) = read_walk a b value f ∙ then value b
      go (failed at f) = failed-walk a at f

-- ---- over a header

module _ (s : List ℕ) where
  -- the white byte after the depth
  last_says : (w h d a : ℕ) → says (stop last ∷ []) s a ≡ wrong_in (last_white s w h d a)
  last_says w h d a = elim (bool (is_white (byte_at s a))) [
    | inl t ↦
        front-taken after (stop last) [] [] s a (white-inside s a t) (rw t refl)
        ∙ front-nothing after s (a + 1) ∙ rw t refl
    | inr t ↦ front-wrong after (stop last) [] s a (rw t refl) ∙ rw t refl
  ]

  -- the three fields and that byte
  fields-say : says (stop inner ∷ number inner ∷ number inner ∷ number last ∷ []) s 2 ≡ wrong_in (fields_by field_at s)
  fields-say =
      field-says s inner (number inner ∷ number last ∷ []) 2 _ (λ w a.
      field-says s inner (number last ∷ []) a _ (λ h b.
      field-says s last [] b _ (λ d e. last_says w h d e)))

  -- a byte that must stand, and does
  exact-says : (c : ℕ) (rest : List Item) (a : ℕ) → 0 < c → byte_at s a ≡ c
      → says (exact c ∷ rest) s a ≡ says rest s (a + 1)
  exact-says c rest a h e =
      front-taken after (exact c) rest [] s a
      (kind-inside (λ b. eqb b c) (ne_eqb 0 c (λ z. omega arith)) s a (eq-eqb _ _ e)) (rw (eq-eqb _ _ e) refl)

  -- the machine says what is read of a header
  pub header-says : says header_items s 0 ≡ wrong_in (header_of s)
  unfolding header_of
  header-says = go (ℕ_discrete (byte_at s 0) letter_p) (ℕ_discrete (byte_at s 1) figure_six)
    where
      go : Dec (byte_at s 0 ≡ letter_p) → Dec (byte_at s 1 ≡ figure_six)
          → says header_items s 0 ≡ wrong_in (header_of s)
      go (no l) f =
          front-wrong after (exact letter_p) _ s 0 (rw (ne_eqb _ _ l) refl) ∙ rw (ne_eqb _ _ l) refl
      go (yes l) (no f) =
          exact-says letter_p _ 0 (omega arith) l
          ∙ front-wrong after (exact figure_six) _ s 1 (rw (ne_eqb _ _ f) refl)
          ∙ rw (eq-eqb _ _ l, ne_eqb _ _ f) refl
      go (yes l) (yes f) =
          exact-says letter_p _ 0 (omega arith) l ∙ exact-says figure_six _ 1 (omega arith) f
          ∙ fields-say ∙ rw (eq-eqb _ _ l, eq-eqb _ _ f) refl
