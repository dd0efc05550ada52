-- Comments replaced by one white byte each, place by place: what stands from a place of the input on stands, with its
-- comments replaced, from a place of the other input on.
use Prim.Native.Nat.{ℕ, zero, suc, ◌+◌, ◌<◌}
use mathlib.Core.Bool.{true, false}
use mathlib.Core.List.{List, ◌∷◌, ◌++◌}
use mathlib.Core.Logic.{⊎_elim}
use mathlib.Core.Path.{◌≡◌, refl, sym, ap, ◌∙◌, subst}
use native.Mathlib.Numerals.{add-one}
use native.Mathlib.Omega.{arith}
use lib.ListN.{length, get_or, drop}
use lib.Seq.{drop-cons, get_or-drop, drop-drop}
use borrow.Author.Tests.{eq-eqb, ne_eqb}
use Rattle.number.proofs.Cases.{never}
use Rattle.number.proofs.Searches.{below-or-last}
use Rattle.grammar.specs.{byte_at, is_digit, AllOf, Digits}
use Rattle.grammar.proofs.Spans.{all_first, all_rest, digit-inside}
use Rattle.p6_gap.specs.Bytes.{is_white, hash, ends_comment, is_text}
use Rattle.p6_gap.specs.Replacing.{replaced_from}
use Rattle.p6_gap.specs.Standing.{White, byte, comment, Whites, none, more, Gap}
use Rattle.p6_gap.proofs.Bytes.{
  text-not-end,
  white-inside,
  end-inside,
  hash-inside,
  hash-not-white,
  hash-not-digit,
}

-- ---- lists from a place on

-- where a byte and others stand from a place on, the byte is that of the place
drop-first : (t : List ℕ) (b c : ℕ) (l : List ℕ) → c ∷ l ≡ drop b t → (byte_at t b ≡ c) × (l ≡ drop (b + 1) t)
drop-first t b c l e =
    let z : b + 0 ≡ b = omega arith in
    let first : c ≡ byte_at t (b + 0) = ap (λ x. get_or x 0 0) e ∙ get_or-drop b t 0 0 in
    (sym (rw z at first), ap (drop 1) e ∙ drop-drop 1 b t)

-- ---- one byte, one comment

-- a byte that opens no comment stays
replaced-byte : (one : ℕ) (s : List ℕ) (a : ℕ) → a < length s → ¬ (byte_at s a ≡ hash)
    → replaced_from false one (drop a s) ≡ byte_at s a ∷ replaced_from false one (drop (suc a) s)
unfolding replaced_from
replaced-byte one s a h n = rw (drop-cons s a 0 h, ne_eqb (byte_at s a) hash n)

-- one that opens a comment does not
replaced-opening : (one : ℕ) (s : List ℕ) (a : ℕ) → byte_at s a ≡ hash
    → replaced_from false one (drop a s) ≡ replaced_from true one (drop (suc a) s)
unfolding replaced_from
replaced-opening one s a e = rw (drop-cons s a 0 (hash-inside s a e), eq-eqb (byte_at s a) hash e)

-- nor does the text behind it; the end gives the one byte
replaced-text : (one : ℕ) (s : List ℕ) (n a : ℕ) → AllOf is_text s a n → ends_comment (byte_at s (a + n)) ≡ true
    → replaced_from true one (drop a s) ≡ one ∷ replaced_from false one (drop (a + n + 1) s)
unfolding replaced_from
replaced-text one s zero a all ends =
    let here : a + 0 ≡ a = omega arith in
    let z : a + 0 + 1 ≡ suc a = omega arith in
    let e = rw here at ends in
    rw (z, drop-cons s a 0 (end-inside s a e), e)
replaced-text one s (suc n) a all ends =
    let next : a + suc n ≡ a + 1 + n = omega arith in
    let text : ends_comment (byte_at s a) ≡ false = text-not-end _ (all_first is_text s a (suc n) all (omega arith)) in
    let inside : a < length s = omega (arith, end-inside s (a + suc n) ends) in
    rw (drop-cons s a 0 inside, text, next)
    (ap (λ i. replaced_from true one (drop i s)) (sym (add-one a))
    ∙ replaced-text one s n (a + 1) (all_rest is_text s a n all) (rw next at ends))

-- ---- from a place on

module _ (one : ℕ) (white : is_white one ≡ true) (s t behind : List ℕ) where
  -- t has from place b on what s has from place a on, with each comment replaced, and these bytes behind it
  abbrev pub Onward : ℕ → ℕ → Type 0
  Onward a b = replaced_from false one (drop a s) ++ behind ≡ drop b t

  -- a byte that opens no comment is the same
  pub onward-byte : (a b : ℕ) → a < length s → ¬ (byte_at s a ≡ hash) → Onward a b
      → (byte_at t b ≡ byte_at s a) × Onward (a + 1) (b + 1)
  onward-byte a b h n o =
      let f = ap (λ x. x ++ behind) (sym (replaced-byte one s a h n)) ∙ o in
      let d = drop-first t b (byte_at s a) (replaced_from false one (drop (suc a) s) ++ behind) f in
      (d.0, rw (add-one a) d.1)

  -- a comment is the one byte
  onward-comment : (a b n : ℕ) → byte_at s a ≡ hash → AllOf is_text s (a + 1) n
      → ends_comment (byte_at s (a + 1 + n)) ≡ true → Onward a b → (byte_at t b ≡ one) × Onward (a + 1 + n + 1) (b + 1)
  onward-comment a b n e all ends o =
      let z : suc a ≡ a + 1 = omega arith in
      let g = replaced-opening one s a e ∙ ap (λ i. replaced_from true one (drop i s)) z
      ∙ replaced-text one s n (a + 1) all ends in
      drop-first t b one (replaced_from false one (drop (a + 1 + n + 1) s) ++ behind)
      (ap (λ x. x ++ behind) (sym g) ∙ o)

  -- so is a white byte
  pub onward-blank : (a b : ℕ) → is_white (byte_at s a) ≡ true → Onward a b
      → (is_white (byte_at t b) ≡ true) × Onward (a + 1) (b + 1)
  onward-blank a b w o =
      let d = onward-byte a b (white-inside s a w) (λ h. never (sym w ∙ hash-not-white _ h)) o in
      (ap is_white d.0 ∙ w, d.1)

  -- a white byte or a comment is a white byte
  onward-white : (a b c : ℕ) → White s a c → Onward a b → White t b (b + 1) × Onward c (b + 1)
  onward-white a b c (byte w e) o =
      let d = onward-blank a b w o in
      (byte d.0 refl, subst (λ i. Onward i (b + 1)) (sym e) d.1)
  onward-white a b c (comment n h all ends e) o =
      let d = onward-comment a b n h all ends o in
      (byte (ap is_white d.0 ∙ white) refl, subst (λ i. Onward i (b + 1)) (sym e) d.1)

  -- so many are so many white bytes
  onward-whites : (a b c : ℕ) → Whites s a c → Onward a b → (d : ℕ) × Whites t b d × Onward c d
  onward-whites a b c (none _ _ e) o = (b, none b b refl, subst (λ i. Onward i b) e o)
  onward-whites a b c (more _ m _ w ws) o =
      let first = onward-white a b m w o in
      let others = onward-whites m (b + 1) c ws first.1 in
      (others.0, more b (b + 1) others.0 first.0 others.1, others.2)

  -- a gap is one of white bytes
  pub onward-gap : (a b c : ℕ) → Gap s a c → Onward a b → (d : ℕ) × Gap t b d × Onward c d
  onward-gap a b c g o =
      let first = onward-white a b g.middle g.first o in
      let others = onward-whites g.middle (b + 1) c g.others first.1 in
      (others.0, record { middle = b + 1; first = first.0; others = others.1 }, others.2)

  -- digits are the same
  pub onward-digits : (n a b : ℕ) → Digits s a n → Onward a b
      → ((i : ℕ) → i < n → byte_at t (b + i) ≡ byte_at s (a + i)) × Onward (a + n) (b + n)
  onward-digits zero a b all o =
      let z : a + 0 ≡ a = omega arith in
      let y : b + 0 ≡ b = omega arith in
      (λ i l. absurd (omega arith), rw (z, y) o)
  onward-digits (suc n) a b all o =
      let z : a + suc n ≡ a + n + 1 = omega arith in
      let y : b + suc n ≡ b + n + 1 = omega arith in
      let before = onward-digits n a b (λ i l. all i (omega arith)) o in
      let digit : is_digit (byte_at s (a + n)) ≡ true = all n (omega arith) in
      let not-hash : ¬ (byte_at s (a + n) ≡ hash) = λ h. never (sym digit ∙ hash-not-digit _ h) in
      let d = onward-byte (a + n) (b + n) (digit-inside s (a + n) digit) not-hash before.1 in
      (λ i l. ⊎_elim (before.0 i) (λ e. rw e d.0) (below-or-last n i (omega arith)), rw (z, y) d.1)
