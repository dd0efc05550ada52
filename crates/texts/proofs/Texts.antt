-- Laws of texts in a buffer: how they are put one behind the other, and at once.
use Prim.Native.Nat.{ℕ, ◌+◌, ◌≤◌, ◌<◌}
use mathlib.Core.List.{List, [], ◌∷◌, ◌++◌}
use mathlib.Core.Path.{◌≡◌, refl, sym, ap, ◌∙◌}
use native.Mathlib.Omega.{arith}
use lib.ListN.{length, get_or, set, take, drop, length-append, length-drop, take-append-drop, get_or-append}
use lib.Seq.{set_split, drop-cons, get_or-append-add, length-take-le}
use Rattle.number.specs.{fill, fill_from}
use Rattle.number.proofs.Parts.{stretch-filled, from-length, from-joined, from-same}
use borrow.Rule.Slice.PartMut.{mid_of, put_mid}
use Rattle.texts.specs.Putting.{with_text, PutMeets}

-- ---- texts in a buffer

-- a put keeps the buffer's length
pub text-length : (a : ℕ) (t d : List ℕ) → length (with_text a t d) ≡ length d
text-length a t d = from-length a (length t) (λ i. get_or t i 0) d

-- nothing put leaves the buffer as it is
pub bytes-start : (a : ℕ) (f : ℕ → ℕ) (d : List ℕ) → d ≡ fill_from a 0 f d
unfolding fill_from fill
bytes-start a f d = sym (take-append-drop a d)

-- one byte put is a store
pub put_one : (a b : ℕ) (d : List ℕ) → a < length d → set d a b ≡ with_text a (b ∷ []) d
unfolding fill_from fill
put_one a b d h =
    set_split d a b h ∙ ap (λ t. take a d ++ fill 1 (λ i. get_or (b ∷ []) i 0) t) (sym (drop-cons d a 0 h))

-- a text behind a text is the two as one
text-joined : (a : ℕ) (t u d : List ℕ) → with_text (a + length t) u (with_text a t d) ≡ with_text a (t ++ u) d
text-joined a t u d =
    let f : ℕ → ℕ = λ i. get_or (t ++ u) i 0 in
    ap (λ x. fill_from (a + length t) (length u) (λ i. get_or u i 0) x)
    (from-same a (length t) (λ i. get_or t i 0) f d (λ i h. sym (get_or-append t u 0 i h)))
    ∙ from-joined a (length t) (length u) f (λ i. get_or u i 0) d (λ i h. sym (get_or-append-add t u i 0))
    ∙ ap (λ n. fill_from a n f d) (sym (length-append t u))

-- two puts, the second at the place that the first answered, are one
pub put_then : {a b c : ℕ} {t u d x y : List ℕ} → PutMeets a t d b x → PutMeets b u x c y
    → PutMeets a (t ++ u) d c y
put_then {a} {b} {c} {t} {u} {d} {x} {y} p q = record {
  ends = omega (arith, p.ends, q.ends, length-append t u);
  text_is =
      q.text_is ∙ ap (λ k. with_text k u x) p.ends ∙ ap (λ z. with_text (a + length t) u z) p.text_is
      ∙ text-joined a t u d;
}

-- a put that met its text keeps the buffer's length
pub put-length : {a b : ℕ} {t d x : List ℕ} → PutMeets a t d b x → length x ≡ length d
put-length {a} {t = t} {d = d} p = ap length p.text_is ∙ text-length a t d

-- ---- a text put at once

-- a list as long as a text, filled with its bytes, is the text
fill-whole : (t m : List ℕ) → length m ≡ length t → fill (length t) (λ i. get_or t i 0) m ≡ t
unfolding fill
fill-whole [] [] e = refl
fill-whole [] (y ∷ m) e = absurd (omega arith)
fill-whole (x ∷ t) [] e = absurd (omega arith)
fill-whole (x ∷ t) (y ∷ m) e = ap {B = List ℕ} (λ u. x ∷ u) (fill-whole t m (omega arith))

-- a text laid over a stretch as long as it is put there
pub text-laid : (a n : ℕ) (t d : List ℕ) → n ≡ length t → a + length t ≤ length d
    → put_mid a n d t ≡ with_text a t d
text-laid a n t d e h =
    let m : length (mid_of a (length t) d) ≡ length t =
    length-take-le (length t) (drop a d) (omega (arith, length-drop a d)) in
    rw e
    (ap (λ x. put_mid a (length t) d x) (sym (fill-whole t (mid_of a (length t) d) m))
    ∙ stretch-filled a (length t) (λ i. get_or t i 0) d)
