-- Laws of lines: how they are put field by field and one behind the other, and how long they are.
use Prim.Native.Nat.{ℕ, zero, suc, ◌+◌, ◌-◌, ◌*◌, ◌≤◌, ◌<◌}
use mathlib.Core.List.{List, [], ◌∷◌, ◌++◌, append_assoc, append-nil}
use mathlib.Core.Path.{◌≡◌, refl, sym, ap, ◌∙◌}
use native.Mathlib.Numerals.{add-one}
use native.Mathlib.Omega.{arith}
use lib.ListN.{get_or, length, drop, length-append}
use lib.Seq.{append_snoc}
use Rattle.grammar.specs.{blank, line_feed, decimal_text}
use Rattle.grammar.proofs.Texts.{decimal-length}
use Rattle.texts.specs.{line_of, lines_of, PutMeets}
use Rattle.texts.proofs.Texts.{put_then, put-length}
use Rattle.listing_lines.specs.Texts.{most_field}

-- ---- the rest of a line, from a field on

-- from a field that is not the last: the field, a blank, and the rest from the next on
rest_more : (i : ℕ) (ns : List ℕ) → suc i < length ns
    → line_of (drop i ns) ≡ (decimal_text (get_or ns i 0) ++ blank ∷ []) ++ line_of (drop (suc i) ns)
rest_more i [] h = absurd (omega arith)
rest_more i (n ∷ []) h = absurd (omega arith)
rest_more zero (n ∷ m ∷ ms) h = sym (append_snoc (decimal_text n) blank (line_of (m ∷ ms)))
rest_more (suc i) (n ∷ m ∷ ms) h = rest_more i (m ∷ ms) (omega arith)

-- from the last: the field and LF
rest-last : (i : ℕ) (ns : List ℕ) → suc i ≡ length ns
    → line_of (drop i ns) ≡ decimal_text (get_or ns i 0) ++ line_feed ∷ []
rest-last i [] h = absurd (omega arith)
rest-last zero (n ∷ []) h = refl
rest-last zero (n ∷ m ∷ ms) h = absurd (omega arith)
rest-last (suc i) (n ∷ ms) h = rest-last i ms (omega arith)

-- ---- a line put field by field

-- before field i: the fields before it are put, from place `at` to place a, so that putting the rest ends the line
pub record Turn (at : ℕ) (ns d : List ℕ) (i a : ℕ) (x : List ℕ) : Type 0 where
  pub within : i + 1 ≤ length ns
  pub long : length x ≡ length d
  pub few : a ≤ at + most_field * i
  pub rest : (r : ℕ) (y : List ℕ) → PutMeets a (line_of (drop i ns)) x r y → PutMeets at (line_of ns) d r y

-- before the first
pub turn-start : (at : ℕ) (ns d : List ℕ) → 1 ≤ length ns → Turn at ns d 0 at d
turn-start at ns d h = record {
  within = omega arith;
  long = refl;
  few = omega arith;
  rest = λ r y p. p;
}

-- before the next
pub turn_step : {at i a b : ℕ} {ns d x y : List ℕ} → Turn at ns d i a x → i + 1 < length ns
    → PutMeets a (decimal_text (get_or ns i 0) ++ blank ∷ []) x b y → Turn at ns d (i + 1) b y
turn_step {at} {i} {a} {b} {ns} {d} {x} {y} t h p = record {
  within = omega arith;
  long = put-length p ∙ t.long;
  few =
      omega (
        arith,
        t.few,
        p.ends,
        length-append (decimal_text (get_or ns i 0)) (blank ∷ []),
        decimal-length (get_or ns i 0),
      );
  rest = λ r z q. t.rest r z (rw (rest_more i ns (omega arith)) (put_then p (rw (add-one i) at q)));
}

-- behind the last
pub turn-done : {at i a r : ℕ} {ns d x y : List ℕ} → Turn at ns d i a x → length ns - 1 ≤ i
    → PutMeets a (decimal_text (get_or ns (length ns - 1) 0) ++ line_feed ∷ []) x r y → PutMeets at (line_of ns) d r y
turn-done {i = i} {r = r} {ns = ns} {y = y} t h p =
    let last : suc i ≡ length ns = omega (arith, t.within) in
    let same : length ns - 1 ≡ i = omega arith in
    t.rest r y (rw (rest-last i ns last) (rw same at p))

-- a line of n fields has at most 21 * n bytes
pub line-length : (n : ℕ) (ns : List ℕ) → length (line_of (n ∷ ns)) ≤ most_field * length (n ∷ ns)
line-length n [] = omega (arith, length-append (decimal_text n) (line_feed ∷ []), decimal-length n)
line-length n (m ∷ ms) =
    omega (
      arith,
      length-append (decimal_text n) (blank ∷ line_of (m ∷ ms)),
      decimal-length n,
      line-length m ms,
    )

-- ---- lines one behind the other

-- the lines of two lists, one behind the other
lines-joined : (ls ms : List (List ℕ)) → lines_of (ls ++ ms) ≡ lines_of ls ++ lines_of ms
lines-joined [] ms = refl
lines-joined (l ∷ ls) ms =
    ap (λ t. line_of l ++ t) (lines-joined ls ms) ∙ sym (append_assoc (line_of l) (lines_of ls) (lines_of ms))

-- one line more
pub lines_snoc : (ls : List (List ℕ)) (l : List ℕ) → lines_of (ls ++ l ∷ []) ≡ lines_of ls ++ line_of l
lines_snoc ls l = lines-joined ls (l ∷ []) ∙ ap (λ t. lines_of ls ++ t) (append-nil (line_of l))

-- a put of one line more
pub line-put : (ls : List (List ℕ)) (l : List ℕ) {a b c : ℕ} {d x y : List ℕ} → PutMeets a (lines_of ls) d b x
    → PutMeets b (line_of l) x c y → PutMeets a (lines_of (ls ++ l ∷ [])) d c y
line-put ls l p q = rw (lines_snoc ls l) (put_then p q)
