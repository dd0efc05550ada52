-- The lines one by one, and their fields; what tells lines from the line of a refusal, and one refusal from another.
use Prim.Native.Nat.{ℕ, zero, suc, ◌+◌, ◌-◌, ◌/◌, ◌^◌, ◌≤◌, ◌<◌}
use mathlib.Core.Bool.{true}
use mathlib.Core.List.{List, [], ◌∷◌, ◌++◌, append_assoc, append_cancel_right}
use mathlib.Core.Logic.{⊎_elim}
use mathlib.Core.Path.{◌≡◌, refl, sym, ap, ◌∙◌, subst}
use native.Mathlib.Decide.{dec_le}
use native.Mathlib.Omega.{arith}
use lib.Dec.{eqb}
use lib.ListN.{get_or, length, drop, length-append, get_or-append}
use lib.Seq.{get_or_at, get_or-append-add}
use Rattle.number.specs.{sum}
use Rattle.number.proofs.Searches.{below-or-last}
use Rattle.number.proofs.Sums.{sum-eq}
use Rattle.number.proofs.Counts.{how_many-at-most}
use Rattle.number.proofs.Tallies.{how_many-values}
use Rattle.grammar.specs.{blank, line_feed, is_digit, most_decimal, decimal_text}
use Rattle.grammar.proofs.Decimals.{digit-range}
use Rattle.grammar.proofs.Promises.{text-only}
use Rattle.grammar.proofs.Texts.{short-some}
use Rattle.grammar.proofs.Values.{text-begins}
use Rattle.texts.specs.{line_of, lines_of}
use Rattle.listing_lines.specs.Texts.{
  refused_text,
  head_fields,
  mapped_to,
  shade_fields,
  shade_rows,
  lines_for,
  field_at,
}
use Rattle.listing_lines.specs.declared.Summary.{Summary}

-- ---- the fields of a line

-- a fact of each of them
abbrev pub Each : (ℕ → Type 0) → List ℕ → Type 0
Each F [] = Unit {0}
Each F (n ∷ ns) = F n × Each F ns

-- is one of what stands at any place, if it is one of 0
each_at : (F : ℕ → Type 0) (ns : List ℕ) → F 0 → Each F ns → (j : ℕ) → F (get_or ns j 0)
each_at F [] none each j = none
each_at F (n ∷ ns) none each zero = each.0
each_at F (n ∷ ns) none each (suc j) = each_at F ns none each.1 j

-- ---- the lines of the shades

-- there are as many as shades
rows-count : (k : ℕ) (palette : List ℕ) (f : ℕ → ℕ) → length (shade_rows k palette f) ≡ k
rows-count zero palette f = refl
rows-count (suc k) palette f =
    omega (arith, length-append (shade_rows k palette f) (shade_fields palette k (f k) ∷ []), rows-count k palette f)

-- line q is that of shade q, whatever lines follow
rows_at : (k q : ℕ) (palette : List ℕ) (f : ℕ → ℕ) (more : List (List ℕ)) → q < k
    → get_or (shade_rows k palette f ++ more) q [] ≡ shade_fields palette q (f q)
rows_at zero q palette f more h = absurd (omega arith)
rows_at (suc k) q palette f more h =
    let rows = shade_rows k palette f in
    let last = shade_fields palette k (f k) in
    ap (λ ls. get_or ls q []) (append_assoc rows (last ∷ []) more)
    ∙ ⊎_elim (rows_at k q palette f (last ∷ more))
    (λ e. ap (λ i. get_or (rows ++ last ∷ more) i []) e ∙ get_or_at rows last more [] k (rows-count k palette f)
    ∙ ap (λ i. shade_fields palette i (f i)) (sym e)) (below-or-last k q (omega arith))

-- no more pixels are mapped to a shade than there are
pub mapped-most : (index : List ℕ) (q : ℕ) → mapped_to index q ≤ length index
mapped-most index q = how_many-at-most (length index) (λ i. eqb (get_or index i 0) q)

-- ---- all lines

module _ (s : Summary) (palette index : List ℕ) where
  -- the shades
  abbrev k : ℕ
  k = length palette / 3

  -- their lines
  abbrev rows : List (List ℕ)
  rows = shade_rows k palette (mapped_to index)

  -- all lines
  abbrev lines : List (List ℕ)
  lines = lines_for s palette index

  -- there are two more than shades
  pub lines-count : length lines ≡ k + 2
  lines-count = omega (arith, length-append rows ((s.error ∷ []) ∷ []), rows-count k palette (mapped_to index))

  -- the line behind that of shade q - 1 is that of shade q
  pub shade-line : (q j : ℕ) → q < k → field_at lines (suc q) j ≡ get_or (shade_fields palette q (mapped_to index q)) j
      0
  shade-line q j h = ap (λ l. get_or l j 0) (rows_at k q palette (mapped_to index) ((s.error ∷ []) ∷ []) h)

  -- the pixels of the shades add up to the places of an index picture that has numbers of shades alone
  pub pixels-add : ((i : ℕ) → i < length index → get_or index i 0 < k)
      → sum k (λ q. field_at lines (suc q) 4) ≡ length index
  pixels-add below =
      sum-eq k (λ q. field_at lines (suc q) 4) (mapped_to index) (λ q h. shade-line q 4 h)
      ∙ how_many-values (length index) k (λ i. get_or index i 0) below

  -- a fact of 0, of the fields of line 1, of those of every shade and of the error is one of every field
  pub every-field : (F : ℕ → Type 0) → F 0 → Each F (head_fields s)
      → ((q : ℕ) → q < k → Each F (shade_fields palette q (mapped_to index q))) → F s.error
      → (i j : ℕ) → F (field_at lines i j)
  every-field F none head shades error zero j = each_at F (head_fields s) none head j
  every-field F none head shades error (suc q) j = elim (dec_le k q) [
    | yes l ↦
        let place : length rows + (q - k) ≡ q = omega (arith, rows-count k palette (mapped_to index)) in
        let line = ap (λ i. get_or (rows ++ last) i []) (sym place) ∙ get_or-append-add rows last (q - k) [] in
        subst (λ x. F (get_or x j 0)) (sym line) (behind (q - k) j)
    | no l ↦ subst F (sym (shade-line q j (omega arith)))
        (each_at F (shade_fields palette q (mapped_to index q)) none (shades q (omega arith)) j)
  ]
    where
      last : List (List ℕ)
      last = (s.error ∷ []) ∷ []

      behind : (d i : ℕ) → F (get_or (get_or last d []) i 0)
      behind zero zero = error
      behind zero (suc i) = none
      behind (suc d) i = none

-- ---- the line of a refusal

-- what begins with the text of a number begins with a digit
number-begins : (n : ℕ) (t u : List ℕ) → is_digit (get_or ((decimal_text n ++ t) ++ u) 0 0) ≡ true
number-begins n t u =
    let some : 0 < length (decimal_text n) = short-some most_decimal n (omega arith) in
    rw (
      get_or-append (decimal_text n ++ t) u 0 0 (omega (arith, length-append (decimal_text n) t)),
      get_or-append (decimal_text n) t 0 0 some,
    ) (text-begins most_decimal n (omega arith))

-- so do lines
lines-begin : (n : ℕ) (ns : List ℕ) (more : List (List ℕ)) → is_digit (get_or (lines_of ((n ∷ ns) ∷ more)) 0 0) ≡ true
lines-begin n [] more = number-begins n (line_feed ∷ []) (lines_of more)
lines-begin n (m ∷ ns) more = number-begins n (blank ∷ line_of (m ∷ ns)) (lines_of more)

-- and so no lines are the line of a refusal
pub refused-not-lines : (n : ℕ) (s : Summary) (palette index : List ℕ)
    → ¬ (refused_text n ≡ lines_of (lines_for s palette index))
refused-not-lines n s palette index e =
    let ns = s.pixels ∷ s.rounds ∷ s.settled ∷ s.total ∷ s.distances ∷ [] in
    let more = shade_rows (length palette / 3) palette (mapped_to index) ++ (s.error ∷ []) ∷ [] in
    let digit : is_digit 114 ≡ true = ap (λ t. is_digit (get_or t 0 0)) e ∙ lines-begin s.used ns more in
    omega (arith, (digit-range 114 digit).1)

-- and the line tells the number
pub refused-only : (a b : ℕ) → a < 10 ^ most_decimal → b < 10 ^ most_decimal → refused_text a ≡ refused_text b → a ≡ b
refused-only a b h l e =
    text-only a b h l (append_cancel_right (decimal_text a) (decimal_text b) (line_feed ∷ []) (ap (drop 8) e))
