-- The lines of the shades, and all lines: how they are put one behind the other, and how long they are.
use Prim.Native.Nat.{ℕ, zero, suc, ◌+◌, ◌*◌, ◌/◌, ◌≤◌, ◌<◌}
use mathlib.Core.List.{List, [], ◌∷◌, ◌++◌}
use mathlib.Core.Path.{◌≡◌, refl, ap, ◌∙◌, subst}
use native.Mathlib.Numerals.{add-one}
use native.Mathlib.Omega.{arith}
use lib.ListN.{get_or, length, take, length-append}
use lib.Seq.{length-take-le}
use Rattle.number.specs.{fill}
use Rattle.number.proofs.Fills.{fill-length, fill-at}
use Rattle.shades.specs.{most_shades}
use Rattle.texts.specs.{line_of, lines_of, PutMeets}
use Rattle.texts.proofs.Texts.{put_then, bytes-start}
use Rattle.listing_lines.specs.Texts.{
  most_text,
  refused_text,
  head_fields,
  mapped_to,
  shade_fields,
  shade_rows,
  lines_for,
}
use Rattle.listing_lines.specs.declared.Summary.{Summary}
use Rattle.listing_lines.proofs.Lines.{line-length, lines_snoc, line-put}

-- ---- the lines of the shades, put one behind the other

-- of no shades
pub rows_start : (a : ℕ) (palette : List ℕ) (f : ℕ → ℕ) (d : List ℕ)
    → PutMeets a (lines_of (shade_rows 0 palette f)) d a d
rows_start a palette f d = record { ends = omega arith; text_is = bytes-start a (λ i. get_or [] i 0) d }

-- of one shade more
pub rows_step : (q : ℕ) (palette : List ℕ) (f : ℕ → ℕ) {a b c : ℕ} {d x y : List ℕ}
    → PutMeets a (lines_of (shade_rows q palette f)) d b x → PutMeets b (line_of (shade_fields palette q (f q))) x c y
    → PutMeets a (lines_of (shade_rows (q + 1) palette f)) d c y
rows_step q palette f p r = rw (add-one q) (line-put (shade_rows q palette f) (shade_fields palette q (f q)) p r)

-- of all shades
pub rows-done : {q k : ℕ} (palette : List ℕ) (f : ℕ → ℕ) {a b : ℕ} {d x : List ℕ} → q ≤ k → k ≤ q
    → PutMeets a (lines_of (shade_rows q palette f)) d b x → PutMeets a (lines_of (shade_rows k palette f)) d b x
rows-done {q} {k} palette f h g p =
    let e : q ≡ k = omega arith in
    rw (← e) p

-- counts that agree give the same lines
rows_same : (k : ℕ) (palette : List ℕ) (f g : ℕ → ℕ) → ((q : ℕ) → q < k → f q ≡ g q)
    → shade_rows k palette f ≡ shade_rows k palette g
rows_same zero palette f g e = refl
rows_same (suc k) palette f g e =
    rw (rows_same k palette f g (λ q h. e q (omega arith)), e k (omega arith))

-- ---- the counts of the shades, in front of some room

-- filled with the pixels of the first k shades, they are k and each is that of its shade
pub counts-of : (k : ℕ) (index room counts : List ℕ) → k ≤ length room
    → counts ≡ fill (length (take k room)) (mapped_to index) (take k room)
    → (length counts ≡ k) × ((q : ℕ) → q < k → get_or counts q 0 ≡ mapped_to index q)
counts-of k index room counts h e =
    let n = length-take-le k room h in
    let f = mapped_to index in (
      ap length e ∙ fill-length (length (take k room)) f (take k room) ∙ n,
      λ q l.
          ap (λ c. get_or c q 0) e
          ∙ fill-at (length (take k room)) q f (take k room) (omega (arith, n)) (omega (arith, n)),
    )

-- ---- all lines

-- line 1, the lines of the shades with counts that are those of the index picture, and the error are all lines
pub lines-put : (s : Summary) (palette index : List ℕ) (f : ℕ → ℕ) {a b r : ℕ} {d x y z : List ℕ}
    → ((q : ℕ) → q < length palette / 3 → f q ≡ mapped_to index q) → PutMeets 0 (line_of (head_fields s)) d a x
    → PutMeets a (lines_of (shade_rows (length palette / 3) palette f)) x b y
    → PutMeets b (line_of (s.error ∷ [])) y r z
    → PutMeets 0 (lines_of (lines_for s palette index)) d r z
lines-put s palette index f {a} {b} {x = x} {y = y} e head rows last =
    let k = length palette / 3 in
    let counted : PutMeets a (lines_of (shade_rows k palette (mapped_to index))) x b y =
    subst (λ ls. PutMeets a (lines_of ls) x b y) (rows_same k palette f (mapped_to index) e) rows in
    put_then head (line-put (shade_rows k palette (mapped_to index)) (s.error ∷ []) counted last)

-- ---- lengths

-- the lines of k shades have at most 105 * k bytes
pub rows-length : (k : ℕ) (palette : List ℕ) (f : ℕ → ℕ) → length (lines_of (shade_rows k palette f)) ≤ 105 * k
rows-length zero palette f = omega arith
rows-length (suc k) palette f =
    let ls = shade_rows k palette f in
    let l = shade_fields palette k (f k) in
    let b : ℕ → ℕ = λ i. get_or palette (3 * k + i) 0 in
    omega (
      arith,
      ap length (lines_snoc ls l),
      length-append (lines_of ls) (line_of l),
      rows-length k palette f,
      line-length k (get_or palette (3 * k) 0 ∷ b 1 ∷ b 2 ∷ f k ∷ []),
    )

-- line 1 has at most 126
pub head-length : (s : Summary) → length (line_of (head_fields s)) ≤ 126
head-length s =
    line-length s.used (s.pixels ∷ s.rounds ∷ s.settled ∷ s.total ∷ s.distances ∷ [])

-- the line of a refusal is short
pub refused-most : (n : ℕ) → length (refused_text n) ≤ most_text
refused-most n = omega (arith, line-length n [])

-- all lines are at most 66
pub lines-most : (s : Summary) (palette index : List ℕ) → length palette / 3 ≤ most_shades
    → length (lines_of (lines_for s palette index)) ≤ most_text
lines-most s palette index few =
    let k = length palette / 3 in
    let rows = shade_rows k palette (mapped_to index) in
    omega (
      arith,
      length-append (line_of (head_fields s)) (lines_of (rows ++ (s.error ∷ []) ∷ [])),
      ap length (lines_snoc rows (s.error ∷ [])),
      length-append (lines_of rows) (line_of (s.error ∷ [])),
      head-length s,
      rows-length k palette (mapped_to index),
      line-length s.error [],
    )
