-- Laws of spans: how many bytes of one kind stand from a place on, at most so many or with no bound; and that a byte of
-- a kind that 0 is not of stands inside the input.
use Prim.Native.Nat.{ℕ, suc, ◌+◌, ◌-◌, ◌≤◌, ◌<◌}
use mathlib.Core.Bool.{Bool, true, false, not}
use mathlib.Core.List.{List}
use mathlib.Core.Logic.{⊎_elim}
use mathlib.Core.Path.{◌≡◌, refl, sym, ap, ◌∙◌}
use native.Mathlib.Omega.{arith}
use native.Mathlib.Decide.{dec_lt}
use lib.ListN.{length, get_or, take, drop, get_or-eq_default, length-take, length-drop}
use borrow.Author.Tests.{not-true, not-false}
use Rattle.std.specs.List.{prefix_len}
use Rattle.std.proofs.Common.{min}
use Rattle.std.proofs.lemmas.List.{get_or-take, get_or-drop}
use Rattle.std.proofs.lemmas.List.Sums.{prefix_len-le-length, prefix_len_passes, prefix_len_stops}
use Rattle.number.proofs.Cases.{never}
use Rattle.number.proofs.Firsts.{first-that, first-that-only}
use Rattle.number.proofs.Searches.{below-or-last}
use Rattle.grammar.specs.Bytes.{byte_at, is_digit}
use Rattle.grammar.specs.Spans.{span_at, AllOf}

-- ---- spans

-- a span is no longer than its bound
pub span-at-most : (kind : ℕ → Bool) (most : ℕ) (s : List ℕ) (at : ℕ) → span_at kind most s at ≤ most
span-at-most kind most s at = (first-that most (λ i. not (kind (byte_at s (at + i))))).within

-- every byte of a span is of its kind
pub span-all : (kind : ℕ → Bool) (most : ℕ) (s : List ℕ) (at : ℕ) → AllOf kind s at (span_at kind most s at)
span-all kind most s at i h = not-false _ ((first-that most (λ i. not (kind (byte_at s (at + i))))).before i h)

-- the byte after a span that is shorter than its bound is of another kind
pub span-ends : (kind : ℕ → Bool) (most : ℕ) (s : List ℕ) (at : ℕ) → span_at kind most s at < most
    → kind (byte_at s (at + span_at kind most s at)) ≡ false
span-ends kind most s at h = not-true _ ((first-that most (λ i. not (kind (byte_at s (at + i))))).found h)

-- so many bytes of a kind, and then the bound or a byte of another kind, are the span
pub span-only : (kind : ℕ → Bool) (most : ℕ) (s : List ℕ) (at n : ℕ) → n ≤ most → AllOf kind s at n
    → (n < most → kind (byte_at s (at + n)) ≡ false) → n ≡ span_at kind most s at
span-only kind most s at n h all ends =
    first-that-only most (λ i. not (kind (byte_at s (at + i)))) n (record {
      within = h;
      before = λ i l. ap not (all i l);
      found = λ l. ap not (ends l);
    })

-- the first of some bytes of a kind
pub all_first : (kind : ℕ → Bool) (s : List ℕ) (at n : ℕ) → AllOf kind s at n → 0 < n → kind (byte_at s at) ≡ true
all_first kind s at n all h = let z : at + 0 ≡ at = omega arith in rw z at (all 0 h)

-- and the others
pub all_rest : (kind : ℕ → Bool) (s : List ℕ) (at n : ℕ) → AllOf kind s at (suc n) → AllOf kind s (at + 1) n
all_rest kind s at n all i h =
    let z : at + suc i ≡ at + 1 + i = omega arith in
    rw z at (all (suc i) (omega arith))

-- one byte more of a kind
pub all-step : (kind : ℕ → Bool) (s : List ℕ) (at n : ℕ) → AllOf kind s at n → kind (byte_at s (at + n)) ≡ true
    → AllOf kind s at (n + 1)
all-step kind s at n all e i h = ⊎_elim (all i) (λ o. rw o e) (below-or-last n i h)

-- past the end stands 0
pub byte_past : (s : List ℕ) (i : ℕ) → length s ≤ i → byte_at s i ≡ 0
byte_past s i h = get_or-eq_default s 0 h

-- ---- a kind that 0 is not of: its bytes stand inside, and their spans need no bound but the input's length

module _ (kind : ℕ → Bool) (none : kind 0 ≡ false) where
  -- a byte of the kind stands inside
  pub kind-inside : (s : List ℕ) (i : ℕ) → kind (byte_at s i) ≡ true → i < length s
  kind-inside s i h = elim (dec_lt i (length s)) [
    | yes l ↦ l
    | no l ↦ never (sym h ∙ ap kind (byte_past s i (omega arith)) ∙ none)
  ]

  -- there are no more of them in a row than bytes
  all-within : (s : List ℕ) (at n : ℕ) → AllOf kind s at n → n ≤ length s
  all-within s at n all = elim (dec_lt (length s) n) [
    | yes l ↦ absurd (omega (arith, kind-inside s (at + length s) (all (length s) l)))
    | no l ↦ omega arith
  ]

  -- the byte after all of them in a row is of another kind, also where it is the end of the input
  pub row_ends : (s : List ℕ) (at : ℕ) → kind (byte_at s (at + span_at kind (length s) s at)) ≡ false
  row_ends s at = elim (dec_lt (span_at kind (length s) s at) (length s)) [
    | yes l ↦ span-ends kind (length s) s at l
    | no l ↦ ap kind (byte_past s (at + span_at kind (length s) s at) (omega arith)) ∙ none
  ]

  -- so many of them and then a byte of another kind are all of them
  pub row-only : (s : List ℕ) (at n : ℕ) → AllOf kind s at n → kind (byte_at s (at + n)) ≡ false
      → n ≡ span_at kind (length s) s at
  row-only s at n all ends = span-only kind (length s) s at n (all-within s at n all) all (λ l. ends)

  -- the bytes of the kind at the front of so many that begin at a place are the span there
  pub front-span : (most : ℕ) (s : List ℕ) (at : ℕ) → prefix_len kind (take most (drop at s)) ≡ span_at kind most s at
  front-span most s at = span-only kind most s at n (omega (arith, inside, front)) all ends
    where
      l : List ℕ
      l = take most (drop at s)

      n : ℕ
      n = prefix_len kind (take most (drop at s))

      inside : n ≤ length (take most (drop at s))
      inside = prefix_len-le-length kind (take most (drop at s))

      front : length (take most (drop at s)) ≡ min most (length s - at)
      front = length-take most (drop at s) ∙ ap (min most) (length-drop at s)

      reads : (i : ℕ) → i < most → get_or (take most (drop at s)) i 0 ≡ byte_at s (at + i)
      reads i h = get_or-take most (drop at s) i 0 h ∙ get_or-drop at s i 0

      all : AllOf kind s at n
      all i h =
          rw (reads i (omega (arith, inside, front))) at (prefix_len_passes kind (take most (drop at s)) i 0 h)

      ends : n < most → kind (byte_at s (at + n)) ≡ false
      ends h = elim (dec_lt n (length (take most (drop at s)))) [
        | yes l ↦ rw (reads n h) at (prefix_len_stops kind (take most (drop at s)) 0 l)
        | no l ↦ ap kind (byte_past s (at + n) (omega (arith, front))) ∙ none
      ]

-- 0 is no digit
pub nothing-digit : is_digit 0 ≡ false
unfolding is_digit
nothing-digit = refl

-- a digit stands inside
pub digit-inside : (s : List ℕ) (i : ℕ) → is_digit (byte_at s i) ≡ true → i < length s
digit-inside = kind-inside is_digit nothing-digit
