-- What `first_of` answers, from what its rows say: by going down the rows with the value of each test.
use mathlib.Core.Path.{◌≡◌, refl, sym, ◌∙◌}
use mathlib.Core.List.{List, [], ◌∷◌, ◌++◌}
use mathlib.Core.Logic.{◌↔◌, ◌⊎◌, inl, inr, ⊎_elim}
use Rattle.number.proofs.Cases.{bool, never}
use Rattle.refusal.specs.Numbers.{Refusal, number_of, done}
use Rattle.refusal.specs.Order.{Row, first_of, Given, NoneHolds}
use Rattle.refusal.proofs.Numbers.{number-only, number-not-done}

-- ---- the first row whose test holds

-- what is given is what is answered
first-of-given : (rows : List Row) (n : Refusal) → Given rows n → first_of rows ≡ number_of n
first-of-given [] n g = absurd g
first-of-given (r ∷ rows) n (inl (t, e)) = rw (t, e)
first-of-given (r ∷ rows) n (inr (t, g)) = rw t (first-of-given rows n g)

-- what is answered is what is given: the number says which refusal it is
given-of-first : (rows : List Row) (n : Refusal) → first_of rows ≡ number_of n → Given rows n
given-of-first [] n e = absurd (number-not-done n (sym e))
given-of-first (r ∷ rows) n e =
    ⊎_elim (λ t. inl (t, number-only _ n (rw t at e)))
    (λ t. inr (t, given-of-first rows n (rw t at e))) (bool r.when)

-- so the number is answered exactly when the refusal is given
pub first-exactly : (rows : List Row) (n : Refusal) → (first_of rows ≡ number_of n) ↔ Given rows n
first-exactly rows n = (given-of-first rows n, first-of-given rows n)

-- one refusal alone is given
pub given-only : (rows : List Row) (a b : Refusal) → Given rows a → Given rows b → a ≡ b
given-only rows a b g h = number-only a b (sym (first-of-given rows a g) ∙ first-of-given rows b h)

-- ---- no row's test holds

-- where no test holds the answer is `done`
first-of-none : (rows : List Row) → NoneHolds rows → first_of rows ≡ done
first-of-none [] g = refl
first-of-none (r ∷ rows) (t, g) = rw t (first-of-none rows g)

-- where the answer is `done` no test holds: a refusal's number is another
none-of-first : (rows : List Row) → first_of rows ≡ done → NoneHolds rows
none-of-first [] e = tt
none-of-first (r ∷ rows) e =
    ⊎_elim (λ t. absurd (number-not-done r.gives (rw t at e)))
    (λ t. (t, none-of-first rows (rw t at e))) (bool r.when)

-- so `done` is answered exactly when no test holds
pub done-exactly : (rows : List Row) → (first_of rows ≡ done) ↔ NoneHolds rows
done-exactly rows = (none-of-first rows, first-of-none rows)

-- ---- rows and then more rows

-- where no test holds, none of the first rows does
pub none-front : (rows more : List Row) → NoneHolds (rows ++ more) → NoneHolds rows
none-front [] more g = tt
none-front (r ∷ rows) more (t, g) = (t, none-front rows more g)

-- and none of the others
pub none-back : (rows more : List Row) → NoneHolds (rows ++ more) → NoneHolds more
none-back [] more g = g
none-back (r ∷ rows) more (t, g) = none-back rows more g

-- what is given is given by the first rows, or by the others where none of the first holds
pub given-split : (rows more : List Row) (n : Refusal) → Given (rows ++ more) n
    → Given rows n ⊎ (NoneHolds rows × Given more n)
given-split [] more n g = inr (tt, g)
given-split (r ∷ rows) more n (inl g) = inl (inl g)
given-split (r ∷ rows) more n (inr (t, g)) = elim (given-split rows more n g) [
  | inl f ↦ inl (inr (t, f))
  | inr f ↦ inr ((t, f.0), f.1)
]

-- behind rows of which none holds, what is given is given by the others
pub given-behind : (rows more : List Row) (n : Refusal) → NoneHolds rows → Given (rows ++ more) n ↔ Given more n
given-behind [] more n g = (λ h. h, λ h. h)
given-behind (r ∷ rows) more n (t, g) = (
  λ h. elim h [
    | inl f ↦ never (sym f.0 ∙ t)
    | inr f ↦ (given-behind rows more n g).0 f.1
  ],
  λ h. inr (t, (given-behind rows more n g).1 h),
)

-- ---- one of the two

-- no test holds, or a refusal is given
pub none-or-given : (rows : List Row) → NoneHolds rows ⊎ ((n : Refusal) × Given rows n)
none-or-given [] = inl tt
none-or-given (r ∷ rows) =
    ⊎_elim (λ t. inr (r.gives, inl (t, refl)))
    (λ t. ⊎_elim (λ g. inl (t, g)) (λ g. inr (g.0, inr (t, g.1))) (none-or-given rows)) (bool r.when)

-- the answer is `done` or a refusal's number
pub done-or-refusal : (rows : List Row) → (first_of rows ≡ done) ⊎ ((n : Refusal) × (first_of rows ≡ number_of n))
done-or-refusal rows =
    ⊎_elim (λ g. inl (first-of-none rows g)) (λ g. inr (g.0, first-of-given rows g.0 g.1)) (none-or-given rows)
