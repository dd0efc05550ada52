-- Twins: two equal entries of a palette. Of several pairs the one with the smallest higher number is told.
use Rattle.std.specs.Prelude.{ℕ, ◌/◌, ◌<◌, Bool, cond, List, Option, None, Some, ◌≡◌, ltb, length}
use Rattle.number.specs.{first_that}
use Rattle.shades.specs.{shade_at, same_place}
use Rattle.palette_twins.specs.declared.Twins.{Twins}

-- entries i and j are equal: the same level in each channel
abbrev pub same_entry : List ℕ → ℕ → ℕ → Bool
same_entry p i j = same_place (shade_at p i) (shade_at p j)

-- the number of the equal before entry q: the first that is equal to it; q where none is
abbrev pub equal_before : List ℕ → ℕ → ℕ
equal_before p q = first_that q (λ i. same_entry p i q)

-- entry q has an equal before it
abbrev pub has_equal : List ℕ → ℕ → Bool
has_equal p q = ltb (equal_before p q) q

-- the higher number: the first that has an equal before it; the count of entries where none has
abbrev pub higher_twin : List ℕ → ℕ
higher_twin p = first_that (length p / 3) (has_equal p)

-- TWIN SHADE: two entries are equal
abbrev pub twin_shade : List ℕ → Bool
twin_shade p = ltb (higher_twin p) (length p / 3)

-- the higher number, and its equal before it
abbrev pub first_twins : List ℕ → Twins
first_twins p = record { lower = equal_before p (higher_twin p); higher = higher_twin p }

-- the twins of a palette: these; none where all entries differ
unfoldable pub twins_of : List ℕ → Option Twins
twins_of p = cond (twin_shade p) (Some (first_twins p)) None

-- what is told in numbers where there are no twins
abbrev pub no_twins : Twins
no_twins = record { lower = 0; higher = 0 }

-- the twins in numbers: 0 and 0 where there are none
abbrev pub told_pair : Option Twins → Twins
told_pair None = no_twins
told_pair (Some t) = t

-- two entries are equal, whichever they are
pub record TwoEqual (p : List ℕ) : Type 0 where
  pub one : ℕ
  pub other : ℕ
  pub before : one < other
  pub entries : other < length p / 3
  pub equal : shade_at p one ≡ shade_at p other

-- what the twins are: two entries, equal, and no two entries of which both are before the higher one are
pub record AreTwins (p : List ℕ) (t : Twins) : Type 0 where
  pub before : t.lower < t.higher
  pub entries : t.higher < length p / 3
  pub equal : shade_at p t.lower ≡ shade_at p t.higher
  pub smallest : (i j : ℕ) → i < j → j < t.higher → ¬ (shade_at p i ≡ shade_at p j)

-- no two entries are equal
abbrev pub AllDiffer : List ℕ → Type 0
AllDiffer p = (i j : ℕ) → i < j → j < length p / 3 → ¬ (shade_at p i ≡ shade_at p j)
