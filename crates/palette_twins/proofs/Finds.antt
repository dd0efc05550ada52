-- Entry after entry, an equal before it is looked for, and where none is found the entry's site is marked.
use Prim.Native.Nat.{ℕ, ◌/◌, ◌≤◌, ◌<◌}
use mathlib.Core.Bool.{Bool, true, false}
use mathlib.Core.List.{List}
use mathlib.Core.Logic.{inl, inr}
use mathlib.Core.Path.{◌≡◌, sym, ap, ◌∙◌}
use native.Mathlib.Omega.{arith}
use lib.ListN.{get_or, length}
use borrow.Author.Tests.{lt-ltb, le-ltb}
use Rattle.std.specs.Prelude.{Option, Some, None, MatchOption}
use Rattle.number.proofs.Cases.{bool, never}
use Rattle.number.proofs.Promises.{first-that-only}
use Rattle.colour.specs.{Bytes}
use Rattle.palette_twins.specs.Pairs.{
  same_entry,
  equal_before,
  has_equal,
  higher_twin,
  twin_shade,
  twins_of,
}
use Rattle.palette_twins.specs.Sites.{entry_key, sites, site_of}
use Rattle.palette_twins.specs.declared.Twins.{Twins}
use Rattle.palette_twins.proofs.Sites.{equal-sites, keys-equal, keys-differ}

-- ---- the equal before an entry

-- the first with the same key is the equal
pub equal-found : (p : List ℕ) (q i : ℕ) → Bytes p → i < q → entry_key p i ≡ entry_key p q
    → ((j : ℕ) → j < i → ¬ (entry_key p j ≡ entry_key p q)) → i ≡ equal_before p q
equal-found p q i bytes l e others =
    first-that-only q (λ j. same_entry p j q) i
    (record {
      within = omega arith;
      before = λ j h. keys-differ p j q (others j h);
      found = λ h. keys-equal p bytes i q e;
    })

-- where all before it are unequal there is none
none_found : (p : List ℕ) (q : ℕ) → ((j : ℕ) → j < q → same_entry p j q ≡ false) → has_equal p q ≡ false
none_found p q before =
    let own = first-that-only q (λ j. same_entry p j q) q
    (record { within = omega arith; before = before; found = λ h. absurd (omega arith) }) in
    le-ltb (equal_before p q) q (omega (arith, own))

-- where all before it have other keys there is none
pub no-equal : (p : List ℕ) (q : ℕ) → ((j : ℕ) → j < q → ¬ (entry_key p j ≡ entry_key p q)) → has_equal p q ≡ false
no-equal p q others = none_found p q (λ j h. keys-differ p j q (others j h))

-- what a search among the entries before it answers
pub answered : (p : List ℕ) (q : ℕ) (r : Option ℕ) → Bytes p
    → MatchOption r ((j : ℕ) → 0 ≤ j → j < q → ¬ (entry_key p j ≡ entry_key p q))
    (λ i. (0 ≤ i) × (i < q) × (entry_key p i ≡ entry_key p q)
    × ((j : ℕ) → 0 ≤ j → j < i → ¬ (entry_key p j ≡ entry_key p q)))
    → MatchOption r (has_equal p q ≡ false) (λ i. (i < q) × (i ≡ equal_before p q))
answered p q None bytes s = no-equal p q (λ j h. s j (omega arith) h)
answered p q (Some i) bytes s =
    (s.1, equal-found p q i bytes s.1 s.2 (λ j h. s.3 j (omega arith) h))

-- ---- the twins

-- of the first q entries none has an equal before it, and the site of each is marked
pub record Passed (p : List ℕ) (marks : List Bool) (q : ℕ) : Type 0 where
  pub within : q ≤ length p / 3
  pub places : length marks ≡ sites
  pub marked : (i : ℕ) → i < q → get_or marks (site_of p i) false ≡ true
  pub before : (i : ℕ) → i < q → has_equal p i ≡ false

module _ {p : List ℕ} {marks : List Bool} {q : ℕ} (w : Passed p marks q) where
  -- an entry whose site is not marked has no equal before it
  pub unmarked : get_or marks (site_of p q) false ≡ false → has_equal p q ≡ false
  unmarked free =
      none_found p q (λ j l. elim (bool (same_entry p j q)) [
        | inl t ↦
            never (sym (w.marked j l) ∙ ap (λ s. get_or marks s false) (equal-sites p j q t) ∙ free)
        | inr t ↦ t
      ])

  module _ (inside : q < length p / 3) where
    -- an entry that has one is the higher of the twins
    pub passed-found : {lower : ℕ} → lower < q → lower ≡ equal_before p q
        → ◌≡◌ {A = Option Twins} (Some (record { lower = lower; higher = q })) (twins_of p)
    unfolding twins_of
    passed-found {lower} l is =
        let has : has_equal p q ≡ true = lt-ltb (equal_before p q) q (omega (arith, is, l)) in
        let first : q ≡ higher_twin p =
        first-that-only (length p / 3) (has_equal p) q
        (record { within = w.within; before = w.before; found = λ h. has }) in
        let holds : twin_shade p ≡ true = lt-ltb (higher_twin p) (length p / 3) (omega (arith, first, inside)) in
        rw (holds, ← first, is)

-- where all are passed there are no twins
pub passed-all : {p : List ℕ} {marks : List Bool} → Passed p marks (length p / 3) → None ≡ twins_of p
unfolding twins_of
passed-all {p} w =
    let first : length p / 3 ≡ higher_twin p =
    first-that-only (length p / 3) (has_equal p) (length p / 3)
    (record { within = w.within; before = w.before; found = λ h. absurd (omega arith) }) in
    let fails : twin_shade p ≡ false = le-ltb (higher_twin p) (length p / 3) (omega (arith, first)) in
    rw fails
