-- What the tests of counts, limits, rooms and members say, fact by fact.
use Prim.Native.Nat.{ℕ, ◌≤◌, ◌<◌}
use mathlib.Core.Bool.{Bool, true, false}
use mathlib.Core.List.{List}
use mathlib.Core.Logic.{◌↔◌}
use mathlib.Core.Path.{◌≡◌, refl}
use native.Mathlib.Omega.{arith}
use lib.ListN.{get_or}
use lib.Dec.{ltb, eqb}
use borrow.Author.Tests.{ltb-false, le-ltb, leb-false, lt-leb, eqb-false, eq-eqb, ne_eqb}
use Rattle.number.specs.{how_many}
use Rattle.number.proofs.Cases.{neither}
use Rattle.number.proofs.Counts.{how_many-none, none-how_many}
use Rattle.shades.specs.{most_shades}
use Rattle.lloyd_tests.specs.Tests.{usual_limit, limit_of, bad_count, no_free, member_off, bad_member}

-- the test of BAD COUNT fails exactly for 1 to 64 shades
pub bad-count-exactly : (k : ℕ) → (bad_count k ≡ false) ↔ ((1 ≤ k) × (k ≤ most_shades))
bad-count-exactly k = (
  λ h. let p = neither (ltb k 1) (ltb most_shades k) h in (ltb-false k 1 p.0, ltb-false most_shades k p.1),
  λ h. simp (le-ltb k 1 h.0, le-ltb most_shades k h.1),
)

-- a number is not below another exactly where the test says so
pub not-below-exactly : (a b : ℕ) → (ltb a b ≡ false) ↔ (b ≤ a)
not-below-exactly a b = (ltb-false a b, le-ltb a b)

-- a free shade is left exactly where fewer are fixed than there are shades
pub no-free-exactly : (f k : ℕ) → (no_free f k ≡ false) ↔ (f < k)
no-free-exactly f k = (leb-false k f, lt-leb k f)

-- a limit of 0 means 100, any other itself
pub limit_is : (limit : ℕ) → (limit ≡ 0 → limit_of limit ≡ usual_limit) × (0 < limit → limit_of limit ≡ limit)
limit_is limit = (λ e. rw (eq-eqb limit 0 e), λ h. rw (ne_eqb limit 0 (λ e. omega arith)))

-- a limit that is asked for is at least 1
pub limit_some : (limit : ℕ) → 0 < limit_of limit
limit_some limit = go (eqb limit 0) refl
  where
    go : (t : Bool) → eqb limit 0 ≡ t → 0 < limit_of limit
    go true e = rw e (omega arith)
    go false e = let n = eqb-false limit 0 e in rw e (omega arith)

-- and at most what one not above the bound is
pub limit_most : (limit most : ℕ) → usual_limit ≤ most → limit ≤ most → limit_of limit ≤ most
limit_most limit most u h = go (eqb limit 0) refl
  where
    go : (t : Bool) → eqb limit 0 ≡ t → limit_of limit ≤ most
    go true e = rw e u
    go false e = rw e h

-- the test of BAD MEMBER fails exactly where every used member is below the count
pub bad-member-exactly : (used k : ℕ) (ms : List ℕ)
    → (bad_member used k ms ≡ false) ↔ ((i : ℕ) → i < used → get_or ms i 0 < k)
bad-member-exactly used k ms = (
  λ h i l.
      let none : how_many used (member_off k ms) ≡ 0 = omega (arith, ltb-false 0 (how_many used (member_off k ms)) h) in
      leb-false k (get_or ms i 0) (how_many-none used (member_off k ms) none i l),
  λ low. rw (none-how_many used (member_off k ms) (λ i l. lt-leb k (get_or ms i 0) (low i l))),
)
