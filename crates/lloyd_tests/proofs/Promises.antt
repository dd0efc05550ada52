-- When each test of a count, a limit, a room or a member fails: each theorem in full, under a sentence that says it.
use Prim.Native.Nat.{ℕ, ◌≤◌, ◌<◌}
use mathlib.Core.Bool.{false}
use mathlib.Core.List.{List}
use mathlib.Core.Logic.{◌↔◌}
use mathlib.Core.Path.{◌≡◌}
use lib.ListN.{get_or, length}
use Rattle.table_test.specs.{Record}
use Rattle.shades.specs.{most_shades}
use Rattle.method.specs.{most_rounds}
use Rattle.lloyd_tests.specs.Tests.{
  usual_limit,
  limit_of,
  bad_count,
  no_free,
  few_colours,
  bad_limit,
  short_members,
  short_totals,
  bad_member,
}
use Rattle.lloyd_tests.proofs.Checks as checks

-- The test of BAD COUNT fails exactly for 1 to 64 shades.
pub bad-count-exactly : (k : ℕ) → (bad_count k ≡ false) ↔ ((1 ≤ k) × (k ≤ most_shades))
bad-count-exactly = checks.bad-count-exactly

-- A free shade is left exactly where fewer are fixed than there are shades.
pub no-free-exactly : (f k : ℕ) → (no_free f k ≡ false) ↔ (f < k)
no-free-exactly = checks.no-free-exactly

-- The test of FEW COLOURS fails exactly for at most as many shades as used entries.
pub few-colours-exactly : (rec : Record) (k : ℕ) → (few_colours rec k ≡ false) ↔ (k ≤ rec.used)
few-colours-exactly rec k = checks.not-below-exactly rec.used k

-- The test of BAD LIMIT fails exactly for a limit of at most 200.
pub bad-limit-exactly : (limit : ℕ) → (bad_limit limit ≡ false) ↔ (limit ≤ most_rounds)
bad-limit-exactly limit = checks.not-below-exactly most_rounds limit

-- The test of SHORT ROOM for members fails exactly where there is one for each used entry.
pub short-members-exactly : (rec : Record) (ms : List ℕ) → (short_members rec ms ≡ false) ↔ (rec.used ≤ length ms)
short-members-exactly rec ms = checks.not-below-exactly (length ms) rec.used

-- The test of SHORT ROOM for totals fails exactly where there is one for each round of the limit.
pub short-totals-exactly : (limit : ℕ) (ts : List ℕ) → (short_totals limit ts ≡ false) ↔ (limit_of limit ≤ length ts)
short-totals-exactly limit ts = checks.not-below-exactly (length ts) (limit_of limit)

-- The test of BAD MEMBER fails exactly where every used member is below the count.
pub bad-member-exactly : (used k : ℕ) (ms : List ℕ)
    → (bad_member used k ms ≡ false) ↔ ((i : ℕ) → i < used → get_or ms i 0 < k)
bad-member-exactly = checks.bad-member-exactly

-- A limit of 0 means 100; any other is itself.
pub limit_is : (limit : ℕ) → (limit ≡ 0 → limit_of limit ≡ usual_limit) × (0 < limit → limit_of limit ≡ limit)
limit_is = checks.limit_is
