-- Single rounds that are accepted: on a table, with k shades of the grid in 3k coordinates and a member for each entry.
use Prim.Native.Nat.{ℕ, ◌*◌, ◌/◌}
use mathlib.Core.Bool.{false}
use mathlib.Core.List.{List}
use mathlib.Core.Path.{◌≡◌, ap, ◌∙◌}
use native.Mathlib.Omega.{arith}
use lib.ListN.{length}
use borrow.Author.Tests.{le-ltb}
use Rattle.table_test.specs.{Record, bad_table}
use Rattle.shades.proofs.Checks.{bad-coordinates-exactly, bad-centre-exactly}
use Rattle.method.specs.{State, colours_of, to_mean, plain_distances, short_distances, Fit, Joined}
use Rattle.lloyd_tests.proofs.Checks.{bad-member-exactly}
use Rattle.lloyd_rounds.specs.Outcomes.{made_round, plain_round, short_round}
use Rattle.lloyd_rounds.proofs.Rounds.{PlainGood, plain-none, short_none, plain-refuses, short-refuses}

module _ (rec : Record) (ks ws : List ℕ) (k : ℕ) (a : State) (table : bad_table rec ks ws ≡ false)
    (fit : Fit (colours_of rec.used ks ws) k a) (whole : length a.coordinates ≡ 3 * k) where
  -- the count of shades is a third of the coordinates
  third : length a.coordinates / 3 ≡ k
  third = omega arith

  -- the tests of a plain round fail
  good : PlainGood rec ks ws a
  good = record {
    table = table;
    count = (bad-coordinates-exactly (length a.coordinates)).1
        (omega (arith, fit.some), omega (arith, fit.shades.few), omega arith);
    centre = (bad-centre-exactly a.coordinates).1 fit.shades.low;
    room = le-ltb (length a.members) rec.used fit.room;
  }

  -- so it is made
  pub plain-made : plain_round rec ks ws a ≡ made_round to_mean (colours_of rec.used ks ws) k a plain_distances
  plain-made =
      (plain-refuses rec ks ws a).by_none (plain-none rec ks ws a good)
      ∙ ap (λ n. made_round to_mean (colours_of rec.used ks ws) n a plain_distances) third

  -- and, where each member is a shade's number, a shortened one
  pub short-made : Joined (colours_of rec.used ks ws) k a
      → short_round rec ks ws a ≡ made_round to_mean (colours_of rec.used ks ws) k a short_distances
  short-made joined =
      (short-refuses rec ks ws a).by_none
      (short_none rec ks ws a good
      ((bad-member-exactly rec.used (length a.coordinates / 3) a.members).1 (λ i l. rw third (joined i l))))
      ∙ ap (λ n. made_round to_mean (colours_of rec.used ks ws) n a short_distances) third
