-- The ways in which a shortened round is refused: as a plain one is, or for its members; it meets its contract.
use Prim.Native.Nat.{ℕ, ◌/◌}
use mathlib.Core.Bool.{true}
use mathlib.Core.List.{List, [], ◌∷◌, ◌++◌}
use mathlib.Core.Logic.{inl, inr}
use mathlib.Core.Path.{◌≡◌, refl, ◌∙◌}
use lib.ListN.{length}
use Rattle.std.specs.Prelude.{Err, None, Some}
use Rattle.refusal.specs.{Row, Refusal, BadMember, first_refusal, Given, NoneHolds}
use Rattle.refusal.proofs.By.{refusal-exactly, none-exactly}
use Rattle.table_test.specs.{Record}
use Rattle.method.specs.{State}
use Rattle.lloyd_tests.specs.{bad_member}
use Rattle.lloyd_rounds.specs.Refusals.{plain_rows, member_row, short_rows}
use Rattle.lloyd_rounds.specs.Outcomes.{RoundMeets, short_round}
use Rattle.lloyd_rounds.proofs.Rounds.{short-refuses}

-- ---- rows and then more rows

-- what the first rows refuse is refused
first-front : (rows more : List Row) (n : Refusal) → first_refusal rows ≡ Some n → first_refusal (rows ++ more) ≡ Some n
first-front rows more n e = (refusal-exactly (rows ++ more) n).1 (go rows ((refusal-exactly rows n).0 e))
  where
    go : (rows : List Row) → Given rows n → Given (rows ++ more) n
    go [] g = absurd g
    go (r ∷ rows) (inl g) = inl g
    go (r ∷ rows) (inr g) = inr (g.0, go rows g.1)

-- behind rows of which none holds, what the others refuse is
first-behind : (rows more : List Row) → first_refusal rows ≡ None → first_refusal (rows ++ more) ≡ first_refusal more
first-behind rows more e = go rows ((none-exactly rows).0 e)
  where
    go : (rows : List Row) → NoneHolds rows → first_refusal (rows ++ more) ≡ first_refusal more
    go [] g = refl
    go (r ∷ rows) g = rw g.0 (go rows g.1)

-- ---- the ways

module _ (rec : Record) (ks ws : List ℕ) (a : State) where
  -- by whatever row
  refused : (n : Refusal) → first_refusal (short_rows rec ks ws a) ≡ Some n
      → RoundMeets (short_round rec ks ws a) (Err n) a.coordinates a.members
  refused n e =
      rw ((short-refuses rec ks ws a).by_refusal n e)
      (record { answer = refl; coordinates_are = refl; members_are = refl })

  -- as a plain one is
  pub short-meets-refused : (n : Refusal) → first_refusal (plain_rows rec ks ws a) ≡ Some n
      → RoundMeets (short_round rec ks ws a) (Err n) a.coordinates a.members
  short-meets-refused n e = refused n (first-front (plain_rows rec ks ws a) (member_row rec a ∷ []) n e)

  -- for its members
  pub short-meets-off : first_refusal (plain_rows rec ks ws a) ≡ None
      → bad_member rec.used (length a.coordinates / 3) a.members ≡ true
      → RoundMeets (short_round rec ks ws a) (Err BadMember) a.coordinates a.members
  short-meets-off e b =
      refused BadMember (first-behind (plain_rows rec ks ws a) (member_row rec a ∷ []) e ∙ rw b refl)
