-- What is shown of single rounds, plain and shortened: each theorem in full, under a sentence that says it. The state a
-- has the coordinates and the members as they come.
use Prim.Native.Nat.{ℕ, ◌/◌, ◌≤◌, ◌<◌}
use mathlib.Core.List.{List}
use mathlib.Core.Logic.{◌↔◌}
use mathlib.Core.Path.{◌≡◌}
use lib.ListN.{get_or, length}
use Rattle.std.specs.Prelude.{Result, Ok, None, Some}
use Rattle.std.specs.Result.{result_err}
use Rattle.refusal.specs.{Refusal, Given, NoneHolds}
use Rattle.table_test.specs.{Record}
use Rattle.shades.specs.{colour_at, nearest_shade}
use Rattle.method.specs.{State, colours_of, to_mean, plain_distances, short_distances}
use Rattle.lloyd_rounds.specs.Refusals.{plain_rows, short_rows}
use Rattle.lloyd_rounds.specs.Outcomes.{
  RoundMeets,
  plain_round,
  short_round,
  made_round,
  kept_round,
}
use Rattle.lloyd_rounds.specs.declared.Rounded.{Rounded}
use Rattle.lloyd_rounds.proofs.Rounds as rounds

-- ---- when each refusal is given

-- A plain round gives each refusal exactly when its row is the first of 2, 4, 8, 7 that holds.
pub plain-refused-exactly : (rec : Record) (ks ws : List ℕ) (a : State) (n : Refusal)
    → (result_err (plain_round rec ks ws a).answer ≡ Some n) ↔ Given (plain_rows rec ks ws a) n
plain-refused-exactly rec ks ws a = (rounds.plain-refuses rec ks ws a).refused_exactly

-- And none exactly when no row holds.
pub plain-accepted-exactly : (rec : Record) (ks ws : List ℕ) (a : State)
    → (result_err (plain_round rec ks ws a).answer ≡ None) ↔ NoneHolds (plain_rows rec ks ws a)
plain-accepted-exactly rec ks ws a = (rounds.plain-refuses rec ks ws a).accepted_exactly

-- A shortened round gives each refusal exactly when its row is the first of 2, 4, 8, 7, 9 that holds.
pub short-refused-exactly : (rec : Record) (ks ws : List ℕ) (a : State) (n : Refusal)
    → (result_err (short_round rec ks ws a).answer ≡ Some n) ↔ Given (short_rows rec ks ws a) n
short-refused-exactly rec ks ws a = (rounds.short-refuses rec ks ws a).refused_exactly

-- And none exactly when no row holds.
pub short-accepted-exactly : (rec : Record) (ks ws : List ℕ) (a : State)
    → (result_err (short_round rec ks ws a).answer ≡ None) ↔ NoneHolds (short_rows rec ks ws a)
short-accepted-exactly rec ks ws a = (rounds.short-refuses rec ks ws a).accepted_exactly

-- ---- a refusal writes nothing

-- A refused plain round answers its error, and no slice changes.
pub plain-refused : (rec : Record) (ks ws : List ℕ) (a : State) (n : Refusal)
    → result_err (plain_round rec ks ws a).answer ≡ Some n → plain_round rec ks ws a ≡ kept_round a n
plain-refused rec ks ws a = (rounds.plain-refuses rec ks ws a).refused_is

-- So does a refused shortened round.
pub short-refused : (rec : Record) (ks ws : List ℕ) (a : State) (n : Refusal)
    → result_err (short_round rec ks ws a).answer ≡ Some n → short_round rec ks ws a ≡ kept_round a n
short-refused rec ks ws a = (rounds.short-refuses rec ks ws a).refused_is

-- ---- the contract

-- Whatever meets the contract of `plain_round` on an input has one answer and one content of each lent slice.
pub plain-only : (rec : Record) (ks ws : List ℕ) (a : State) {r r' : Result Rounded Refusal} {cs cs' ms ms' : List ℕ}
    → RoundMeets (plain_round rec ks ws a) r cs ms → RoundMeets (plain_round rec ks ws a) r' cs' ms'
    → (r ≡ r') × (cs ≡ cs') × (ms ≡ ms')
plain-only rec ks ws a = rounds.meets-only

-- And so has whatever meets that of `short_round`.
pub short-only : (rec : Record) (ks ws : List ℕ) (a : State) {r r' : Result Rounded Refusal} {cs cs' ms ms' : List ℕ}
    → RoundMeets (short_round rec ks ws a) r cs ms → RoundMeets (short_round rec ks ws a) r' cs' ms'
    → (r ≡ r') × (cs ≡ cs') × (ms ≡ ms')
short-only rec ks ws a = rounds.meets-only

-- ---- an accepted round

-- An accepted plain round is a round of Lloyd's rule, with the number of shades counted for each colour.
pub plain-accepted : (rec : Record) (ks ws : List ℕ) (a : State) → result_err (plain_round rec ks ws a).answer ≡ None
    → plain_round rec ks ws a
    ≡ made_round to_mean (colours_of rec.used ks ws) (length a.coordinates / 3) a plain_distances
plain-accepted rec ks ws a = (rounds.plain-refuses rec ks ws a).accepted_is

-- An accepted shortened round is the same, with the distances counted that the shortened search works out.
pub short-accepted : (rec : Record) (ks ws : List ℕ) (a : State) → result_err (short_round rec ks ws a).answer ≡ None
    → short_round rec ks ws a
    ≡ made_round to_mean (colours_of rec.used ks ws) (length a.coordinates / 3) a short_distances
short-accepted rec ks ws a = (rounds.short-refuses rec ks ws a).accepted_is

-- In an accepted plain round each used member becomes the nearest shade, as the shades came.
pub plain-joined : (rec : Record) (ks ws : List ℕ) (a : State) → result_err (plain_round rec ks ws a).answer ≡ None
    → (i : ℕ) → i < rec.used
    → get_or (plain_round rec ks ws a).state.members i 0
    ≡ nearest_shade a.coordinates (length a.coordinates / 3) (colour_at ks i)
plain-joined = rounds.plain-joined

-- In an accepted shortened round too.
pub short-joined : (rec : Record) (ks ws : List ℕ) (a : State) → result_err (short_round rec ks ws a).answer ≡ None
    → (i : ℕ) → i < rec.used
    → get_or (short_round rec ks ws a).state.members i 0
    ≡ nearest_shade a.coordinates (length a.coordinates / 3) (colour_at ks i)
short-joined = rounds.short-joined

-- Where a shortened round is accepted, a plain one is, and both leave the same coordinates, members, total and number
-- of moved shades.
pub short-leaves-plain : (rec : Record) (ks ws : List ℕ) (a : State) (s : Rounded)
    → (short_round rec ks ws a).answer ≡ Ok s
    → (p : Rounded)
    × ((plain_round rec ks ws a).answer ≡ Ok p)
    × ((short_round rec ks ws a).state ≡ (plain_round rec ks ws a).state)
    × (s.total ≡ p.total)
    × (s.moved ≡ p.moved)
short-leaves-plain = rounds.short-leaves-plain

-- Where a shortened round is accepted, it works out at most as many distances as the plain one.
pub short-distances-at-most : (rec : Record) (ks ws : List ℕ) (a : State) (s p : Rounded)
    → (short_round rec ks ws a).answer ≡ Ok s → (plain_round rec ks ws a).answer ≡ Ok p → s.distances ≤ p.distances
short-distances-at-most = rounds.short-distances-at-most

-- ---- on every input

-- Members past the used entries stay after a plain round, on every input.
pub plain-members-kept : (rec : Record) (ks ws : List ℕ) (a : State) (i : ℕ) → rec.used ≤ i
    → get_or (plain_round rec ks ws a).state.members i 0 ≡ get_or a.members i 0
plain-members-kept = rounds.plain-members-kept

-- And after a shortened one.
pub short-members-kept : (rec : Record) (ks ws : List ℕ) (a : State) (i : ℕ) → rec.used ≤ i
    → get_or (short_round rec ks ws a).state.members i 0 ≡ get_or a.members i 0
short-members-kept = rounds.short-members-kept
