-- The former shades of a shortened grouping: those of the entries to come stand in the members.
use Prim.Native.Nat.{ℕ, ◌<◌}
use mathlib.Core.List.{List}
use mathlib.Core.Path.{◌≡◌, ap, ◌∙◌}
use native.Mathlib.Decide.{dec_lt}
use native.Mathlib.Omega.{arith}
use lib.ListN.{get_or}
use Rattle.number.proofs.Fills.{fill-at, fill-kept}
use Rattle.shades.specs.{colour_at, worked}
use Rattle.shades.proofs.Nearest.{nearest-below, worked-at-most}
use Rattle.method.specs.{colours_of, joins}
use Rattle.group_sums.specs.{Assigned}
use Rattle.groups.specs.Grouping.{Groupable}
use Rattle.group_join.proofs.Turns.{Fitted, Turned, turned-length, turned-kept}

-- the distances that the shortened search of entry j works out, from its former shade
abbrev pub short_works : List ℕ → List ℕ → ℕ → List ℕ → ℕ → ℕ
short_works ks s k before j = worked s k (colour_at ks j) (get_or before j 0)

module _ {used : ℕ} {ks ws s : List ℕ} {k : ℕ} {before : List ℕ} (y : Groupable used ks ws s k before) where
  -- a shortened grouping has what a turn asks
  pub short-fitted : Fitted used ks ws s k (short_works ks s k before) before
  short-fitted = record {
    table = y.table;
    shades = y.shades;
    some = λ h. y.some;
    room = y.room;
    few = λ j. omega (arith, worked-at-most s k (colour_at ks j) (get_or before j 0), y.shades.few);
  }

  module _ {members : List ℕ} {total distances i : ℕ}
      (x : Turned used ks ws s k (short_works ks s k before) before members total distances i) where
    -- each member is the number of a shade, before its turn and after
    short-joined : (j : ℕ) → j < used → get_or members j 0 < k
    short-joined j h =
        elim (dec_lt j i) [
          | yes l ↦
              rw (x.filled, fill-at i j (joins (colours_of used ks ws) k s) before l (omega (arith, y.room)))
              (nearest-below s k (colour_at ks j) y.some)
          | no l ↦ rw (x.filled, fill-kept i j (joins (colours_of used ks ws) k s) before (omega arith)) (y.joined j h)
        ]

    -- what the grouping asks holds at each turn
    pub short-again : Groupable used ks ws s k members
    short-again = record {
      table = y.table;
      shades = y.shades;
      some = y.some;
      room = omega (arith, y.room, turned-length x);
      joined = short-joined;
    }

    -- the search of the turn begins at the entry's former shade
    pub short-worked : (n : ℕ) → n ≡ worked s k (colour_at ks i) (get_or members i 0) → n ≡ short_works ks s k before i
    short-worked n e = e ∙ ap (λ p. worked s k (colour_at ks i) p) (turned-kept x)

    -- and the members tell one of 64 groups for each entry
    pub short-assigned : Assigned used members
    short-assigned = record {
      room = omega (arith, y.room, turned-length x);
      below = λ j h. omega (arith, short-joined j h, y.shades.few);
    }
