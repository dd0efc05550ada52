-- Where a run begins, and what its rounds leave.
use Prim.Native.Nat.{ℕ}
use mathlib.Core.Bool.{Bool}
use mathlib.Core.List.{List}
use mathlib.Core.Path.{◌≡◌, ap₂, subst}
use lib.ListN.{replicate}
use Rattle.number.specs.{fill}
use Rattle.colour.specs.{Within, most_coordinate}
use Rattle.shades.specs.{most_coordinates, colour_at}
use Rattle.method.specs.{
  Base,
  Colours,
  Rule,
  GoodRule,
  State,
  state_of,
  colours_of,
  holding,
  starts_from,
  over,
  begin_from,
}
use Rattle.method.proofs.Begins.{begin-from-fit, begin-joined}
use Rattle.method.proofs.Rules.{holding-none}
use Rattle.method.proofs.Sizes.{fair-of-table}
use Rattle.rounds_step.specs.{Walkable}
use Rattle.rounds_many.specs.{SeriesMeets}
use Rattle.rounds_many.proofs.Turns.{after-walkable}
use Rattle.rounds.specs.Asking.{Runnable}

module _ {used : ℕ} {ks ws : List ℕ} {k limit : ℕ} {members totals : List ℕ}
    (p : Runnable used ks ws k limit members totals) where
  module _ (B : Base) (low : (q : ℕ) → Within most_coordinate (B.at q)) where
    -- it begins fit for a shortened round
    pub begin-walkable : Walkable used ks ws k (begin_from B (colours_of used ks ws) k members)
    begin-walkable = record {
      steppable = record {
        table = p.table;
        fit = begin-from-fit B (colours_of used ks ws) k members low (fair-of-table p.table) p.some p.few
            p.members_room;
      };
      joined = begin-joined B (colours_of used ks ws) k members p.some p.members_room;
    }

    -- what the rounds of a run leave is fit for its final total
    pub series-walkable : (rule : Rule) → GoodRule rule → {z : State} {after : List ℕ} {rounds distances : ℕ}
        {settled : Bool}
        → SeriesMeets rule (colours_of used ks ws) k limit (begin_from B (colours_of used ks ws) k members) z totals
        after rounds settled distances → Walkable used ks ws k z
    series-walkable rule good m = rw m.state (after-walkable rule good begin-walkable _)

-- rounds with no shade held are rounds by the rule
pub series-of-none-held : (rule : Rule) {C : Colours} {k limit : ℕ} {a z : State} {before totals : List ℕ}
    {rounds distances : ℕ} {settled : Bool}
    → SeriesMeets (holding 0 rule) C k limit a z before totals rounds settled distances
    → SeriesMeets rule C k limit a z before totals rounds settled distances
series-of-none-held rule {C} {k} {limit} {a} {z} {before} {totals} {rounds} {distances} {settled} m =
    subst (λ r. SeriesMeets r C k limit a z before totals rounds settled distances) (holding-none rule) m

-- with the starting shades over zeros, and every member 0, it has begun
pub begun : (B : Base) (used : ℕ) (ks ws : List ℕ) (k : ℕ) (members s s' members' : List ℕ)
    → s ≡ replicate most_coordinates 0
    → s' ≡ over (starts_from B used (colour_at ks) k) s → members' ≡ fill used (λ i. 0) members
    → state_of s' members' ≡ begin_from B (colours_of used ks ws) k members
begun B used ks ws k members s s' members' es e f = ap₂ state_of (rw (e, es)) f
