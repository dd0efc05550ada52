-- One round: the grouping and the move together are a step of the method.
use Prim.Native.Nat.{ℕ, ◌*◌, ◌≤◌}
use mathlib.Core.Bool.{Bool, not}
use mathlib.Core.List.{List}
use mathlib.Core.Path.{◌≡◌, sym, ap₂, subst, ◌∙◌}
use native.Mathlib.Omega.{arith}
use lib.ListN.{length}
use Rattle.number.specs.{fill, how_many}
use Rattle.number.proofs.Fills.{fill-at}
use Rattle.shades.specs.{most_shades}
use Rattle.method.specs.{
  Colours,
  Rule,
  Move,
  Goes,
  State,
  state_of,
  colours_of,
  kind_of,
  holding,
  move_of,
  holding_move,
  joins,
}
use Rattle.method.proofs.Rules.{kind-goes, holding-goes, holding-none}
use Rattle.group_sums.specs.{Summed, Measured, member_at}
use Rattle.group_sums.proofs.Moving.{summed_same}
use Rattle.group_sums.proofs.Parts.{measured}
use Rattle.group_join.specs.{Grouped}
use Rattle.moves.specs.{goes, stays}
use Rattle.moves.proofs.Moving.{moves-laid, movers-are}
use Rattle.rounds_step.specs.Meeting.{Steppable, StepMeets}

-- a round with no shade held is one by the rule
pub step-of-none-held : (rule : Rule) {C : Colours} {k : ℕ} {distances : State → ℕ} {a z : State}
    {total moved counted : ℕ} → StepMeets (holding 0 rule) C k distances a z total moved counted
    → StepMeets rule C k distances a z total moved counted
step-of-none-held rule {C} {k} {distances} {a} {z} {total} {moved} {counted} m =
    subst (λ r. StepMeets r C k distances a z total moved counted) (holding-none rule) m

module _ {used : ℕ} {ks ws s : List ℕ} {k : ℕ} {before after t : List ℕ} {total : ℕ}
    (p : Steppable used ks ws k (state_of s before)) (g : Grouped used ks ws s k before after total t) where
  -- what the move asks, where no more shades are held than there are
  pub move-asked : (held : ℕ) → held ≤ k → Measured t × (held ≤ k) × (k ≤ most_shades) × (3 * k ≤ length s)
  move-asked held few = (
    measured used ks ws p.table (joins (colours_of used ks ws) k s) t g.sums,
    few,
    p.fit.shades.few,
    p.fit.shades.room,
  )

  -- what the round leaves and answers, by any rule that goes by coordinates
  step-meets-by : {rule : Rule} {move : Move} → Goes rule move
      → (s' : List ℕ) (moved counted : ℕ) (distances : State → ℕ)
      → s' ≡ fill (3 * k) (goes move t s) s
      → moved ≡ how_many k (λ q. not (stays move t s q)) → counted ≡ distances (state_of s before)
      → StepMeets rule (colours_of used ks ws) k distances (state_of s before) (state_of s' after) total moved counted
  step-meets-by by s' moved counted distances es em ec =
      let m = joins (colours_of used ks ws) k s in
      record {
        state = ap₂ state_of
            (es ∙ moves-laid used ks ws p.table m t g.sums by s k p.fit.shades.few)
            g.members;
        total_is = g.total_is;
        moved_is = em ∙ movers-are used ks ws p.table m t g.sums by s k p.fit.shades.few;
        distances_is = ec;
      }

  -- by one rule or the other, with the first shades held
  pub step-meets : (held : ℕ) (leaps : Bool) (s' : List ℕ) (moved counted : ℕ) (distances : State → ℕ)
      → s' ≡ fill (3 * k) (goes (holding_move held (move_of leaps)) t s) s
      → moved ≡ how_many k (λ q. not (stays (holding_move held (move_of leaps)) t s q))
      → counted ≡ distances (state_of s before)
      → StepMeets (holding held (kind_of leaps)) (colours_of used ks ws) k distances (state_of s before)
      (state_of s' after) total moved counted
  step-meets held leaps = step-meets-by (holding-goes held (kind-goes leaps))

  -- and with none held
  pub step-meets-free : (leaps : Bool) (s' : List ℕ) (moved counted : ℕ) (distances : State → ℕ)
      → s' ≡ fill (3 * k) (goes (move_of leaps) t s) s
      → moved ≡ how_many k (λ q. not (stays (move_of leaps) t s q)) → counted ≡ distances (state_of s before)
      → StepMeets (kind_of leaps) (colours_of used ks ws) k distances (state_of s before)
      (state_of s' after) total moved counted
  step-meets-free leaps = step-meets-by (kind-goes leaps)

  -- the sums that it leaves are those of the groups that its members tell
  pub step-sums : Summed (member_at after) ks ws used t
  step-sums =
      let m = joins (colours_of used ks ws) k s in
      summed_same m (member_at after) ks ws used t
      (λ i l. sym (rw g.members (fill-at used i m before l (omega (arith, p.fit.room))))) g.sums
