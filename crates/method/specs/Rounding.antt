-- A round: each colour joins its nearest shade, and each shade moves by a rule. And many rounds, one after the other.
use Rattle.std.specs.Prelude.{ℕ, zero, suc, ◌*◌, ◌≤◌, ◌<◌, Bool, not, List, eqb, get_or, length, take}
use Rattle.number.specs.{sum, how_many, fill}
use Rattle.colour.specs.{Point}
use Rattle.shades.specs.{shade_at, laid, same_place, Shades, to_shade, nearest_shade, worked}
use Rattle.method.specs.Colouring.{Colours, cost_at, group_of}
use Rattle.method.specs.Rules.{Rule}

-- the lent coordinates, in which the shades lie, and the lent members
pub record State : Type 0 where
  pub coordinates : List ℕ
  pub members : List ℕ

-- the state of these coordinates and members
abbrev pub state_of : List ℕ → List ℕ → State
state_of coordinates members = record { coordinates = coordinates; members = members }

-- the first k shades of a state, three coordinates each, and its members
abbrev pub front_of : ℕ → State → State
front_of k a = state_of (take (3 * k) a.coordinates) a.members

-- the members against the shades: the sum over colours of weight times distance to the member's shade
abbrev pub final_of : Colours → State → ℕ
final_of C a = sum C.n (λ i. C.w i * to_shade a.coordinates (C.c i) (get_or a.members i 0))

-- the group of shade q by the members of a state
abbrev pub group_at : Colours → State → ℕ → Colours
group_at C a q = group_of C (λ i. get_or a.members i 0) q

-- what shade q of a state costs that group
abbrev pub group_cost : Colours → State → ℕ → ℕ
group_cost C a q = cost_at (group_at C a q) (shade_at a.coordinates q)

module _ (C : Colours) (k : ℕ) where
  -- each table colour joins the nearest shade; at a tie, the lowest number
  abbrev pub joins : List ℕ → ℕ → ℕ
  joins s i = nearest_shade s k (C.c i)

  -- the grouping in the members; past the used entries they keep their values
  abbrev pub grouped : State → List ℕ
  grouped a = fill C.n (joins a.coordinates) a.members

  -- the group of shade q
  abbrev pub group_in : State → ℕ → Colours
  group_in a q = group_of C (joins a.coordinates) q

  -- the round's total: the sum over colours of weight times distance to the shade joined, against the shades as they
  -- stand before the move
  abbrev pub total_of : State → ℕ
  total_of a = sum C.n (λ i. C.w i * to_shade a.coordinates (C.c i) (joins a.coordinates i))

  -- the plain round counts the number of shades for each colour
  abbrev pub plain_distances : State → ℕ
  plain_distances a = sum C.n (λ i. k)

  -- the shortened round counts, over the table colours, 1 plus the number of shades q that it works out
  abbrev pub short_distances : State → ℕ
  short_distances a = sum C.n (λ i. worked a.coordinates k (C.c i) (get_or a.members i 0))

module _ (rule : Rule) (C : Colours) (k : ℕ) where
  -- where shade q goes
  abbrev pub moved_to : State → ℕ → Point
  moved_to a q = rule q (group_in C k a q) (shade_at a.coordinates q)

  -- a round leaves the grouping in the members and the moved shades in the coordinates
  abbrev pub step : State → State
  step a = record { coordinates = laid k (moved_to a) a.coordinates; members = grouped C k a }

  -- how many shades move
  abbrev pub moved_of : State → ℕ
  moved_of a = how_many k (λ q. not (same_place (moved_to a q) (shade_at a.coordinates q)))

  -- after r rounds
  unfoldable pub after : State → ℕ → State
  after a zero = a
  after a (suc r) = step (after a r)

  -- does round r, counted from 0, move no shade?
  abbrev pub quiet : State → ℕ → Bool
  quiet a r = eqb (moved_of (after a r)) 0

-- what a round asks: some shades on the grid, and a member for each colour
pub record Fit (C : Colours) (k : ℕ) (a : State) : Type 0 where
  pub some : 0 < k
  pub shades : Shades k a.coordinates
  pub room : C.n ≤ length a.members

-- each member is the number of a shade: what a round asks where it reads them
abbrev pub Joined : Colours → ℕ → State → Type 0
Joined C k a = (i : ℕ) → i < C.n → get_or a.members i 0 < k
