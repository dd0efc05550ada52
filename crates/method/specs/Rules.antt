-- Rules by which shades move: Lloyd's, which goes to the mean, and Jancey's, which steps past it. What is asked of a
-- rule, and a rule on one coordinate.
use Rattle.std.specs.Prelude.{ℕ, ◌≤◌, ◌<◌, Bool, cond, ◌≡◌, ltb, eqb}
use Rattle.number.specs.{rounded_mean, leap}
use Rattle.colour.specs.{Point, Within, most_coordinate}
use Rattle.shades.specs.{axis}
use Rattle.method.specs.Colouring.{Colours, pixels_in, sums_of, cost_at, mean_of, leap_of}

-- where a shade goes: given its number, its group, and where it stands
abbrev pub Rule : Type 0
Rule = ℕ → Colours → Point → Point

-- Lloyd's rule: each shade moves to the rounded mean of its group, and a shade with no group stays
abbrev pub to_mean : Rule
to_mean q G z = cond (eqb (pixels_in G) 0) z (mean_of G)

-- Jancey's rule: each shade steps past the mean of its group, and a shade with no group stays
abbrev pub leap_to : Rule
leap_to q G z = cond (eqb (pixels_in G) 0) z (leap_of G z)

-- Jancey's rule where shades leap, else Lloyd's
abbrev pub kind_of : Bool → Rule
kind_of leaps = cond leaps leap_to to_mean

-- the rule that holds the first f shades where they stand and moves the others by a rule
abbrev pub holding : ℕ → Rule → Rule
holding f rule q G z = cond (ltb q f) z (rule q G z)

-- what a run asks of its rule: it costs a group no more than staying does, and it keeps to the grid a shade that stands
-- on it, among colours that do
pub record GoodRule (rule : Rule) : Type 0 where
  pub no_dearer : (q : ℕ) (G : Colours) (z : Point) → cost_at G (rule q G z) ≤ cost_at G z
  pub keeps : (q : ℕ) (G : Colours) (z : Point) → ((i : ℕ) → Within most_coordinate (G.c i))
      → Within most_coordinate z → Within most_coordinate (rule q G z)

-- from shade f on the rule goes to the mean
pub record Means (f : ℕ) (rule : Rule) : Type 0 where
  pub means : (q : ℕ) (G : Colours) (z : Point) → f ≤ q → rule q G z ≡ to_mean q G z

-- no shade below f is moved by the rule
pub record Holds (f : ℕ) (rule : Rule) : Type 0 where
  pub holds : (q : ℕ) (G : Colours) (z : Point) → q < f → rule q G z ≡ z

-- from shade f on the rule leaves a shade with a group where it stands only on its rounded mean
pub record Rests (f : ℕ) (rule : Rule) : Type 0 where
  pub rests : (q : ℕ) (G : Colours) (z : Point) → f ≤ q → 0 < pixels_in G → rule q G z ≡ z → z ≡ mean_of G

-- a rule on one coordinate: given the shade's number, its group's pixel count and sum of that coordinate, and where the
-- shade stands
abbrev pub Move : Type 0
Move = ℕ → ℕ → ℕ → ℕ → ℕ

-- the rule goes by this on each coordinate, so it reads of a group no more than its sums
pub record Goes (rule : Rule) (move : Move) : Type 0 where
  pub on_axis : (q : ℕ) (G : Colours) (z : Point) (e : ℕ)
      → axis e (rule q G z) ≡ move q (pixels_in G) (axis e (sums_of G)) (axis e z)

-- both rules on one coordinate
abbrev pub move_of : Bool → Move
move_of leaps q w s z = cond (eqb w 0) z (cond leaps (leap most_coordinate w s z) (rounded_mean w s))

-- a rule on one coordinate with the first f shades held
abbrev pub holding_move : ℕ → Move → Move
holding_move f move q w s z = cond (ltb q f) z (move q w s z)
