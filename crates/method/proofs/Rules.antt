-- Jancey's rule, one rule of the two, and a rule with the first f shades held: each costs a group no more than staying
-- and keeps to the grid; Jancey's leaves a shade with a group only on its rounded mean; and all go by coordinates.
use mathlib.Core.Bool.{Bool, true, false, cond}
use mathlib.Core.Path.{◌≡◌, refl, sym, ap, fun_ext, ◌∙◌}
use Prim.Native.Nat.{ℕ, zero, suc, ◌≤◌, ◌<◌}
use native.Mathlib.Nat.{le_refl}
use native.Mathlib.Omega.{arith}
use lib.Dec.{ltb, eqb}
use borrow.Author.Tests.{eq-eqb, ne_eqb, lt-ltb, le-ltb}
use Rattle.number.specs.{leap, Leaps}
use Rattle.number.proofs.Leaps.{leap-is-step, leap-no-dearer, leap-fits, leap-rests}
use Rattle.colour.specs.{Point, Within, most_coordinate}
use Rattle.shades.specs.{axis}
use Rattle.method.specs.Colouring.{Colours, on, pixels_in, sums_of, cost_at, mean_of, leap_of}
use Rattle.method.specs.Rules.{
  Rule,
  leap_to,
  kind_of,
  holding,
  GoodRule,
  Means,
  Holds,
  Rests,
  Move,
  Goes,
  move_of,
  holding_move,
}
use Rattle.method.proofs.Axes.{choice-axis, to-mean-axis}
use Rattle.method.proofs.Costs.{costs-no-more, mean-within, put-by-group, to-mean-good}

-- ---- Jancey's rule

-- a shade with a group steps past the mean
pub leap-to-moves : (q : ℕ) (G : Colours) (z : Point) → 0 < pixels_in G → leap_to q G z ≡ leap_of G z
leap-to-moves q G z pos = rw (ne_eqb (pixels_in G) 0 (λ e. omega arith))

-- a shade with no group stays
pub leap-to-stays : (q : ℕ) (G : Colours) (z : Point) → pixels_in G ≡ 0 → leap_to q G z ≡ z
leap-to-stays q G z e = rw (eq-eqb (pixels_in G) 0 e)

-- the step costs no more than staying, the three coordinates together
leap-costs-no-more : (G : Colours) (z : Point) → 0 < pixels_in G → cost_at G (leap_of G z) ≤ cost_at G z
leap-costs-no-more G z pos =
    costs-no-more G (leap_of G z) z
    (leap-no-dearer (on (λ p. p.r) G) pos most_coordinate z.r)
    (leap-no-dearer (on (λ p. p.g) G) pos most_coordinate z.g)
    (leap-no-dearer (on (λ p. p.b) G) pos most_coordinate z.b)

-- and keeps to the grid
leap-within : (G : Colours) (z : Point) → ((i : ℕ) → Within most_coordinate (G.c i)) → 0 < pixels_in G
    → Within most_coordinate (leap_of G z)
leap-within G z h pos =
    let w = mean-within G most_coordinate h pos in
    record {
      r_low = leap-fits most_coordinate (pixels_in G) (sums_of G).r z.r w.r_low;
      g_low = leap-fits most_coordinate (pixels_in G) (sums_of G).g z.g w.g_low;
      b_low = leap-fits most_coordinate (pixels_in G) (sums_of G).b z.b w.b_low;
    }

-- so the rule costs a group no more than staying, and keeps to the grid
pub leap-to-good : GoodRule leap_to
leap-to-good = record {
  no_dearer = λ q G z.
      put-by-group (λ p. cost_at G p ≤ cost_at G z) G z (leap_of G z) (λ e. le_refl _) (leap-costs-no-more G z);
  keeps = λ q G z h w. put-by-group (Within most_coordinate) G z (leap_of G z) (λ e. w) (leap-within G z h);
}

-- a shade that the step leaves where it stands is on the rounded mean
leap-of-rests : (G : Colours) (z : Point) → leap_of G z ≡ z → z ≡ mean_of G
leap-of-rests G z e =
    rw (
      leap-rests most_coordinate (pixels_in G) (sums_of G).r z.r (ap (λ (p : Point). p.r) e),
      leap-rests most_coordinate (pixels_in G) (sums_of G).g z.g (ap (λ (p : Point). p.g) e),
      leap-rests most_coordinate (pixels_in G) (sums_of G).b z.b (ap (λ (p : Point). p.b) e),
    )

-- so the rule rests on the rounded mean only
pub leap-to-rests : Rests 0 leap_to
leap-to-rests = record {
  rests = λ q G z free pos e. leap-of-rests G z (sym (leap-to-moves q G z pos) ∙ e);
}

-- ---- one rule or the other

-- either is a good rule
pub kind-good : (leaps : Bool) → GoodRule (kind_of leaps)
kind-good true = leap-to-good
kind-good false = to-mean-good

-- ---- the first f shades held

-- what holds of a shade that stays and of where the rule puts it holds of where the rule with some shades held does
held-or-moved : (P : Point → Type 0) (f : ℕ) (rule : Rule) (q : ℕ) (G : Colours) (z : Point) → P z → P (rule q G z)
    → P (holding f rule q G z)
held-or-moved P f rule q G z stays goes = by (ltb q f)
  where
    by : (b : Bool) → P (cond b z (rule q G z))
    by true = stays
    by false = goes

-- so it is a good rule where the rule is
pub holding-good : (f : ℕ) {rule : Rule} → GoodRule rule → GoodRule (holding f rule)
holding-good f {rule} good = record {
  no_dearer = λ q G z. held-or-moved (λ p. cost_at G p ≤ cost_at G z) f rule q G z (le_refl _) (good.no_dearer q G z);
  keeps = λ q G z h w. held-or-moved (Within most_coordinate) f rule q G z w (good.keeps q G z h w);
}

-- it moves no shade below f
pub holding-holds : (f : ℕ) (rule : Rule) → Holds f (holding f rule)
holding-holds f rule = record { holds = λ q G z h. rw (lt-ltb q f h) }

-- and from there on it is the rule
pub holding-free : (f : ℕ) (rule : Rule) (q : ℕ) (G : Colours) (z : Point) → f ≤ q
    → holding f rule q G z ≡ rule q G z
holding-free f rule q G z h = rw (le-ltb q f h)

-- so where the rule goes to the mean, it goes there from f on
pub holding-means : (f : ℕ) {rule : Rule} → Means 0 rule → Means f (holding f rule)
holding-means f {rule} mean = record {
  means = λ q G z free. holding-free f rule q G z free ∙ mean.means q G z (omega arith);
}

-- with none held it is the rule
pub holding-none : (rule : Rule) → holding 0 rule ≡ rule
holding-none rule = fun_ext (λ q. fun_ext (λ G. fun_ext (λ z. holding-free 0 rule q G z (omega arith))))

-- ---- the rules on one coordinate

-- Jancey's step on one coordinate
leap-axis : (G : Colours) (z : Point) (e : ℕ)
    → axis e (leap_of G z) ≡ leap most_coordinate (pixels_in G) (axis e (sums_of G)) (axis e z)
leap-axis G z zero = refl
leap-axis G z (suc zero) = refl
leap-axis G z (suc (suc e)) = refl

-- and Jancey's rule
leap-to-axis : (q : ℕ) (G : Colours) (z : Point) (e : ℕ)
    → axis e (leap_to q G z)
    ≡ cond (eqb (pixels_in G) 0) (axis e z) (leap most_coordinate (pixels_in G) (axis e (sums_of G)) (axis e z))
leap-to-axis q G z e =
    choice-axis (eqb (pixels_in G) 0) e z (leap_of G z) ∙ ap (cond (eqb (pixels_in G) 0) (axis e z)) (leap-axis G z e)

-- either rule goes by coordinates
pub kind-goes : (leaps : Bool) → Goes (kind_of leaps) (move_of leaps)
kind-goes true = record { on_axis = leap-to-axis }
kind-goes false = record { on_axis = to-mean-axis }

-- and so does a rule that does, with the first f shades held
pub holding-goes : (f : ℕ) {rule : Rule} {move : Move} → Goes rule move → Goes (holding f rule) (holding_move f move)
holding-goes f {rule} by = record {
  on_axis = λ q G z e.
      choice-axis (ltb q f) e z (rule q G z) ∙ ap (cond (ltb q f) (axis e z)) (by.on_axis q G z e);
}

-- a coordinate of a held shade stays
pub move-held : (f : ℕ) (move : Move) (q w s z : ℕ) → q < f → holding_move f move q w s z ≡ z
move-held f move q w s z h = rw (lt-ltb q f h)

-- and one of any other goes as with none held
pub move-free : (f : ℕ) (move : Move) (q w s z : ℕ) → f ≤ q → holding_move f move q w s z ≡ move q w s z
move-free f move q w s z h = rw (le-ltb q f h)

-- with none held a rule on one coordinate is what it was
pub holding-move-none : (move : Move) → holding_move 0 move ≡ move
holding-move-none move =
    fun_ext (λ q. fun_ext (λ w. fun_ext (λ s. fun_ext (λ z. move-free 0 move q w s z (omega arith)))))

-- what a shade with a group does by Jancey's rule is the step, on each coordinate
pub leap-to-steps : (q : ℕ) (G : Colours) (z : Point) → 0 < pixels_in G → (e : ℕ)
    → Leaps most_coordinate (pixels_in G) (axis e (sums_of G)) (axis e z) (axis e (leap_to q G z))
leap-to-steps q G z pos e =
    rw (leap-to-moves q G z pos, leap-axis G z e)
    (leap-is-step most_coordinate (pixels_in G) (axis e (sums_of G)) (axis e z) pos)

-- points that agree on each coordinate are one
point-of-axes : (x y : Point) → ((e : ℕ) → axis e x ≡ axis e y) → x ≡ y
point-of-axes x y same = rw (same 0, same 1, same 2)

-- by a rule that goes by coordinates, groups with the same sums send a shade to one place
pub goes-alike : (rule : Rule) (move : Move) → Goes rule move → (q : ℕ) (G H : Colours) (z : Point)
    → pixels_in G ≡ pixels_in H → sums_of G ≡ sums_of H → rule q G z ≡ rule q H z
goes-alike rule move by q G H z pixels sums =
    point-of-axes (rule q G z) (rule q H z)
    (λ e. by.on_axis q G z e ∙ rw (pixels, sums) (sym (by.on_axis q H z e)))
