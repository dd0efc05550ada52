-- What is shown of the method, whatever program carries it out: each theorem in full, under a sentence that says it.
-- W, S1, S2, S3 and Q are `pixels_in`, `sums_of` and `squares_of`; W-as-Q - (S1² + S2² + S3²) is `least_of`.
use Prim.Native.Nat.{ℕ, ◌+◌, ◌*◌, ◌≤◌, ◌<◌}
use mathlib.Core.Bool.{true}
use mathlib.Core.List.{List}
use mathlib.Core.Path.{◌≡◌}
use Rattle.number.specs.{sum, sum_of, most, Best, Leaps}
use Rattle.number.proofs.Promises.{most-is-best, best-is-most}
use Rattle.colour.specs.{Point, distance, most_coordinate}
use Rattle.shades.specs.{shade_at, axis, same_place}
use Rattle.method.specs.Colouring.{
  Colours,
  Fair,
  pixels_in,
  sums_of,
  squares_of,
  squared,
  least_of,
  cost_at,
  mean_of,
  group_of,
  drawn,
}
use Rattle.method.specs.Rules.{Rule, to_mean, leap_to, holding, GoodRule, Means, Holds, Rests}
use Rattle.method.specs.Rounding.{
  State,
  front_of,
  Fit,
  Joined,
  total_of,
  plain_distances,
  short_distances,
  final_of,
  moved_to,
  step,
  after,
}
use Rattle.method.specs.Starting.{Base, remote, unlike, next_shade}
use Rattle.method.specs.Leasts.{Bounded, SumBounded, least_sum, From}
use Rattle.method.specs.Fractions.{SignedPoint, as_signed, fraction_cost}
use Rattle.method.proofs.Bounds as bounds
use Rattle.method.proofs.Costs as costs
use Rattle.method.proofs.Covers as covers
use Rattle.method.proofs.Falls as falls
use Rattle.method.proofs.Fractions as fractions
use Rattle.method.proofs.Fronts as fronts
use Rattle.method.proofs.Rules as rules
use Rattle.method.proofs.Sizes as sizes
use Rattle.method.proofs.Startings as startings
use Rattle.method.proofs.Totals as totals

-- ---- starting shades

-- The shade after some chosen ones is, of the table's colours, the one whose distance to its nearest chosen shade is
-- greatest; every colour before it, which has a lower key, is strictly nearer.
pub next-is-farthest : (n : ℕ) (c : ℕ → Point) (k : ℕ) (s : List ℕ) → 0 < n
    → Best (λ a b. b < a) (λ i. i < n) (λ i. remote s k (c i)) (most n (λ i. remote s k (c i)))
    (remote s k (c (most n (λ i. remote s k (c i)))))
next-is-farthest n c k s h = most-is-best n (λ i. remote s k (c i)) h

-- It is the only such.
pub farthest-only : (n : ℕ) (c : ℕ → Point) (k : ℕ) (s : List ℕ) → 0 < n → {i d : ℕ}
    → Best (λ a b. b < a) (λ j. j < n) (λ j. remote s k (c j)) i d → i ≡ most n (λ j. remote s k (c j))
farthest-only n c k s h b = best-is-most n (λ j. remote s k (c j)) h b

-- Of colours that all differ no more than k stand on one of k shades: while there are more colours than chosen shades,
-- one is off them all, and so is the farthest.
pub covered-at-most : (n : ℕ) (c : ℕ → Point) (s : List ℕ) (k : ℕ) → 0 < k
    → ((i j : ℕ) → i < n → j < n → distance (c i) (c j) ≡ 0 → i ≡ j)
    → ((i : ℕ) → i < n → remote s k (c i) ≡ 0) → n ≤ k
covered-at-most n c s k some differ = covers.covered-at-most n c differ s k some

-- With j shades more, at most j fewer of them are unlike every shade: while more were unlike the given shades than have
-- been chosen since, one is left.
pub unlike-more : (n : ℕ) (c : ℕ → Point) → ((i j : ℕ) → i < n → j < n → distance (c i) (c j) ≡ 0 → i ≡ j)
    → (s : List ℕ) (k j : ℕ) → unlike n c s k ≤ unlike n c s (k + j) + j
unlike-more = covers.unlike-more

-- Below their number a given shade is the next.
pub next-is-given : (B : Base) (n : ℕ) (c : ℕ → Point) (k : ℕ) (s : List ℕ) → k < B.given
    → next_shade B n c k s ≡ B.at k
next-is-given = startings.next-given

-- From there on the farthest colour is.
pub next-is-chosen : (B : Base) (n : ℕ) (c : ℕ → Point) (k : ℕ) (s : List ℕ) → B.given ≤ k
    → next_shade B n c k s ≡ c (most n (λ i. remote s k (c i)))
next-is-chosen = startings.next-chosen

-- ---- a round's coordinates

-- A round of k shades reads and moves the first 3k coordinates alone: lent these, with the members, it leaves these of
-- what it leaves otherwise.
pub front-step : (C : Colours) (k : ℕ) (a : State) (rule : Rule)
    → step rule C k (front_of k a) ≡ front_of k (step rule C k a)
front-step = fronts.front-step

-- ---- totals never rise

-- By any rule that keeps to the grid and costs a group no more than staying, no round's total is above that of the
-- round before.
pub rounds-fall : (rule : Rule) (C : Colours) (k : ℕ) (a : State) → GoodRule rule → Fair C → Fit C k a
    → (r : ℕ) → total_of C k (after rule C k a (r + 1)) ≤ total_of C k (after rule C k a r)
rounds-fall = falls.rounds-fall

-- And what a round leaves, its grouping against the moved shades, costs no more than its total.
pub rounds-end : (rule : Rule) (C : Colours) (k : ℕ) (a : State) → GoodRule rule → Fair C → Fit C k a
    → (r : ℕ) → final_of C (after rule C k a (r + 1)) ≤ total_of C k (after rule C k a r)
rounds-end = falls.rounds-end

-- Lloyd's rule is such a rule.
pub to-mean-good : GoodRule to_mean
to-mean-good = costs.to-mean-good

-- So is Jancey's.
pub leap-to-good : GoodRule leap_to
leap-to-good = rules.leap-to-good

-- A shade with a group makes Jancey's step on each coordinate: nine fifths of the way to the exact mean, to the nearest
-- sixteenth, a half going up, held to 0 and 4080; where that ends as far from the mean as it began, or farther, the
-- rounded mean.
pub leap-to-steps : (q : ℕ) (G : Colours) (z : Point) → 0 < pixels_in G → (e : ℕ)
    → Leaps most_coordinate (pixels_in G) (axis e (sums_of G)) (axis e z) (axis e (leap_to q G z))
leap-to-steps = rules.leap-to-steps

-- A shade with no group stays.
pub leap-to-stays : (q : ℕ) (G : Colours) (z : Point) → pixels_in G ≡ 0 → leap_to q G z ≡ z
leap-to-stays = rules.leap-to-stays

-- And a shade with a group that Jancey's rule leaves where it stands is on its rounded mean.
pub leap-to-rests : Rests 0 leap_to
leap-to-rests = rules.leap-to-rests

-- ---- shades that are held

-- Of a good rule, the rule that holds the first f shades and moves the others by it is a good rule.
pub holding-good : (f : ℕ) {rule : Rule} → GoodRule rule → GoodRule (holding f rule)
holding-good = rules.holding-good

-- It moves none of the first f.
pub holding-holds : (f : ℕ) (rule : Rule) → Holds f (holding f rule)
holding-holds = rules.holding-holds

-- Where the rule goes to the mean, it goes there from shade f on.
pub holding-means : (f : ℕ) {rule : Rule} → Means 0 rule → Means f (holding f rule)
holding-means = rules.holding-means

-- With none held it is the rule itself.
pub holding-none : (rule : Rule) → holding 0 rule ≡ rule
holding-none = rules.holding-none

-- A shade that a rule holds stands where it stood, after any number of rounds.
pub after-held : (rule : Rule) (C : Colours) (k : ℕ) (a : State) → GoodRule rule → Fair C → Fit C k a
    → (f : ℕ) → Holds f rule → (q : ℕ) → q < f → q < k → (r : ℕ)
    → shade_at (after rule C k a r).coordinates q ≡ shade_at a.coordinates q
after-held = falls.after-held

-- And no round counts it as moved.
pub held-not-moved : (rule : Rule) (C : Colours) (k : ℕ) (a : State) (f : ℕ) → Holds f rule → (q : ℕ) → q < f
    → same_place (moved_to rule C k a q) (shade_at a.coordinates q) ≡ true
held-not-moved = falls.held-not-moved

-- ---- distances counted

-- Where the members are numbers of shades, the shortened round counts at most as many distances as the plain one.
pub short-at-most-plain : (C : Colours) (k : ℕ) (a : State) → Joined C k a
    → short_distances C k a ≤ plain_distances C k a
short-at-most-plain = sizes.short-at-most-plain

-- ---- a group

-- A total is the sum of what the groups cost.
pub total-by-groups : (C : Colours) (k : ℕ) (m : ℕ → ℕ) (s : ℕ → Point) → ((i : ℕ) → i < C.n → m i < k)
    → sum C.n (λ i. C.w i * distance (C.c i) (s (m i))) ≡ sum k (λ q. cost_at (group_of C m q) (s q))
total-by-groups = totals.total-by-groups

-- And every colour joins one group: the groups' pixels add up to all pixels.
pub pixels-by-groups : (C : Colours) (k : ℕ) (m : ℕ → ℕ) → ((i : ℕ) → i < C.n → m i < k)
    → pixels_in C ≡ sum k (λ q. pixels_in (group_of C m q))
pixels-by-groups = totals.pixels-by-groups

-- Wherever a shade could stand, its group costs no more where Lloyd's rule puts it.
pub to-mean-least : (q : ℕ) (G : Colours) (y z : Point) → cost_at G (to_mean q G y) ≤ cost_at G z
to-mean-least = costs.to-mean-least

-- The least is a true difference: W-as-Q is never below S1² + S2² + S3², so that nothing is cut to 0.
pub least-is-difference : (G : Colours) → least_of G + squared (sums_of G) ≡ pixels_in G * squares_of G
least-is-difference = costs.least-is-difference

-- A group's cost is never below the least that a fractional shade could give; both sides stand here times W.
pub cost-at-least : (G : Colours) (z : Point) → least_of G ≤ pixels_in G * cost_at G z
cost-at-least = costs.cost-at-least

-- On its rounded mean it is above that by at most three quarters of a squared sixteenth a pixel, both times 4W.
pub mean-cost-at-most : (G : Colours) → 0 < pixels_in G
    → 4 * (pixels_in G * cost_at G (mean_of G)) ≤ 4 * least_of G + 3 * (pixels_in G * pixels_in G)
mean-cost-at-most = costs.mean-cost-at-most

-- An empty group costs nothing.
pub empty-costs-nothing : (G : Colours) → pixels_in G ≡ 0 → (z : Point) → cost_at G z ≡ 0
empty-costs-nothing = costs.empty-costs-nothing

-- Groups from shade f on that are bounded each are bounded in sum, over any list of them.
pub sum-bounded : (f : ℕ) (G : ℕ → Colours) (cost : ℕ → ℕ) (qs : List ℕ) → From f qs
    → ((q : ℕ) → f ≤ q → Bounded (G q) (cost q))
    → SumBounded (least_sum G qs) (sum_of (λ q. pixels_in (G q)) qs) (sum_of cost qs)
sum-bounded = bounds.sum-bounded

-- ---- fractional shades

-- W times the weighted sum of (n·coordinate - a)² is at least n²·(W-as-Q - S1² - S2² - S3²): a shade at a / n costs no
-- less than the least.
pub fraction-at-least : (G : Colours) (n : ℕ) (a : Point) → n * n * least_of G ≤ pixels_in G * cost_at (drawn n G) a
fraction-at-least = costs.fraction-at-least

-- It is equal to it where n is W and each a is its S.
pub fraction-exactly : (G : Colours)
    → pixels_in G * cost_at (drawn (pixels_in G) G) (sums_of G) ≡ pixels_in G * pixels_in G * least_of G
fraction-exactly = costs.fraction-exactly

-- The same for whole numbers a1, a2, a3 of either sign: wherever a fractional shade stands, also below 0, it costs no
-- less than the least.
pub signed-fraction-at-least : (G : Colours) (n : ℕ) (a : SignedPoint)
    → n * n * least_of G ≤ pixels_in G * fraction_cost G n a
signed-fraction-at-least = fractions.signed-fraction-at-least

-- And equal to it where n is W and each a is its S.
pub signed-fraction-exactly : (G : Colours)
    → pixels_in G * fraction_cost G (pixels_in G) (as_signed (sums_of G)) ≡ pixels_in G * pixels_in G * least_of G
signed-fraction-exactly = fractions.signed-fraction-exactly
