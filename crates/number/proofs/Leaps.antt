-- Jancey's step on one coordinate: it is what is asked of it, and the only such number; it costs the group no more than
-- staying, keeps below a top, and rests only on the rounded mean.
use mathlib.Core.Logic.{◌↔◌}
use mathlib.Core.Path.{◌≡◌, refl, sym, ap, ◌∙◌}
use Prim.Native.Nat.{ℕ, ◌+◌, ◌-◌, ◌*◌, ◌/◌, ◌≤◌, ◌<◌}
use native.Mathlib.Decide.{dec_le, dec_lt}
use native.Mathlib.Nat.{div-eq_of_lt}
use native.Mathlib.Omega.{arith}
use borrow.Author.Tests.{lt-ltb, le-ltb}
use Rattle.number.specs.Groups.{Group, W, S, cost, rounded_mean, Nearest}
use Rattle.number.specs.Past.{past_mean, held_past, leap, NearestPast, Leaps}
use Rattle.number.specs.Search.{lesser_of}
use Rattle.number.specs.Square.{gap}
use Rattle.number.proofs.Costs.{nearer-no-dearer}
use Rattle.number.proofs.Means.{mean-is-nearest, mean-best, nearest-only}
use Rattle.number.proofs.Peaks.{lesser-at-most}

-- ---- nine fifths of the way

-- how far t is from a + d: as far as t - d is from a, and by what t falls short of d
gap-shifted : (t d a : ℕ) → gap t (a + d) ≡ gap (t - d) a + (d - t)
gap-shifted t d a = omega arith

-- so of two places the nearer to t - d is, d farther on, the nearer to t, and the other way round; strictly, too
shifted-exactly : (t d a b : ℕ)
    → ((gap (t - d) a ≤ gap (t - d) b) ↔ (gap t (a + d) ≤ gap t (b + d)))
    × ((gap (t - d) a < gap (t - d) b) ↔ (gap t (a + d) < gap t (b + d)))
shifted-exactly t d a b = rw (gap-shifted t d a, gap-shifted t d b) (sides (gap (t - d) a) (gap (t - d) b) (d - t))
  where
    sides : (x y c : ℕ) → ((x ≤ y) ↔ (x + c ≤ y + c)) × ((x < y) ↔ (x + c < y + c))
    sides x y c = ((λ h. omega arith, λ h. omega arith), (λ h. omega arith, λ h. omega arith))

-- what is nearest to (9s - 4wz) / (5w) is nine fifths of the way, and the other way round
past-exactly : (w s z x : ℕ) → NearestPast w s z x ↔ Nearest (5 * w) (9 * s - 4 * (w * z)) x
past-exactly w s z x =
    let t = 9 * s in
    let d = 4 * (w * z) in
    let a = x * (5 * w) in (
      λ p. record {
        no_nearer = λ y. (shifted-exactly t d a (y * (5 * w))).0.1 (p.no_nearer y);
        halves_up = λ y l. (shifted-exactly t d a (y * (5 * w))).1.1 (p.halves_up y l);
      },
      λ n. record {
        no_nearer = λ y. (shifted-exactly t d a (y * (5 * w))).0.0 (n.no_nearer y);
        halves_up = λ y l. (shifted-exactly t d a (y * (5 * w))).1.0 (n.halves_up y l);
      },
    )

-- `past_mean` is nine fifths of the way
pub past-is-nearest : (w s z : ℕ) → 0 < w → NearestPast w s z (past_mean w s z)
past-is-nearest w s z pos =
    (past-exactly w s z (past_mean w s z)).1 (mean-is-nearest (5 * w) (9 * s - 4 * (w * z)) (omega arith))

-- and there is one such number only
pub past-only : (w s z : ℕ) {x y : ℕ} → NearestPast w s z x → NearestPast w s z y → x ≡ y
past-only w s z {x} {y} a b =
    nearest-only (5 * w) (9 * s - 4 * (w * z)) ((past-exactly w s z x).0 a) ((past-exactly w s z y).0 b)

-- where nine fifths of the way lead below 0, it is 0
pub past-none : (w s z : ℕ) → 0 < w → 9 * s ≤ 4 * (w * z) → past_mean w s z ≡ 0
past-none w s z pos h = div-eq_of_lt {n = 2 * (9 * s - 4 * (w * z)) + 5 * w} {m = 2 * (5 * w)} (omega arith)

-- the whole part of (18s + 5w - 8wz) / (10w) is the same number: where 9s is below 4wz, both are 0
pub past-whole-part : (w s z : ℕ) → 0 < w → past_mean w s z ≡ (18 * s + 5 * w - 8 * (w * z)) / (10 * w)
past-whole-part w s z pos = elim (dec_le (4 * (w * z)) (9 * s)) [
  | yes h ↦
      let up : 2 * (9 * s - 4 * (w * z)) + 5 * w ≡ 18 * s + 5 * w - 8 * (w * z) = omega arith in
      let down : 2 * (5 * w) ≡ 10 * w = omega arith in
      rw (up, down)
  | no h ↦
      past-none w s z pos (omega arith)
      ∙ sym (div-eq_of_lt {n = 18 * s + 5 * w - 8 * (w * z)} {m = 10 * w} (omega arith))
]

-- ---- the step

module _ (top w s z : ℕ) where
  -- a step that ends nearer is taken
  pub leap-taken : gap s (held_past top w s z * w) < gap s (z * w) → leap top w s z ≡ held_past top w s z
  leap-taken h = rw (lt-ltb _ _ h)

  -- else the rounded mean is
  pub leap-left : gap s (z * w) ≤ gap s (held_past top w s z * w) → leap top w s z ≡ rounded_mean w s
  leap-left h = rw (le-ltb _ _ h)

  -- `leap` is the step
  pub leap-is-step : 0 < w → Leaps top w s z (leap top w s z)
  leap-is-step pos = record {
    far = past_mean w s z;
    far_is = past-is-nearest w s z pos;
    held = held_past top w s z;
    held_is = refl;
    taken = leap-taken;
    left = λ h. rw (leap-left h) (mean-is-nearest w s pos);
  }

  -- and there is one step only
  pub leap-only : {x y : ℕ} → Leaps top w s z x → Leaps top w s z y → x ≡ y
  leap-only {x} {y} a b =
      let far : a.far ≡ b.far = past-only w s z a.far_is b.far_is in
      let held : a.held ≡ b.held = a.held_is ∙ ap (lesser_of top) far ∙ sym b.held_is in
      elim (dec_lt (gap s (a.held * w)) (gap s (z * w))) [
        | yes h ↦ a.taken h ∙ held ∙ sym (b.taken (rw held at h))
        | no h ↦
            let off : gap s (z * w) ≤ gap s (a.held * w) = omega arith in
            nearest-only w s (a.left off) (b.left (rw held at off))
      ]

  -- a step that leaves a place where it is has left it on the rounded mean
  pub leap-rests : leap top w s z ≡ z → z ≡ rounded_mean w s
  leap-rests same = elim (dec_lt (gap s (held_past top w s z * w)) (gap s (z * w))) [
    | yes h ↦ absurd (omega (arith, ap (λ y. gap s (y * w)) (sym (leap-taken h) ∙ same)))
    | no h ↦ sym same ∙ leap-left (omega arith)
  ]

  -- it keeps below what the rounded mean keeps below
  pub leap-fits : rounded_mean w s ≤ top → leap top w s z ≤ top
  leap-fits low = elim (dec_lt (gap s (held_past top w s z * w)) (gap s (z * w))) [
    | yes h ↦ rw (leap-taken h) (lesser-at-most top (past_mean w s z)).0
    | no h ↦ rw (leap-left (omega arith)) low
  ]

-- a step costs the group no more than staying
pub leap-no-dearer : (G : Group) → 0 < W G → (top z : ℕ) → cost G (leap top (W G) (S G) z) ≤ cost G z
leap-no-dearer G pos top z =
    elim (dec_lt (gap (S G) (held_past top (W G) (S G) z * W G)) (gap (S G) (z * W G))) [
      | yes h ↦
          rw (leap-taken top (W G) (S G) z h)
          (nearer-no-dearer G pos (held_past top (W G) (S G) z) z (omega arith))
      | no h ↦ rw (leap-left top (W G) (S G) z (omega arith)) (mean-best G pos z)
    ]
