-- What every accepted run with fixed shades is: a run that is made by Lloyd's rule with the fixed shades held, of which
-- the laws of lloyd's `Made` and `Ends` speak; where it begins; and where the fixed shades stand.
use Prim.Native.Nat.{ℕ, ◌+◌, ◌/◌, ◌%◌, ◌≤◌, ◌<◌}
use mathlib.Core.List.{List}
use mathlib.Core.Path.{◌≡◌, sym, ap, subst, ◌∙◌}
use native.Mathlib.Omega.{arith}
use lib.ListN.{get_or, length}
use Rattle.colour.specs.{Bytes, sixteenth}
use Rattle.table_test.specs.{Record}
use Rattle.shades.specs.{shade_at, axis, colour_at}
use Rattle.shades.proofs.Laying.{coordinate-read}
use Rattle.method.specs.{colours_of, to_mean, listed, unlike, Joined}
use Rattle.method.proofs.Begins.{begin-joined}
use Rattle.method.proofs.Costs.{to-mean-good}
use Rattle.method.proofs.Covers.{unlike-same}
use Rattle.method.proofs.Rules.{holding-good, holding-holds}
use Rattle.method.proofs.Startings.{listed-within}
use Rattle.lloyd_tests.specs.{limit_of}
use Rattle.lloyd.specs.{Ran, AcceptedBy, FarthestColour, run_by}
use Rattle.lloyd.proofs.Beginnings as beginnings
use Rattle.lloyd.proofs.By.{by-refuses, accepted-done, making-by}
use Rattle.lloyd.proofs.Made.{Making, shade-held}
use Rattle.lloyd_stock.specs.{fixed_in, stock, colours_left}
use Rattle.lloyd_stock.proofs.Promises.{bad-fixed-exactly, enough-left-exactly, stock-given, stock-low}
use Rattle.lloyd_stock.proofs.Stocks.{stock-place}
use Rattle.lloyd_fixed.specs.Outcomes.{AcceptedFixed, fixed_rows, fixed_rule, fixed_start, fixed_run}
use Rattle.lloyd_fixed.proofs.Wholes.{
  FixedGood,
  fixed-good,
  table_is,
  some-free,
  fixed-able,
}

-- ---- what the tests tell

module _ {rec : Record} {ks ws fixed : List ℕ} {k limit : ℕ} {ms ts : List ℕ}
    (g : FixedGood rec ks ws fixed k limit ms ts) where
  -- a shade is fixed
  pub some-fixed : 0 < fixed_in fixed
  some-fixed = ((bad-fixed-exactly fixed).0 g.whole).0

  -- and fewer than there are shades
  pub fewer-fixed : fixed_in fixed < k
  fewer-fixed = (some-free rec ks ws fixed k limit ms ts g).0

  -- a fixed shade begins where it was handed in
  pub start-is-fixed : (q : ℕ) → q < fixed_in fixed
      → shade_at (fixed_start rec ks ws fixed k ms).coordinates q ≡ shade_at (stock fixed) q
  start-is-fixed q l =
      beginnings.start-is-given (table_is rec ks ws fixed k limit ms ts g) (listed (stock fixed)) k ms
      (some-free rec ks ws fixed k limit ms ts g).1 q (omega (arith, fewer-fixed)) (rw (stock-given fixed) l)

  -- each next one at the farthest colour from those before it
  pub start-is-farthest : (q : ℕ) → fixed_in fixed ≤ q → q < k
      → FarthestColour rec.used ks (fixed_start rec ks ws fixed k ms).coordinates q
      (shade_at (fixed_start rec ks ws fixed k ms).coordinates q)
  start-is-farthest q free l =
      beginnings.start-is-farthest (table_is rec ks ws fixed k limit ms ts g) (listed (stock fixed)) k ms
      (some-free rec ks ws fixed k limit ms ts g).1 q (fixed-able rec ks ws fixed k limit ms ts g).colours
      (omega (arith, some-fixed)) l (rw (stock-given fixed) free)

  -- as many colours are unlike the shades that it begins with as are left
  left-at-start : unlike rec.used (colour_at ks) (fixed_start rec ks ws fixed k ms).coordinates (fixed_in fixed)
      ≡ colours_left rec.used ks fixed
  left-at-start =
      unlike-same rec.used (colour_at ks) (fixed_start rec ks ws fixed k ms).coordinates (stock fixed) (fixed_in fixed)
      some-fixed start-is-fixed

  -- so there are as many as shades to be chosen
  enough-at-start : k ≤ (listed (stock fixed)).given
      + unlike rec.used (colour_at ks) (fixed_start rec ks ws fixed k ms).coordinates (listed (stock fixed)).given
  enough-at-start =
      subst (λ n. k ≤ n + unlike rec.used (colour_at ks) (fixed_start rec ks ws fixed k ms).coordinates n)
      (sym (stock-given fixed)) (omega (arith, left-at-start, (enough-left-exactly rec ks fixed k).0 g.colours))

  -- and each stands where none before it does
  pub starts-differ : (p q : ℕ) → p < q → fixed_in fixed ≤ q → q < k
      → ¬ (shade_at (fixed_start rec ks ws fixed k ms).coordinates p
      ≡ shade_at (fixed_start rec ks ws fixed k ms).coordinates q)
  starts-differ p q l free h =
      beginnings.starts-differ (table_is rec ks ws fixed k limit ms ts g) (listed (stock fixed)) k ms
      (some-free rec ks ws fixed k limit ms ts g).1 p q enough-at-start l h (rw (stock-given fixed) free)

  -- every colour begins in a shade
  pub joined : Joined (colours_of rec.used ks ws) k (fixed_start rec ks ws fixed k ms)
  joined =
      let able = fixed-able rec ks ws fixed k limit ms ts g in
      begin-joined (listed (stock fixed)) (colours_of rec.used ks ws) k ms able.some able.members_room

-- ---- an accepted one

module _ {rec : Record} {ks ws fixed : List ℕ} {k limit : ℕ} {ms ts : List ℕ} {r : Ran} {members totals : List ℕ}
    (h : AcceptedFixed rec ks ws fixed k limit ms ts r members totals) where
  -- it is one by its rows, its rule and its given shades
  pub by-fixed : AcceptedBy (run_by (fixed_rows rec ks ws fixed k limit ms ts) (fixed_rule fixed) (listed (stock fixed))
      (colours_of rec.used ks ws) k limit ms ts) r members totals
  unfolding fixed_run
  by-fixed = record { meets = h.meets }

  -- its tests failed
  pub fixed-tests : FixedGood rec ks ws fixed k limit ms ts
  fixed-tests =
      fixed-good rec ks ws fixed k limit ms ts
      ((by-refuses (fixed_rows rec ks ws fixed k limit ms ts) (fixed_rule fixed) (listed (stock fixed))
      (colours_of rec.used ks ws) k limit ms ts).accepted_exactly.0 (accepted-done by-fixed))

  module _ (bytes : Bytes fixed) where
    -- and it is made from the fixed shades
    pub fixed-making : Making (fixed_rule fixed) (colours_of rec.used ks ws) k (limit_of limit)
        (fixed_start rec ks ws fixed k ms) ts r members totals
    fixed-making =
        making-by (fixed_rows rec ks ws fixed k limit ms ts) (fixed_rule fixed) (listed (stock fixed)) limit by-fixed
        (fixed-able rec ks ws fixed k limit ms ts fixed-tests) (holding-good (fixed_in fixed) to-mean-good)
        (listed-within (stock fixed) (stock-low fixed bytes))

    -- the fixed shades stand where they were handed in
    pub shade-is-fixed : (q : ℕ) → q < fixed_in fixed → shade_at r.shades q ≡ shade_at (stock fixed) q
    shade-is-fixed q l =
        shade-held fixed-making (fixed_in fixed) (holding-holds (fixed_in fixed) to_mean) q l
        (omega (arith, fewer-fixed fixed-tests))
        ∙ start-is-fixed fixed-tests q l

    -- coordinate by coordinate: sixteen times their levels
    pub coordinate-is-fixed : (i : ℕ) → i < length fixed → get_or r.shades i 0 ≡ sixteenth (get_or fixed i 0)
    coordinate-is-fixed i l =
        let whole = ((bad-fixed-exactly fixed).0 fixed-tests.whole).2 in
        sym (coordinate-read r.shades i)
        ∙ ap (axis (i % 3)) (shade-is-fixed (i / 3) (omega (arith, whole)))
        ∙ coordinate-read (stock fixed) i
        ∙ stock-place fixed i
