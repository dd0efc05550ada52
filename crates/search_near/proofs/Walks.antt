-- The walk along a row: what holds at each place, and what it has found where it ends.
use Prim.Native.Nat.{ℕ, ◌+◌, ◌*◌, ◌/◌, ◌%◌, ◌≤◌, ◌<◌}
use mathlib.Core.Bool.{Bool}
use mathlib.Core.List.{List}
use mathlib.Core.Logic.{⊎_elim}
use mathlib.Core.Path.{◌≡◌, sym, ap, ◌∙◌}
use native.Mathlib.Decide.{dec_lt}
use native.Mathlib.Nat.{add-zero}
use native.Mathlib.Omega.{arith}
use lib.Dec.{ltb, leb, eqb}
use lib.ListN.{get_or}
use borrow.Author.Tests.{lt-ltb, ltb-true, le-leb, lt-leb, eq-eqb, eqb-true}
use Rattle.number.specs.{lesser_of}
use Rattle.number.proofs.Peaks.{lesser-at-most, either-has}
use Rattle.number.proofs.Searches.{below-or-last}
use Rattle.number.proofs.Tallies.{how_many-same, how_many-below, how_many-others}
use Rattle.colour.specs.{Point, distance}
use Rattle.colour.proofs.Distances.{distance_self, farther, as-far}
use Rattle.shades.specs.{most_shades, shade_at, to_shade, nearest_shade, worked, pack}
use Rattle.shades.proofs.Nearest.{packed-only, packed-found}
use Rattle.search_rows.specs.{RisingRow, row_of}
use Rattle.search_rows.proofs.Contents.{row-all, row-found}
use Rattle.search_near.specs.Walking.{RowsReady}

-- j places of the row of p are walked, and best is the least packed number of the shades met
pub record Walked (s g : List ℕ) (k : ℕ) (c : Point) (p best j : ℕ) : Type 0 where
  pub within : j ≤ k
  pub passed : (i : ℕ) → i < j → row_of g p i / most_shades ≤ 4 * to_shade s c p
  pub low : (i : ℕ) → i < j → best ≤ pack s c (row_of g p i % most_shades)
  pub former : best < most_shades * to_shade s c p + most_shades
  pub is : best ≡ pack s c (best % most_shades)
  pub below : best % most_shades < k

module _ {s g : List ℕ} {k : ℕ} {c : Point} {p : ℕ} (y : RowsReady s g k c p) where
  -- the packed distance from p to a shade
  abbrev gap_to : ℕ → ℕ
  gap_to = pack s (shade_at s p)

  -- the row of p
  row : RisingRow gap_to k (row_of g p)
  row = y.rows.row p y.former

  -- what the walk answers, with the least packed number and the places walked
  abbrev Answered : ℕ → ℕ → Type 0
  Answered best j =
      (best % most_shades ≡ nearest_shade s k c)
      × ((best / most_shades ≡ to_shade s c (nearest_shade s k c)) × (j ≡ worked s k c p))

  -- the number at a place of the row is that of a shade
  pub row_number : (j : ℕ) → j < k → row_of g p j % most_shades < k
  row_number j h =
      ltb-true _ k
      (row-all gap_to k (row_of g p) row (λ v. ltb (v % most_shades) k)
      (λ q l. lt-ltb _ k (omega (arith, y.shades.few))) j h)

  -- and its gap is that of the shade
  row-gap : (j : ℕ) → j < k → row_of g p j ≡ gap_to (row_of g p j % most_shades)
  row-gap j h =
      eqb-true _ _
      (row-all gap_to k (row_of g p) row (λ v. eqb v (gap_to (v % most_shades)))
      (λ q l.
      let e : gap_to q % most_shades ≡ q = omega (arith, y.shades.few) in
      eq-eqb _ _ (sym (ap gap_to e))) j h)

  -- the first place has gap 0
  first-gap : row_of g p 0 / most_shades ≡ 0
  first-gap =
      let e = row-found gap_to k (row_of g p) row p y.former in
      omega (
        arith,
        row.rising 0 e.0 (omega arith) e.1,
        e.2,
        distance_self (shade_at s p),
        y.former,
        y.shades.few,
      )

  -- the shade at the first place stands where p stands
  first-met : Walked s g k c p (most_shades * to_shade s c p + row_of g p 0 % most_shades) 1
  first-met =
      let q = row_of g p 0 % most_shades in
      let d : distance (shade_at s p) (shade_at s q) ≡ 0 =
      omega (arith, first-gap, row-gap 0 (omega (arith, y.former))) in
      let e : (most_shades * to_shade s c p + q) % most_shades ≡ q = omega arith in
      let f : to_shade s c p ≡ to_shade s c q = as-far c (shade_at s p) (shade_at s q) d in
      record {
        within = omega (arith, y.former);
        passed = λ i l. let z : i ≡ 0 = omega arith in rw z (omega (arith, first-gap));
        low = λ i l. let z : i ≡ 0 = omega arith in rw z (omega arith);
        former = omega arith;
        is = rw e (omega arith);
        below = rw e (row_number 0 (omega (arith, y.former)));
      }

  -- the walk begins with the first place walked
  pub walked_start : Walked s g k c p (most_shades * to_shade s c p + get_or g (most_shades * p) 0 % most_shades) 1
  walked_start = rw add-zero at first-met

  module _ {best j : ℕ} (w : Walked s g k c p best j) where
    -- one place more, whose gap is not too much
    pub walked_step : j < k → row_of g p j / most_shades ≤ 4 * to_shade s c p
        → Walked s g k c p (lesser_of best (pack s c (row_of g p j % most_shades))) (j + 1)
    walked_step l t =
        let x = pack s c (row_of g p j % most_shades) in
        let h = lesser-at-most best x in
        let z : x % most_shades ≡ row_of g p j % most_shades = omega arith in
        record {
          within = omega arith;
          passed = λ i m. ⊎_elim (λ o. w.passed i o) (λ o. rw o t) (below-or-last j i m);
          low = λ i m.
              ⊎_elim (λ o. omega (arith, h.0, w.low i o)) (λ o. rw o h.1) (below-or-last j i m);
          former = omega (arith, h.0, w.former);
          is = (either-has (λ v. v ≡ pack s c (v % most_shades)) best x w.is (rw z)).0;
          below = (either-has (λ v. v % most_shades < k) best x w.below (rw z (row_number j l))).0;
        }

    -- from place j on every gap is above four times the distance to p
    abbrev Ended : Type 0
    Ended = (i : ℕ) → j ≤ i → i < k → 4 * to_shade s c p < row_of g p i / most_shades

    -- no shade has a lower packed number
    least-met : Ended → (q : ℕ) → q < k → best ≤ pack s c q
    least-met far q h =
        let e = row-found gap_to k (row_of g p) row q h in
        let i = e.0 in
        let z : row_of g p i % most_shades ≡ q = omega (arith, e.2, y.shades.few) in
        let v : row_of g p i / most_shades ≡ distance (shade_at s p) (shade_at s q) = omega (arith, e.2, y.shades.few)
        in
        elim (dec_lt i j) [
          | yes l ↦ rw z at (w.low i l)
          | no l ↦
              omega (
                arith,
                w.former,
                farther (shade_at s p) (shade_at s q) c (omega (arith, far i (omega arith) e.1)),
              )
        ]

    -- the places walked are as many as the distances that the search works out
    places-worked : Ended → j ≡ worked s k c p
    places-worked far =
        let near : ℕ → Bool = λ v. leb (v / most_shades) (4 * to_shade s c p) in
        let b : ℕ → Bool = λ q. leb (distance (shade_at s p) (shade_at s q)) (4 * to_shade s c p) in
        sym (how_many-below k j (λ i. near (row_of g p i)) w.within (λ i l. le-leb _ _ (w.passed i l))
        (λ i l m. lt-leb _ _ (far i l m)))
        ∙ row.same near
        ∙ how_many-same k (λ q. near (gap_to q)) b
        (λ q l.
        let z : gap_to q / most_shades ≡ distance (shade_at s p) (shade_at s q) = omega (arith, y.shades.few) in
        rw z)
        ∙ how_many-others k p b y.former (le-leb _ (4 * to_shade s c p) (omega (arith, distance_self (shade_at s p))))

    -- where every gap left is too much, the walk has found the nearest shade
    walked-done : Ended → Answered best j
    walked-done far =
        let some : 0 < k = omega (arith, y.former) in
        let e =
        packed-only s k c some y.shades.few (best % most_shades) best w.below w.is (least-met far) in
        let f = packed-found s k c some y.shades.few best e in
        (f.0, (f.1, places-worked far))

    -- the row is at its end
    pub walked_all : k ≤ j → Answered best j
    walked_all h = walked-done (λ i l m. absurd (omega arith))

    -- the gap at the next place is too much, and the row rises
    pub walked-stopped : j < k → 4 * to_shade s c p < row_of g p j / most_shades
        → Answered best j
    walked-stopped h far = walked-done (λ i l m. omega (arith, row.rising j i l m))

  module _ (far : 4 * to_shade s c p < row_of g p 1 / most_shades) where
    -- where the gap at place 1 is too much, p stands at place 0
    lone-first : row_of g p 0 % most_shades ≡ p
    lone-first =
        let e = row-found gap_to k (row_of g p) row p y.former in
        elim (dec_lt 0 e.0) [
          | yes l ↦
              absurd (omega (
                arith,
                far,
                row.rising 1 e.0 l e.1,
                e.2,
                distance_self (shade_at s p),
                y.former,
                y.shades.few,
              ))
          | no l ↦
              let z : e.0 ≡ 0 = omega arith in
              omega (arith, rw z at e.2, distance_self (shade_at s p), y.former, y.shades.few)
        ]

    -- and is the nearest
    pub walked-nowhere : (p ≡ nearest_shade s k c)
        × ((to_shade s c p ≡ to_shade s c (nearest_shade s k c)) × (1 ≡ worked s k c p))
    walked-nowhere =
        let f : Answered (most_shades * to_shade s c p + row_of g p 0 % most_shades) 1 = elim (dec_lt 1 k) [
          | yes l ↦ walked-stopped first-met l far
          | no l ↦ walked_all first-met (omega arith)
        ] in
        let z : p ≡ nearest_shade s k c = omega (arith, f.0, lone-first) in
        (z, (ap (to_shade s c) z, f.1.1))
