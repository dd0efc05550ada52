-- Laws of rows of gaps: one row more is filled after the others; and a search that goes through a row finds the nearest
-- shade, and tries as many as the shortened search is to.
use Prim.Native.Nat.{ℕ, ◌+◌, ◌-◌, ◌*◌, ◌/◌, ◌%◌, ◌≤◌, ◌<◌}
use mathlib.Core.Bool.{true, false, not, ◌&&◌}
use mathlib.Core.List.{List}
use mathlib.Core.Logic.{⊎_elim}
use mathlib.Core.Path.{◌≡◌, sym, ap, ◌∙◌}
use native.Mathlib.Decide.{ℕ_discrete, dec_le}
use native.Mathlib.Nat.{add-zero}
use native.Mathlib.Omega.{arith}
use lib.Dec.{leb, eqb}
use lib.ListN.{length}
use borrow.Author.Tests.{le-leb, ne_eqb}
use borrow.Rule.Slice.PartMut.{mid_of, put_mid}
use Rattle.number.specs.{fill, lesser_of}
use Rattle.number.proofs.Cases.{never}
use Rattle.number.proofs.Fills.{fill-at, fill-length}
use Rattle.number.proofs.Peaks.{lesser-at-most, either-has}
use Rattle.number.proofs.Searches.{below-or-last}
use Rattle.number.proofs.Tallies.{Counting, counting-start, counting-step, counting-done}
use Rattle.colour.specs.{Point, distance}
use Rattle.colour.proofs.Distances.{farther}
use Rattle.shades.specs.{most_shades, shade_at, to_shade, nearest_shade, tried, worked, pack}
use Rattle.shades.proofs.Nearest.{packed-only, packed-found}
use Rattle.search_rows.specs.{row_of}
use Rattle.search_rows.proofs.Fillings.{Filling, filling_step, filling-done}
use Rattle.search_gaps.specs.Nearing.{Gaps, GapsReady}

-- r is the row of gaps of shade i
abbrev pub GapRow : List ℕ → ℕ → ℕ → (ℕ → ℕ) → Type 0
GapRow s k i r = (q : ℕ) → q < k → r q ≡ to_shade s (shade_at s i) q

-- one shade more: the part that is its row is filled with its gaps
pub gapping-step : (s : List ℕ) {before g : List ℕ} {k p : ℕ} → Filling k (GapRow s k) before g p → p < k
    → k ≤ most_shades → most_shades * k ≤ length before → {e : ℕ} → e ≡ most_shades * p + most_shades → {x : List ℕ}
    → x ≡ fill k (to_shade s (shade_at s p)) (mid_of (most_shades * p) (e - most_shades * p) g)
    → Filling k (GapRow s k) before (put_mid (most_shades * p) (e - most_shades * p) g x) (p + 1)
gapping-step s {before} {g} {k} {p} f h few room {e} end {x} is =
    let y = mid_of (most_shades * p) (e - most_shades * p) g in
    let gaps = to_shade s (shade_at s p) in
    filling_step (λ i r t same row q l. same q l ∙ row q l) f h few room end x
    (ap length is ∙ fill-length k gaps y) (λ long q l. rw is (fill-at k q gaps y l (omega arith)))

-- past the last shade
pub gapping-done : (s : List ℕ) {before g : List ℕ} {k p : ℕ} → Filling k (GapRow s k) before g p → k ≤ p
    → most_shades * k ≤ length before → Gaps s k g
gapping-done s f h room = let d = filling-done f h room in record { room = d.0; gap = d.1 }

-- ---- the search

-- the shades below q are gone through from the former shade p: best is the least packed number of p and of those
-- tried, and so many are tried
pub record Sought (s : List ℕ) (k : ℕ) (c : Point) (p best others q : ℕ) : Type 0 where
  pub counted : Counting k (tried s c p) others q
  pub former : best ≤ pack s c p
  pub low : (i : ℕ) → i < q → tried s c p i ≡ true → best ≤ pack s c i
  pub is : best ≡ pack s c (best % most_shades)
  pub below : best % most_shades < k

module _ {s g : List ℕ} {k : ℕ} {c : Point} {p : ℕ} (y : GapsReady s g k c p) where
  -- what is asked of the row is whether the shade is tried
  pub gap-tried : (q : ℕ) → q < k
      → (not (eqb q p) && leb (row_of g p q) (4 * to_shade s c p)) ≡ tried s c p q
  gap-tried q h = rw (y.gaps.gap p y.former q h)

  -- the search begins with the former shade
  pub sought-start : Sought s k c p (pack s c p) 0 0
  sought-start =
      let e : pack s c p % most_shades ≡ p = omega (arith, y.former, y.shades.few) in
      record {
        counted = counting-start k (tried s c p);
        former = omega arith;
        low = λ i l. absurd (omega arith);
        is = rw e;
        below = rw e y.former;
      }

  module _ {best others q : ℕ} (w : Sought s k c p best others q) (h : q < k) where
    -- a shade that is tried
    pub sought-tried : tried s c p q ≡ true
        → Sought s k c p (lesser_of best (pack s c q)) (others + 1) (q + 1)
    sought-tried t =
        let x = pack s c q in
        let l = lesser-at-most best x in
        let z : x % most_shades ≡ q = omega (arith, y.shades.few) in
        record {
          counted = counting-step w.counted h 1 (rw t);
          former = omega (arith, l.0, w.former);
          low = λ i m u. ⊎_elim (λ o. omega (arith, l.0, w.low i o u)) (λ o. rw o l.1) (below-or-last q i m);
          is = (either-has (λ v. v ≡ pack s c (v % most_shades)) best x w.is (rw z)).0;
          below = (either-has (λ v. v % most_shades < k) best x w.below (rw z h)).0;
        }

    -- a shade that is not
    pub sought-left : tried s c p q ≡ false → Sought s k c p best others (q + 1)
    sought-left t = record {
      counted = rw (← add-zero others) (counting-step w.counted h 0 (rw t));
      former = w.former;
      low = λ i m u. ⊎_elim (λ o. w.low i o u) (λ o. never (sym u ∙ ap (tried s c p) o ∙ t)) (below-or-last q i m);
      is = w.is;
      below = w.below;
    }

  module _ {best others q : ℕ} (w : Sought s k c p best others q) (end : k ≤ q) where
    -- no shade has a lower packed number: one that is not tried is farther than p
    least-sought : (i : ℕ) → i < k → best ≤ pack s c i
    least-sought i h = elim (ℕ_discrete i p) [
      | yes e ↦ rw e w.former
      | no e ↦
          elim (dec_le (distance (shade_at s p) (shade_at s i)) (4 * to_shade s c p)) [
            | yes l ↦ w.low i (omega arith) (simp (ne_eqb i p e, le-leb _ _ l))
            | no l ↦
                omega (
                  arith,
                  w.former,
                  y.former,
                  y.shades.few,
                  farther (shade_at s p) (shade_at s i) c (omega arith),
                )
          ]
    ]

    -- past the last shade the nearest is found
    pub sought-done : (best % most_shades ≡ nearest_shade s k c)
        × ((best / most_shades ≡ to_shade s c (nearest_shade s k c)) × (1 + others ≡ worked s k c p))
    sought-done =
        let some : 0 < k = omega (arith, y.former) in
        let e = packed-only s k c some y.shades.few (best % most_shades) best w.below w.is least-sought in
        let f = packed-found s k c some y.shades.few best e in
        (f.0, (f.1, ap (λ n. 1 + n) (counting-done w.counted end)))
