-- The loops over the kept distances: what holds at each turn.
use Prim.Native.Nat.{ℕ, ◌+◌, ◌-◌, ◌≤◌, ◌<◌}
use mathlib.Core.List.{List}
use mathlib.Core.Path.{◌≡◌, refl, sym, ap, ◌∙◌}
use native.Mathlib.Decide.{dec_lt}
use native.Mathlib.Nat.{le_refl}
use native.Mathlib.Omega.{arith}
use lib.ListN.{length, get_or, set}
use borrow.Rule.Slice.PartMut.{mid_of, mid_len}
use Rattle.number.specs.{fill, peak, lesser_of, greater_of}
use Rattle.number.proofs.Fills.{fill-length, fill-kept, fill_more}
use Rattle.number.proofs.Parts.{part_at}
use Rattle.number.proofs.Peaks.{peak-more}
use Rattle.colour.specs.{Point, distance}
use Rattle.shades.specs.{colour_at}
use Rattle.starts_far.specs.Lowering.{lower_kept}

-- ---- the loop that lowers them

-- the distances before place i, of those that were d₀, are lowered to those to p, and far is the greatest of them
pub record Lowering (ks : List ℕ) (n : ℕ) (p : Point) (d₀ d : List ℕ) (far i : ℕ) : Type 0 where
  pub within : i ≤ n
  pub distances : d ≡ fill i (lower_kept ks p d₀) d₀
  pub greatest : far ≡ peak i (lower_kept ks p d₀)

-- none is lowered
pub lowering-start : (ks : List ℕ) (n : ℕ) (p : Point) (d : List ℕ) → Lowering ks n p d d 0 0
unfolding fill peak
lowering-start ks n p d = record { within = omega arith; distances = refl; greatest = refl }

module _ {ks : List ℕ} {n : ℕ} {p : Point} {d₀ d : List ℕ} {far i : ℕ} (t : Lowering ks n p d₀ d far i) where
  -- as many places as before
  pub lowering-room : length d ≡ length d₀
  lowering-room = ap length t.distances ∙ fill-length _ _ _

  -- the distance at place i is lowered
  pub lowering-step : i < n → n ≤ length d₀ → (x y z : ℕ) → x ≡ distance (colour_at ks i) p
      → y ≡ lesser_of (get_or d i 0) x → z ≡ greater_of far y → Lowering ks n p d₀ (set d i y) z (i + 1)
  lowering-step l room x y z ex ey ez =
      let f = lower_kept ks p d₀ in
      let old : get_or d i 0 ≡ get_or d₀ i 0 = ap (λ s. get_or s i 0) t.distances ∙ fill-kept i i f d₀ (le_refl i) in
      let e : y ≡ f i = rw (← ex, ← old) ey in
      record {
        within = omega arith;
        distances = rw (e, t.distances) (fill_more i f d₀ (omega arith));
        greatest = ez ∙ rw (e, t.greatest) (sym (peak-more i f));
      }

  -- all are lowered
  pub lowering-done : n ≤ i → (d ≡ fill n (lower_kept ks p d₀) d₀) × (far ≡ peak n (lower_kept ks p d₀))
  lowering-done l = let e : i ≡ n = omega (arith, t.within) in (rw e at t.distances, rw e at t.greatest)

-- ---- the loop that passes blocks

-- before place a every distance is less than far
abbrev pub Less : List ℕ → ℕ → ℕ → Type 0
Less d far a = (j : ℕ) → j < a → get_or d j 0 < far

-- and so up to place e, where no distance of the block from a up to e is above a number that is less
pub block-less : (d : List ℕ) (far a e peak : ℕ) → Less d far a → a ≤ e → e ≤ length d
    → ((j : ℕ) → j < length (mid_of a (e - a) d) → get_or (mid_of a (e - a) d) j 0 ≤ peak) → peak < far → Less d far e
block-less d far a e peak before h room low less j l = elim (dec_lt j a) [
  | yes o ↦ before j o
  | no o ↦
      let i : ℕ = j - a in
      let z : a + i ≡ j = omega arith in
      let at : get_or (mid_of a (e - a) d) i 0 ≡ get_or d j 0 =
      part_at a (e - a) i d (omega arith) ∙ ap (λ t. get_or d t 0) z in
      omega (arith, low i (omega (arith, mid_len a e d room)), at)
]
