-- The kept distances are those to the nearest start so far, and the farthest entry by them is the next start.
use Prim.Native.Nat.{ℕ, zero, suc, ◌≤◌, ◌<◌}
use mathlib.Core.List.{List}
use mathlib.Core.Path.{◌≡◌, refl, sym, ap, ◌∙◌}
use native.Mathlib.Omega.{arith}
use lib.Dec.{ltb}
use Rattle.number.specs.{least, most, lesser_of, lowest, fill}
use Rattle.number.proofs.Peaks.{lowest-none, lowest-is-least}
use Rattle.number.proofs.Searches.{first_below, first-same}
use Rattle.number.proofs.Fills.{fill-again, fill-same}
use Rattle.colour.specs.{Within, most_coordinate, distance}
use Rattle.colour.proofs.Distances.{colour-within, distance_most}
use Rattle.shades.specs.{colour_at, to_shade}
use Rattle.method.specs.{Base, remote, starts_from}
use Rattle.method.proofs.Startings.{shade-of-starts, next-chosen, next-within}
use Rattle.starts.specs.Keeping.{shade_from, most_kept, kept}

module _ (ks : List ℕ) (n : ℕ) (B : Base) where
  -- a list in which the greatest number was stored holds what is kept before the first start
  pub kept-start : (d e : List ℕ) → d ≡ fill n (λ i. most_kept) e → d ≡ fill n (kept ks n B 0) d
  kept-start d e set = rw set (sym (fill-again n _ _ e ∙ fill-same n _ _ e (λ i l. lowest-none most_kept _)))

  -- one start more lowers the kept distance to that to it
  pub kept_more : (k i : ℕ)
      → kept ks n B (suc k) i ≡ lesser_of (kept ks n B k i) (distance (colour_at ks i)
      (shade_from B n (colour_at ks) k))
  unfolding lowest
  kept_more k i = refl

  module _ (w : (q : ℕ) → Within most_coordinate (B.at q)) where
    -- every start is on the grid
    pub start-within : (k : ℕ) → Within most_coordinate (shade_from B n (colour_at ks) k)
    start-within k = next-within B n (colour_at ks) k (starts_from B n (colour_at ks) k) w (λ i. colour-within _)

    module _ (i : ℕ) where
      -- entry i's distance to start q
      abbrev to_start : ℕ → ℕ
      to_start q = distance (colour_at ks i) (shade_from B n (colour_at ks) q)

      -- it is below what is kept before the first start
      to-start-low : (q : ℕ) → to_start q < most_kept
      to-start-low q = omega (arith, distance_most (colour_at ks i) _ (colour-within _) (start-within q))

      -- the distance to a start as it lies in the list is the distance to it
      to-shade-is-to-start : (k q : ℕ) → q < k
          → to_shade (starts_from B n (colour_at ks) k) (colour_at ks i) q ≡ to_start q
      to-shade-is-to-start k q l = ap (distance (colour_at ks i)) (shade-of-starts B n (colour_at ks) k q l)

      -- so the least of them is the distance to the nearest start in the list
      remote-is-least : (k : ℕ)
          → remote (starts_from B n (colour_at ks) (suc k)) (suc k) (colour_at ks i) ≡ to_start (least (suc k) to_start)
      remote-is-least k =
          ap (to_shade (starts_from B n (colour_at ks) (suc k)) (colour_at ks i))
          (first-same ltb (suc k) _ to_start (to-shade-is-to-start (suc k)))
          ∙ to-shade-is-to-start (suc k) _ (first_below ltb (suc k) to_start (omega arith))

      -- the kept distance is that to the nearest start so far
      kept-is-remote : (k : ℕ)
          → kept ks n B (suc k) i ≡ remote (starts_from B n (colour_at ks) (suc k)) (suc k) (colour_at ks i)
      kept-is-remote k =
          lowest-is-least most_kept (suc k) to_start (omega arith) (λ q l. to-start-low q) ∙ sym (remote-is-least k)

    -- past the given ones, the entry with the greatest kept distance is the next start
    pub farthest-is-next : (k : ℕ) (f : ℕ → ℕ) → ¬ (k ≡ 0) → B.given ≤ k → ((i : ℕ) → i < n → f i ≡ kept ks n B k i)
        → colour_at ks (most n f) ≡ shade_from B n (colour_at ks) k
    farthest-is-next zero f some chosen same = absurd (some refl)
    farthest-is-next (suc k) f some chosen same =
        ap (colour_at ks) (first-same (λ a b. ltb b a) n f _ (λ i l. same i l ∙ kept-is-remote i k))
        ∙ sym (next-chosen B n (colour_at ks) (suc k) (starts_from B n (colour_at ks) (suc k)) chosen)
