-- Place after place the numbers f 0, f 1, .. are stored, and the terms of three sums are added up.
use Prim.Native.Nat.{ℕ, ◌+◌, ◌*◌, ◌≤◌, ◌<◌}
use mathlib.Core.List.{List}
use mathlib.Core.Path.{◌≡◌, refl}
use lib.ListN.{length, set}
use Rattle.number.specs.{fill, sum}
use Rattle.number.proofs.Fills.{fill_more}
use Rattle.number.proofs.Sums.{sum_bound, sum_more}

-- the first i numbers of f are in front of `before`, and the first i of x, y and z are added up
pub record Settled (f x y z : ℕ → ℕ) (before index : List ℕ) (red green blue i : ℕ) : Type 0 where
  pub is : index ≡ fill i f before
  pub red_is : red ≡ sum i x
  pub green_is : green ≡ sum i y
  pub blue_is : blue ≡ sum i z

-- before the first place
pub settled-start : (f x y z : ℕ → ℕ) (before : List ℕ) → Settled f x y z before before 0 0 0 0
unfolding fill sum
settled-start f x y z before =
    record { is = refl; red_is = refl; green_is = refl; blue_is = refl }

module _ {f x y z : ℕ → ℕ} {before index : List ℕ} {red green blue i : ℕ}
    (w : Settled f x y z before index red green blue i) where
  -- the sums are at most i times m, if none of their terms is above m
  pub settled-small : (m : ℕ) → ((j : ℕ) → j < i → (x j ≤ m) × (y j ≤ m) × (z j ≤ m))
      → (red ≤ i * m) × (green ≤ i * m) × (blue ≤ i * m)
  settled-small m low = (
    rw w.red_is (sum_bound i m x (λ j l. (low j l).0)),
    rw w.green_is (sum_bound i m y (λ j l. (low j l).1)),
    rw w.blue_is (sum_bound i m z (λ j l. (low j l).2)),
  )

  -- one place more
  pub settled-step : i < length before → {a b c : ℕ} → a ≡ x i → b ≡ y i → c ≡ z i
      → Settled f x y z before (set index i (f i)) (red + a) (green + b) (blue + c) (i + 1)
  settled-step l ea eb ec = record {
    is = rw w.is (fill_more i f before l);
    red_is = rw (w.red_is, ea, sum_more);
    green_is = rw (w.green_is, eb, sum_more);
    blue_is = rw (w.blue_is, ec, sum_more);
  }
