-- Block after block, the colours of a table are searched.
use Prim.Native.Nat.{ℕ, ◌+◌, ◌-◌, ◌≤◌, ◌<◌}
use mathlib.Core.List.{List}
use mathlib.Core.Path.{◌≡◌, refl, ap, ◌∙◌}
use native.Mathlib.Omega.{arith}
use lib.ListN.{length}
use borrow.Rule.Slice.PartMut.{mid_of, put_mid, mid_len}
use Rattle.number.specs.{fill}
use Rattle.number.proofs.Fills.{fill-length}
use Rattle.shades.specs.{colour_at, packed_nearest}
use Rattle.number.proofs.Parts.{part_at, part_filled}
use Rattle.colour.specs.{colour_of}

-- colour i of a part of the keys is colour a + i of them all
part-colour : (a n i : ℕ) (ks : List ℕ) → i < n → colour_at (mid_of a n ks) i ≡ colour_at ks (a + i)
part-colour a n i ks h = ap colour_of (part_at a n i ks h)

-- the packed number of the nearest shade of colour i
abbrev packed_at : List ℕ → ℕ → List ℕ → ℕ → ℕ
packed_at s k ks i = packed_nearest s k (colour_at ks i)

-- of the first `used` colours those before place i are searched, in members as many as before
pub record Searched (s : List ℕ) (k : ℕ) (ks : List ℕ) (used : ℕ) (before members : List ℕ) (i : ℕ) : Type 0 where
  pub within : i ≤ used
  pub long : length members ≡ length before
  pub is : members ≡ fill i (packed_at s k ks) before

-- before the first colour
pub searched-start : (s : List ℕ) (k : ℕ) (ks : List ℕ) (used : ℕ) (d : List ℕ) → Searched s k ks used d d 0
unfolding fill
searched-start s k ks used d = record { within = omega arith; long = refl; is = refl }

-- the block from place a up to place e is searched too
pub searched-step : {s ks before m x : List ℕ} {k used a : ℕ} → Searched s k ks used before m a → (e : ℕ) → a ≤ e
    → e ≤ used → used ≤ length before
    → x ≡ fill (length (mid_of a (e - a) m)) (packed_at s k (mid_of a (e - a) ks)) (mid_of a (e - a) m)
    → Searched s k ks used before (put_mid a (e - a) m x) e
searched-step {s} {ks} {before} {m} {x} {k} {used} {a} b e h g room ex =
    let f = packed_at s k ks in
    let n : length (mid_of a (e - a) m) ≡ e - a = mid_len a e m (omega (arith, b.long)) in
    let z : a + (e - a) ≡ e = omega arith in
    let all : put_mid a (e - a) m x ≡ fill e f before =
    rw (ex, n, b.is)
    (rw z at (part_filled a (e - a) f _ before (λ i l. ap (packed_nearest s k) (part-colour a (e - a) i ks l)))) in
    record { within = g; long = ap length all ∙ fill-length e f before; is = all }

-- the members of a block of places are as many as its keys
pub block-keys : {s ks before m : List ℕ} {k used a : ℕ} → Searched s k ks used before m a → (e : ℕ) → e ≤ used
    → used ≤ length before → used ≤ length ks → length (mid_of a (e - a) m) ≤ length (mid_of a (e - a) ks)
block-keys {ks = ks} {m = m} {a = a} b e h room keys =
    omega (arith, mid_len a e m (omega (arith, b.long)), mid_len a e ks (omega arith))
