-- Points laid out: three lists hold the coordinates of a block's points, one list a coordinate.
use Prim.Native.Nat.{ℕ, ◌+◌, ◌-◌, ◌≤◌, ◌<◌}
use mathlib.Core.List.{List}
use mathlib.Core.Path.{◌≡◌, refl, ap, ◌∙◌}
use native.Mathlib.Nat.{le_refl}
use native.Mathlib.Omega.{arith}
use lib.ListN.{length, get_or, set}
use borrow.Rule.Slice.PartMut.{mid_of, mid_len}
use Rattle.number.specs.{fill}
use Rattle.number.proofs.Fills.{fill-at, fill-length, fill_more, fill-same}
use Rattle.colour.specs.{Point}
use Rattle.search_all.specs.Asking.{point_at, PointsOnGrid, RoomFor}

-- ---- one coordinate, given by f

-- d with that coordinate of the first i points in front
abbrev pub front : (Point → ℕ) → (ℕ → Point) → ℕ → List ℕ → List ℕ
front f c i d = fill i (λ j. f (c j)) d

-- as many places as before
front_length : (f : Point → ℕ) (c : ℕ → Point) (i : ℕ) (d : List ℕ) {e : List ℕ} → e ≡ front f c i d
    → length e ≡ length d
front_length f c i d h = ap length h ∙ fill-length i (λ j. f (c j)) d

-- a store of the next point's coordinate lengthens the front by one
front-more : (f : Point → ℕ) (c : ℕ → Point) (i : ℕ) (d : List ℕ) {e : List ℕ} → e ≡ front f c i d → i < length d
    → set e i (f (c i)) ≡ front f c (i + 1) d
front-more f c i d h l = rw h (fill_more i (λ j. f (c j)) d l)

-- a place of the front holds its point's coordinate
front_at : (f : Point → ℕ) (c : ℕ → Point) (n i : ℕ) (d : List ℕ) {e : List ℕ} → e ≡ front f c n d → i < n
    → n ≤ length d → get_or e i 0 ≡ f (c i)
front_at f c n i d h l room = ap (λ t. get_or t i 0) h ∙ fill-at n i (λ j. f (c j)) d l (omega arith)

-- ---- all three

-- the first i of n points are in front of d, e and f, a coordinate each
pub record Fronts (c : ℕ → Point) (n : ℕ) (d e f reds greens blues : List ℕ) (i : ℕ) : Type 0 where
  pub within : i ≤ n
  pub red : reds ≡ front (λ p. p.r) c i d
  pub green : greens ≡ front (λ p. p.g) c i e
  pub blue : blues ≡ front (λ p. p.b) c i f

-- before the first point
pub fronts-start : (c : ℕ → Point) (n : ℕ) (d e f : List ℕ) → Fronts c n d e f d e f 0
unfolding fill
fronts-start c n d e f = record { within = omega arith; red = refl; green = refl; blue = refl }

module _ {c : ℕ → Point} {n : ℕ} {d e f reds greens blues : List ℕ} where
  -- as many places as before
  pub fronts-long : {i : ℕ} → Fronts c n d e f reds greens blues i
      → (length reds ≡ length d) × (length greens ≡ length e) × (length blues ≡ length f)
  fronts-long {i} w = (
    front_length (λ p. p.r) c i d w.red,
    front_length (λ p. p.g) c i e w.green,
    front_length (λ p. p.b) c i f w.blue,
  )

  -- so the room that there was is there
  pub fronts-room : {i : ℕ} → Fronts c n d e f reds greens blues i → RoomFor n d e f → RoomFor n reds greens blues
  fronts-room w room =
      let l = fronts-long w in
      record { red = rw l.0 room.red; green = rw l.1 room.green; blue = rw l.2 room.blue }

  -- one point more is stored
  pub fronts-step : {i : ℕ} → Fronts c n d e f reds greens blues i → i < n → RoomFor n d e f → (p : Point) → p ≡ c i
      → Fronts c n d e f (set reds i p.r) (set greens i p.g) (set blues i p.b) (i + 1)
  fronts-step {i} w h room p is = record {
    within = omega arith;
    red = rw is (front-more (λ x. x.r) c i d w.red (omega (arith, room.red)));
    green = rw is (front-more (λ x. x.g) c i e w.green (omega (arith, room.green)));
    blue = rw is (front-more (λ x. x.b) c i f w.blue (omega (arith, room.blue)));
  }

-- ---- what is laid out

-- the first n points of three lists are c 0 to c (n - 1)
pub record LaidOut (c : ℕ → Point) (n : ℕ) (reds greens blues : List ℕ) : Type 0 where
  pub room : RoomFor n reds greens blues
  pub is : (i : ℕ) → i < n → point_at reds greens blues i ≡ c i

-- past the last point all are laid out
pub fronts-done : {c : ℕ → Point} {n : ℕ} {d e f reds greens blues : List ℕ} → Fronts c n d e f reds greens blues n
    → RoomFor n d e f → LaidOut c n reds greens blues
fronts-done {c} {n} {d} {e} {f} w room = record {
  room = fronts-room w room;
  is = λ i h.
      rw (
        front_at (λ p. p.r) c n i d w.red h room.red,
        front_at (λ p. p.g) c n i e w.green h room.green,
        front_at (λ p. p.b) c n i f w.blue h room.blue,
      );
}

-- so points whose coordinates are in front of three lists are laid out
pub laid-out : {c : ℕ → Point} {n : ℕ} {d e f reds greens blues : List ℕ} → reds ≡ front (λ p. p.r) c n d
    → greens ≡ front (λ p. p.g) c n e → blues ≡ front (λ p. p.b) c n f → RoomFor n d e f → LaidOut c n reds greens blues
laid-out red green blue room =
    fronts-done record { within = le_refl _; red = red; green = green; blue = blue } room

-- points of the grid that are laid out have room, and are on the grid there; so are fewer of them
pub laid-out-ready : {c : ℕ → Point} {n : ℕ} {reds greens blues : List ℕ} → LaidOut c n reds greens blues
    → PointsOnGrid n c → (m : ℕ) → m ≤ n
    → RoomFor m reds greens blues × PointsOnGrid m (point_at reds greens blues)
laid-out-ready laid inside m h =
    let r = laid.room in (
      record {
        red = omega (arith, r.red);
        green = omega (arith, r.green);
        blue = omega (arith, r.blue);
      },
      λ i l. rw (laid.is i (omega arith)) (inside i (omega arith)),
    )

-- a list filled from the points of three lists is filled from the points laid out there
pub laid-out-filled : {c : ℕ → Point} {n : ℕ} {reds greens blues : List ℕ} → LaidOut c n reds greens blues
    → (f : Point → ℕ) (m : ℕ) → m ≤ n → (d : List ℕ) {x : List ℕ} → x ≡ fill m (λ i. f (point_at reds greens blues i)) d
    → x ≡ fill m (λ i. f (c i)) d
laid-out-filled laid f m h d e = e ∙ fill-same m _ _ d (λ i l. ap f (laid.is i (omega arith)))

-- ---- where a block is laid out

-- three lists of 256 places each, where a block's points are laid out
pub record BlockLists (reds greens blues : List ℕ) : Type 0 where
  pub red : length reds ≡ 256
  pub green : length greens ≡ 256
  pub blue : length blues ≡ 256

-- they have room for a point for each place of a part of d
pub block_room : {reds greens blues : List ℕ} → BlockLists reds greens blues → (d : List ℕ) (a e : ℕ) → e ≤ length d
    → e - a ≤ 256 → RoomFor (length (mid_of a (e - a) d)) reds greens blues
block_room w d a e h m =
    let n = mid_len a e d h in
    record { red = omega (arith, n, w.red); green = omega (arith, n, w.green); blue = omega (arith, n, w.blue) }
