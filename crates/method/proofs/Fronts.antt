-- A round of k shades reads and moves the first 3k coordinates alone: what it makes of a state it makes of the front of
-- the state, as far as that goes.
use Prim.Native.Nat.{ℕ, ◌*◌, ◌/◌, ◌%◌, ◌<◌}
use mathlib.Core.Bool.{not}
use mathlib.Core.Path.{◌≡◌, sym, ap, ap₂, fun_ext, ◌∙◌}
use native.Mathlib.Omega.{arith}
use lib.ListN.{get_or, length, take}
use lib.Seq.{length-take-le}
use Rattle.number.specs.{fill}
use Rattle.number.proofs.Counts.{how_many-same}
use Rattle.number.proofs.Fills.{fill-same, fill-take}
use Rattle.number.proofs.Sums.{sum-eq}
use Rattle.colour.specs.{Point, distance}
use Rattle.shades.specs.{axis, coordinate_of, same_place, to_shade}
use Rattle.shades.proofs.Laying.{front-shade, front_low}
use Rattle.shades.proofs.Nearest.{nearest-below, nearest-same, worked_same}
use Rattle.method.specs.Colouring.{Colours, group_of}
use Rattle.method.specs.Rules.{Rule}
use Rattle.method.specs.Rounding.{
  State,
  state_of,
  front_of,
  joins,
  total_of,
  short_distances,
  moved_to,
  moved_of,
  step,
  Fit,
  Joined,
}

module _ (C : Colours) (k : ℕ) (a : State) where
  -- each colour joins the same shade
  front-joins : joins C k (front_of k a).coordinates ≡ joins C k a.coordinates
  front-joins =
      fun_ext (λ i. nearest-same (take (3 * k) a.coordinates) a.coordinates k
      (front-shade a.coordinates k) (C.c i))

  -- the total is the same
  pub front-total : 0 < k → total_of C k (front_of k a) ≡ total_of C k a
  front-total some =
      sum-eq C.n _ _
      (λ i l. ap (λ d. C.w i * d)
      (ap (λ (m : ℕ → ℕ). to_shade (front_of k a).coordinates (C.c i) (m i)) front-joins
      ∙ ap (distance (C.c i))
      (front-shade a.coordinates k (joins C k a.coordinates i) (nearest-below a.coordinates k (C.c i) some))))

  -- where each member is a shade's number, as many distances are worked out
  pub front-distances : Joined C k a → short_distances C k (front_of k a) ≡ short_distances C k a
  front-distances joined =
      sum-eq C.n _ _
      (λ i l. worked_same (take (3 * k) a.coordinates) a.coordinates k (front-shade a.coordinates k) (C.c i)
      (get_or a.members i 0) (joined i l))

  -- three coordinates for each shade
  pub front_length : Fit C k a → length (front_of k a).coordinates ≡ 3 * k
  front_length f = length-take-le (3 * k) a.coordinates f.shades.room

  -- what a round asks is there
  pub front-fit : Fit C k a → Fit C k (front_of k a)
  front-fit f = record {
    some = f.some;
    shades = record {
      few = f.shades.few;
      room = omega (arith, front_length f);
      low = front_low a.coordinates (3 * k) f.shades.low;
    };
    room = f.room;
  }

  module _ (rule : Rule) where
    -- each shade goes to the same place
    front-moved-to : (q : ℕ) → q < k → moved_to rule C k (front_of k a) q ≡ moved_to rule C k a q
    front-moved-to q l =
        ap₂ (λ (m : ℕ → ℕ) (z : Point). rule q (group_of C m q) z) front-joins (front-shade a.coordinates k q l)

    -- as many shades move
    pub front-moved : moved_of rule C k (front_of k a) ≡ moved_of rule C k a
    front-moved =
        how_many-same k _ _
        (λ q l. ap₂ (λ (x y : Point). not (same_place x y)) (front-moved-to q l) (front-shade a.coordinates k q l))

    -- a round of the front leaves the front of what a round leaves
    pub front-step : step rule C k (front_of k a) ≡ front_of k (step rule C k a)
    front-step =
        ap₂ state_of
        (fill-same (3 * k) _ _ (take (3 * k) a.coordinates)
        (λ i l. ap (axis (i % 3)) (front-moved-to (i / 3) (omega arith)))
        ∙ sym (fill-take (3 * k) (coordinate_of (moved_to rule C k a)) a.coordinates))
        (ap (λ (m : ℕ → ℕ). fill C.n m a.members) front-joins)
