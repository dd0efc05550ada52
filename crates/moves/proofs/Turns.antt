-- Shade after shade is moved: what the first q leave where they were, and one more; and those that are held.
use Prim.Native.Nat.{ℕ, ◌+◌, ◌*◌, ◌/◌, ◌%◌, ◌≤◌, ◌<◌}
use mathlib.Core.Bool.{Bool, true, false, cond, not}
use mathlib.Core.List.{List}
use mathlib.Core.Path.{◌≡◌, refl, sym, ap, ◌∙◌}
use native.Mathlib.Omega.{arith}
use lib.ListN.{get_or, length}
use borrow.Author.Tests.{eq-eqb}
use Rattle.std.specs.Int.{from_bool}
use Rattle.number.specs.{bit, fill}
use Rattle.number.proofs.Fills.{fill_more, fill-kept, fill-self}
use Rattle.colour.specs.{sixteenth}
use Rattle.method.specs.{Move, holding_move}
use Rattle.method.proofs.Rules.{move-held, move-free}
use Rattle.group_sums.specs.{group_pixels, level_sum}
use Rattle.moves.specs.Reading.{goes, stays, with_moved}

-- ---- shades that are held

-- a coordinate of a held shade stays
held-goes : (f : ℕ) (move : Move) (t s : List ℕ) (n : ℕ) → n < 3 * f → goes (holding_move f move) t s n ≡ get_or s n 0
held-goes f move t s n h =
    move-held f move (n / 3) (group_pixels t (n / 3)) (sixteenth (level_sum t (n % 3) (n / 3))) (get_or s n 0)
    (omega arith)

-- so with those moved, all is as it was
pub held-shades : (f : ℕ) (move : Move) (t s : List ℕ) → s ≡ fill (3 * f) (goes (holding_move f move) t s) s
held-shades f move t s =
    sym (fill-self (3 * f) (goes (holding_move f move) t s) s (λ n l. sym (held-goes f move t s n l)))

-- and none of them is counted
pub held_stays : (f : ℕ) (move : Move) (t s : List ℕ) (q : ℕ) → q < f → not (stays (holding_move f move) t s q) ≡ false
held_stays f move t s q h =
    simp (
      eq-eqb _ _ (held-goes f move t s (3 * q) (omega arith)),
      eq-eqb _ _ (held-goes f move t s (3 * q + 1) (omega arith)),
      eq-eqb _ _ (held-goes f move t s (3 * q + 2) (omega arith)),
    )

module _ (f : ℕ) (move : Move) (t s : List ℕ) (q : ℕ) (free : f ≤ q) where
  -- a coordinate of a shade that is not held goes as with none held
  free-goes : (n : ℕ) → 3 * q ≤ n → goes (holding_move f move) t s n ≡ goes move t s n
  free-goes n h =
      move-free f move (n / 3) (group_pixels t (n / 3)) (sixteenth (level_sum t (n % 3) (n / 3))) (get_or s n 0)
      (omega arith)

  -- such a shade is moved as with none held
  free_moved : with_moved move t s q ≡ with_moved (holding_move f move) t s q
  free_moved =
      rw (
        free-goes (3 * q) (omega arith),
        free-goes (3 * q + 1) (omega arith),
        free-goes (3 * q + 2) (omega arith),
      )

  -- and stays where it does with none held
  free_stays : stays move t s q ≡ stays (holding_move f move) t s q
  free_stays =
      rw (
        free-goes (3 * q) (omega arith),
        free-goes (3 * q + 1) (omega arith),
        free-goes (3 * q + 2) (omega arith),
      )

-- ---- shade after shade

-- what a test counts as, as a number, is 1 where it holds and else 0
pub from_bool-bit : (b : Bool) → from_bool b ≡ bit b
from_bool-bit true = refl
from_bool-bit false = refl

-- a count that goes up where a test holds goes up by a test that tells the same
counted-alike : {a b : Bool} {r : ℕ} (moved : ℕ) → a ≡ b → r ≡ cond a (moved + 1) moved → r ≡ cond b (moved + 1) moved
counted-alike moved e is = is ∙ ap (λ (test : Bool). cond test (moved + 1) moved) e

module _ (move : Move) (t s : List ℕ) (q : ℕ) where
  -- a coordinate of a later shade is where it was, and goes where it went from there
  goes-still : (n : ℕ) → 3 * q ≤ n → goes move t (fill (3 * q) (goes move t s) s) n ≡ goes move t s n
  goes-still n h = rw (fill-kept (3 * q) n (goes move t s) s h)

  -- shade q stays just where it did
  stays-still : stays move t (fill (3 * q) (goes move t s) s) q ≡ stays move t s q
  stays-still =
      rw (
        fill-kept (3 * q) (3 * q) (goes move t s) s (omega arith),
        fill-kept (3 * q) (3 * q + 1) (goes move t s) s (omega arith),
        fill-kept (3 * q) (3 * q + 2) (goes move t s) s (omega arith),
      )

  -- with shade q moved, one shade more is
  moved_more : 3 * q + 2 < length s
      → with_moved move t (fill (3 * q) (goes move t s) s) q ≡ fill (3 * (q + 1)) (goes move t s) s
  moved_more room =
      let second : 3 * q + 1 + 1 ≡ 3 * q + 2 = omega arith in
      let third : 3 * q + 2 + 1 ≡ 3 * (q + 1) = omega arith in
      rw (
        goes-still (3 * q) (omega arith),
        goes-still (3 * q + 1) (omega arith),
        goes-still (3 * q + 2) (omega arith),
        fill_more (3 * q) (goes move t s) s (omega arith),
        fill_more (3 * q + 1) (goes move t s) s (omega arith),
        second,
        fill_more (3 * q + 2) (goes move t s) s room,
        third,
      )

  module _ {at : List ℕ} (e : at ≡ fill (3 * q) (goes move t s) s) where
    -- so the shades that a turn leaves are those of one shade more
    pub turn-shades : {left : List ℕ} → 3 * q + 2 < length s → left ≡ with_moved move t at q
        → left ≡ fill (3 * (q + 1)) (goes move t s) s
    turn-shades room is = is ∙ ap (λ a. with_moved move t a q) e ∙ moved_more room

    -- and it tells whether the shade moves from the shades as they were
    pub turn-told : {r : Bool} → r ≡ not (stays move t at q) → r ≡ not (stays move t s q)
    turn-told is = is ∙ ap not (ap (λ a. stays move t a q) e ∙ stays-still)

    -- so a count that goes up where it moves does so by the shades as they were
    pub turn-counted : {r : ℕ} (moved : ℕ) → r ≡ cond (not (stays move t at q)) (moved + 1) moved
        → r ≡ cond (not (stays move t s q)) (moved + 1) moved
    turn-counted moved = counted-alike moved (turn-told refl)

module _ (f : ℕ) (move : Move) (t s : List ℕ) (q : ℕ) (free : f ≤ q) {at : List ℕ}
    (e : at ≡ fill (3 * q) (goes (holding_move f move) t s) s) where
  -- and so where shades below this one are held
  pub turn-shades-holding : {left : List ℕ} → 3 * q + 2 < length s → left ≡ with_moved move t at q
      → left ≡ fill (3 * (q + 1)) (goes (holding_move f move) t s) s
  turn-shades-holding room is = turn-shades (holding_move f move) t s q e room (is ∙ free_moved f move t at q free)

  -- which tells of this shade, as it is not held
  pub turn-told-holding : {r : Bool} → r ≡ not (stays move t at q) → r ≡ not (stays (holding_move f move) t s q)
  turn-told-holding is = turn-told (holding_move f move) t s q e (is ∙ ap not (free_stays f move t at q free))

  -- and so of a count
  pub turn-counted-holding : {r : ℕ} (moved : ℕ) → r ≡ cond (not (stays move t at q)) (moved + 1) moved
      → r ≡ cond (not (stays (holding_move f move) t s q)) (moved + 1) moved
  turn-counted-holding moved = counted-alike moved (turn-told-holding refl)
