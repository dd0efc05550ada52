-- Laws of the loop that gathers pixels as streaks: at each turn the streaks laid and the one at hand hold the pixels
-- passed, whatever is added up over them.
use mathlib.Core.Path.{◌≡◌, refl, sym, ◌∙◌}
use mathlib.Core.Bool.{true}
use mathlib.Core.Logic.{inl, inr}
use mathlib.Core.List.{List, [], ◌∷◌}
use Prim.Native.Nat.{ℕ, ◌+◌, ◌*◌, ◌%◌, ◌≤◌, ◌<◌}
use native.Mathlib.Omega.{arith}
use native.Mathlib.Numerals.{add-one}
use lib.ListN.{length, get_or, take, drop, set, length-set, length-drop}
use lib.Seq.{take-suc-set, get_or-drop}
use lib.Dec.{eqb}
use borrow.Author.Tests.{ltb-true, eqb-true}
use Rattle.number.specs.{sum_of}
use Rattle.number.proofs.Cases.{bool, never}
use Rattle.number.proofs.ListSums.{sum_of-append, sum_of-more}
use Rattle.colour.specs.{most_key}
use Rattle.table_entries.specs.{strip_keys, key_at}
use Rattle.table_entries.proofs.Strips.{strip-at, strip-at-least}
use Rattle.table_streaks.specs.Streak.{streak_key, streak_pixels, streak_sum, joins_streak}

-- ---- f of the pixels

-- one pixel more of a strip
chunk-more : (f : ℕ → ℕ) (from done : ℕ) (s : List ℕ) → 3 * (from + done) + 2 < length s
    → sum_of f (take (done + 1) (drop from (strip_keys s)))
    ≡ sum_of f (take done (drop from (strip_keys s))) + f (key_at s (3 * (from + done)))
chunk-more f from done s h =
    let l : done < length (drop from (strip_keys s))
    = rw length-drop (omega (arith, strip-at-least (from + done + 1) s (omega arith))) in
    let e : get_or (drop from (strip_keys s)) done 0 ≡ key_at s (3 * (from + done))
    = get_or-drop from (strip_keys s) done 0 ∙ strip-at (from + done) s h in
    rw (← e) (sum_of-more f done (drop from (strip_keys s)) l)

-- ---- a streak

-- of one pixel
streak-new : (f : ℕ → ℕ) (k : ℕ) → k ≤ most_key → streak_sum f (256 * k) ≡ f k
streak-new f k h =
    let a : streak_key (256 * k) ≡ k = omega arith in
    let b : streak_pixels (256 * k) ≡ 1 = omega arith in
    rw (a, b) (omega arith)

-- what `joins_streak` says
pub record Joins (x k : ℕ) : Type 0 where
  pub same : streak_key x ≡ k
  pub room : x % 256 < 255

-- where it holds
pub does-join : (x k : ℕ) → joins_streak x k ≡ true → Joins x k
does-join x k h = elim (bool (eqb (streak_key x) k)) [
  | inl t ↦ record { same = eqb-true (streak_key x) k t; room = ltb-true (x % 256) 255 (simp t at h) }
  | inr t ↦ never (sym (simp t at h))
]

-- with one pixel more
streak-more : (f : ℕ → ℕ) (x k : ℕ) → Joins x k → streak_sum f (x + 1) ≡ streak_sum f x + f k
streak-more f x k j =
    let a : streak_key (x + 1) ≡ k = omega (arith, j.same, j.room) in
    let b : streak_pixels (x + 1) ≡ streak_pixels x + 1 = omega (arith, j.room) in
    rw (a, b, j.same) (omega arith)

-- ---- the loop

-- `len` streaks are laid, `streak` is at hand, and `done` pixels are in them
pub record Gathering (s : List ℕ) (from most : ℕ) (R₀ R : List ℕ) (streak len done : ℕ) : Type 0 where
  pub some : 0 < done
  pub within : done ≤ most
  pub bytes : 3 * (from + most) ≤ length s
  pub room : len < length R
  pub keeps : length R ≡ length R₀
  pub small : streak < 4294967296
  pub sums : (f : ℕ → ℕ)
      → sum_of (streak_sum f) (take len R) + streak_sum f streak ≡ sum_of f (take done (drop from (strip_keys s)))

-- the first pixel
pub gather-start : (s : List ℕ) (from most : ℕ) (R : List ℕ) (k : ℕ) → 0 < most → 3 * (from + most) ≤ length s
    → 0 < length R → k ≡ key_at s (3 * from) → k ≤ most_key → Gathering s from most R R (256 * k) 0 1
gather-start s from most R k a b d e h = record {
  some = omega arith;
  within = a;
  bytes = b;
  room = d;
  keeps = refl;
  small = omega arith;
  sums = λ f.
      let z : from + 0 ≡ from = omega arith in
      omega (arith, streak-new f k h, rw (z, ← e) at (chunk-more f from 0 s (omega arith)));
}

module _ {s : List ℕ} {from most : ℕ} {R₀ R : List ℕ} {streak len done : ℕ}
    (g : Gathering s from most R₀ R streak len done) where
  -- with the streak at hand laid, the list holds all pixels passed
  pub gather-done : (f : ℕ → ℕ)
      → sum_of (streak_sum f) (take (len + 1) (set R len streak)) ≡ sum_of f (take done (drop from (strip_keys s)))
  gather-done f =
      rw (add-one, take-suc-set R len streak g.room)
      (sum_of-append (streak_sum f) (take len R) (streak ∷ []) ∙ omega arith)
      ∙ g.sums f

  module _ (l : done < most) (k : ℕ) (e : k ≡ key_at s (3 * (from + done))) where
    -- the next pixel adds f of its key
    next : (f : ℕ → ℕ) → sum_of f (take (done + 1) (drop from (strip_keys s)))
        ≡ sum_of f (take done (drop from (strip_keys s))) + f k
    next f = rw e (chunk-more f from done s (omega (arith, g.bytes)))

    -- a pixel that goes into the streak at hand
    pub gather-join : Joins streak k → Gathering s from most R₀ R (streak + 1) len (done + 1)
    gather-join j = record {
      some = omega arith;
      within = omega arith;
      bytes = g.bytes;
      room = g.room;
      keeps = g.keeps;
      small = omega (arith, g.small, j.room);
      sums = λ f. omega (arith, g.sums f, next f, streak-more f streak k j);
    }

    -- a pixel that begins a streak
    pub gather-begin : len + 1 < length R → k ≤ most_key
        → Gathering s from most R₀ (set R len streak) (256 * k) (len + 1) (done + 1)
    gather-begin h b = record {
      some = omega arith;
      within = omega arith;
      bytes = g.bytes;
      room = rw length-set h;
      keeps = rw length-set g.keeps;
      small = omega arith;
      sums = λ f. omega (arith, gather-done f, next f, streak-new f k b);
    }
