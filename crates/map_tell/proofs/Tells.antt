-- Slot after slot is told of, in four cells each, and the cells are read back.
use Prim.Native.Nat.{ℕ, ◌+◌, ◌*◌, ◌/◌, ◌%◌, ◌≤◌, ◌<◌}
use mathlib.Core.List.{List}
use mathlib.Core.Path.{◌≡◌, refl, sym, ap, ◌∙◌}
use native.Mathlib.Omega.{arith}
use lib.ListN.{length, get_or, set}
use Rattle.number.specs.{fill, sq}
use Rattle.number.proofs.Fills.{fill-at, fill_more}
use Rattle.colour.specs.{Point}
use Rattle.shades.specs.{shade_at}
use Rattle.map_tell.specs.Telling.{cell_of, cells_of, told_at}

-- ---- cells

-- cell e of what is told of slot q stands at 4q + e
cell_at : (c : ℕ → Point) (s : List ℕ) (f : ℕ → ℕ) (q e : ℕ) → e < 4
    → cells_of c s f (4 * q + e) ≡ cell_of (c q) s (f q) e
cell_at c s f q e h =
    let d : (4 * q + e) / 4 ≡ q = omega arith in
    let r : (4 * q + e) % 4 ≡ e = omega arith in
    rw (d, r)

-- the first cell, with nothing added to its place
first_cell : (c : ℕ → Point) (s : List ℕ) (f : ℕ → ℕ) (q : ℕ) → cells_of c s f (4 * q) ≡ cell_of (c q) s (f q) 0
first_cell c s f q =
    let z : 4 * q ≡ 4 * q + 0 = omega arith in
    rw z (cell_at c s f q 0 (omega arith))

-- and so in a list
pub told-first : (told : List ℕ) (q : ℕ) → get_or told (4 * q) 0 ≡ told_at told q 0
told-first told q =
    let z : 4 * q ≡ 4 * q + 0 = omega arith in
    ap (λ p. get_or told p 0) z

-- ---- the loop

-- a store behind the m values that are filled in fills one more
fill-next : (g : ℕ → ℕ) (d : List ℕ) (m p : ℕ) {e : List ℕ} {v : ℕ} → e ≡ fill m g d → p ≡ m + 1 → m < length d
    → v ≡ g m → set e m v ≡ fill p g d
fill-next g d m p is next l same = rw (is, same, next) (fill_more m g d l)

-- where the cells of the first i points are in front of d, those of one more, whose levels are u, v and t, follow
pub telling-step : (c : ℕ → Point) (s : List ℕ) (f : ℕ → ℕ) (i : ℕ) (d : List ℕ) {told : List ℕ}
    → told ≡ fill (4 * i) (cells_of c s f) d → 4 * i + 3 < length d
    → {u v t x y z : ℕ} → u ≡ (c i).r → v ≡ (c i).g → t ≡ (c i).b
    → x ≡ sq u (shade_at s (f i)).r → y ≡ sq v (shade_at s (f i)).g → z ≡ sq t (shade_at s (f i)).b
    → set (set (set (set told (4 * i) x) (4 * i + 1) y) (4 * i + 2) z) (4 * i + 3) (f i)
    ≡ fill (4 * (i + 1)) (cells_of c s f) d
telling-step c s f i d is room eu ev et ex ey ez =
    let p = shade_at s (f i) in
    let g = cells_of c s f in
    let one = fill-next g d (4 * i) (4 * i + 1) is refl (omega arith)
    (ex ∙ ap (λ a. sq a p.r) eu ∙ sym (first_cell c s f i)) in
    let two = fill-next g d (4 * i + 1) (4 * i + 2) one (omega arith) (omega arith)
    (ey ∙ ap (λ a. sq a p.g) ev ∙ sym (cell_at c s f i 1 (omega arith))) in
    let three = fill-next g d (4 * i + 2) (4 * i + 3) two (omega arith) (omega arith)
    (ez ∙ ap (λ a. sq a p.b) et ∙ sym (cell_at c s f i 2 (omega arith))) in
    fill-next g d (4 * i + 3) (4 * (i + 1)) three (omega arith) (omega arith)
    (sym (cell_at c s f i 3 (omega arith)))

-- cells told are read back
pub told_at_lem : (c : ℕ → Point) (s : List ℕ) (f : ℕ → ℕ) (n : ℕ) (d : List ℕ) {told : List ℕ}
    → told ≡ fill (4 * n) (cells_of c s f) d → 4 * n ≤ length d → (q e : ℕ) → q < n → e < 4
    → told_at told q e ≡ cell_of (c q) s (f q) e
told_at_lem c s f n d is room q e l h =
    ap (λ t. told_at t q e) is ∙ fill-at (4 * n) (4 * q + e) (cells_of c s f) d (omega arith) (omega arith)
    ∙ cell_at c s f q e h
