-- Keys laid out and searched: the colours are on the grid, and what is found are the nearest shades.
use Prim.Native.Nat.{ℕ, ◌*◌, ◌≤◌}
use mathlib.Core.List.{List, ◌++◌}
use mathlib.Core.Path.{◌≡◌, ap, ◌∙◌}
use native.Mathlib.Omega.{arith}
use lib.ListN.{length, get_or, take, drop}
use lib.Seq.{length-take-le}
use Rattle.number.specs.{fill, fill_from}
use Rattle.number.proofs.Fills.{fill-same}
use Rattle.number.proofs.Parts.{stretch-filled}
use Rattle.colour.specs.{most_coordinate, red_of, green_of, blue_of}
use Rattle.shades.specs.{levels_at, packed_nearest}
use Rattle.shades.proofs.Laying.{levels-within}
use Rattle.search_all.specs.{scaled_at, point_at, PointsOnGrid, RoomFor}
use Rattle.search_all.proofs.Layouts.{LaidOut, laid-out, laid-out-ready}

-- at a scale of 1 levels are whole
whole : (keys : List ℕ) (i : ℕ) → scaled_at 1 keys i ≡ levels_at keys i
whole keys i =
    let k : ℕ = get_or keys i 0 in
    let r : 1 * red_of k ≡ red_of k = omega arith in
    let g : 1 * green_of k ≡ green_of k = omega arith in
    let b : 1 * blue_of k ≡ blue_of k = omega arith in
    rw (r, g, b)

-- keys whose levels fill the fronts of three lists are laid out there
pub keys-laid : (keys : List ℕ) {d e f reds greens blues : List ℕ}
    → reds ≡ fill (length keys) (λ q. (scaled_at 1 keys q).r) d
    → greens ≡ fill (length keys) (λ q. (scaled_at 1 keys q).g) e
    → blues ≡ fill (length keys) (λ q. (scaled_at 1 keys q).b) f → RoomFor (length keys) d e f
    → LaidOut (levels_at keys) (length keys) reds greens blues
keys-laid keys r g b room =
    let laid = laid-out r g b room in
    record { room = laid.room; is = λ i h. laid.is i h ∙ whole keys i }

-- keys laid out are what a search asks, into the first m places of d: it has room, and the colours are on the grid
pub keys-ready : (keys : List ℕ) {reds greens blues : List ℕ} {m : ℕ} → LaidOut (levels_at keys) m reds greens blues
    → (d : List ℕ) → m ≤ length d
    → RoomFor (length (take m d)) reds greens blues × PointsOnGrid (length (take m d)) (point_at reds greens blues)
keys-ready keys {m = m} laid d h =
    laid-out-ready laid (λ q l. levels-within most_coordinate (omega arith) keys q) (length (take m d))
    (omega (arith, length-take-le m d h))

-- the first m places of d, lent and filled with what a search of these colours finds, hold the nearest to the keys
pub keys-searched : (s : List ℕ) (k : ℕ) (keys : List ℕ) {reds greens blues : List ℕ} {m : ℕ}
    → LaidOut (levels_at keys) m reds greens blues → (d : List ℕ) → m ≤ length d → {x : List ℕ}
    → x ≡ fill (length (take m d)) (λ q. packed_nearest s k (point_at reds greens blues q)) (take m d)
    → x ++ drop m d ≡ fill m (λ q. packed_nearest s k (levels_at keys q)) d
unfolding fill_from
keys-searched s k keys {m = m} laid d room e =
    ap (λ t. t ++ drop m d) (rw (length-take-le m d room) at e)
    ∙ stretch-filled 0 m _ d
    ∙ fill-same m _ _ d (λ q l. ap (packed_nearest s k) (laid.is q l))
