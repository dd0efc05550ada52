-- Few slots, joined, searched and told of: what is told is what is asked of their pixels.
use Prim.Native.Nat.{ℕ, ◌*◌, ◌≤◌, ◌<◌}
use mathlib.Core.List.{List, ◌++◌}
use mathlib.Core.Path.{◌≡◌, ap, ◌∙◌}
use native.Mathlib.Omega.{arith}
use lib.ListN.{length, take, drop, get_or-append, length-append}
use lib.Seq.{length-take-le, get_or-take}
use Rattle.number.specs.{fill}
use Rattle.number.proofs.Fills.{fill-length, fill-same}
use Rattle.number.proofs.Sums.{sum-eq}
use Rattle.colour.specs.{Point, most_pixels}
use Rattle.shades.specs.{levels_at, nearest_shade, packed_nearest, Shades}
use Rattle.shades.proofs.Nearest.{nearest-below}
use Rattle.map_errors.specs.{Errors, misses_of, found_number}
use Rattle.map_tell.specs.{cell_of, cells_of, told_at, told_of, told_errors, Tellable, Told}
use Rattle.map_slots.specs.{slot_key, slot_of, levels_of, Gathered}
use Rattle.map_block.specs.Blocks.{nearest_at, FewTaken}
use Rattle.map_block.proofs.block.Searches.{Searched, searched-all, searched-inside}
use Rattle.map_tell.proofs.Tells.{told_at_lem}

-- equal keys have the same levels
pub levels-same : (keys d : List ℕ) (i q : ℕ) → slot_key keys q ≡ slot_key d i → levels_at keys q ≡ levels_at d i
levels-same keys d i q e = rw e

-- of n points it is told how far their nearest shades are, and which these are
pub record NearestTold (c : ℕ → Point) (s : List ℕ) (k n : ℕ) (told : List ℕ) : Type 0 where
  pub cells : 4 * n ≤ length told
  pub is : (q e : ℕ) → q < n → e < 4 → told_at told q e ≡ cell_of (c q) s (nearest_shade s k (c q)) e

-- ---- the first n slots of d, joined

-- where they are, the keys are x and behind them the rest of d; there they are gathered, by the first n links
joined-slots : (d : List ℕ) {n m : ℕ} {x link : List ℕ} → n ≤ length d → length x ≡ length (take n d)
    → Gathered (slot_key (take n d)) (length (take n d)) x link m
    → Gathered (slot_key d) n (x ++ drop n d) (take n link) m
joined-slots d {n} {m} {x} {link} room long g =
    let z = length-take-le n d room in
    let h : Gathered (slot_key (take n d)) n x link m = rw z at g in
    record {
      few = h.few;
      slotted = λ i l. rw (get_or-take n link i 0 l) (h.slotted i l);
      is = λ i l.
          rw (get_or-take n link i 0 l)
          (get_or-append x (drop n d) 0 (slot_of link i) (omega (arith, long, z, h.few, h.slotted i l))
          ∙ h.is i l ∙ get_or-take n d i 0 l);
    }

-- ---- the colours of n slots of d, joined and searched

module _ (d : List ℕ) {s : List ℕ} {k n : ℕ} {keys link best : List ℕ} {m : ℕ}
    (g : Gathered (slot_key d) n keys link m) (w : Searched (levels_at d) s k n link best) where
  -- they may be told of
  joined-tellable : Shades k s → 0 < k → n ≤ length link → m ≤ length keys → (t : List ℕ) → 4 * n ≤ length t
      → Tellable keys link best s t n
  joined-tellable shades some links room t cells = record {
    links = links;
    keyed = λ i l. omega (arith, g.slotted i l);
    slotted = w.slotted;
    inside = searched-inside w shades some;
    shades = shades.low;
    room = cells;
  }

  -- and what is told is of their nearest shades
  joined-told : (t : List ℕ) {told : List ℕ} → 4 * n ≤ length t
      → told ≡ fill (4 * n) (cells_of (levels_of keys link) s (found_number link best)) t
      → NearestTold (levels_at d) s k n told
  joined-told t cells is = record {
    cells = rw is (rw (fill-length (4 * n) (cells_of (levels_of keys link) s (found_number link best)) t) cells);
    is = λ q e l h.
        told_at_lem (levels_of keys link) s (found_number link best) n t is cells q e l h
        ∙ ap (λ p. cell_of p s (found_number link best q) e) (levels-same keys d q (slot_of link q) (g.is q l))
        ∙ ap (λ v. cell_of (levels_at d q) s v e) (w.number q l);
  }

-- x joined by its links, and searched
module _ (d : List ℕ) {s : List ℕ} {k n m : ℕ} {x link best : List ℕ} (shades : Shades k s) (some : 0 < k)
    (room : n ≤ length d) (long : length x ≡ length (take n d)) (linked : n ≤ length link)
    (g : Gathered (slot_key (take n d)) (length (take n d)) x link m) (b : List ℕ) (places : m ≤ length b)
    (found : best
    ≡ fill (length (take m (x ++ drop n d))) (λ q. packed_nearest s k (levels_at (take m (x ++ drop n d)) q)) b) where
  -- the slots joined are no more than the keys
  fewer : m ≤ length (x ++ drop n d)
  fewer = omega (arith, g.few, long, length-append x (drop n d))

  -- the keys are gathered
  joined : Gathered (slot_key d) n (x ++ drop n d) (take n link) m
  joined = joined-slots d room long g

  -- and their colours searched
  searched : Searched (levels_at d) s k n (take n link) best
  searched = searched-all shades some joined (λ i q l. levels-same (x ++ drop n d) d i q) fewer b places found

  -- they may be told of
  pub few-tellable : (t : List ℕ) → 4 * n ≤ length t
      → Tellable (x ++ drop n d) (take n link) best s t (length (take n link))
  few-tellable t cells =
      let e = length-take-le n link linked in
      rw e (joined-tellable d joined searched shades some (omega (arith, e)) fewer t cells)

  -- and what is told is of their nearest shades
  pub few-told : (t : List ℕ) {told : List ℕ} → 4 * n ≤ length t
      → told ≡ fill (4 * length (take n link))
      (cells_of (levels_of (x ++ drop n d) (take n link)) s (found_number (take n link) best)) t
      → NearestTold (levels_at d) s k n told
  few-told t cells is = joined-told d joined searched t cells (rw (length-take-le n link linked) at is)

-- ---- their pixels

module _ {c : ℕ → Point} {s : List ℕ} {k n : ℕ} {told : List ℕ} (w : NearestTold c s k n told) (p : ℕ) (which : List ℕ)
    (taken : FewTaken p which n) where
  -- the colour of pixel i
  abbrev colour : ℕ → Point
  colour i = c (slot_of which i)

  -- of it the same is told
  told_is : (e i : ℕ) → e < 4 → i < p → told_of which told e i ≡ cell_of (colour i) s (nearest_at s k colour i) e
  told_is e i h l = w.is (slot_of which i) e (taken.slotted i l) h

  -- so it may be added up
  pub told-asked : Shades k s → 0 < k → p ≤ length which → p ≤ most_pixels → Told which told p
  told-asked shades some room few = record {
    slots = room;
    cells = λ i l. omega (arith, taken.slotted i l, w.cells);
    byte = λ i l.
        rw (told_is 3 i (omega arith) l) (omega (arith, nearest-below s k (colour i) some, shades.few));
    few = few;
  }

  -- the numbers are those of the nearest shades
  pub told-index : (d : List ℕ) {x : List ℕ} → x ≡ fill p (told_of which told 3) d
      → x ≡ fill p (nearest_at s k colour) d
  told-index d e = e ∙ fill-same p _ _ d (λ i l. told_is 3 i (omega arith) l)

  -- and the errors those of the pixels
  pub told-errors : {r : Errors} → r ≡ told_errors which told p → r ≡ misses_of colour s (nearest_at s k colour) p
  told-errors e =
      e
      ∙ rw (
        sum-eq p (told_of which told 0) _ (λ i l. told_is 0 i (omega arith) l),
        sum-eq p (told_of which told 1) _ (λ i l. told_is 1 i (omega arith) l),
        sum-eq p (told_of which told 2) _ (λ i l. told_is 2 i (omega arith) l),
      )
