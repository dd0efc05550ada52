-- What is shown of the boundary, each theorem in full; its body names the proof.
-- A contract here is that of the call beneath (AddCrosses, RoundCrosses and so on, specs/Crossing.antt): the number is
-- the refusal of its outcome, and slices and arrays are those of its outcome. Which outcome that is, and what is shown
-- of it, stands in the promises of table, lloyd, palette, palette_groups, palette_twins, mapping and p6.
use Prim.Native.Nat.{ℕ, ◌+◌, ◌-◌, ◌*◌, ◌≤◌, ◌<◌}
use mathlib.Core.List.{List, [], ◌∷◌}
use mathlib.Core.Bool.{true}
use mathlib.Core.Path.{◌≡◌, sym, ◌∙◌}
use lib.Ieee.{Float}
use lib.ListN.{get_or, length, take, replicate}
use Rattle.number.specs.{sum, W, S, Nearest}
use Rattle.refusal.specs.{Refusal, number_of, done, TwinShade}
use Rattle.colour.specs.{Point, Bytes, distance, sixteenth}
use Rattle.shades.specs.{most_coordinates, shade_at, colour_at}
use Rattle.figures.specs.{zero_figure}
use Rattle.table.specs.{Record, hands_back, add_strip}
use Rattle.method.specs.{Bounded, State, state_of, colours_of, pixels_in, mean_of, group_at, group_cost}
use Rattle.lloyd.specs.{plain_round, short_round, run_of, jancey_run}
use Rattle.lloyd_stock.specs.{fixed_in, stock}
use Rattle.lloyd_fixed.specs.{fixed_run}
use Rattle.palette.specs.{palette_from_shades}
use Rattle.palette_groups.specs.{channel_group, palette_from_groups, palette_from_groups_fixed}
use Rattle.palette_twins.specs.{no_twins, told_pair, AreTwins, AllDiffer}
use Rattle.mapping.specs.{twins_told, map_strip}
use Rattle.p6_header.specs.{header_of, offset_in}
use Rattle.p6.specs.{read_picture}
use Rattle.arrays.specs.{record_in, record_numbers, twins_in}
use Rattle.arrays.proofs.Records as records
use Rattle.kohlenfloh.specs.Crossing.{AddCrosses, RoundCrosses, RunCrosses, PaletteCrosses, MapCrosses, PictureCrosses}
use Rattle.kohlenfloh.proofs.Arrays as arrays
use Rattle.kohlenfloh.proofs.Refusing as refusing
use Rattle.kohlenfloh.proofs.Runs as runs

-- ---- each contract leaves one number, and one content of each slice and array, on every input

-- Of kf_add_strip.
pub add-only : (s ks ws strip : List ℕ) {r r' : ℕ} {rec rec' x x' y y' t t' : List ℕ}
    → AddCrosses (add_strip (record_in s) ks ws strip) r rec x y t
    → AddCrosses (add_strip (record_in s) ks ws strip) r' rec' x' y' t'
    → (r ≡ r') × (rec ≡ rec') × (x ≡ x') × (y ≡ y') × (t ≡ t')
add-only s ks ws strip a b = (
  a.number ∙ sym b.number,
  a.rec_is ∙ sym b.rec_is,
  a.keys_are ∙ sym b.keys_are,
  a.weights_are ∙ sym b.weights_are,
  a.taken_is ∙ sym b.taken_is,
)

-- Of kf_plain_round.
pub plain-only : (s ks ws cs ms : List ℕ) {r r' : ℕ} {x x' y y' t t' : List ℕ}
    → RoundCrosses (plain_round (record_in s) ks ws (state_of cs ms)) r x y t
    → RoundCrosses (plain_round (record_in s) ks ws (state_of cs ms)) r' x' y' t'
    → (r ≡ r') × (x ≡ x') × (y ≡ y') × (t ≡ t')
plain-only s ks ws cs ms = arrays.round-only

-- Of kf_short_round.
pub short-only : (s ks ws cs ms : List ℕ) {r r' : ℕ} {x x' y y' t t' : List ℕ}
    → RoundCrosses (short_round (record_in s) ks ws (state_of cs ms)) r x y t
    → RoundCrosses (short_round (record_in s) ks ws (state_of cs ms)) r' x' y' t'
    → (r ≡ r') × (x ≡ x') × (y ≡ y') × (t ≡ t')
short-only s ks ws cs ms = arrays.round-only

-- Of kf_run.
pub run_only : (s ks ws : List ℕ) (k limit : ℕ) (ms ts : List ℕ) {r r' : ℕ} {x x' y y' shades shades' t t' : List ℕ}
    → RunCrosses (run_of (record_in s) ks ws k limit ms ts) r x y shades t
    → RunCrosses (run_of (record_in s) ks ws k limit ms ts) r' x' y' shades' t'
    → (r ≡ r') × (x ≡ x') × (y ≡ y') × (shades ≡ shades') × (t ≡ t')
run_only s ks ws k limit ms ts = arrays.run_only

-- Of kf_run_jancey.
pub jancey-only : (s ks ws : List ℕ) (k limit : ℕ) (ms ts : List ℕ)
    {r r' : ℕ} {x x' y y' shades shades' t t' : List ℕ}
    → RunCrosses (jancey_run (record_in s) ks ws k limit ms ts) r x y shades t
    → RunCrosses (jancey_run (record_in s) ks ws k limit ms ts) r' x' y' shades' t'
    → (r ≡ r') × (x ≡ x') × (y ≡ y') × (shades ≡ shades') × (t ≡ t')
jancey-only s ks ws k limit ms ts = arrays.run_only

-- Of kf_run_fixed.
pub fixed-only : (s ks ws fixed : List ℕ) (k limit : ℕ) (ms ts : List ℕ)
    {r r' : ℕ} {x x' y y' shades shades' t t' : List ℕ}
    → RunCrosses (fixed_run (record_in s) ks ws fixed k limit ms ts) r x y shades t
    → RunCrosses (fixed_run (record_in s) ks ws fixed k limit ms ts) r' x' y' shades' t'
    → (r ≡ r') × (x ≡ x') × (y ≡ y') × (shades ≡ shades') × (t ≡ t')
fixed-only s ks ws fixed k limit ms ts = arrays.run_only

-- Of kf_palette_from_shades.
pub palette-only : (s d : List ℕ) {r r' : ℕ} {x x' : List ℕ} → PaletteCrosses (palette_from_shades s d) r x
    → PaletteCrosses (palette_from_shades s d) r' x' → (r ≡ r') × (x ≡ x')
palette-only s d = arrays.palette-only

-- Of kf_palette_from_groups.
pub groups-only : (s ks ws cs ms d : List ℕ) {r r' : ℕ} {x x' : List ℕ}
    → PaletteCrosses (palette_from_groups (record_in s) ks ws (state_of cs ms) d) r x
    → PaletteCrosses (palette_from_groups (record_in s) ks ws (state_of cs ms) d) r' x' → (r ≡ r') × (x ≡ x')
groups-only s ks ws cs ms d = arrays.palette-only

-- And of kf_palette_from_groups_fixed.
pub groups-only-fixed : (f : ℕ) (s ks ws cs ms d : List ℕ) {r r' : ℕ} {x x' : List ℕ}
    → PaletteCrosses (palette_from_groups_fixed f (record_in s) ks ws (state_of cs ms) d) r x
    → PaletteCrosses (palette_from_groups_fixed f (record_in s) ks ws (state_of cs ms) d) r' x' → (r ≡ r') × (x ≡ x')
groups-only-fixed f s ks ws cs ms d = arrays.palette-only

-- Of kf_map_strip.
pub map-only : (strip p d : List ℕ) (first : ℕ) {r r' : ℕ} {x x' s s' : List ℕ} {m m' : List Float}
    → MapCrosses (map_strip strip p d first) r x s m → MapCrosses (map_strip strip p d first) r' x' s' m'
    → (r ≡ r') × (x ≡ x') × (s ≡ s') × (m ≡ m')
map-only strip p d first a b = (
  a.number ∙ sym b.number,
  a.index_is ∙ sym b.index_is,
  a.answer_is ∙ sym b.answer_is,
  a.means_are ∙ sym b.means_are,
)

-- Of kf_read_picture.
pub picture-only : (input : List ℕ) {r r' : ℕ} {s s' : List ℕ}
    → PictureCrosses (read_picture input) r s → PictureCrosses (read_picture input) r' s' → (r ≡ r') × (s ≡ s')
picture-only input a b = (a.number ∙ sym b.number, a.answer_is ∙ sym b.answer_is)

-- ---- the record

-- A record laid into an array is read from it again.
pub record-kept : (rec : Record) → record_in (record_numbers rec) ≡ rec
record-kept = records.record-kept

-- ---- what a refusal leaves

-- BAD STRIP and BAD TABLE hand the record back, leave both slices as they came, and take nothing.
pub add-refused : (s ks ws strip : List ℕ) (n : Refusal) → hands_back n ≡ true
    → {rec ks' ws' t : List ℕ} → AddCrosses (add_strip (record_in s) ks ws strip) (number_of n) rec ks' ws' t
    → (rec ≡ record_numbers (record_in s)) × (ks' ≡ ks) × (ws' ≡ ws) × (t ≡ 0 ∷ [])
add-refused = refusing.add-refused

-- The record's array, which has five numbers, is then as it came.
pub record-as-it-came : (s ks ws strip : List ℕ) (n : Refusal) → hands_back n ≡ true → length s ≡ 5
    → {rec ks' ws' t : List ℕ} → AddCrosses (add_strip (record_in s) ks ws strip) (number_of n) rec ks' ws' t → rec ≡ s
record-as-it-came = refusing.record-as-it-came

-- A refused plain round leaves zeros in the answer, and both slices as they came.
pub plain-refused : (rec : Record) (ks ws : List ℕ) (a : State) (n : Refusal) {cs ms s : List ℕ}
    → RoundCrosses (plain_round rec ks ws a) (number_of n) cs ms s
    → (cs ≡ a.coordinates) × (ms ≡ a.members) × (s ≡ 0 ∷ 0 ∷ 0 ∷ [])
plain-refused = refusing.plain-refused

-- And so does a refused shortened round.
pub short-refused : (rec : Record) (ks ws : List ℕ) (a : State) (n : Refusal) {cs ms s : List ℕ}
    → RoundCrosses (short_round rec ks ws a) (number_of n) cs ms s
    → (cs ≡ a.coordinates) × (ms ≡ a.members) × (s ≡ 0 ∷ 0 ∷ 0 ∷ [])
short-refused = refusing.short-refused

-- A refused run leaves zeros in the shades and the answer, and both slices as they came.
pub run-refused : (rec : Record) (ks ws : List ℕ) (k limit : ℕ) (ms ts : List ℕ) (n : Refusal)
    {ms' ts' shades s : List ℕ} → RunCrosses (run_of rec ks ws k limit ms ts) (number_of n) ms' ts' shades s
    → (ms' ≡ ms) × (ts' ≡ ts) × (shades ≡ replicate most_coordinates 0) × (s ≡ 0 ∷ 0 ∷ 0 ∷ 0 ∷ [])
run-refused = refusing.run-refused

-- And so does a refused Jancey run.
pub jancey-refused : (rec : Record) (ks ws : List ℕ) (k limit : ℕ) (ms ts : List ℕ) (n : Refusal)
    {ms' ts' shades s : List ℕ} → RunCrosses (jancey_run rec ks ws k limit ms ts) (number_of n) ms' ts' shades s
    → (ms' ≡ ms) × (ts' ≡ ts) × (shades ≡ replicate most_coordinates 0) × (s ≡ 0 ∷ 0 ∷ 0 ∷ 0 ∷ [])
jancey-refused = refusing.jancey-refused

-- And a refused run with fixed shades.
pub fixed-refused : (rec : Record) (ks ws fixed : List ℕ) (k limit : ℕ) (ms ts : List ℕ) (n : Refusal)
    {ms' ts' shades s : List ℕ} → RunCrosses (fixed_run rec ks ws fixed k limit ms ts) (number_of n) ms' ts' shades s
    → (ms' ≡ ms) × (ts' ≡ ts) × (shades ≡ replicate most_coordinates 0) × (s ≡ 0 ∷ 0 ∷ 0 ∷ 0 ∷ [])
fixed-refused = refusing.fixed-refused

-- A refused palette from shades leaves every byte as it came.
pub palette-refused : (s d : List ℕ) (n : Refusal) {x : List ℕ}
    → PaletteCrosses (palette_from_shades s d) (number_of n) x → x ≡ d
palette-refused = refusing.palette-refused

-- A refused palette of groups leaves every byte as it came.
pub groups-refused : (rec : Record) (ks ws : List ℕ) (a : State) (d : List ℕ) (n : Refusal) {x : List ℕ}
    → PaletteCrosses (palette_from_groups rec ks ws a d) (number_of n) x → x ≡ d
groups-refused = refusing.groups-refused

-- And one that is told how many are fixed.
pub groups-refused-fixed : (f : ℕ) (rec : Record) (ks ws : List ℕ) (a : State) (d : List ℕ) (n : Refusal) {x : List ℕ}
    → PaletteCrosses (palette_from_groups_fixed f rec ks ws a d) (number_of n) x → x ≡ d
groups-refused-fixed = refusing.groups-refused-fixed

-- A refused mapping leaves zeros in answer and means, but for the twins told, and the index picture as it came.
pub map-refused : (strip p d : List ℕ) (first : ℕ) (n : Refusal) {x s : List ℕ} {m : List Float}
    → MapCrosses (map_strip strip p d first) (number_of n) x s m
    → (x ≡ d)
    × (s ≡ 0 ∷ 0 ∷ 0 ∷ 0 ∷ 0 ∷ (told_pair (twins_told p n)).lower ∷ (told_pair (twins_told p n)).higher ∷ [])
    × (m ≡ zero_figure ∷ zero_figure ∷ zero_figure ∷ zero_figure ∷ [])
map-refused = refusing.map-refused

-- With TWIN SHADE the two last numbers of the answer are the pair with the smallest higher number.
pub map-twins : (strip p d : List ℕ) (first : ℕ) {x s : List ℕ} {m : List Float}
    → MapCrosses (map_strip strip p d first) (number_of TwinShade) x s m → AreTwins p (twins_in s)
map-twins = refusing.map-twins

-- With any other refusal they are 0 and 0.
pub map-no-twins : (strip p d : List ℕ) (first : ℕ) {x s : List ℕ} {m : List Float} (n : Refusal) → ¬ (n ≡ TwinShade)
    → MapCrosses (map_strip strip p d first) (number_of n) x s m → twins_in s ≡ no_twins
map-no-twins = refusing.map-no-twins

-- And in an accepted mapping, whose palette's entries all differ.
pub map-accepted : (strip p d : List ℕ) (first : ℕ) {x s : List ℕ} {m : List Float}
    → MapCrosses (map_strip strip p d first) done x s m → (twins_in s ≡ no_twins) × AllDiffer p
map-accepted = refusing.map-accepted

-- A refused picture leaves zeros in the answer, but for its offset, which is 0 for a header that is read.
pub picture-refused : (input : List ℕ) (n : Refusal) {s : List ℕ}
    → PictureCrosses (read_picture input) (number_of n) s → s ≡ offset_in (header_of input) ∷ 0 ∷ 0 ∷ 0 ∷ []
picture-refused = refusing.picture-refused

-- ---- what an accepted run leaves: its number is 0; in the answer's array the rounds made stand at place 0, the final
-- total at place 3

module _ (s ks ws : List ℕ) (k limit : ℕ) (ms ts : List ℕ) {members totals shades answer : List ℕ}
    (h : RunCrosses (run_of (record_in s) ks ws k limit ms ts) done members totals shades answer) where
  -- The recorded totals never rise.
  pub totals-never-rise : (n : ℕ) → n + 1 < get_or answer 0 0 → get_or totals (n + 1) 0 ≤ get_or totals n 0
  totals-never-rise = runs.totals-never-rise s ks ws k limit ms ts h

  -- The final total is not above the last recorded one.
  pub final-at-most-last : get_or answer 3 0 ≤ get_or totals (get_or answer 0 0 - 1) 0
  final-at-most-last = runs.final-at-most-last s ks ws k limit ms ts h

  -- For the grouping in the members no other shades, with any whole coordinates, give a smaller total.
  pub final-is-least : (z : ℕ → Point)
      → get_or answer 3 0
      ≤ sum (record_in s).used (λ i. get_or ws i 0 * distance (colour_at ks i) (z (get_or members i 0)))
  final-is-least = runs.final-is-least s ks ws k limit ms ts h

  -- Group by group, times 4W: the cost is never below the least that fractional shades could give this grouping, and
  -- above it by at most three quarters of a squared sixteenth a pixel; an empty group costs nothing.
  pub group-bounded : (q : ℕ)
      → Bounded (group_at (colours_of (record_in s).used ks ws) (state_of shades members) q)
      (group_cost (colours_of (record_in s).used ks ws) (state_of shades members) q)
  group-bounded = runs.group-bounded s ks ws k limit ms ts h

  -- The palette of what it leaves: kf_palette_from_groups on the same table, the first 3k of the coordinates and the
  -- members, with three bytes for each shade.
  module _ (d : List ℕ) {r : ℕ} {x : List ℕ} (room : 3 * k ≤ length d)
      (p : PaletteCrosses (palette_from_groups (record_in s) ks ws (state_of (take (3 * k) shades) members) d) r x)
    where
      -- It is never refused.
      pub palette-accepted : r ≡ done
      palette-accepted = runs.palette-accepted s ks ws k limit ms ts h d room p

      -- In each channel of a shade with a group it has the level nearest to the exact mean of the group, a half going
      -- up.
      pub palette-is-nearest : (q e : ℕ) → q < k → e < 3
          → 0 < W (channel_group (record_in s) ks ws (state_of shades members) q e)
          → Nearest (W (channel_group (record_in s) ks ws (state_of shades members) q e))
          (S (channel_group (record_in s) ks ws (state_of shades members) q e)) (get_or x (3 * q + e) 0)
      palette-is-nearest = runs.palette-is-nearest s ks ws k limit ms ts h d room p

-- ---- what an accepted Jancey run leaves: in the answer's array settled stands at place 1, as 1 or 0

module _ (s ks ws : List ℕ) (k limit : ℕ) (ms ts : List ℕ) {members totals shades answer : List ℕ}
    (h : RunCrosses (jancey_run (record_in s) ks ws k limit ms ts) done members totals shades answer) where
  -- The recorded totals never rise.
  pub jancey-totals-never-rise : (n : ℕ) → n + 1 < get_or answer 0 0 → get_or totals (n + 1) 0 ≤ get_or totals n 0
  jancey-totals-never-rise = runs.jancey-totals-never-rise s ks ws k limit ms ts h

  -- The final total is not above the last recorded one.
  pub jancey-final-at-most-last : get_or answer 3 0 ≤ get_or totals (get_or answer 0 0 - 1) 0
  jancey-final-at-most-last = runs.jancey-final-at-most-last s ks ws k limit ms ts h

  -- Where it is settled, each shade with a group stands on the rounded mean of its group.
  pub jancey-settled-on-mean : get_or answer 1 0 ≡ 1 → (q : ℕ) → q < k
      → 0 < pixels_in (group_at (colours_of (record_in s).used ks ws) (state_of shades members) q)
      → shade_at shades q ≡ mean_of (group_at (colours_of (record_in s).used ks ws) (state_of shades members) q)
  jancey-settled-on-mean = runs.jancey-settled-on-mean s ks ws k limit ms ts h

  -- kf_palette_from_groups on the same table, the first 3k of the coordinates and the members, with three bytes for
  -- each shade, is never refused.
  pub jancey-palette-accepted : (d : List ℕ) {r : ℕ} {x : List ℕ} → 3 * k ≤ length d
      → PaletteCrosses (palette_from_groups (record_in s) ks ws (state_of (take (3 * k) shades) members) d) r x
      → r ≡ done
  jancey-palette-accepted = runs.jancey-palette-accepted s ks ws k limit ms ts h

-- ---- what an accepted run with fixed shades leaves; the lent list is one of bytes

module _ (s ks ws fixed : List ℕ) (k limit : ℕ) (ms ts : List ℕ) {members totals shades answer : List ℕ}
    (h : RunCrosses (fixed_run (record_in s) ks ws fixed k limit ms ts) done members totals shades answer)
    (bytes : Bytes fixed) where
  -- The fixed shades stand in front as they were handed in, times 16.
  pub fixed-stand : (i : ℕ) → i < length fixed → get_or shades i 0 ≡ sixteenth (get_or fixed i 0)
  fixed-stand = runs.fixed-stand s ks ws fixed k limit ms ts h bytes

  -- The recorded totals never rise.
  pub fixed-totals-never-rise : (n : ℕ) → n + 1 < get_or answer 0 0 → get_or totals (n + 1) 0 ≤ get_or totals n 0
  fixed-totals-never-rise = runs.fixed-totals-never-rise s ks ws fixed k limit ms ts h bytes

  -- The final total is not above the last recorded one.
  pub fixed-final-at-most-last : get_or answer 3 0 ≤ get_or totals (get_or answer 0 0 - 1) 0
  fixed-final-at-most-last = runs.fixed-final-at-most-last s ks ws fixed k limit ms ts h bytes

  -- For the last round's grouping no other free shades give a smaller total.
  pub free-final-is-least : (z : ℕ → Point) → ((q : ℕ) → q < fixed_in fixed → z q ≡ shade_at (stock fixed) q)
      → get_or answer 3 0
      ≤ sum (record_in s).used (λ i. get_or ws i 0 * distance (colour_at ks i) (z (get_or members i 0)))
  free-final-is-least = runs.free-final-is-least s ks ws fixed k limit ms ts h bytes

  -- Each free shade's group is bounded by its least, from both sides.
  pub free-group-bounded : (q : ℕ) → fixed_in fixed ≤ q
      → Bounded (group_at (colours_of (record_in s).used ks ws) (state_of shades members) q)
      (group_cost (colours_of (record_in s).used ks ws) (state_of shades members) q)
  free-group-bounded = runs.free-group-bounded s ks ws fixed k limit ms ts h bytes

  -- kf_palette_from_groups_fixed on the same table, the first 3k of the coordinates and the members, told how many are
  -- fixed and lent three bytes for each shade, is never refused, and gives the fixed shades their own bytes.
  pub fixed-palette-is-own : (d : List ℕ) {r : ℕ} {x : List ℕ} → 3 * k ≤ length d
      → PaletteCrosses
      (palette_from_groups_fixed (fixed_in fixed) (record_in s) ks ws (state_of (take (3 * k) shades) members) d) r x
      → (r ≡ done) × ((i : ℕ) → i < length fixed → get_or x i 0 ≡ get_or fixed i 0)
  fixed-palette-is-own = runs.fixed-palette-is-own s ks ws fixed k limit ms ts h bytes
