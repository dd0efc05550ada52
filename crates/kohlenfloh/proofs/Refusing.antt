-- What a refusal leaves in the slices and arrays of the boundary: that of the call beneath, laid into arrays.
use Prim.Native.Nat.{ℕ}
use mathlib.Core.List.{List, [], ◌∷◌}
use mathlib.Core.Bool.{true}
use mathlib.Core.Path.{◌≡◌, refl, ap, sym, ◌∙◌, subst}
use lib.Ieee.{Float}
use lib.ListN.{length, replicate}
use Rattle.std.specs.Prelude.{Some, Option, None, Result, Ok, Err}
use Rattle.refusal.specs.{Refusal, number_of, done, TwinShade, number_in}
use Rattle.refusal.proofs.By.{number-in-only}
use Rattle.std.specs.Result.{result_err}
use Rattle.shades.specs.{most_coordinates}
use Rattle.figures.specs.{zero_figure}
use Rattle.table.specs.{Record, hands_back, add_strip}
use Rattle.table.proofs.Promises as table
use Rattle.method.specs.{State}
use Rattle.lloyd.specs.{RoundOutcome, RunOutcome, kept_round, kept_run, plain_round, short_round, run_of, jancey_run}
use Rattle.lloyd.proofs.Promises as lloyd
use Rattle.lloyd_fixed.specs.{fixed_run}
use Rattle.lloyd_fixed.proofs.Promises as lloyd-fixed
use Rattle.palette.specs.{PaletteOutcome, palette_from_shades}
use Rattle.palette.proofs.Promises as palette
use Rattle.palette_groups.specs.{palette_from_groups, palette_from_groups_fixed}
use Rattle.palette_groups.proofs.Promises as groups
use Rattle.palette_twins.specs.{Twins, no_twins, told_pair, AreTwins, AllDiffer}
use Rattle.palette_twins.proofs.Meaning.{pair-told}
use Rattle.mapping.specs.{Mapped, Unmapped, MapOutcome, refusal_in, answered_twins, twins_told, map_strip}
use Rattle.mapping.proofs.Promises as mapping
use Rattle.p6_header.specs.{header_of, offset_in}
use Rattle.p6.specs.{read_picture}
use Rattle.p6.proofs.Promises as p6
use Rattle.arrays.specs.{
  record_in,
  record_numbers,
  round_numbers,
  run_numbers,
  run_shades,
  map_numbers,
  twins_in,
  map_figures,
  picture_numbers,
}
use Rattle.arrays.proofs.Records.{array-kept}
use Rattle.kohlenfloh.specs.Crossing.{AddCrosses, RoundCrosses, RunCrosses, PaletteCrosses, MapCrosses, PictureCrosses}

-- an add that hands everything back
pub add-refused : (s ks ws strip : List ℕ) (n : Refusal) → hands_back n ≡ true
    → {rec ks' ws' t : List ℕ} → AddCrosses (add_strip (record_in s) ks ws strip) (number_of n) rec ks' ws' t
    → (rec ≡ record_numbers (record_in s)) × (ks' ≡ ks) × (ws' ≡ ws) × (t ≡ 0 ∷ [])
add-refused s ks ws strip n back c =
    let told = number-in-only _ (Some n) (sym c.number) in
    let e = table.refused-as-it-came (record_in s) ks ws strip n back told in (
      c.rec_is ∙ ap (λ o. record_numbers o.answer.rec) e,
      c.keys_are ∙ ap (λ o. o.keys) e,
      c.weights_are ∙ ap (λ o. o.weights) e,
      c.taken_is ∙ ap (λ o. o.answer.taken ∷ []) e,
    )

-- in an array of five numbers the record is as it came
pub record-as-it-came : (s ks ws strip : List ℕ) (n : Refusal) → hands_back n ≡ true → length s ≡ 5
    → {rec ks' ws' t : List ℕ} → AddCrosses (add_strip (record_in s) ks ws strip) (number_of n) rec ks' ws' t → rec ≡ s
record-as-it-came s ks ws strip n back two c = (add-refused s ks ws strip n back c).0 ∙ array-kept s two

-- the number that is told tells the refusal
told : (n : Refusal) (e : Option Refusal) → number_of n ≡ number_in e → e ≡ Some n
told n e same = number-in-only e (Some n) (sym same)

-- a round whose outcome is that of a refusal
round-refused : {o : RoundOutcome} (a : State) (n : Refusal) → o ≡ kept_round a n
    → {cs ms s : List ℕ} → RoundCrosses o (number_of n) cs ms s
    → (cs ≡ a.coordinates) × (ms ≡ a.members) × (s ≡ 0 ∷ 0 ∷ 0 ∷ [])
round-refused a n e c = (
  c.coordinates_are ∙ ap (λ o. o.state.coordinates) e,
  c.members_are ∙ ap (λ o. o.state.members) e,
  c.answer_is ∙ ap (λ o. round_numbers o.answer) e,
)

-- a plain round
pub plain-refused : (rec : Record) (ks ws : List ℕ) (a : State) (n : Refusal) {cs ms s : List ℕ}
    → RoundCrosses (plain_round rec ks ws a) (number_of n) cs ms s
    → (cs ≡ a.coordinates) × (ms ≡ a.members) × (s ≡ 0 ∷ 0 ∷ 0 ∷ [])
plain-refused rec ks ws a n c =
    round-refused a n (lloyd.plain-refused rec ks ws a n (told n _ c.number)) c

-- a shortened round
pub short-refused : (rec : Record) (ks ws : List ℕ) (a : State) (n : Refusal) {cs ms s : List ℕ}
    → RoundCrosses (short_round rec ks ws a) (number_of n) cs ms s
    → (cs ≡ a.coordinates) × (ms ≡ a.members) × (s ≡ 0 ∷ 0 ∷ 0 ∷ [])
short-refused rec ks ws a n c =
    round-refused a n (lloyd.short-refused rec ks ws a n (told n _ c.number)) c

-- a run whose outcome is that of a refusal
run-kept : {o : RunOutcome} (ms ts : List ℕ) (n : Refusal) → o ≡ kept_run ms ts n → {r : ℕ} {ms' ts' shades s : List ℕ}
    → RunCrosses o r ms' ts' shades s
    → (ms' ≡ ms) × (ts' ≡ ts) × (shades ≡ replicate most_coordinates 0) × (s ≡ 0 ∷ 0 ∷ 0 ∷ 0 ∷ [])
run-kept ms ts n e c = (
  c.members_are ∙ ap (λ (o : RunOutcome). o.members) e,
  c.totals_are ∙ ap (λ (o : RunOutcome). o.totals) e,
  c.shades_are ∙ ap (λ (o : RunOutcome). run_shades o.answer) e,
  c.answer_is ∙ ap (λ (o : RunOutcome). run_numbers o.answer) e,
)

-- a run
pub run-refused : (rec : Record) (ks ws : List ℕ) (k limit : ℕ) (ms ts : List ℕ) (n : Refusal)
    {ms' ts' shades s : List ℕ} → RunCrosses (run_of rec ks ws k limit ms ts) (number_of n) ms' ts' shades s
    → (ms' ≡ ms) × (ts' ≡ ts) × (shades ≡ replicate most_coordinates 0) × (s ≡ 0 ∷ 0 ∷ 0 ∷ 0 ∷ [])
run-refused rec ks ws k limit ms ts n c =
    run-kept ms ts n (lloyd.run-refused rec ks ws k limit ms ts n (told n _ c.number)) c

-- and Jancey's
pub jancey-refused : (rec : Record) (ks ws : List ℕ) (k limit : ℕ) (ms ts : List ℕ) (n : Refusal)
    {ms' ts' shades s : List ℕ} → RunCrosses (jancey_run rec ks ws k limit ms ts) (number_of n) ms' ts' shades s
    → (ms' ≡ ms) × (ts' ≡ ts) × (shades ≡ replicate most_coordinates 0) × (s ≡ 0 ∷ 0 ∷ 0 ∷ 0 ∷ [])
jancey-refused rec ks ws k limit ms ts n c =
    run-kept ms ts n (lloyd.jancey-refused rec ks ws k limit ms ts n (told n _ c.number)) c

-- and one with fixed shades
pub fixed-refused : (rec : Record) (ks ws fixed : List ℕ) (k limit : ℕ) (ms ts : List ℕ) (n : Refusal)
    {ms' ts' shades s : List ℕ} → RunCrosses (fixed_run rec ks ws fixed k limit ms ts) (number_of n) ms' ts' shades s
    → (ms' ≡ ms) × (ts' ≡ ts) × (shades ≡ replicate most_coordinates 0) × (s ≡ 0 ∷ 0 ∷ 0 ∷ 0 ∷ [])
fixed-refused rec ks ws fixed k limit ms ts n c =
    run-kept ms ts n (lloyd-fixed.fixed-refused rec ks ws fixed k limit ms ts n (told n _ c.number)) c

-- of a refused palette the number tells which refusal it is
palette-told : {o : PaletteOutcome} (n : Refusal) {x : List ℕ} → PaletteCrosses o (number_of n) x
    → result_err o.answer ≡ Some n
palette-told {o} n c = number-in-only (result_err o.answer) (Some n) (sym c.number)

-- a palette from shades
pub palette-refused : (s d : List ℕ) (n : Refusal) {x : List ℕ}
    → PaletteCrosses (palette_from_shades s d) (number_of n) x → x ≡ d
palette-refused s d n c = c.palette_is ∙ palette.palette-refused-kept s d n (palette-told n c)

-- a palette of groups
pub groups-refused : (rec : Record) (ks ws : List ℕ) (a : State) (d : List ℕ) (n : Refusal) {x : List ℕ}
    → PaletteCrosses (palette_from_groups rec ks ws a d) (number_of n) x → x ≡ d
groups-refused rec ks ws a d n c = c.palette_is ∙ groups.groups-refused-kept rec ks ws a d n (palette-told n c)

-- and one that is told how many are fixed
pub groups-refused-fixed : (f : ℕ) (rec : Record) (ks ws : List ℕ) (a : State) (d : List ℕ) (n : Refusal) {x : List ℕ}
    → PaletteCrosses (palette_from_groups_fixed f rec ks ws a d) (number_of n) x → x ≡ d
groups-refused-fixed f rec ks ws a d n c =
    c.palette_is ∙ groups.groups-refused-kept-fixed f rec ks ws a d n (palette-told n c)

-- of a mapping the number tells which refusal it is
map-told : {o : MapOutcome} {n : Refusal} {x s : List ℕ} {m : List Float} → MapCrosses o (number_of n) x s m
    → refusal_in o.answer ≡ Some n
map-told {o} {n} c = number-in-only (refusal_in o.answer) (Some n) (sym c.number)

-- a mapping
pub map-refused : (strip p d : List ℕ) (first : ℕ) (n : Refusal) {x s : List ℕ} {m : List Float}
    → MapCrosses (map_strip strip p d first) (number_of n) x s m
    → (x ≡ d)
    × (s ≡ 0 ∷ 0 ∷ 0 ∷ 0 ∷ 0 ∷ (told_pair (twins_told p n)).lower ∷ (told_pair (twins_told p n)).higher ∷ [])
    × (m ≡ zero_figure ∷ zero_figure ∷ zero_figure ∷ zero_figure ∷ [])
map-refused strip p d first n c =
    let e = mapping.map-refused-kept strip p d first n (map-told c) in (
      c.index_is ∙ ap (λ o. o.index) e,
      c.answer_is ∙ ap (λ o. map_numbers o.answer) e,
      c.means_are ∙ ap (λ o. map_figures o.answer) e,
    )

-- the twins in an answer laid into an array
twins-laid : (a : Result Mapped Unmapped) → twins_in (map_numbers a) ≡ told_pair (answered_twins a)
twins-laid (Ok r) = refl
twins-laid (Err u) = refl

-- the twins that a mapping tells
twins-cross : {o : MapOutcome} {r : ℕ} {x s : List ℕ} {m : List Float} → MapCrosses o r x s m
    → twins_in s ≡ told_pair (answered_twins o.answer)
twins-cross {o} c = ap twins_in c.answer_is ∙ twins-laid o.answer

module _ (strip p d : List ℕ) (first : ℕ) {x s : List ℕ} {m : List Float} where
  -- with TWIN SHADE
  pub map-twins : MapCrosses (map_strip strip p d first) (number_of TwinShade) x s m → AreTwins p (twins_in s)
  map-twins c =
      subst (AreTwins p) (sym (twins-cross c))
      (pair-told (AreTwins p) _ (mapping.twins-told strip p d first (map-told c)))

  -- with another refusal
  pub map-no-twins : (n : Refusal) → ¬ (n ≡ TwinShade) → MapCrosses (map_strip strip p d first) (number_of n) x s m
      → twins_in s ≡ no_twins
  map-no-twins n other c =
      twins-cross c ∙ ap told_pair (mapping.no-twins-refused strip p d first n (map-told c) other)

  -- and with none, where all entries differ
  pub map-accepted : MapCrosses (map_strip strip p d first) done x s m → (twins_in s ≡ no_twins) × AllDiffer p
  map-accepted c =
      let ok = number-in-only (refusal_in (map_strip strip p d first).answer) None (sym c.number) in (
        twins-cross c ∙ ap told_pair (mapping.no-twins-accepted strip p d first ok),
        mapping.entries-differ strip p d first ok,
      )

-- a picture
pub picture-refused : (input : List ℕ) (n : Refusal) {s : List ℕ}
    → PictureCrosses (read_picture input) (number_of n) s → s ≡ offset_in (header_of input) ∷ 0 ∷ 0 ∷ 0 ∷ []
picture-refused input n c =
    let told = number-in-only _ (Some n) (sym c.number) in
    c.answer_is ∙ ap picture_numbers (p6.picture-refused-answers input n told)
