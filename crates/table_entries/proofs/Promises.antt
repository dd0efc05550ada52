-- What is shown of tables and pixels, each theorem in full; its body names the proof.
use mathlib.Core.Path.{◌≡◌}
use mathlib.Core.Bool.{true}
use mathlib.Core.List.{List, ◌++◌}
use Prim.Native.Nat.{ℕ, ◌+◌, ◌≤◌}
use lib.ListN.{length}
use Rattle.number.specs.{sum_of}
use Rattle.colour.specs.{most_pixels}
use Rattle.table_entries.specs.Content.{
  Entry,
  entries,
  keys_into,
  weights_into,
  pixels_of,
  levels_of,
  weight_of,
  sound,
}
use Rattle.table_entries.specs.Strip.{count_of, Keys}
use Rattle.table_entries.specs.Adding.{put_all, taken_of, with_taken, Prefix}
use Rattle.table_entries.proofs.Gives as gives
use Rattle.table_entries.proofs.Same as same
use Rattle.table_entries.proofs.Slices as slices
use Rattle.table_entries.proofs.Takes as takes

-- Pixels added raise the weight of each colour by the number of its pixels.
pub weights-of-pixels : (c : ℕ) (es : List Entry) (ps : List ℕ)
    → weight_of c (put_all es ps) ≡ weight_of c es + count_of c ps
weights-of-pixels = gives.put_all-weight

-- The pixel total goes up by the number of pixels added.
pub total-of-pixels : (es : List Entry) (ps : List ℕ) → pixels_of (put_all es ps) ≡ pixels_of es + length ps
total-of-pixels = gives.put_all-pixels

-- The sum of a channel goes up by the levels of the pixels added, f being the channel's level.
pub levels-of-pixels : (f : ℕ → ℕ) (es : List Entry) (ps : List ℕ)
    → levels_of f (put_all es ps) ≡ levels_of f es + sum_of f ps
levels-of-pixels = gives.put_all-levels

-- A table whose keys rise strictly, with weights of at least 1, stays one.
pub sound-with-pixels : (es : List Entry) {ps : List ℕ} → Keys ps → sound 0 es ≡ true → sound 0 (put_all es ps) ≡ true
sound-with-pixels = gives.put_all-sound

-- Two lists of pixels, one after the other, are the lists joined.
pub pixels-joined : (es : List Entry) (ps qs : List ℕ) → put_all es (ps ++ qs) ≡ put_all (put_all es ps) qs
pixels-joined = gives.put_all-append

-- Two sound tables that give every colour the same weight are the same table.
pub table-is-its-weights : (low : ℕ) (es fs : List Entry) → sound low es ≡ true → sound low fs ≡ true
    → ((c : ℕ) → weight_of c es ≡ weight_of c fs) → es ≡ fs
table-is-its-weights = same.same-table

-- A table laid into the fronts of two slices is read back from them.
pub laid-is-read : (es : List Entry) (ks ws : List ℕ) → entries (length es) (keys_into es ks) (weights_into es ws) ≡ es
laid-is-read es ks ws = slices.entries-laid es _ _

-- The pixels taken are the longest prefix that goes in, pixel by pixel.
pub taken-is-longest : (room : ℕ) (es : List Entry) (ps : List ℕ) → Prefix room es ps (taken_of room es ps)
taken-is-longest = takes.taken-prefix

-- No other number of pixels is.
pub longest-only : (room : ℕ) (es : List Entry) (ps : List ℕ) (n : ℕ) → Prefix room es ps n → n ≡ taken_of room es ps
longest-only = takes.prefix-only

-- The table with the pixels taken is within the room and has at most 16,777,216 pixels.
pub taken-within-limits : (room : ℕ) (es : List Entry) {ps : List ℕ} → Keys ps → sound 0 es ≡ true → length es ≤ room
    → pixels_of es ≤ most_pixels → (length (with_taken room es ps) ≤ room)
    × (pixels_of (with_taken room es ps) ≤ most_pixels)
taken-within-limits = takes.taken-fits
