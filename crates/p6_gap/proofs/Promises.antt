-- What is shown of the gap between two parts, for whoever cites it. Each body names the proof.
use Prim.Native.Nat.{ℕ}
use mathlib.Core.List.{List}
use mathlib.Core.Logic.{◌↔◌}
use mathlib.Core.Path.{◌≡◌}
use Rattle.p6_gap.specs.Gaps.{gap_end}
use Rattle.p6_gap.specs.Standing.{GapRead}
use Rattle.p6_gap.proofs.Gaps as gaps

-- White bytes and comments from a place on are read up to another exactly where they stand so: up to the first byte
-- that is neither white nor `#`, or with a comment that never ends up to the input's length.
pub gap-reads-exactly : (s : List ℕ) (a e : ℕ) → (gap_end s a ≡ e) ↔ GapRead s a e
gap-reads-exactly = gaps.gap-reads-exactly
