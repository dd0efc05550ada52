-- What is shown of the sheets, A to I: entries 0 to 8 of one table of examples. Each body names the proof.
use Prim.Native.Nat.{ℕ, ◌<◌}
use mathlib.Core.Bool.{true}
use mathlib.Core.Path.{◌≡◌}
use lib.ListN.{length}
use Rattle.sheets.specs.Examples.{all_hold, example_at}
use Rattle.sheets.specs.Table.{sheets}
use Rattle.sheets.proofs.Table as table

-- Every sheet of the table comes out as document 01 writes it, by one test that is computed.
pub all_hold_lem : all_hold sheets ≡ true
all_hold_lem = table.sheets-hold

-- So of every sheet the numbers that the definitions give are, row by row, the numbers written down.
pub each_holds : (i : ℕ) → i < length sheets → (example_at sheets i).computed ≡ (example_at sheets i).written
each_holds = table.each-of-all sheets all_hold_lem
