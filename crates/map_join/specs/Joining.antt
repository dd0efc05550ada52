-- Which slots are joined.
use Rattle.std.specs.Prelude.{ℕ}

-- the most slots that are joined
abbrev pub few_slots : ℕ
few_slots = 256
