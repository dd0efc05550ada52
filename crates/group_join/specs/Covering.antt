-- How many entries the groups' sums are over, in the middle of a grouping.
use Rattle.std.specs.Prelude.{ℕ, Bool, true, false, cond}
use Rattle.group_join.specs.declared.Follow.{Follow}
use Rattle.group_join.specs.declared.Follow.TheVariants.{Anew, Onward}

-- are the sums taken anew?
abbrev pub anew : Follow → Bool
anew Anew = true
anew Onward = false

-- how many entries the groups' sums are over, once the first i have joined: those, where the sums are taken anew, and
-- all where they go on from the former groups
abbrev pub covered : Bool → ℕ → ℕ → ℕ
covered anew used i = cond anew i used
