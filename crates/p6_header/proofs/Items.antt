-- A header as a machine that reads byte by byte: what is to come, item by item. Every state can be completed: by the
-- digit 1, a blank or an LF.
use Prim.Native.Nat.{ℕ, suc}
use mathlib.Core.Bool.{cond}
use mathlib.Core.List.{List, [], ◌∷◌}
use mathlib.Core.Option.{Option, none, some}
use mathlib.Core.Path.{refl}
use lib.Dec.{eqb, ltb}
use borrow.Author.Tests.{eq-eqb}
use Rattle.grammar.specs.{is_digit, most_digits, step_items, nothing_left, front_step, Completes}
use Rattle.grammar.proofs.Promises.{items-complete, front-completes}
use Rattle.p6_gap.specs.{is_white, hash, ends_comment}
use Rattle.p6_header.specs.Bytes.{letter_p, figure_six}

-- a part of the header: one with another part behind it, or the depth
pub data Part : Type 0 where
  inner : Part
  last : Part

-- what is to come: this byte; what ends a part; white bytes and comments, if there are any, a number and what ends it;
-- of these, what follows so many digits; or the rest of a comment
pub data Item : Type 0 where
  exact : ℕ → Item
  stop : Part → Item
  number : Part → Item
  digits : Part → ℕ → Item
  comment : Item

-- a white byte or a comment and then these items; no other byte can stand
abbrev pub gap_then : List Item → ℕ → Option (List Item)
gap_then items byte = cond (is_white byte) (some items) (cond (eqb byte hash) (some (comment ∷ items)) none)

-- a part ends with a white byte or a comment, the depth with a white byte alone
abbrev pub end_part : Part → ℕ → Option (List Item)
end_part inner byte = gap_then [] byte
end_part last byte = cond (is_white byte) (some []) none

-- what comes instead of an item after a byte; none where the byte cannot stand
abbrev pub after : Item → ℕ → Option (List Item)
after (exact wanted) byte = cond (eqb byte wanted) (some []) none
after (stop part) byte = end_part part byte
after (number part) byte = cond (is_digit byte) (some (digits part 1 ∷ [])) (gap_then (number part ∷ []) byte)
after (digits part count) byte =
    cond (is_digit byte) (cond (ltb count most_digits) (some (digits part (suc count) ∷ [])) none) (end_part part byte)
after comment byte = cond (ends_comment byte) (some []) (some (comment ∷ []))

-- a header: what ends a part is the first that must stand before the next
abbrev pub header_items : List Item
header_items =
    exact letter_p ∷ exact figure_six ∷ stop inner ∷ number inner ∷ number inner ∷ number last ∷ []

-- every item can be completed
item-complete : (item : Item) → Completes (step_items after) nothing_left (item ∷ [])
unfolding is_white is_digit ends_comment
item-complete (exact wanted) = record { more = wanted ∷ []; accepted = rw (eq-eqb wanted wanted refl) }
item-complete (stop inner) = record { more = 32 ∷ []; accepted = refl }
item-complete (stop last) = record { more = 32 ∷ []; accepted = refl }
item-complete (number inner) = record { more = 49 ∷ 32 ∷ []; accepted = refl }
item-complete (number last) = record { more = 49 ∷ 32 ∷ []; accepted = refl }
item-complete (digits inner count) = record { more = 32 ∷ []; accepted = refl }
item-complete (digits last count) = record { more = 32 ∷ []; accepted = refl }
item-complete comment = record { more = 10 ∷ []; accepted = refl }

-- so every state can, also of the machine that looks at the front of its input
pub front-complete : (items : List Item) → Completes (front_step (step_items after) nothing_left) nothing_left items
front-complete items =
    front-completes (step_items after) nothing_left items (items-complete after item-complete items)
