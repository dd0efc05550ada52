-- The header: "P6"; one or more white bytes and comments; width; the same; height; the same; depth; exactly one white
-- byte.
use Rattle.std.specs.Prelude.{ℕ, ◌+◌, cond, List, [], ◌∷◌, ◌≡◌, eqb, Result, Ok, Err}
use Rattle.refusal.specs.{number_of, done, BadHeader}
use Rattle.grammar.specs.{byte_at, Reading}
use Rattle.p6_gap.specs.{is_white}
use Rattle.p6_header.specs.Bytes.{letter_p, figure_six}
use Rattle.p6_header.specs.Fields.{field_at}
use Rattle.p6_header.specs.declared.Header.{Header}

-- what reading a header yields: its numbers and the first place after it, or the place of the first byte that cannot
-- stand there, which is the input's length where it ends early
abbrev pub HeaderReading : Type 0
HeaderReading = Result Header ℕ

-- a header that was read, with these numbers and this first place after it
abbrev pub header_with : ℕ → ℕ → ℕ → ℕ → HeaderReading
header_with width height depth start =
    Ok (record { width = width; height = height; depth = depth; start = start })

-- ---- how a header is read

-- what follows a number, where it was read; where it failed, the header fails there
abbrev pub and_then : Reading → (ℕ → ℕ → HeaderReading) → HeaderReading
and_then (Ok number) more = more number.value number.next
and_then (Err at) more = Err at

-- exactly one white byte after the depth ends the header
abbrev pub last_white : List ℕ → ℕ → ℕ → ℕ → ℕ → HeaderReading
last_white input width height depth at =
    cond (is_white (byte_at input at)) (header_with width height depth (at + 1)) (Err at)

-- the three numbers after "P6", each by a way to read a field, and the white byte
abbrev pub fields_by : (List ℕ → ℕ → Reading) → List ℕ → HeaderReading
fields_by field input =
    and_then (field input 2) (λ width at.
    and_then (field input at) (λ height at.
    and_then (field input at) (λ depth at. last_white input width height depth at)))

-- "P6", and then these
abbrev pub header_by : (List ℕ → ℕ → Reading) → List ℕ → HeaderReading
header_by field input =
    cond (eqb (byte_at input 0) letter_p)
    (cond (eqb (byte_at input 1) figure_six) (fields_by field input) (Err 1)) (Err 0)

-- the header at the front of an input
unfoldable pub header_of : List ℕ → HeaderReading
header_of input = header_by field_at input

-- ---- what it says, case by case

-- its number in document 01
abbrev pub header_number : HeaderReading → ℕ
header_number (Ok header) = done
header_number (Err at) = number_of BadHeader

-- its values: width, height, depth and the first place after the header, or the place it failed
abbrev pub header_values : HeaderReading → List ℕ
header_values (Ok header) = header.width ∷ header.height ∷ header.depth ∷ header.start ∷ []
header_values (Err at) = at ∷ []

-- it says this number and these values
abbrev pub HeaderSays : HeaderReading → ℕ → List ℕ → Type 0
HeaderSays header number values = (header_number header ≡ number) × (header_values header ≡ values)

-- the place it failed; 0 where it did not
abbrev pub offset_in : HeaderReading → ℕ
offset_in (Ok header) = 0
offset_in (Err at) = at
