-- What is shown of headers, for whoever cites it. Each body names the proof.
use Prim.Native.Nat.{ℕ, suc, ◌≤◌, ◌<◌}
use mathlib.Core.Bool.{true}
use mathlib.Core.List.{List, [], ◌∷◌, ◌++◌}
use mathlib.Core.Logic.{◌↔◌}
use mathlib.Core.Path.{◌≡◌}
use lib.ListN.{length, take}
use Rattle.refusal.specs.{number_of, done, BadHeader}
use Rattle.grammar.specs.{byte_at, Reading, Fronts, GoesOn}
use Rattle.grammar.proofs.Promises as grammar
use Rattle.p6_gap.specs.{is_white, hash, Unended, replaced}
use Rattle.p6_header.specs.Fields.{field_at, reading_number, reading_values, ReadingSays}
use Rattle.std.proofs.Common.{Err}
use Rattle.p6_header.specs.Headers.{HeaderReading, header_with, header_of, header_number, header_values, HeaderSays}
use Rattle.p6_header.specs.Plain.{plain_header}
use Rattle.p6_header.specs.Standing.{FieldFailed, FieldRead, FirstWrong, HeaderIn, IsHeader, Between}
use Rattle.p6_header.proofs.Alone as alone
use Rattle.p6_header.proofs.Cases as cases
use Rattle.p6_header.proofs.Headers as headers
use Rattle.p6_header.proofs.Plain as plain
use Rattle.p6_header.proofs.Replaced as replacing
use Rattle.p6_header.proofs.Unended as unended
use Rattle.p6_header.proofs.Wrongs as wrongs

-- ---- one number

-- White bytes and comments, and a number behind them, are read, which is said by 0, the number and where it ended,
-- exactly where they stand: a number of less than five digits ends before a byte that is no digit.
pub field-reads-exactly : (s : List ℕ) (a b value : ℕ)
    → ReadingSays (field_at s a) done (value ∷ b ∷ []) ↔ FieldRead s a b value
field-reads-exactly = cases.field-says-read

-- They fail, which is said by the number of BAD HEADER and the place, exactly at the first byte that is neither white
-- nor `#` where one must be, or no digit where one must be, or at the input's length in a comment that never ends.
pub field-fails-exactly : (s : List ℕ) (a at : ℕ)
    → ReadingSays (field_at s a) (number_of BadHeader) (at ∷ []) ↔ FieldFailed s a at
field-fails-exactly = cases.field-says-failed

-- Number and values together tell the reading.
pub reading-only : (q r : Reading) → reading_number q ≡ reading_number r → reading_values q ≡ reading_values r → q ≡ r
reading-only = cases.reading-only

-- ---- the header

-- A header is read, which is said by 0, its numbers and the first place after it, exactly where one stands at the front
-- of the input.
pub header-reads-exactly : (s : List ℕ) (w h d n : ℕ)
    → HeaderSays (header_of s) done (w ∷ h ∷ d ∷ n ∷ []) ↔ HeaderIn s w h d n
header-reads-exactly = cases.header-says-read

-- It fails, which is said by the number of BAD HEADER and the place, exactly at the first byte that cannot stand there,
-- or at the input's length if the input ends early: some header has all bytes before that place and goes on, and none
-- has the byte at that place too.
pub header-fails-exactly : (s : List ℕ) (at : ℕ)
    → HeaderSays (header_of s) (number_of BadHeader) (at ∷ []) ↔ FirstWrong s at
header-fails-exactly = cases.header-says-failed

-- So of the first wrong byte: some header has all bytes before it and goes on.
pub wrong-goes-on : (s : List ℕ) (at : ℕ) → FirstWrong s at → GoesOn IsHeader s at
wrong-goes-on = grammar.wrong-goes-on IsHeader

-- And none has that byte too.
pub wrong-stops : (s : List ℕ) (at : ℕ) → FirstWrong s at → at < length s → (header : List ℕ) → IsHeader header
    → at < length header → ¬ (take (suc at) header ≡ take (suc at) s)
wrong-stops = grammar.wrong-stops IsHeader

-- An input has at most one first wrong byte.
pub wrong-only : (s : List ℕ) (a b : ℕ) → FirstWrong s a → FirstWrong s b → a ≡ b
wrong-only = grammar.wrong-only (Fronts IsHeader)

-- An input that begins with a header has none.
pub stands-not-wrong : (s : List ℕ) (w h d n at : ℕ) → HeaderIn s w h d n → ¬ FirstWrong s at
stands-not-wrong = wrongs.stands-not-wrong

-- ---- comments

-- A header with each comment replaced by one white byte, whichever, reads the same numbers, whatever is behind it.
pub comments-as-white : (one : ℕ) → is_white one ≡ true → (s : List ℕ) (w h d n : ℕ) → HeaderIn s w h d n
    → (behind : List ℕ) → header_of (replaced one (take n s) ++ behind) ≡ header_with w h d
    (length (replaced one (take n s)))
comments-as-white one white s w h d n is behind =
    headers.header-reads _ w h d _ (replacing.header-replaced one white s w h d n is behind)

-- The place after a header counts all its bytes, those of comments too: a header before any other bytes is read up to
-- its own length.
pub start-counts-all : (header : List ℕ) (w h d : ℕ) → HeaderIn header w h d (length header) → (behind : List ℕ)
    → header_of (header ++ behind) ≡ header_with w h d (length header)
start-counts-all header w h d is behind =
    headers.header-reads _ w h d _ (alone.header-before header w h d is behind)

-- Where a comment that may open never ends, the header fails at the input's length.
pub unended-fails : (s : List ℕ) (at : ℕ) → Between s at → Unended s at → header_of s ≡ Err (length s)
unended-fails = unended.unended-fails

-- Where no `#` stands between the parts before the depth, the header is read as document 01 reads it, byte for byte.
pub as-without-comments : (s : List ℕ) → ((at : ℕ) → Between s at → ¬ (byte_at s at ≡ hash))
    → header_of s ≡ plain_header s
as-without-comments = plain.header-plain

-- ---- its answer

-- Number and values together tell the header.
pub header-only : (g h : HeaderReading) → header_number g ≡ header_number h → header_values g ≡ header_values h → g ≡ h
header-only = cases.header-only

-- The place after a header that is read is inside the input, or its end.
pub start-inside : (s : List ℕ) (w h d n : ℕ) → header_of s ≡ header_with w h d n → n ≤ length s
start-inside = headers.start-inside
