-- The listing of an input, on every input: the text of what is listed.
use Rattle.std.specs.Prelude.{ℕ, ◌*◌, List, length, take, replicate, Result, Ok, Err}
use Rattle.refusal.specs.{Refusal, number_of}
use Rattle.texts.specs.{lines_of, with_text}
use Rattle.listing_lines.specs.{most_text, refused_text, lines_for}
use Rattle.listing_work.specs.{Work, made_work, work_picture}
use Rattle.listing.specs.Works.{work_input}
use Rattle.listing.specs.declared.Listing.{Listing}

-- the lines that tell what the calls left
abbrev pub work_lines : Work → List (List ℕ)
work_lines w = lines_for w.summary (take (3 * w.shades) w.palette) (take w.pixels w.index)

-- its text: these lines, or that of the refusal
abbrev pub work_text : Result Work Refusal → List ℕ
work_text (Ok w) = lines_of (work_lines w)
work_text (Err n) = refused_text (number_of n)

-- the lines of a picture and its shades
abbrev pub listing_lines : List ℕ → ℕ → List (List ℕ)
listing_lines p count = work_lines (made_work p count)

-- the text of a picture that is accepted: its lines, or the refusal of run or mapping
unfoldable pub picture_text : List ℕ → ℕ → List ℕ
picture_text p count = work_text (work_picture p count)

-- the text of an input
unfoldable pub listing_text : List ℕ → List ℕ
listing_text s = work_text (work_input s)

-- the room of a listing, zeros
unfoldable pub text_room : List ℕ
text_room = replicate most_text 0

-- the answer: the text in front of zeros, and its length
abbrev pub listing_of : List ℕ → Listing
listing_of s = record { length = length (listing_text s); text = with_text 0 (listing_text s) text_room }
