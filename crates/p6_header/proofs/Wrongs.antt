-- Where a header fails: at the first byte that cannot stand there, or at the end of an input that ends early, and there
-- alone. The machine says so of the front of every input, and it says what is read.
use Prim.Native.Nat.{ℕ}
use mathlib.Core.List.{List}
use mathlib.Core.Logic.{◌↔◌}
use mathlib.Core.Option.{none, some, some-ne-none, none-ne-some, some-injective}
use mathlib.Core.Path.{◌≡◌, refl, sym, ap, ◌∙◌}
use Rattle.std.proofs.Common.{Ok, Err}
use Rattle.grammar.specs.{Fronts, step_items, nothing_left, front_step, judge_front}
use Rattle.grammar.proofs.Promises as grammar
use Rattle.grammar.proofs.Places.{front-first}
use Rattle.p6_header.specs.Headers.{HeaderReading, header_of}
use Rattle.p6_header.specs.Standing.{FirstWrong, HeaderIn, IsHeader}
use Rattle.p6_header.proofs.Items.{after, header_items, front-complete}
use Rattle.p6_header.proofs.Walks.{wrong_in, header-says}
use Rattle.p6_header.proofs.Headers.{header-stands, header-reads}
use Rattle.p6_header.proofs.Alone.{stands-front, front-stands}

-- the machine says what is read
said : (s : List ℕ) → judge_front after header_items s ≡ wrong_in (header_of s)
said s = sym (front-first after header_items s) ∙ header-says s

-- where no place is wrong a header is read
read_none : (s : List ℕ) (x : HeaderReading) → header_of s ≡ x → wrong_in x ≡ none → Fronts IsHeader s
read_none s (Ok h) e z =
    let stands = header-stands s h.width h.height h.depth h.start e in
    stands-front s h.width h.height h.depth h.start stands
read_none s (Err at) e z = absurd (some-ne-none at z)

-- where one is wrong it failed there
failed-at : (x : HeaderReading) (at : ℕ) → wrong_in x ≡ some at → x ≡ Err at
failed-at (Ok h) at e = absurd (none-ne-some at e)
failed-at (Err b) at e = ap {B = HeaderReading} Err (some-injective b at e)

-- the machine takes exactly the inputs that begin with a header
front-exactly : (s : List ℕ) → (judge_front after header_items s ≡ none) ↔ Fronts IsHeader s
front-exactly s = (
  λ e. read_none s (header_of s) refl (sym (said s) ∙ e),
  λ f. said s ∙ ap wrong_in (header-reads s _ _ _ _ (front-stands s f)),
)

-- a header fails at the first wrong byte, and nowhere else
pub header-fails-exactly : (s : List ℕ) (at : ℕ) → (header_of s ≡ Err at) ↔ FirstWrong s at
header-fails-exactly s at =
    let machine =
    grammar.wrong-exactly (front_step (step_items after) nothing_left) nothing_left front-complete (Fronts IsHeader)
    header_items front-exactly s at in (
      λ e. machine.0 (said s ∙ ap wrong_in e),
      λ f. failed-at (header_of s) at (sym (said s) ∙ machine.1 f),
    )

-- where a header stands no byte is wrong
pub stands-not-wrong : (s : List ℕ) (w h d n at : ℕ) → HeaderIn s w h d n → ¬ FirstWrong s at
stands-not-wrong s w h d n at is = grammar.word-not-wrong (Fronts IsHeader) s at (stands-front s w h d n is)
