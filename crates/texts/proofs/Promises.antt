-- What is shown of texts in a buffer, for whoever cites it. Each body names the proof.
use Prim.Native.Nat.{ℕ}
use mathlib.Core.List.{List, ◌++◌}
use mathlib.Core.Path.{◌≡◌, sym, ◌∙◌}
use lib.ListN.{length}
use Rattle.texts.specs.Putting.{PutMeets}
use Rattle.texts.proofs.Texts as texts

-- Whatever meets the contract of a put is one place and one buffer.
pub put_only : {a r r' : ℕ} {t d x x' : List ℕ} → PutMeets a t d r x → PutMeets a t d r' x' → (r ≡ r') × (x ≡ x')
put_only p q = (p.ends ∙ sym q.ends, p.text_is ∙ sym q.text_is)

-- Two puts, the second at the place that the first answered, put the two texts as one.
pub put_then : {a b c : ℕ} {t u d x y : List ℕ} → PutMeets a t d b x → PutMeets b u x c y
    → PutMeets a (t ++ u) d c y
put_then = texts.put_then

-- A put keeps the buffer's length.
pub put-length : {a b : ℕ} {t d x : List ℕ} → PutMeets a t d b x → length x ≡ length d
put-length = texts.put-length
