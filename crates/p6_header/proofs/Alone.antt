-- A header stands in every input that has its bytes. So one at the front of an input is a header alone, and one alone
-- is a header at the front of whatever it is followed by.
use Prim.Native.Nat.{ℕ, ◌+◌, ◌≤◌, ◌<◌}
use mathlib.Core.List.{List, ◌++◌}
use mathlib.Core.Path.{◌≡◌, sym, ap, ◌∙◌}
use native.Mathlib.Omega.{arith}
use lib.ListN.{length, take, get_or-append}
use lib.Seq.{get_or-take, length-take-le}
use Rattle.grammar.specs.{byte_at, is_digit, Fronts}
use Rattle.grammar.proofs.Decimals.{decimal-same}
use Rattle.p6_gap.specs.{is_white}
use Rattle.p6_gap.proofs.Same.{gap_same}
use Rattle.p6_header.specs.Standing.{Field, HeaderIn, IsHeader}
use Rattle.p6_header.proofs.Fields.{field-later}
use Rattle.p6_header.proofs.Headers.{header-long, header-inside}

module _ (s t : List ℕ) (n : ℕ) (same : (i : ℕ) → i < n → byte_at s i ≡ byte_at t i) where
  -- a field stands in another input with the same bytes
  field-same : (a b value : ℕ) → Field s a b value → b ≤ n → Field t a b value
  field-same a b value f h = record {
    start = f.start;
    digits = f.digits;
    gap = gap_same s t n same a f.start f.gap (omega (arith, f.ends));
    some_digit = f.some_digit;
    few_digits = f.few_digits;
    digit = λ i l. ap is_digit (sym (same (f.start + i) (omega (arith, f.ends)))) ∙ f.digit i l;
    is = f.is ∙ decimal-same f.digits _ _ (λ i l. same (f.start + i) (omega (arith, f.ends)));
    ends = f.ends;
  }

  -- and so a header
  header-same : (w h d : ℕ) → HeaderIn s w h d n → HeaderIn t w h d n
  header-same w h d H =
      let second = field-later s H.after-width H.after-height h H.height_is in
      let third = field-later s H.after-height H.after-depth d H.depth_is in
      record {
        after-width = H.after-width;
        after-height = H.after-height;
        after-depth = H.after-depth;
        letter = sym (same 0 (omega (arith, H.ends))) ∙ H.letter;
        figure = sym (same 1 (omega (arith, header-long s w h d n H))) ∙ H.figure;
        width_is = field-same 2 H.after-width w H.width_is (omega (arith, H.ends, second, third));
        height_is = field-same H.after-width H.after-height h H.height_is (omega (arith, H.ends, third));
        depth_is = field-same H.after-height H.after-depth d H.depth_is (omega (arith, H.ends));
        last = ap is_white (sym (same H.after-depth (omega (arith, H.ends)))) ∙ H.last;
        ends = H.ends;
      }

-- an input and its first bytes have these in common
front_bytes : (s : List ℕ) (n i : ℕ) → i < n → byte_at (take n s) i ≡ byte_at s i
front_bytes s n i h = rw get_or-take

-- a header at the front of an input is one alone
pub header-alone : (s : List ℕ) (w h d n : ℕ) → HeaderIn s w h d n → HeaderIn (take n s) w h d (length (take n s))
header-alone s w h d n H =
    rw (length-take-le n s (header-inside s w h d n H))
    (header-same s (take n s) n (λ i l. sym (front_bytes s n i l)) w h d H)

-- one alone is a header at the front of whatever it is followed by, and ends where its own bytes end
pub header-before : (u : List ℕ) (w h d : ℕ) → HeaderIn u w h d (length u) → (behind : List ℕ)
    → HeaderIn (u ++ behind) w h d (length u)
header-before u w h d H behind =
    header-same u (u ++ behind) (length u) (λ i l. sym (get_or-append u behind 0 i l)) w h d H

-- an input with a header at its front begins with one
pub stands-front : (s : List ℕ) (w h d n : ℕ) → HeaderIn s w h d n → Fronts IsHeader s
stands-front s w h d n H = record {
  size = n;
  within = header-inside s w h d n H;
  word = record { width = w; height = h; depth = d; is = header-alone s w h d n H };
}

-- and one that begins with a header has it at its front
pub front-stands : (s : List ℕ) (f : Fronts IsHeader s)
    → HeaderIn s f.word.width f.word.height f.word.depth f.size
front-stands s f =
    header-same (take f.size s) s f.size (front_bytes s f.size) _ _ _
    (rw (length-take-le f.size s f.within) at f.word.is)
