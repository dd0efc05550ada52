-- Laws of the entries in two slices, place by place: what places hold sound entries, and what sound entries hold.
use mathlib.Core.Path.{◌≡◌, refl}
use mathlib.Core.Bool.{true}
use mathlib.Core.List.{List, [], ◌∷◌}
use Prim.Native.Nat.{ℕ, zero, suc, ◌+◌, ◌*◌, ◌≤◌, ◌<◌}
use native.Mathlib.Omega.{arith}
use native.Mathlib.Nat.{le_of_suc-le-suc, not-suc-le-zero}
use native.Mathlib.Numerals.{add-one}
use lib.ListN.{length, get_or}
use lib.Seq.{get_or-take}
use Rattle.number.specs.{sum, sum_of}
use Rattle.number.proofs.Sums.{sum-front}
use Rattle.colour.specs.{most_key}
use Rattle.table_entries.specs.Content.{Entry, entry, weights_of, entries, pixels_of, levels_of, sound}
use Rattle.table_entries.proofs.Sounds.{sound-cons, cons-sound}
use Rattle.table_entries.proofs.Slices.{entries-length, entries-weights}

-- the first n places of both slices, the first key at least `low`, as a sound table has them
pub record Rows (low n : ℕ) (ks ws : List ℕ) : Type 0 where
  pub in_keys : n ≤ length ks
  pub in_weights : n ≤ length ws
  pub from : 0 < n → low ≤ get_or ks 0 0
  pub rises : (i : ℕ) → i + 1 < n → get_or ks i 0 < get_or ks (i + 1) 0
  pub upto : (i : ℕ) → i < n → get_or ks i 0 ≤ most_key
  pub some : (i : ℕ) → i < n → 1 ≤ get_or ws i 0

-- the first place taken off
rows-rest : (low n k w : ℕ) (ks ws : List ℕ) → Rows low (suc n) (k ∷ ks) (w ∷ ws) → Rows (k + 1) n ks ws
rows-rest low n k w ks ws r = record {
  in_keys = le_of_suc-le-suc r.in_keys;
  in_weights = le_of_suc-le-suc r.in_weights;
  from = λ l. omega (arith, r.rises 0 (omega arith));
  rises = λ i l. rw (add-one i) (rw (add-one (suc i)) at (r.rises (suc i) (omega arith)));
  upto = λ i l. r.upto (suc i) (omega arith);
  some = λ i l. r.some (suc i) (omega arith);
}

-- such places hold sound entries
pub sound-of-rows : (low n : ℕ) (ks ws : List ℕ) → Rows low n ks ws → sound low (entries n ks ws) ≡ true
sound-of-rows low zero ks ws r = refl
sound-of-rows low (suc n) [] ws r = refl
sound-of-rows low (suc n) (k ∷ ks) [] r = refl
sound-of-rows low (suc n) (k ∷ ks) (w ∷ ws) r = cons-sound low (entry k w) (entries n ks ws) record {
  from = r.from (omega arith);
  upto = r.upto 0 (omega arith);
  some = r.some 0 (omega arith);
  rest = sound-of-rows (k + 1) n ks ws (rows-rest low n k w ks ws r);
}

-- each weight of sound entries is at least 1
sound-weights : (low : ℕ) (es : List Entry) → sound low es ≡ true
    → (i : ℕ) → i < length es → 1 ≤ get_or (weights_of es) i 0
sound-weights low [] h i l = absurd (not-suc-le-zero l)
sound-weights low (e ∷ es) h zero l = (sound-cons low e es h).some
sound-weights low (e ∷ es) h (suc i) l =
    sound-weights (e.key + 1) es (sound-cons low e es h).rest i (le_of_suc-le-suc l)

-- and so is each weight as it lies
pub weights-some : (n : ℕ) (ks ws : List ℕ) → n ≤ length ks → n ≤ length ws → sound 0 (entries n ks ws) ≡ true
    → (i : ℕ) → i < n → 1 ≤ get_or ws i 0
weights-some n ks ws a b h i l =
    rw (entries-weights n ks ws a b, get_or-take n ws i 0 l)
    at (sound-weights 0 (entries n ks ws) h i (omega (arith, entries-length n ks ws a b)))

-- g over the entries of the first n places is added up place by place
entries-sum : (g : Entry → ℕ) (n : ℕ) (ks ws : List ℕ) → n ≤ length ks → n ≤ length ws
    → sum_of g (entries n ks ws) ≡ sum n (λ i. g (entry (get_or ks i 0) (get_or ws i 0)))
unfolding sum
entries-sum g zero ks ws a b = refl
entries-sum g (suc n) [] ws a b = absurd (not-suc-le-zero a)
entries-sum g (suc n) (k ∷ ks) [] a b = absurd (not-suc-le-zero b)
entries-sum g (suc n) (k ∷ ks) (w ∷ ws) a b =
    omega (
      arith,
      sum-front n (λ i. g (entry (get_or (k ∷ ks) i 0) (get_or (w ∷ ws) i 0))),
      entries-sum g n ks ws (le_of_suc-le-suc a) (le_of_suc-le-suc b),
    )

-- the pixels of the first n places are the sum of their weights
pub pixels-sum : (n : ℕ) (ks ws : List ℕ) → n ≤ length ks → n ≤ length ws
    → pixels_of (entries n ks ws) ≡ sum n (λ i. get_or ws i 0)
pixels-sum = entries-sum (λ (e : Entry). e.weight)

-- and f of their keys, weights counted, is the sum of weight times f
pub levels-sum : (f : ℕ → ℕ) (n : ℕ) (ks ws : List ℕ) → n ≤ length ks → n ≤ length ws
    → levels_of f (entries n ks ws) ≡ sum n (λ i. get_or ws i 0 * f (get_or ks i 0))
levels-sum f = entries-sum (λ (e : Entry). e.weight * f e.key)
