-- What a figure's value is: error / pixels rounded once, since both conversions lose nothing; and error / pixels itself
-- where the pixel count is a power of two.
use mathlib.Core.Path.{◌≡◌, sym, ap, ◌∙◌}
use mathlib.Core.Bool.{true, false, true≢false}
use Prim.Native.Nat.{ℕ, suc, ◌+◌, ◌-◌, ◌*◌, ◌^◌, ◌≤◌, ◌<◌}
use native.Mathlib.Nat.{mul-one, mul-pos, mul_assoc, mul_comm, zero-mul, le_of_lt, lt_of_lt_of_le}
use native.Mathlib.Omega.{arith}
use borrow.Author.Tests.{ne_eqb}
use lib.Pow.{pow-add, pow_pos, pow_mono, shl_lt}
use lib.Ieee.{Float, nan, inf, fin, binary64, up, down, div, of_int, round, low, emax}
use lib.Ieee.Fits.{up_pos, down_pos}
use lib.Ieee.Exact.{HasValue, round_exact}
use lib.Ieee.Back.{round_whole}
use lib.Ieee.Scale.{round_same}
use Rattle.figures.specs.Figures.{most_exact, figure}

-- a number whose product with another is above 0 is not 0
not-zero : (n u k : ℕ) → 0 < k → n * u * 1 ≡ k → ¬ (n ≡ 0)
not-zero n u k h e z = omega (arith, simp (z, zero-mul) at e)

-- fractions of the values a and b, divided, are the fraction a / b
cross : (x y a b c d : ℕ) → x * 1 ≡ a * c → y * 1 ≡ b * d → x * d * b ≡ a * (y * c)
cross x y a b c d p q =
    let p' : x ≡ a * c = sym (mul-one x) ∙ p in
    let q' : y ≡ b * d = sym (mul-one y) ∙ q in
    rw (p', q')
    (mul_assoc (a * c) d b ∙ mul_assoc a c (d * b)
    ∙ ap (λ (z : ℕ). a * z) (mul_comm c (d * b) ∙ ap (λ (z : ℕ). z * c) (mul_comm d b)))

-- a division of two numbers with the whole values a and b rounds a / b
quotient-rounds : (x y : Float) (a b : ℕ) → 0 < b → HasValue x false a 1 → HasValue y false b 1
    → div binary64 x y ≡ round binary64 false a b
unfolding div
quotient-rounds nan y a b h p q = absurd p
quotient-rounds (inf s) y a b h p q = absurd p
quotient-rounds (fin s m e) nan a b h p q = absurd q
quotient-rounds (fin s m e) (inf t) a b h p q = absurd q
quotient-rounds (fin true m e) (fin t n d) a b h p q = absurd (true≢false p.0)
quotient-rounds (fin false m e) (fin true n d) a b h p q = absurd (true≢false q.0)
quotient-rounds (fin false m e) (fin false n d) a b h p q =
    let some : ¬ (n ≡ 0) = not-zero n (up d) (b * down d) (mul-pos h (down_pos d)) q.1 in
    let above : 0 < n * up d = mul-pos (omega (arith, some)) (up_pos d) in
    simp (ne_eqb n 0 some)
    (round_same binary64 false (m * up e * down d) (n * up d * down e) a b (mul-pos above (down_pos e)) h
    (cross (m * up e) (n * up d) a b (down e) (down d) p.1 q.1))

-- the figure is error / pixels, rounded once
pub figure-rounds : (e n : ℕ) → e ≤ most_exact → 0 < n → n ≤ most_exact → figure e n ≡ round binary64 false e n
unfolding figure of_int
figure-rounds e n few some low =
    quotient-rounds (round binary64 false e 1) (round binary64 false n 1) e n some (round_whole binary64 false e few)
    (round_whole binary64 false n low)

-- where the pixel count is 2 ^ k the figure is error / 2 ^ k itself
pub figure-exact : (e k : ℕ) → e < most_exact → k ≤ 53 → HasValue (figure e (2 ^ k)) false e (2 ^ k)
figure-exact e k few low-k =
    rw (figure-rounds e (2 ^ k) (le_of_lt few) (pow_pos k) (pow_mono low-k))
    (round_exact binary64 false e (2 ^ k) e (1074 - k) (pow_pos k) few fine
    (ap (λ (x : ℕ). e * 2 ^ x) split ∙ ap (λ (x : ℕ). e * x) (pow-add 2 (1074 - k) k)
    ∙ sym (mul_assoc e (2 ^ (1074 - k)) (2 ^ k))))
  where
    split : 1074 ≡ 1074 - k + k
    split = omega arith

    fine : e * 2 ^ (1074 - k) < 2 ^ (low binary64 + suc (emax binary64))
    fine = lt_of_lt_of_le (shl_lt 53 (1074 - k) few) (pow_mono {j = 1074 + 1024} (omega arith))
