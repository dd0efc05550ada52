-- The figure is the binary64 number nearest to error / pixels. Everything is counted in units of the smallest binary64
-- number: the figure is the nearest multiple of a power of two, and every other binary64 number is such a multiple or
-- lies below one that is as near.
use Prim.Native.Nat.{ℕ, zero, suc, ◌+◌, ◌-◌, ◌*◌, ◌/◌, ◌%◌, ◌^◌, ◌≤◌, ◌<◌, compare}
use mathlib.Core.Bool.{Bool, true, false, ◌&&◌}
use mathlib.Core.Path.{◌≡◌, sym, ap, ap₂, ◌∙◌, subst}
use native.Mathlib.Decide.{dec_le}
use native.Mathlib.Nat.{
  mul-one,
  mul-add,
  mul-sub,
  mul-le-mul_left,
  div-div-eq-div-mul,
  lt_of_le_of_lt,
  zero-mul,
  zero-lt-suc,
  mul_assoc,
  mul_comm,
  mul_left_comm,
  mul_right_comm,
  mul-pos,
  mul-le-mul_right,
  div-mul-le_self,
  div-le_self,
  le_trans,
  le_of_lt,
  le_of_eq,
}
use native.Mathlib.Omega.{arith}
use lib.Pow.{pow-add, pow_pos, pow_mono, pow-lt, shl_lt}
use lib.Dec.{T, ltb, leb, eqb, ltb→lt, leb→le}
use lib.IntN.{ℤ, pos, negsuc}
use lib.Ieee.{Float, nan, inf, fin, binary64, fits, low, up, down, round, size}
use lib.Ieee.Exact.{HasValue}
use lib.Ieee.Fits.{down_pos, kept-lt, nearest-le, round-fits}
use lib.Ieee.Scale.{grid, overflow, round_val}
use lib.Ieee.Digits.{size_reaches, size-le}
use lib.Ieee.Nearest.{closest}
use Rattle.number.specs.{gap}
use Rattle.figures.specs.Figures.{most_exact, figure}
use Rattle.figures.specs.Nearness.{NearestTo}
use Rattle.figures.proofs.Quotients.{figure-rounds}
use Rattle.figures.proofs.Rounding.{closest-near}

-- ---- in units

-- the digits dropped of n / d, for numbers of 53 digits
abbrev dropped : ℕ → ℕ → ℕ
dropped n d = size (n / d) - 53

-- the multiple of 2 ^ dropped that n / d is rounded to
abbrev rounded : ℕ → ℕ → ℕ
rounded n d = closest n (d * 2 ^ dropped n d) * 2 ^ dropped n d

-- what is as near to n as a multiple below it is as near as anything below that
below-near : (r b p x n : ℕ) → gap r n ≤ gap b n → b ≡ p → p ≤ n → x ≤ p → gap r n ≤ gap x n
below-near r b p x n h e low below = omega arith

module _ (n d : ℕ) (some : 0 < d) where
  -- the unit that is kept, times d
  abbrev unit : ℕ
  unit = d * 2 ^ dropped n d

  -- what is rounded to, times d, is a multiple of it
  rounded-unit : rounded n d * d ≡ closest n unit * unit
  rounded-unit =
      mul_assoc (closest n unit) (2 ^ dropped n d) d
      ∙ ap (λ x. closest n unit * x) (mul_comm (2 ^ dropped n d) d)

  -- no multiple of it is nearer
  rounded-near : (t : ℕ) → gap (rounded n d * d) n ≤ gap (t * unit) n
  rounded-near t = rw rounded-unit (closest-near n unit t (mul-pos some (pow_pos (dropped n d))))

  -- a number of at most 53 digits with as many zeros behind as are dropped, or more
  coarse-near : (q j : ℕ) → dropped n d ≤ j → gap (rounded n d * d) n ≤ gap (q * 2 ^ j * d) n
  coarse-near q j l =
      let k = dropped n d in
      let i = j - k in
      let sum : j ≡ i + k = omega arith in
      let split : q * 2 ^ j * d ≡ q * 2 ^ i * (d * 2 ^ k) =
      ap (λ x. q * 2 ^ x * d) sum ∙ simp (pow-add, mul_assoc, mul_comm, mul_left_comm) in
      subst (λ x. gap (rounded n d * d) n ≤ gap x n) (sym split) (rounded-near (q * 2 ^ i))

  -- one with fewer lies below a multiple that lies below n / d
  fine-near : (q j : ℕ) → q < 2 ^ 53 → j < dropped n d → gap (rounded n d * d) n ≤ gap (q * 2 ^ j * d) n
  fine-near q j few l =
      let k = dropped n d in
      let p = 2 ^ (52 + k) in
      let reach : p ≤ n / d = size_reaches (n / d) (52 + k) (omega arith) in
      let low : p * d ≤ n = le_trans (mul-le-mul_right d reach) (div-mul-le_self n d) in
      let small : q * 2 ^ j ≤ p = le_trans (le_of_lt (shl_lt 53 j few)) (pow_mono {j = 52 + k} (omega arith)) in
      let below : q * 2 ^ j * d ≤ p * d = mul-le-mul_right d small in
      let split : 2 ^ 52 * unit ≡ p * d =
      ap (λ x. 2 ^ 52 * x) (mul_comm d (2 ^ k)) ∙ sym (mul_assoc (2 ^ 52) (2 ^ k) d)
      ∙ ap (λ x. x * d) (sym (pow-add 2 52 k)) in
      below-near (rounded n d * d) (2 ^ 52 * unit) (p * d) (q * 2 ^ j * d) n (rounded-near (2 ^ 52)) split low below

  -- so no number of at most 53 digits with zeros behind is nearer
  units-near : (q j : ℕ) → q < 2 ^ 53 → gap (rounded n d * d) n ≤ gap (q * 2 ^ j * d) n
  units-near q j few = elim (dec_le (dropped n d) j) [
    | yes l ↦ coarse-near q j l
    | no l ↦ fine-near q j few (omega arith)
  ]

-- ---- a binary64 number in units

-- a number of at most 53 digits with zeros behind, in units of the smallest number, and a / c at the same time
record Units (a c : ℕ) : Type 0 where
  digits : ℕ
  zeros : ℕ
  few : digits < 2 ^ 53
  is : digits * 2 ^ zeros * c ≡ a * 2 ^ 1074

-- zero: a is zero
units-zero : (a c u d : ℕ) → 0 < d → 0 * u * c ≡ a * d → Units a c
units-zero zero c u d some e = record { digits = 0; zeros = 0; few = omega arith; is = simp zero-mul }
units-zero (suc a) c u d some e =
    absurd (let z = mul-pos (zero-lt-suc a) some in omega (arith, simp (zero-mul, zero-mul) at e))

-- a whole number times a power of two
units-whole : (m k a c : ℕ) → m < 2 ^ 53 → m * 2 ^ k * c ≡ a * 1 → Units a c
units-whole m k a c few e = record {
  digits = m;
  zeros = k + 1074;
  few = few;
  is = ap (λ x. m * x * c) (pow-add 2 k 1074) ∙ ap (λ x. x * c) (sym (mul_assoc m (2 ^ k) (2 ^ 1074)))
      ∙ mul_right_comm (m * 2 ^ k) (2 ^ 1074) c ∙ ap (λ x. x * 2 ^ 1074) (e ∙ mul-one a);
}

-- a whole number by a power of two that is not above 2 ^ 1074
units-part : (m k a c : ℕ) → m < 2 ^ 53 → k ≤ 1074 → m * 1 * c ≡ a * 2 ^ k → Units a c
units-part m k a c few fine e =
    let z = 1074 - k in
    let sum : k + z ≡ 1074 = omega arith in
    record {
      digits = m;
      zeros = z;
      few = few;
      is = mul_right_comm m (2 ^ z) c ∙ ap (λ x. x * c * 2 ^ z) (sym (mul-one m)) ∙ ap (λ x. x * 2 ^ z) e
          ∙ mul_assoc a (2 ^ k) (2 ^ z) ∙ ap (λ x. a * x) (sym (pow-add 2 k z) ∙ ap (λ x. 2 ^ x) sum);
    }

-- a power that is not above another has no higher exponent
pub power_le : (k l : ℕ) → 2 ^ k ≤ 2 ^ l → k ≤ l
power_le k l h = elim (dec_le k l) [
  | yes g ↦ g
  | no g ↦ absurd (let over : 2 ^ l < 2 ^ k = pow-lt (omega arith) in omega arith)
]

-- of four tests that all hold the second and the third do
middle-two : (a b c d : Bool) → T (a && b && c && d) → T b × T c
middle-two true true true d h = (tt, tt)
middle-two true true false d h = absurd h
middle-two true false c d h = absurd h
middle-two false b c d h = absurd h

-- a number that binary64 holds has at most 53 digits, and is a multiple of its smallest number
held : (s : Bool) (m : ℕ) (e : ℤ) → T (fits binary64 (fin s (suc m) e))
    → T (ltb (suc m) (2 ^ 53)) × T (leb (down e) (2 ^ 1074))
unfolding fits
held s m e f =
    middle-two (eqb (suc m % 2) 1) (ltb (suc m) (2 ^ 53)) (leb (down e) (2 ^ 1074))
    (ltb (suc m * up e) (2 ^ 1024 * down e)) f

-- every binary64 number that is not negative is one
units_of : (x : Float) (a c : ℕ) → T (fits binary64 x) → HasValue x false a c → Units a c
units_of nan a c f v = absurd v
units_of (inf s) a c f v = absurd v
units_of (fin s zero e) a c f v = units-zero a c (up e) (down e) (down_pos e) v.1
units_of (fin s (suc m) (pos k)) a c f v =
    units-whole (suc m) k a c (ltb→lt (suc m) (2 ^ 53) (held s m (pos k) f).0) v.1
units_of (fin s (suc m) (negsuc k)) a c f v =
    let h = held s m (negsuc k) f in
    units-part (suc m) (suc k) a c (ltb→lt (suc m) (2 ^ 53) h.0)
    (power_le (suc k) 1074 (leb→le (2 ^ suc k) (2 ^ 1074) h.1)) v.1

-- ---- the figure

-- a gap times a number is the gap of the numbers times it
gap-times : (c a b : ℕ) → c * gap a b ≡ gap (c * a) (c * b)
gap-times c a b = mul-add c (a - b) (b - a) ∙ ap₂ ◌+◌ (mul-sub c a b) (mul-sub c b a)

-- in units, e / n is below 2 ^ 1128
few_digits : (e n : ℕ) → e ≤ most_exact → size (e * 2 ^ 1074 / n) ≤ 1128
few_digits e n few =
    size-le (e * 2 ^ 1074 / n) 1128
    (lt_of_le_of_lt (div-le_self (e * 2 ^ 1074) n)
    (shl_lt 54 1074 (lt_of_le_of_lt few (pow-lt {i = 53} {j = 54} (omega arith)))))

-- what is kept of it has at most 53 digits, or is 2 ^ 53
kept-most : (n d : ℕ) → closest n (d * 2 ^ dropped n d) ≤ 2 ^ 53
kept-most n d =
    let u = d * 2 ^ dropped n d in
    le_trans (nearest-le (n / u) (compare (n % u * 2) u))
    (subst (λ x. x < 2 ^ 53) (div-div-eq-div-mul n d (2 ^ dropped n d)) (kept-lt 53 (n / d)))

-- so what it is rounded to is below the numbers too great for binary64
not-over : (e n : ℕ) → e ≤ most_exact → grid binary64 e n < overflow binary64
not-over e n few =
    let k = dropped (e * 2 ^ 1074) n in
    let small : 53 + k < 2098 = omega (arith, few_digits e n few) in
    lt_of_le_of_lt (mul-le-mul_right (2 ^ k) (kept-most (e * 2 ^ 1074) n))
    (lt_of_le_of_lt (le_of_eq (sym (pow-add 2 53 k))) (pow-lt {i = 53 + k} {j = 2098} small))

-- both sides of a comparison in units, times c, are those of fractions, times the units
in-fractions : (a c e n g x u : ℕ) → x * c ≡ a * u → gap (g * n) (e * u) ≤ gap (x * n) (e * u)
    → c * gap (g * n) (e * u) ≤ u * gap (a * n) (e * c)
in-fractions a c e n g x u is near =
    let first : c * (x * n) ≡ u * (a * n) =
    sym (mul_assoc c x n) ∙ ap (λ y. y * n) (mul_comm c x ∙ is ∙ mul_comm a u) ∙ mul_assoc u a n in
    let second : c * (e * u) ≡ u * (e * c) = simp (mul_comm, mul_left_comm) in
    le_trans (mul-le-mul_left c near)
    (le_of_eq (gap-times c (x * n) (e * u) ∙ ap₂ gap first second ∙ sym (gap-times u (a * n) (e * c))))

-- the binary64 number that e / n is rounded to is the nearest
round-nearest : (e n : ℕ) → e ≤ most_exact → 0 < n → NearestTo (round binary64 false e n) e n
round-nearest e n few some = record {
  holds = round-fits binary64 false e n;
  top = grid binary64 e n;
  bottom = 2 ^ 1074;
  positive = pow_pos 1074;
  value = round_val binary64 e n (not-over e n few);
  nearest = λ x a c f pos v.
      let y = units_of x a c f v in
      in-fractions a c e n (grid binary64 e n) (y.digits * 2 ^ y.zeros) (2 ^ 1074) y.is
      (units-near (e * 2 ^ 1074) n some y.digits y.zeros y.few);
}

-- the figure is the binary64 number nearest to error / pixels
pub figure-nearest : (e n : ℕ) → e ≤ most_exact → 0 < n → n ≤ most_exact → NearestTo (figure e n) e n
figure-nearest e n few some low = rw (figure-rounds e n few some low) (round-nearest e n few some)
