-- The keys of fixed shades, and the used keys of a table among which they are looked up.
use Rattle.std.specs.Prelude.{ℕ, ◌≤◌, ◌<◌, Bool, not, ◌&&◌, List, ltb, eqb, get_or, length}
use Rattle.number.specs.{how_many}
use Rattle.colour.specs.{most_key, point_key}
use Rattle.shades.specs.{shade_at}

-- the used keys of a table: they are there, each is above the one before, and each is that of a colour
pub record UsedKeys (used : ℕ) (ks : List ℕ) : Type 0 where
  pub within : used ≤ length ks
  pub rises : (p q : ℕ) → p < q → q < used → get_or ks p 0 < get_or ks q 0
  pub low : (p : ℕ) → p < used → get_or ks p 0 ≤ most_key

-- the key of entry i
abbrev pub key_at : List ℕ → ℕ → ℕ
key_at ks i = get_or ks i 0

-- the key of fixed shade q: that of the bytes 3q, 3q + 1 and 3q + 2
abbrev pub fixed_key : List ℕ → ℕ → ℕ
fixed_key fixed q = point_key (shade_at fixed q)

-- v is one of the first n values of f
abbrev pub among : ℕ → (ℕ → ℕ) → ℕ → Bool
among n f v = ltb 0 (how_many n (λ i. eqb (f i) v))

-- a fixed shade equal to shade q stands before it
abbrev pub has_equal : List ℕ → ℕ → Bool
has_equal fixed q = among q (fixed_key fixed) (fixed_key fixed q)

-- fixed shade q takes a colour: it is that of a used entry, and no equal fixed shade stands before it
abbrev pub takes_one : ℕ → List ℕ → List ℕ → ℕ → Bool
takes_one used ks fixed q = among used (key_at ks) (fixed_key fixed q) && not (has_equal fixed q)
