-- The sums of the levels of each group, two in one number.
use Rattle.std.specs.Prelude.{ℕ, ◌+◌, ◌-◌, ◌*◌, ◌≤◌, ◌<◌, ◌≡◌, cond, List, eqb, get_or, set, length}
use Rattle.number.specs.{sum}
use Rattle.level_sums.specs.{red_green, blue_pixels, weighed}
use Rattle.shades.specs.{most_shades}

-- what entry i gives to group q, where it is in group m i
abbrev pub given : (ℕ → ℕ) → (ℕ → ℕ) → ℕ → ℕ → ℕ
given m f q i = cond (eqb (m i) q) (f i) 0

-- x and y are put in the places of the two sums of group q
abbrev pub placed : List ℕ → ℕ → ℕ → ℕ → List ℕ
placed t q x y = set (set t (2 * q) x) (2 * q + 1) y

-- x and y are added to the two sums of group q
abbrev pub raised : List ℕ → ℕ → ℕ → ℕ → List ℕ
raised t q x y = placed t q (get_or t (2 * q) 0 + x) (get_or t (2 * q + 1) 0 + y)

-- x and y are taken from the two sums of group q
abbrev pub lowered : List ℕ → ℕ → ℕ → ℕ → List ℕ
lowered t q x y = placed t q (get_or t (2 * q) 0 - x) (get_or t (2 * q + 1) 0 - y)

-- the sums of 64 groups over the first n entries
pub record Summed (m : ℕ → ℕ) (ks ws : List ℕ) (n : ℕ) (t : List ℕ) : Type 0 where
  pub long : length t ≡ 2 * most_shades
  pub red-green : (q : ℕ) → q < most_shades → get_or t (2 * q) 0 ≡ sum n (given m (weighed red_green ks ws) q)
  pub blue-pixels : (q : ℕ) → q < most_shades → get_or t (2 * q + 1) 0 ≡ sum n (given m (weighed blue_pixels ks ws) q)

-- the group of entry i, as the members tell
abbrev pub member_at : List ℕ → ℕ → ℕ
member_at members i = get_or members i 0

-- the members tell one of 64 groups for each of n entries
pub record Assigned (n : ℕ) (members : List ℕ) : Type 0 where
  pub room : n ≤ length members
  pub below : (i : ℕ) → i < n → member_at members i < most_shades
