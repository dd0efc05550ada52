-- What the plain search has found: for the entries to come it stands in the members.
use Prim.Native.Nat.{ℕ, ◌≤◌, ◌<◌}
use mathlib.Core.List.{List}
use mathlib.Core.Path.{◌≡◌, ap, ◌∙◌}
use native.Mathlib.Omega.{arith}
use lib.ListN.{length, get_or}
use Rattle.number.specs.{fill}
use Rattle.number.proofs.Fills.{fill-at, fill-length}
use Rattle.shades.specs.{colour_at, Shades, packed_nearest}
use Rattle.table_entries.specs.{Tabled}
use Rattle.group_join.proofs.Turns.{Fitted, Turned, turned-kept}

-- distance and number of the nearest shade of entry j, in one
abbrev pub found_at : List ℕ → List ℕ → ℕ → ℕ → ℕ
found_at ks s k j = packed_nearest s k (colour_at ks j)

-- members in which the plain search has left what it found have what a turn asks
pub plain-fitted : {used : ℕ} {ks ws s : List ℕ} {k : ℕ} (before d : List ℕ) → Tabled used ks ws → Shades k s → 0 < k
    → used ≤ length d → before ≡ fill used (found_at ks s k) d → Fitted used ks ws s k (λ j. k) before
plain-fitted {used} {ks} {s = s} {k} before d table shades some room e = record {
  table = table;
  shades = shades;
  some = λ h. some;
  room = rw (e, fill-length used (found_at ks s k) d) room;
  few = λ j. omega (arith, shades.few);
}

module _ {used : ℕ} {ks ws s : List ℕ} {k : ℕ} {works : ℕ → ℕ} {before members : List ℕ} {total distances i : ℕ}
    (x : Turned used ks ws s k works before members total distances i) (d : List ℕ)
    (e : before ≡ fill used (found_at ks s k) d) where
  -- the turn reads what was found for its entry
  pub plain-found : i < used → used ≤ length d → get_or members i 0 ≡ found_at ks s k i
  plain-found l room = turned-kept x ∙ ap (λ m. get_or m i 0) e ∙ fill-at used i (found_at ks s k) d l (omega arith)
