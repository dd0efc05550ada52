-- An entry that joins a group: its member is set, and every other member stays.
use Prim.Native.Nat.{ℕ, ◌<◌}
use mathlib.Core.List.{List}
use mathlib.Core.Path.{◌≡◌, sym, ◌∙◌}
use native.Mathlib.Omega.{arith}
use lib.ListN.{length, set}
use lib.Seq.{get_or-set_same, get_or-set_other, set-get_or}
use Rattle.group_sums.specs.{Summed, member_at}
use Rattle.group_sums.proofs.Moving.{Goes, summed_same}

module _ (members : List ℕ) (i q : ℕ) where
  -- the group that it joins
  pub joined_at : i < length members → member_at (set members i q) i ≡ q
  joined_at l = get_or-set_same members i q 0 l

  -- the sums over the entries before it stay
  pub joined-before : {ks ws t : List ℕ} → Summed (member_at members) ks ws i t
      → Summed (member_at (set members i q)) ks ws i t
  joined-before {ks} {ws} {t} sums =
      summed_same (member_at members) (member_at (set members i q)) ks ws i t
      (λ j l. sym (get_or-set_other members i j q 0 (λ z. omega arith))) sums

  -- it goes there
  pub joined-goes : i < length members → (member_at members i ≡ q → ⊥)
      → Goes (member_at members) (member_at (set members i q)) i
  joined-goes l d = record {
    other = λ z. d (z ∙ joined_at l);
    stay = λ j e. get_or-set_other members i j q 0 e;
  }

  -- where it is in that group already, nothing is set
  pub joined_same : member_at members i ≡ q → members ≡ set members i q
  joined_same e = sym (rw e at (set-get_or members i 0))
