-- What the test counts, and what it says of the entries: no fault among the used keys, no weight of 0 and a last key
-- that is a key make them sound, and sound entries have none of these faults.
use mathlib.Core.Path.{◌≡◌}
use mathlib.Core.Bool.{true, false}
use mathlib.Core.Logic.{inl, inr}
use mathlib.Core.List.{List}
use Prim.Native.Nat.{ℕ, zero, suc, ◌+◌, ◌-◌, ◌≤◌, ◌<◌}
use native.Mathlib.Omega.{arith}
use lib.ListN.{length, get_or}
use borrow.Author.Tests.{lt-leb, leb-false, ne_eqb, eqb-false}
use Rattle.number.specs.{how_many}
use Rattle.number.proofs.Cases.{bool}
use Rattle.number.proofs.Counts.{how_many-none, none-how_many}
use Rattle.colour.specs.{most_key}
use Rattle.table_entries.specs.{entries, sound}
use Rattle.table_entries.proofs.Slices.{keys-rise, keys-are-keys}
use Rattle.table_entries.proofs.Rows.{sound-of-rows, weights-some}
use Rattle.table_test.specs.Testing.{falls_at, empty_at}

-- keys that rise from place to place: none is above a later one
rising_le : (n : ℕ) (ks : List ℕ) → ((i : ℕ) → i + 1 < n → get_or ks i 0 < get_or ks (i + 1) 0)
    → (i d : ℕ) → i + d < n → get_or ks i 0 ≤ get_or ks (i + d) 0
rising_le n ks r i zero l = let z : i + 0 ≡ i = omega arith in rw z (omega arith)
rising_le n ks r i (suc d) l =
    let z : i + suc d ≡ i + d + 1 = omega arith in
    rw z (omega (arith, rising_le n ks r i d (omega arith), r (i + d) (omega arith)))

-- a number of at least 1 is not 0
not-0 : {n : ℕ} → 1 ≤ n → n ≡ 0 → ⊥
not-0 l e = omega arith

-- of the first n places none has a key that the next one is not above, none a weight of 0, and the last key is a key
pub record Faultless (n : ℕ) (ks ws : List ℕ) : Type 0 where
  pub rising : how_many (n - 1) (falls_at ks) ≡ 0
  pub weighted : how_many n (empty_at ws) ≡ 0
  pub greatest : 0 < n → get_or ks (n - 1) 0 ≤ most_key

module _ (n : ℕ) (ks ws : List ℕ) (a : n ≤ length ks) (b : n ≤ length ws) where
  -- where nothing is at fault, each key is above the one before
  faultless-rises : Faultless n ks ws → (i : ℕ) → i + 1 < n → get_or ks i 0 < get_or ks (i + 1) 0
  faultless-rises f i l = leb-false _ _ (how_many-none (n - 1) (falls_at ks) f.rising i (omega arith))

  -- and no key is above the last one
  pub faultless-upto : Faultless n ks ws → (i : ℕ) → i < n → get_or ks i 0 ≤ most_key
  faultless-upto f i l =
      let z : i + (n - 1 - i) ≡ n - 1 = omega arith in
      let t = rising_le n ks (faultless-rises f) i (n - 1 - i) (omega arith) in
      omega (arith, f.greatest (omega arith), rw z at t)

  -- entries with nothing at fault are sound
  pub sound-of-faultless : Faultless n ks ws → sound 0 (entries n ks ws) ≡ true
  sound-of-faultless f = sound-of-rows 0 n ks ws record {
    in_keys = a;
    in_weights = b;
    from = λ l. omega arith;
    rises = faultless-rises f;
    upto = faultless-upto f;
    some = λ i l.
        let e : get_or ws i 0 ≡ 0 → ⊥ = eqb-false _ _ (how_many-none n (empty_at ws) f.weighted i l) in
        omega arith;
  }

  -- sound entries have nothing at fault
  faultless-of-sound : sound 0 (entries n ks ws) ≡ true → Faultless n ks ws
  faultless-of-sound h = record {
    rising = none-how_many (n - 1) (falls_at ks)
        (λ i l. lt-leb _ _ (keys-rise n ks ws a b h i (i + 1) (omega arith) (omega arith)));
    weighted = none-how_many n (empty_at ws) (λ i l. ne_eqb (get_or ws i 0) 0 (not-0 (weights-some n ks ws a b h i l)));
    greatest = λ l. keys-are-keys n ks ws a b h (n - 1) (omega arith);
  }

  -- entries with something at fault are not sound
  pub unsound-of-fault : (Faultless n ks ws → ⊥) → sound 0 (entries n ks ws) ≡ false
  unsound-of-fault fault = elim (bool (sound 0 (entries n ks ws))) [
    | inl t ↦ absurd (fault (faultless-of-sound t))
    | inr t ↦ t
  ]
