-- Key after key takes its slot: one where it stands, else the next; and what is known of the pixels gathered so far.
use Prim.Native.Nat.{ℕ, ◌+◌, ◌-◌, ◌≤◌, ◌<◌}
use mathlib.Core.List.{List}
use mathlib.Core.Logic.{⊎_elim}
use mathlib.Core.Path.{◌≡◌, sym, ◌∙◌}
use native.Mathlib.Omega.{arith}
use lib.ListN.{length, set}
use lib.Seq.{get_or-set_same, get_or-set_other}
use Rattle.number.proofs.Cases.{cmp, lt, eq, gt}
use Rattle.number.proofs.Searches.{below-or-last}
use Rattle.colour.specs.{most_key}
use Rattle.map_slots.specs.Gathering.{pixel_key, slot_key, slot_of, Gathered, Takes, there, next}

-- ---- one key more

module _ {keys : List ℕ} {m key h : ℕ} (takes : Takes keys m key h) (room : h < length keys) where
  -- a key stored at the slot it takes changes none of the m keys
  stored-kept : (q : ℕ) → q < m → slot_key (set keys h key) q ≡ slot_key keys q
  stored-kept q l = elim (cmp q h) [
    | lt x _ ↦ get_or-set_other keys h q key 0 (λ e. omega arith)
    | gt x _ _ ↦ get_or-set_other keys h q key 0 (λ e. omega arith)
    | eq e _ _ ↦ elim takes [
      | there _ is ↦ rw e (get_or-set_same keys h key 0 room ∙ sym is)
      | next z ↦ absurd (omega arith)
    ]
  ]

  -- so it is gathered too, in p slots: those there were, and the one it takes
  pub gathered-step : {f : ℕ → ℕ} {i p : ℕ} {which : List ℕ} → Gathered f i keys which m → key ≡ f i → m ≤ p
      → p ≤ m + 1 → h < p → i < length which → Gathered f (i + 1) (set keys h key) (set which i h) p
  gathered-step {i = i} {which = which} g is least most within free =
      let here = get_or-set_same which i h 0 free in
      let there : (j : ℕ) → j < i → slot_of (set which i h) j ≡ slot_of which j =
      λ j b. get_or-set_other which i j h 0 (λ e. omega arith) in
      record {
        few = omega (arith, g.few);
        slotted = λ j b.
            ⊎_elim (λ o. rw (there j o) (omega (arith, g.slotted j o))) (λ o. rw o (rw here within))
            (below-or-last i j b);
        is = λ j b.
            ⊎_elim (λ o. rw (there j o) (stored-kept (slot_of which j) (g.slotted j o) ∙ g.is j o))
            (λ o. rw o (rw here (get_or-set_same keys h key 0 room ∙ is))) (below-or-last i j b);
      }

-- before the first key
pub gathered_none : (f : ℕ → ℕ) (keys which : List ℕ) → Gathered f 0 keys which 0
gathered_none f keys which = record {
  few = omega arith;
  slotted = λ j b. absurd (omega arith);
  is = λ j b. absurd (omega arith);
}

-- ---- the loop

-- the first i pixels are gathered in m slots; `last` is the key at the last slot, and the key of no colour where there
-- is none
pub record Gathering (strip keys which : List ℕ) (m last i : ℕ) : Type 0 where
  pub gathered : Gathered (pixel_key strip) i keys which m
  pub none : m ≡ 0 → most_key < last
  pub seen : 0 < m → slot_key keys (m - 1) ≡ last
