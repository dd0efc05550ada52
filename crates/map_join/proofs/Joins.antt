-- Slot after slot is joined: its key takes a slot where it stands, else the next.
use Prim.Native.Nat.{ℕ, ◌+◌, ◌≤◌, ◌<◌}
use mathlib.Core.List.{List}
use mathlib.Core.Path.{◌≡◌, sym, ◌∙◌}
use native.Mathlib.Omega.{arith}
use lib.ListN.{length, set, take}
use lib.Seq.{get_or-set_other, get_or-take, length-take-le}
use Rattle.map_slots.specs.{slot_key, Gathered, Takes, there, next}
use Rattle.map_slots.proofs.Gathers.{gathered-step}

-- a key takes the slot that it takes among the first m keys
pub takes-front : (keys : List ℕ) (m : ℕ) {key h : ℕ} → m ≤ length keys
    → Takes (take m keys) (length (take m keys)) key h → Takes keys m key h
takes-front keys m {key} {h} room t =
    let e = length-take-le m keys room in
    elim t [
      | there l is ↦
          let b : h < m = omega (arith, e, l) in
          there b (sym (get_or-take m keys h 0 b) ∙ is)
      | next z ↦ next (z ∙ e)
    ]

-- a key takes no slot behind the next
pub takes-most : {keys : List ℕ} {m key h : ℕ} → Takes keys m key h → h ≤ m
takes-most t = elim t [
  | there l _ ↦ omega arith
  | next e ↦ omega arith
]

-- the first i slots of d are joined in m, the others stand as they did
pub record Joining (d keys link : List ℕ) (m i : ℕ) : Type 0 where
  pub joined : Gathered (slot_key d) i keys link m
  pub rest : (j : ℕ) → i ≤ j → slot_key keys j ≡ slot_key d j

-- one slot more
pub joining-step : {d keys link : List ℕ} {m i h p : ℕ} → Joining d keys link m i → Takes keys m (slot_key keys i) h
    → h < length keys → i < length link → m ≤ p → p ≤ m + 1 → h < p
    → Joining d (set keys h (slot_key keys i)) (set link i h) p (i + 1)
joining-step {keys = keys} {i = i} {h = h} w takes room free least most within = record {
  joined = gathered-step takes room w.joined (w.rest i (omega arith)) least most within free;
  rest = λ j b.
      get_or-set_other keys h j (slot_key keys i) 0 (λ e. omega (arith, takes-most takes, w.joined.few))
      ∙ w.rest j (omega arith);
}
