-- Used colours that are unlike every fixed shade: those whose key is none of theirs. A fixed shade whose key is a used
-- one, and that has no equal before it, takes one of them away.
use Prim.Native.Nat.{ℕ, ◌+◌, ◌-◌, ◌≤◌, ◌<◌}
use mathlib.Core.Bool.{Bool, false, not}
use mathlib.Core.List.{List}
use mathlib.Core.Logic.{◌↔◌, inl, inr}
use mathlib.Core.Path.{◌≡◌, sym, ap, ◌∙◌}
use native.Mathlib.Nat.{pos_of_ne-zero}
use native.Mathlib.Omega.{arith}
use lib.Dec.{ltb}
use lib.ListN.{take}
use borrow.Author.Tests.{lt-ltb, ltb-true}
use Rattle.number.specs.{how_many}
use Rattle.number.proofs.Cases.{bool, never, cmp, lt, eq, gt}
use Rattle.number.proofs.Counts.{how_many-at-most, how_many-same}
use Rattle.colour.specs.{Bytes, most_key, colour_of, distance}
use Rattle.colour.proofs.Promises.{distance_self, colour-only}
use Rattle.table_back.specs.{InOrder}
use Rattle.table_pixel.specs.{hit}
use Rattle.table_pixel.proofs.pixel.Places.{hit-counted}
use Rattle.table_test.specs.{Record, GoodTable}
use Rattle.shades.specs.{to_shade, nearest_shade, colour_at}
use Rattle.shades.proofs.Nearest.{nearest-below, nearest-least}
use Rattle.method.specs.{remote}
use Rattle.lloyd_stock.specs.Stock.{fixed_in, stock, colours_left, bad_fixed}
use Rattle.lloyd_stock.specs.Keys.{UsedKeys, key_at, fixed_key, among, takes_one}
use Rattle.lloyd_stock.proofs.Checks.{bad-fixed-exactly}
use Rattle.lloyd_stock.proofs.Matches.{among_none, among-differs, others-and-takes}
use Rattle.lloyd_stock.proofs.Stocks.{fixed-key-most, stock-at}

-- ---- the used keys of a table

-- a good table has them
pub used-keys-of-table : {rec : Record} {ks ws : List ℕ} → GoodTable rec ks ws → UsedKeys rec.used ks
used-keys-of-table g = record { within = omega (arith, g.in_room); rises = g.rises; low = g.keys }

-- no two of them are equal, since they rise
used-differ : {used : ℕ} {ks : List ℕ} → UsedKeys used ks → (i j : ℕ) → i < used → j < used → key_at ks i ≡ key_at ks j
    → i ≡ j
used-differ u i j h l e = elim (cmp i j) [
  | lt b _ ↦ absurd (omega (arith, u.rises i j b l))
  | eq s _ _ ↦ s
  | gt b _ _ ↦ absurd (omega (arith, u.rises j i b h))
]

-- and they never fall
pub used-in-order : {used : ℕ} {ks : List ℕ} → UsedKeys used ks → InOrder (λ k. k) used ks
used-in-order u p q h l = elim (cmp p q) [
  | lt b _ ↦ omega (arith, u.rises p q b l)
  | eq s _ _ ↦ rw s (omega arith)
  | gt b _ _ ↦ absurd (omega arith)
]

-- whether a key stands at its place is whether it is one of them
pub found_among : {used : ℕ} {ks : List ℕ} → UsedKeys used ks → {key k : ℕ} {found : Bool} → key ≡ k
    → found ≡ hit key (take used ks) → found ≡ among used (key_at ks) k
found_among {used} {ks} u {key} is found =
    found ∙ hit-counted key used ks u.within (used-in-order u) ∙ ap (among used (key_at ks)) is

-- ---- colours unlike every fixed shade

module _ (fixed : List ℕ) (bytes : Bytes fixed) where
  -- the distance to a fixed shade is that to the colour of its key
  to-fixed : (key q : ℕ)
      → to_shade (stock fixed) (colour_of key) q ≡ distance (colour_of key) (colour_of (fixed_key fixed q))
  to-fixed key q = ap (distance (colour_of key)) (stock-at fixed bytes q)

  module _ (some : 0 < fixed_in fixed) (key : ℕ) (low : key ≤ most_key) where
    -- how far the colour of a key is from its nearest fixed shade
    abbrev off : ℕ
    off = remote (stock fixed) (fixed_in fixed) (colour_of key)

    -- it is off every fixed shade exactly where the key is that of none
    pub unlike-exactly : (0 < remote (stock fixed) (fixed_in fixed) (colour_of key))
        ↔ ((q : ℕ) → q < fixed_in fixed → ¬ (key ≡ fixed_key fixed q))
    unlike-exactly = (
      λ h q l e.
          let z = ap (λ k. distance (colour_of key) (colour_of k)) (sym e) ∙ distance_self (colour_of key) in
          omega (arith, nearest-least (stock fixed) (fixed_in fixed) (colour_of key) q l, to-fixed key q),
      λ differs.
          let q = nearest_shade (stock fixed) (fixed_in fixed) (colour_of key) in
          pos_of_ne-zero (λ z. differs q (nearest-below (stock fixed) (fixed_in fixed) (colour_of key) some)
          (colour-only key (fixed_key fixed q) low (fixed-key-most fixed bytes q) (sym (to-fixed key q) ∙ z))),
    )

    -- the same as two tests
    unlike-test : ltb 0 off ≡ not (among (fixed_in fixed) (fixed_key fixed) key)
    unlike-test = elim (bool (ltb 0 off)) [
      | inl t ↦
          let away = unlike-exactly.0 (ltb-true 0 off t) in
          t ∙ sym (ap not (among_none (fixed_in fixed) (fixed_key fixed) key (λ q l e. away q l (sym e))))
      | inr t ↦ elim (bool (among (fixed_in fixed) (fixed_key fixed) key)) [
        | inl m ↦ t ∙ sym (ap not m)
        | inr m ↦
            let away = among-differs (fixed_in fixed) (fixed_key fixed) key m in
            never (sym (lt-ltb 0 off (unlike-exactly.1 (λ q l e. away q l (sym e)))) ∙ t)
      ]
    ]

  -- ---- how many are left

  module _ {used : ℕ} {ks : List ℕ} (u : UsedKeys used ks) (good : bad_fixed fixed ≡ false) where
    -- those left, and the fixed shades that take one, are all that are used
    pub left-and-taken : colours_left used ks fixed + how_many (fixed_in fixed) (takes_one used ks fixed) ≡ used
    left-and-taken =
        let some : 0 < fixed_in fixed = ((bad-fixed-exactly fixed).0 good).0 in
        ap (λ n. n + how_many (fixed_in fixed) (takes_one used ks fixed))
        (how_many-same used (λ i. ltb 0 (remote (stock fixed) (fixed_in fixed) (colour_at ks i)))
        (λ i. not (among (fixed_in fixed) (fixed_key fixed) (key_at ks i)))
        (λ i l. unlike-test some (key_at ks i) (u.low i l)))
        ∙ others-and-takes used (key_at ks) (fixed_key fixed) (used-differ u) (fixed_in fixed)

    -- so all are left but as many at most as are fixed
    pub left-at-least : used ≤ colours_left used ks fixed + fixed_in fixed
    left-at-least = omega (arith, left-and-taken, how_many-at-most (fixed_in fixed) (takes_one used ks fixed))

    -- that number of fixed shades is no more than the used colours, and is what they have less
    pub left_is : (taken : ℕ) → taken ≡ how_many (fixed_in fixed) (takes_one used ks fixed)
        → (taken ≤ used) × (used - taken ≡ colours_left used ks fixed)
    left_is taken is = (omega (arith, left-and-taken), omega (arith, left-and-taken))

-- no more are left than are used
pub left-at-most : (used : ℕ) (ks fixed : List ℕ) → colours_left used ks fixed ≤ used
left-at-most used ks fixed = how_many-at-most used (λ i. ltb 0 (remote (stock fixed) (fixed_in fixed) (colour_at ks i)))

-- in a good table a used colour is left exactly where its key differs from that of every fixed shade
pub colours-left-exactly : {rec : Record} {ks ws : List ℕ} → GoodTable rec ks ws → (fixed : List ℕ) → Bytes fixed
    → bad_fixed fixed ≡ false → (i : ℕ) → i < rec.used
    → (0 < remote (stock fixed) (fixed_in fixed) (colour_at ks i))
    ↔ ((q : ℕ) → q < fixed_in fixed → ¬ (key_at ks i ≡ fixed_key fixed q))
colours-left-exactly {ks = ks} g fixed bytes good i l =
    unlike-exactly fixed bytes ((bad-fixed-exactly fixed).0 good).0 (key_at ks i) (g.keys i l)
