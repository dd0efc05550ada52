-- A good table, fact by fact: what callers know where the test of BAD TABLE fails, and what makes it fail.
use mathlib.Core.Path.{◌≡◌, refl, sym, ap, ap₂, ◌∙◌}
use mathlib.Core.Bool.{Bool, true, false, not, ◌&&◌, ◌||◌, or-false}
use mathlib.Core.Logic.{◌↔◌}
use mathlib.Core.List.{List}
use Prim.Native.Nat.{ℕ, ◌+◌, ◌*◌, ◌≤◌, ◌<◌}
use native.Mathlib.Omega.{arith}
use lib.ListN.{get_or, length}
use lib.Dec.{ltb, eqb}
use borrow.Author.Tests.{le-ltb, ltb-false, eq-eqb, eqb-true}
use Rattle.number.specs.{sum}
use Rattle.number.proofs.Cases.{both, neither, not-not, fail-together}
use Rattle.number.proofs.Sums.{sum-eq, sum-weighed}
use Rattle.colour.specs.{most_level, most_pixels, red_of, green_of, blue_of}
use Rattle.table_entries.specs.{weight_of, pixels_of, entries, sound}
use Rattle.table_entries.proofs.Same.{same-table}
use Rattle.table_entries.proofs.Slices.{entries-length, keys-rise, keys-are-keys}
use Rattle.table_entries.proofs.Rows.{sound-of-rows, weights-some, pixels-sum, levels-sum}
use Rattle.level_sums.specs.{weighed}
use Rattle.table_test.specs.Goods.{GoodTable}
use Rattle.table_test.specs.Tables.{room_of, record_of, same_sums, same_record, bad_table, bad_counts, other_sums}
use Rattle.table_test.specs.Testing.{weight_at}
use Rattle.table_test.specs.declared.Record.{Record}

-- the used entries are within the room and sound, the record is theirs, and the pixels are not too many
pub record Good (rec : Record) (ks ws : List ℕ) : Type 0 where
  pub in_room : rec.used ≤ room_of ks ws
  pub sounds : sound 0 (entries rec.used ks ws) ≡ true
  pub is : record_of (entries rec.used ks ws) ≡ rec
  pub most : rec.pixels ≤ most_pixels

-- records with the same five numbers are one
pub five-same : {a b : Record} → a.used ≡ b.used → a.pixels ≡ b.pixels → a.red ≡ b.red → a.green ≡ b.green
    → a.blue ≡ b.blue → a ≡ b
five-same u p r g l = λ i. record { used = u i; pixels = p i; red = r i; green = g i; blue = l i }

-- records that say the same are one
same-record : (a b : Record) → same_record a b ≡ true → a ≡ b
same-record a b h =
    let u = both (eqb a.used b.used) _ h in
    let p = both (eqb a.pixels b.pixels) _ u.1 in
    let r = both (eqb a.red b.red) _ p.1 in
    let g = both (eqb a.green b.green) _ r.1 in
    five-same (eqb-true _ _ u.0) (eqb-true _ _ p.0) (eqb-true _ _ r.0) (eqb-true _ _ g.0)
    (eqb-true _ _ g.1)

-- a record says the same as itself
record_same : (a : Record) → same_record a a ≡ true
record_same a =
    simp (
      eq-eqb a.used a.used refl,
      eq-eqb a.pixels a.pixels refl,
      eq-eqb a.red a.red refl,
      eq-eqb a.green a.green refl,
      eq-eqb a.blue a.blue refl,
    )

-- a table that passes the test is good
pub good-of-test : (rec : Record) (ks ws : List ℕ) → bad_table rec ks ws ≡ false → Good rec ks ws
good-of-test rec ks ws h =
    let es = entries rec.used ks ws in
    let over = neither (ltb (room_of ks ws) rec.used) _ h in
    let unsound = neither (not (sound 0 es)) _ over.1 in
    let other = neither (not (same_record (record_of es) rec)) _ unsound.1 in
    record {
      in_room = ltb-false (room_of ks ws) rec.used over.0;
      sounds = not-not (sound 0 es) unsound.0;
      is = same-record (record_of es) rec (not-not (same_record (record_of es) rec) other.0);
      most = ltb-false most_pixels rec.pixels other.1;
    }

-- a good table passes the test
pub test-of-good : (rec : Record) (ks ws : List ℕ) → Good rec ks ws → bad_table rec ks ws ≡ false
test-of-good rec ks ws g =
    rw (
      le-ltb (room_of ks ws) rec.used g.in_room,
      g.sounds,
      ap (λ (r : Record). same_record r rec) g.is ∙ record_same rec,
      le-ltb most_pixels rec.pixels g.most,
    )

-- ---- the same, place by place

-- a good table's places are as they should be
pub table-of-good : (rec : Record) (ks ws : List ℕ) → Good rec ks ws → GoodTable rec ks ws
table-of-good rec ks ws g =
    let a : rec.used ≤ length ks = omega (arith, g.in_room) in
    let b : rec.used ≤ length ws = omega (arith, g.in_room) in
    record {
      in_room = g.in_room;
      rises = keys-rise rec.used ks ws a b g.sounds;
      keys = keys-are-keys rec.used ks ws a b g.sounds;
      weights = weights-some rec.used ks ws a b g.sounds;
      pixels = sym (ap (λ (r : Record). r.pixels) g.is) ∙ pixels-sum rec.used ks ws a b;
      most = g.most;
      reds = sym (ap (λ (r : Record). r.red) g.is) ∙ levels-sum red_of rec.used ks ws a b;
      greens = sym (ap (λ (r : Record). r.green) g.is) ∙ levels-sum green_of rec.used ks ws a b;
      blues = sym (ap (λ (r : Record). r.blue) g.is) ∙ levels-sum blue_of rec.used ks ws a b;
    }

-- places as they should be make a good table
pub good-of-table : (rec : Record) (ks ws : List ℕ) → GoodTable rec ks ws → Good rec ks ws
good-of-table rec ks ws t =
    let a : rec.used ≤ length ks = omega (arith, t.in_room) in
    let b : rec.used ≤ length ws = omega (arith, t.in_room) in
    record {
      in_room = t.in_room;
      sounds = sound-of-rows 0 rec.used ks ws (record {
        in_keys = a;
        in_weights = b;
        from = λ l. omega arith;
        rises = λ i l. t.rises i (i + 1) (omega arith) l;
        upto = t.keys;
        some = t.weights;
      });
      is = five-same (entries-length rec.used ks ws a b) (pixels-sum rec.used ks ws a b ∙ sym t.pixels)
          (levels-sum red_of rec.used ks ws a b ∙ sym t.reds)
          (levels-sum green_of rec.used ks ws a b ∙ sym t.greens)
          (levels-sum blue_of rec.used ks ws a b ∙ sym t.blues);
      most = t.most;
    }

-- the test fails exactly for a good table
pub bad-table-exactly : (rec : Record) (ks ws : List ℕ) → (bad_table rec ks ws ≡ false) ↔ GoodTable rec ks ws
bad-table-exactly rec ks ws = (
  (λ h. table-of-good rec ks ws (good-of-test rec ks ws h)),
  (λ t. test-of-good rec ks ws (good-of-table rec ks ws t)),
)

-- ---- how large the sums are

-- a channel's sum is at most 255 for each pixel, so that of a full table fits in 32 bits
pub sums-at-most : {rec : Record} {ks ws : List ℕ} → GoodTable rec ks ws
    → (rec.red ≤ most_level * rec.pixels) × (rec.green ≤ most_level * rec.pixels)
    × (rec.blue ≤ most_level * rec.pixels)
sums-at-most {rec} {ks} {ws} g =
    let low : (f : ℕ → ℕ) → ((k : ℕ) → f k ≤ most_level) → sum rec.used (weighed f ks ws) ≤ most_level * rec.pixels
    = λ f l. rw g.pixels
    (sum-weighed rec.used most_level (weight_at ws) (λ i. f (get_or ks i 0)) (λ i. l (get_or ks i 0))) in (
      rw g.reds (low red_of (λ k. omega arith)),
      rw g.greens (low green_of (λ k. omega arith)),
      rw g.blues (low blue_of (λ k. omega arith)),
    )

-- ---- the test in two parts

-- a test with one more condition on the record is the test without it, or that the condition fails
one_more : (a b u p s m : Bool)
    → (a || (b || (not (u && (p && s)) || m))) ≡ ((a || (b || (not (u && p) || m))) || not s)
one_more true b u p s m = refl
one_more false true u p s m = refl
one_more false false false p s m = refl
one_more false false true false s m = refl
one_more false false true true true true = refl
one_more false false true true true false = refl
one_more false false true true false true = refl
one_more false false true true false false = refl

-- a table is bad exactly where its counts are or a channel sum is another
pub bad-table-parts : (rec : Record) (ks ws : List ℕ)
    → bad_table rec ks ws ≡ (bad_counts rec ks ws || other_sums rec ks ws)
bad-table-parts rec ks ws =
    let es = entries rec.used ks ws in
    one_more (ltb (room_of ks ws) rec.used) (not (sound 0 es)) (eqb (length es) rec.used)
    (eqb (pixels_of es) rec.pixels) (same_sums (record_of es) rec) (ltb most_pixels rec.pixels)

-- where the channel sums are true it is the counts that make a table bad
pub bad-of-true-sums : (rec : Record) (ks ws : List ℕ) → other_sums rec ks ws ≡ false
    → bad_table rec ks ws ≡ bad_counts rec ks ws
bad-of-true-sums rec ks ws h = bad-table-parts rec ks ws ∙ rw h (or-false (bad_counts rec ks ws))

-- ---- a table is determined by the weights of its colours

-- two good tables with the same weights are one
pub determined : (rec rec' : Record) (ks ws ks' ws' : List ℕ) → GoodTable rec ks ws → GoodTable rec' ks' ws'
    → ((c : ℕ) → weight_of c (entries rec.used ks ws) ≡ weight_of c (entries rec'.used ks' ws'))
    → (entries rec.used ks ws ≡ entries rec'.used ks' ws') × (rec ≡ rec')
determined rec rec' ks ws ks' ws' a b h =
    let g : Good rec ks ws = good-of-table rec ks ws a in
    let g' : Good rec' ks' ws' = good-of-table rec' ks' ws' b in
    let e : entries rec.used ks ws ≡ entries rec'.used ks' ws'
    = same-table 0 (entries rec.used ks ws) (entries rec'.used ks' ws') g.sounds g'.sounds h in
    (e, sym g.is ∙ ap record_of e ∙ g'.is)

-- ---- a table is its used entries

-- slices with the same used entries are a good table together
good-alike : {rec : Record} {ks ws ks' ws' : List ℕ} → rec.used ≤ room_of ks' ws'
    → ((i : ℕ) → i < rec.used → get_or ks i 0 ≡ get_or ks' i 0)
    → ((i : ℕ) → i < rec.used → get_or ws i 0 ≡ get_or ws' i 0)
    → GoodTable rec ks ws → GoodTable rec ks' ws'
good-alike {rec} {ks} {ws} {ks'} {ws'} room keys weights g = record {
  in_room = room;
  rises = λ p q x y. omega (arith, keys p (omega arith), keys q y, g.rises p q x y);
  keys = λ p l. omega (arith, keys p l, g.keys p l);
  weights = λ p l. omega (arith, weights p l, g.weights p l);
  pixels = g.pixels ∙ sum-eq rec.used (weight_at ws) (weight_at ws') weights;
  most = g.most;
  reds = g.reds ∙ same red_of;
  greens = g.greens ∙ same green_of;
  blues = g.blues ∙ same blue_of;
}
  where
    -- weight times f of the key is the same at each used place
    same : (f : ℕ → ℕ) → sum rec.used (weighed f ks ws) ≡ sum rec.used (weighed f ks' ws')
    same f =
        sum-eq rec.used (weighed f ks ws) (weighed f ks' ws')
        (λ i l. ap₂ (λ (w k : ℕ). w * f k) (weights i l) (keys i l))

-- so the test says the same of both
pub bad-table-alike : (rec : Record) (ks ws ks' ws' : List ℕ) → rec.used ≤ room_of ks ws → rec.used ≤ room_of ks' ws'
    → ((i : ℕ) → i < rec.used → get_or ks i 0 ≡ get_or ks' i 0)
    → ((i : ℕ) → i < rec.used → get_or ws i 0 ≡ get_or ws' i 0)
    → bad_table rec ks ws ≡ bad_table rec ks' ws'
bad-table-alike rec ks ws ks' ws' room room' keys weights =
    fail-together (bad_table rec ks ws) (bad_table rec ks' ws')
    (λ h. (bad-table-exactly rec ks' ws').1 (good-alike room' keys weights ((bad-table-exactly rec ks ws).0 h)))
    (λ h. (bad-table-exactly rec ks ws).1
    (good-alike room (λ i l. sym (keys i l)) (λ i l. sym (weights i l)) ((bad-table-exactly rec ks' ws').0 h)))
