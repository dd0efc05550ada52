-- What adding a strip means: when each refusal is given, what an accepted add does to the weights, that a good table
-- stays good, that FULL keeps the longest prefix, and that two strips are the strips joined.
use mathlib.Core.Path.{◌≡◌, refl, sym, ap, ◌∙◌}
use mathlib.Core.Bool.{true, false}
use mathlib.Core.Logic.{◌↔◌, inl, inr}
use mathlib.Core.List.{List}
use Prim.Native.Nat.{ℕ, ◌+◌, ◌/◌, ◌≤◌, ◌<◌}
use native.Mathlib.Omega.{arith}
use lib.ListN.{length, get_or, drop}
use borrow.Author.Tests.{lt-ltb, ltb-true, ltb-false}
use Rattle.number.proofs.Cases.{bool}
use Rattle.std.specs.Prelude.{Some, None}
use Rattle.refusal.specs.{Refusal, RefusesBy}
use Rattle.refusal.proofs.By.{refuses_by}
use Rattle.colour.specs.{bad_strip, Bytes, most_pixels}
use Rattle.colour.proofs.Strips.{whole-exactly}
use Rattle.table_entries.specs.{
  Entry,
  entries,
  keys_into,
  weights_into,
  pixels_of,
  weight_of,
  strip_keys,
  count_of,
  put_all,
  stops,
  taken_of,
  with_taken,
  Prefix,
}
use Rattle.table_entries.proofs.Gives.{keys-take, put_all-weight, put_all-pixels, put_all-sound}
use Rattle.table_entries.proofs.Slices.{entries-length, entries-laid, laid-length, laid_kept}
use Rattle.table_entries.proofs.Strips.{byte-keys, strip-length}
use Rattle.table_entries.proofs.Takes.{taken-prefix, prefix-only, taken-at-most, taken-all, taken-fits}
use Rattle.table_test.specs.{Record, room_of, record_of, bad_table, GoodTable}
use Rattle.table.specs.Refusals.{full, add_rows, add_refusal}
use Rattle.table.specs.Outcomes.{
  Outcome,
  as_it_came,
  with_pixels,
  hands_back,
  taken_into,
  left_by_add,
  add_strip,
  table_after,
}
use Rattle.table_test.proofs.Goods.{Good, good-of-test, test-of-good, table-of-good, good-of-table}
use Rattle.table.proofs.Adds.{outcome-bad-strip, outcome-bad-table, outcome-full, outcome-done}

-- ---- when each refusal is given

module _ (rec : Record) (ks ws s : List ℕ) where
  -- adding refuses by its rows: the pixels are taken; 1 and 2 leave all as it came, FULL the pixels taken
  pub add-refuses : RefusesBy (add_rows rec ks ws s) (add_strip rec ks ws s) (λ o. o.answer.refusal)
      (taken_into rec ks ws s None) (left_by_add rec ks ws s)
  unfolding add_strip
  add-refuses =
      refuses_by _ _ _ _ refl (λ n. elim (bool (hands_back n)) [
        | inl t ↦ rw t
        | inr t ↦ rw t
      ])

  -- a refusal before the first pixel leaves all as it came
  pub refused-as-it-came : (n : Refusal) → hands_back n ≡ true
      → (add_strip rec ks ws s).answer.refusal ≡ Some n → add_strip rec ks ws s ≡ as_it_came (Some n) rec ks ws
  refused-as-it-came n b h = add-refuses.refused_is n h ∙ rw b

-- ---- what an outcome is, where the strip is whole and the table good

-- a strip is bad or not, and so on through the tests
pub record Accepted (rec : Record) (ks ws s : List ℕ) : Type 0 where
  pub whole : bad_strip s ≡ false
  pub good : bad_table rec ks ws ≡ false
  pub room_left : full rec ks ws s ≡ false

-- an answer with no refusal says that no test holds
pub accepted-of-done : (rec : Record) (ks ws s : List ℕ) → (add_strip rec ks ws s).answer.refusal ≡ None
    → Accepted rec ks ws s
accepted-of-done rec ks ws s h =
    let none = (add-refuses rec ks ws s).accepted_exactly.0 h in
    record { whole = none.0; good = none.1.0; room_left = none.1.1.0 }

module _ (rec : Record) (ks ws s : List ℕ) where
  -- the table before, and the pixels of the strip
  abbrev es : List Entry
  es = entries rec.used ks ws

  abbrev ps : List ℕ
  ps = strip_keys s

  -- with a whole strip and a good table the outcome is that of the pixels taken, whether or not one is left
  pub outcome-taken : bad_strip s ≡ false → bad_table rec ks ws ≡ false
      → add_strip rec ks ws s ≡ with_pixels (add_refusal rec ks ws s) (room_of ks ws) es ps ks ws
  outcome-taken a b = elim (bool (full rec ks ws s)) [
    | inl c ↦ outcome-full rec ks ws s a b c ∙ simp (a, b, c)
    | inr c ↦ outcome-done rec ks ws s a b c ∙ simp (a, b, c)
  ]

  -- its slices hold the table with the pixels taken
  after-taken : bad_strip s ≡ false → bad_table rec ks ws ≡ false
      → table_after (add_strip rec ks ws s) ≡ with_taken (room_of ks ws) es ps
  after-taken a b = ap table_after (outcome-taken a b) ∙ entries-laid (with_taken (room_of ks ws) es ps) _ _

  -- and the record is that table's
  pub taken-after : bad_strip s ≡ false → bad_table rec ks ws ≡ false
      → (table_after (add_strip rec ks ws s) ≡ with_taken (room_of ks ws) (entries rec.used ks ws) (strip_keys s))
      × ((add_strip rec ks ws s).answer.rec ≡ record_of (table_after (add_strip rec ks ws s)))
  taken-after a b = (
    after-taken a b,
    ap (λ (o : Outcome). o.answer.rec) (outcome-taken a b) ∙ sym (ap record_of (after-taken a b)),
  )

  -- ---- an accepted add

  -- all pixels are taken
  pub all-taken : Accepted rec ks ws s → taken_of (room_of ks ws) es ps ≡ length ps
  all-taken a =
      omega (
        arith,
        taken-at-most (room_of ks ws) es ps,
        ltb-false (taken_of (room_of ks ws) es ps) (length ps) a.room_left,
      )

  -- the table is that of all pixels
  after-accepted : Accepted rec ks ws s → table_after (add_strip rec ks ws s) ≡ put_all es ps
  after-accepted a = after-taken a.whole a.good ∙ taken-all (room_of ks ws) es ps (omega (arith, all-taken a))

  -- each colour's weight is its former weight and the number of its pixels in the strip
  pub accepted-weights : (add_strip rec ks ws s).answer.refusal ≡ None → (c : ℕ)
      → weight_of c (table_after (add_strip rec ks ws s)) ≡ weight_of c (entries rec.used ks ws) + count_of c
      (strip_keys s)
  accepted-weights h c =
      ap (weight_of c) (after-accepted (accepted-of-done rec ks ws s h)) ∙ put_all-weight c es ps

  -- the pixels go up by those of the strip
  pub accepted-pixels : (add_strip rec ks ws s).answer.refusal ≡ None
      → (add_strip rec ks ws s).answer.rec.pixels ≡ rec.pixels + length s / 3
  accepted-pixels h =
      let a = accepted-of-done rec ks ws s h in
      let whole = (whole-exactly s).0 a.whole in
      let before : pixels_of es ≡ rec.pixels = ap (λ (r : Record). r.pixels) (good-of-test rec ks ws a.good).is in
      let after : (add_strip rec ks ws s).answer.rec.pixels ≡ pixels_of (put_all es ps) =
      ap (λ (r : Record). r.pixels) (taken-after a.whole a.good).1 ∙ ap pixels_of (after-accepted a) in
      omega (arith, before, after, put_all-pixels es ps, strip-length (length s / 3) s (omega arith))

  -- ---- a good table stays good

  -- the table with the pixels taken is within its limits
  pub taken-within : Bytes s → Good rec ks ws
      → (length (with_taken (room_of ks ws) es ps) ≤ room_of ks ws)
      × (pixels_of (with_taken (room_of ks ws) es ps) ≤ most_pixels)
  taken-within bytes g =
      let n : length es ≡ rec.used
      = entries-length rec.used ks ws (omega (arith, g.in_room)) (omega (arith, g.in_room)) in
      let m : pixels_of es ≡ rec.pixels = ap (λ (r : Record). r.pixels) g.is in
      taken-fits (room_of ks ws) es (byte-keys s bytes) g.sounds (omega (arith, g.in_room)) (omega (arith, g.most))

  -- the record of the pixels taken, with the slices that hold them, is good
  good-taken : Bytes s → Good rec ks ws
      → Good (record_of (with_taken (room_of ks ws) es ps)) (keys_into (with_taken (room_of ks ws) es ps) ks)
      (weights_into (with_taken (room_of ks ws) es ps) ws)
  good-taken bytes g =
      let F : List Entry = with_taken (room_of ks ws) es ps in
      let f = taken-within bytes g in
      let lk : length (keys_into F ks) ≡ length ks = laid-length (λ (e : Entry). e.key) F ks (omega (arith, f.0)) in
      let lw : length (weights_into F ws) ≡ length ws
      = laid-length (λ (e : Entry). e.weight) F ws (omega (arith, f.0)) in
      let read : entries (length F) (keys_into F ks) (weights_into F ws) ≡ F = entries-laid F _ _ in
      record {
        in_room = rw (lk, lw) f.0;
        sounds = rw read
            (put_all-sound es (keys-take (taken_of (room_of ks ws) es ps) (byte-keys s bytes)) g.sounds);
        is = ap record_of read;
        most = f.1;
      }

  -- a good table is good after any call, accepted, FULL or refused
  pub stays-good : Bytes s → GoodTable rec ks ws
      → GoodTable (add_strip rec ks ws s).answer.rec (add_strip rec ks ws s).keys (add_strip rec ks ws s).weights
  stays-good bytes t = elim (bool (bad_strip s)) [
    | inl a ↦ rw (outcome-bad-strip rec ks ws s a) t
    | inr a ↦
        let g : Good rec ks ws = good-of-table rec ks ws t in
        rw (outcome-taken a (test-of-good rec ks ws g)) (table-of-good _ _ _ (good-taken bytes g))
  ]

  -- BAD STRIP leaves the record as true or untrue as it came
  pub bad-strip-keeps-truth : bad_strip s ≡ true
      → bad_table (add_strip rec ks ws s).answer.rec (add_strip rec ks ws s).keys (add_strip rec ks ws s).weights
      ≡ bad_table rec ks ws
  bad-strip-keeps-truth a = rw (outcome-bad-strip rec ks ws s a)

  -- ---- FULL

  -- the pixels taken are the longest prefix that goes in, pixel by pixel
  pub taken-is-longest : bad_strip s ≡ false → bad_table rec ks ws ≡ false
      → Prefix (room_of ks ws) (entries rec.used ks ws) (strip_keys s) (add_strip rec ks ws s).answer.taken
  taken-is-longest a b = rw (outcome-taken a b) (taken-prefix (room_of ks ws) es ps)

  -- and no other number of them is
  pub longest-only : bad_strip s ≡ false → bad_table rec ks ws ≡ false → (n : ℕ)
      → Prefix (room_of ks ws) (entries rec.used ks ws) (strip_keys s) n → n ≡ (add_strip rec ks ws s).answer.taken
  longest-only a b n p = rw (outcome-taken a b) (prefix-only (room_of ks ws) es ps n p)

  -- the test of FULL holds exactly where there is a next pixel, and it does not go in
  pub full-exactly : (full rec ks ws s ≡ true)
      ↔ ((taken_of (room_of ks ws) es ps < length ps)
      × (stops (room_of ks ws) (with_taken (room_of ks ws) es ps) (get_or ps (taken_of (room_of ks ws) es ps) 0) ≡
      true))
  full-exactly = (
    (λ h. let l : taken_of (room_of ks ws) es ps < length ps = ltb-true _ _ h in
        (l, (taken-prefix (room_of ks ws) es ps).ends l)),
    (λ h. lt-ltb _ _ h.0),
  )

  -- ---- what stays

  -- places past the used entries keep their values, on every input
  pub past-kept : (drop (add_strip rec ks ws s).answer.rec.used (add_strip rec ks ws s).keys
      ≡ drop (add_strip rec ks ws s).answer.rec.used ks)
      × (drop (add_strip rec ks ws s).answer.rec.used (add_strip rec ks ws s).weights
      ≡ drop (add_strip rec ks ws s).answer.rec.used ws)
  past-kept = elim (bool (bad_strip s)) [
    | inl a ↦ rw (outcome-bad-strip rec ks ws s a) (refl, refl)
    | inr a ↦ elim (bool (bad_table rec ks ws)) [
      | inl b ↦ rw (outcome-bad-table rec ks ws s a b) (refl, refl)
      | inr b ↦
          let F : List Entry = with_taken (room_of ks ws) es ps in
          rw (outcome-taken a b) (laid_kept (λ (e : Entry). e.key) F ks, laid_kept (λ (e : Entry). e.weight) F ws)
    ]
  ]
