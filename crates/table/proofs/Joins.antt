-- Adding two strips one after the other is adding them joined; an empty strip changes nothing.
use mathlib.Core.Path.{◌≡◌, refl, ap, ◌∙◌}
use mathlib.Core.Bool.{false}
use mathlib.Core.List.{List, [], ◌++◌, map}
use Prim.Native.Nat.{ℕ, ◌+◌, ◌/◌, ◌≤◌}
use native.Mathlib.Omega.{arith}
use lib.ListN.{length, drop, length-append}
use borrow.Author.Tests.{le-ltb}
use Rattle.std.specs.Prelude.{None}
use Rattle.table_entries.specs.{Entry, entries, keys_into, weights_into, strip_keys, put_all, taken_of}
use Rattle.table_entries.proofs.Gives.{put_all-length, put_all-append}
use Rattle.table_entries.proofs.Slices.{
  entries-laid,
  keys-laid,
  weights-laid,
  laid-length,
  laid_kept,
  drop-later,
}
use Rattle.table_entries.proofs.Strips.{strip-append}
use Rattle.table_entries.proofs.Takes.{taken-all, taken-append}
use Rattle.colour.specs.{bad_strip, Bytes}
use Rattle.colour.proofs.Strips.{whole-exactly, whole_append}
use Rattle.table_test.specs.{Record, room_of, record_of, bad_table}
use Rattle.table.specs.Outcomes.{Outcome, as_it_came, add_strip}
use Rattle.table_test.proofs.Goods.{Good, good-of-test}
use Rattle.table.proofs.Adds.{outcome-done}
use Rattle.table.proofs.Meaning.{Accepted, accepted-of-done, all-taken, taken-within}

-- ---- one strip, accepted

-- the outcome with all of the pixels ps in the table es
abbrev all_in : List Entry → List ℕ → List ℕ → List ℕ → Outcome
all_in es ps ks ws = record {
  answer = record { refusal = None; taken = length ps; rec = record_of (put_all es ps) };
  keys = keys_into (put_all es ps) ks;
  weights = weights_into (put_all es ps) ws;
}

-- that is the outcome of an accepted add
pub outcome-all : (rec : Record) (ks ws s : List ℕ) → Accepted rec ks ws s
    → add_strip rec ks ws s ≡ all_in (entries rec.used ks ws) (strip_keys s) ks ws
outcome-all rec ks ws s a =
    let es : List Entry = entries rec.used ks ws in
    let t : taken_of (room_of ks ws) es (strip_keys s) ≡ length (strip_keys s) = all-taken rec ks ws s a in
    outcome-done rec ks ws s a.whole a.good a.room_left
    ∙ rw (taken-all (room_of ks ws) es (strip_keys s) (omega (arith, t)), t)

-- ---- an empty strip

-- no pixel is done, with nothing taken, where the table is good: also with no room and at a full pixel total
pub empty-strip : (rec : Record) (ks ws : List ℕ) → bad_table rec ks ws ≡ false
    → add_strip rec ks ws [] ≡ as_it_came None rec ks ws
empty-strip rec ks ws b =
    let g : Good rec ks ws = good-of-test rec ks ws b in
    let a1 : rec.used ≤ length ks = omega (arith, g.in_room) in
    let a2 : rec.used ≤ length ws = omega (arith, g.in_room) in
    let k = keys-laid rec.used ks ws a1 a2 ks refl in
    let w = weights-laid rec.used ks ws a1 a2 ws refl in
    outcome-done rec ks ws [] refl b refl
    ∙ λ i. record { answer = record { refusal = None; taken = 0; rec = g.is i }; keys = k i; weights = w i }

-- ---- two strips

-- the pixels of two strips joined are those of one and then of the other
pub joined-keys : (s t : List ℕ) → bad_strip s ≡ false → strip_keys (s ++ t) ≡ strip_keys s ++ strip_keys t
joined-keys s t whole = strip-append (length s / 3) s t (omega (arith, (whole-exactly s).0 whole))

-- a larger table laid over a smaller one is the larger one laid into the slice
into-twice : (f : Entry → ℕ) (P Q : List Entry) (cs : List ℕ) → length P ≤ length Q
    → map f Q ++ drop (length Q) (map f P ++ drop (length P) cs) ≡ map f Q ++ drop (length Q) cs
into-twice f P Q cs h =
    ap (λ (r : List ℕ). map f Q ++ r)
    (drop-later (length P) (length Q) (map f P ++ drop (length P) cs) cs h (laid_kept f P cs))

module _ (rec : Record) (ks ws s t : List ℕ) (bytes : Bytes s) (a : Accepted rec ks ws s) where
  -- the table before, and with the first strip
  abbrev es : List Entry
  es = entries rec.used ks ws

  abbrev P : List Entry
  P = put_all (entries rec.used ks ws) (strip_keys s)

  -- the table of the first strip is within the room
  first_fits : length P ≤ room_of ks ws
  first_fits =
      rw (taken-all (room_of ks ws) es (strip_keys s) (omega (arith, all-taken rec ks ws s a)))
      at (taken-within rec ks ws s bytes (good-of-test rec ks ws a.good)).0

  -- so the room is the same for the second
  pub same-room : room_of (keys_into P ks) (weights_into P ws) ≡ room_of ks ws
  same-room =
      rw (
        laid-length (λ (e : Entry). e.key) P ks (omega (arith, first_fits)),
        laid-length (λ (e : Entry). e.weight) P ws (omega (arith, first_fits)),
      )

  module _ (b : Accepted (record_of P) (keys_into P ks) (weights_into P ws) t) where
    -- the second strip goes whole into the table of the first
    second-taken : taken_of (room_of ks ws) P (strip_keys t) ≡ length (strip_keys t)
    second-taken =
        rw (same-room, entries-laid P (drop (length P) ks) (drop (length P) ws))
        at (all-taken (record_of P) (keys_into P ks) (weights_into P ws) t b)

    -- and so do the strips joined
    joined-taken : taken_of (room_of ks ws) es (strip_keys (s ++ t)) ≡ length (strip_keys (s ++ t))
    joined-taken =
        rw (joined-keys s t a.whole, length-append)
        (taken-append (room_of ks ws) es (strip_keys s) (strip_keys t) (all-taken rec ks ws s a)
        ∙ omega (arith, second-taken))

    -- so the strips joined are accepted
    joined-accepted : Accepted rec ks ws (s ++ t)
    joined-accepted = record {
      whole = whole_append s t a.whole b.whole;
      good = a.good;
      room_left = le-ltb (taken_of (room_of ks ws) es (strip_keys (s ++ t))) (length (strip_keys (s ++ t)))
          (omega (arith, joined-taken));
    }

    -- the outcome of the strips joined is that of the second after the first, with the pixels of both taken
    joined : add_strip rec ks ws (s ++ t) ≡ record {
      answer = record {
        refusal = None;
        taken = length (strip_keys s) + length (strip_keys t);
        rec = (add_strip (record_of P) (keys_into P ks) (weights_into P ws) t).answer.rec;
      };
      keys = (add_strip (record_of P) (keys_into P ks) (weights_into P ws) t).keys;
      weights = (add_strip (record_of P) (keys_into P ks) (weights_into P ws) t).weights;
    }
    joined =
        let grows : length P ≤ length (put_all P (strip_keys t)) = put_all-length P (strip_keys t) in
        outcome-all rec ks ws (s ++ t) joined-accepted
        ∙ rw (
          joined-keys s t a.whole,
          put_all-append es (strip_keys s) (strip_keys t),
          length-append,
          outcome-all (record_of P) (keys_into P ks) (weights_into P ws) t b,
          entries-laid P (drop (length P) ks) (drop (length P) ws),
          into-twice (λ (e : Entry). e.key) P (put_all P (strip_keys t)) ks grows,
          into-twice (λ (e : Entry). e.weight) P (put_all P (strip_keys t)) ws grows,
        )

-- where both strips are accepted, one after the other, the strips joined are, and leave the same record and slices
pub joined-strips : (rec : Record) (ks ws s t : List ℕ) → Bytes s → (add_strip rec ks ws s).answer.refusal ≡ None
    → (let o = add_strip rec ks ws s in
    (add_strip o.answer.rec o.keys o.weights t).answer.refusal ≡ None
    → add_strip rec ks ws (s ++ t) ≡ record {
      answer = record {
        refusal = None;
        taken = o.answer.taken + (add_strip o.answer.rec o.keys o.weights t).answer.taken;
        rec = (add_strip o.answer.rec o.keys o.weights t).answer.rec;
      };
      keys = (add_strip o.answer.rec o.keys o.weights t).keys;
      weights = (add_strip o.answer.rec o.keys o.weights t).weights;
    })
joined-strips rec ks ws s t bytes h =
    let a : Accepted rec ks ws s = accepted-of-done rec ks ws s h in
    rw (outcome-all rec ks ws s a) (λ k.
    let b = accepted-of-done _ _ _ t k in
    joined rec ks ws s t bytes a b ∙ rw (outcome-all _ _ _ t b))
