-- Strips added one after the other are the strips joined: each is accepted exactly where the joined strip is.
use mathlib.Core.Path.{◌≡◌, sym, ap, ◌∙◌}
use mathlib.Core.Bool.{false}
use mathlib.Core.List.{List, [], ◌∷◌, ◌++◌}
use Prim.Native.Nat.{ℕ, ◌+◌}
use native.Mathlib.Omega.{arith}
use lib.ListN.{length, drop, length-append}
use borrow.Author.Tests.{le-ltb}
use Rattle.std.specs.Prelude.{None}
use Rattle.colour.specs.{bad_strip, Bytes, joined_strips, EachWhole}
use Rattle.colour.proofs.Strips.{whole-behind, bytes-front, bytes-behind}
use Rattle.table_entries.specs.{Entry, entries, keys_into, weights_into, strip_keys, put_all, taken_of}
use Rattle.table_entries.proofs.Slices.{entries-laid}
use Rattle.table_entries.proofs.Takes.{taken-front, taken-append}
use Rattle.table_test.specs.{Record, room_of, record_of, GoodTable}
use Rattle.table_test.proofs.Promises.{bad-table-exactly}
use Rattle.table.specs.Outcomes.{Outcome, add_strip}
use Rattle.table.specs.Pieces.{AddedAll, added_by, add_strips, EachAdded}
use Rattle.table.proofs.Meaning.{Accepted, accepted-of-done, all-taken, stays-good}
use Rattle.table.proofs.Joins.{outcome-all, joined-keys, same-room, empty-strip, joined-strips}

-- where no test holds, nothing is refused
done-of-accepted : (rec : Record) (ks ws s : List ℕ) → Accepted rec ks ws s
    → (add_strip rec ks ws s).answer.refusal ≡ None
done-of-accepted rec ks ws s a = ap (λ (o : Outcome). o.answer.refusal) (outcome-all rec ks ws s a)

-- ---- of two strips joined, each is accepted

module _ (rec : Record) (ks ws s t : List ℕ) (bytes : Bytes s) (whole : bad_strip s ≡ false)
    (ok : Accepted rec ks ws (s ++ t)) where
  -- the table before, and with the first strip
  abbrev es : List Entry
  es = entries rec.used ks ws

  abbrev P : List Entry
  P = put_all (entries rec.used ks ws) (strip_keys s)

  -- all pixels of both are taken
  both-taken : taken_of (room_of ks ws) es (strip_keys s ++ strip_keys t) ≡ length (strip_keys s ++ strip_keys t)
  both-taken = rw (joined-keys s t whole) at (all-taken rec ks ws (s ++ t) ok)

  -- so are those of the first
  first_taken : taken_of (room_of ks ws) es (strip_keys s) ≡ length (strip_keys s)
  first_taken = taken-front (room_of ks ws) es (strip_keys s) (strip_keys t) both-taken

  first-accepted : Accepted rec ks ws s
  first-accepted = record {
    whole = whole;
    good = ok.good;
    room_left = le-ltb (taken_of (room_of ks ws) es (strip_keys s)) (length (strip_keys s))
        (omega (arith, first_taken));
  }

  -- and those of the second, after it
  second-taken : taken_of (room_of ks ws) P (strip_keys t) ≡ length (strip_keys t)
  second-taken =
      omega (
        arith,
        both-taken,
        taken-append (room_of ks ws) es (strip_keys s) (strip_keys t) first_taken,
        length-append (strip_keys s) (strip_keys t),
      )

  -- the table of the first is good
  first_good : GoodTable (record_of P) (keys_into P ks) (weights_into P ws)
  first_good =
      rw (outcome-all rec ks ws s first-accepted)
      at (stays-good rec ks ws s bytes ((bad-table-exactly rec ks ws).0 ok.good))

  second-accepted : Accepted (record_of P) (keys_into P ks) (weights_into P ws) t
  second-accepted = record {
    whole = whole-behind s t whole ok.whole;
    good = (bad-table-exactly (record_of P) (keys_into P ks) (weights_into P ws)).1 first_good;
    room_left = rw (
      same-room rec ks ws s t bytes first-accepted,
      entries-laid P (drop (length P) ks) (drop (length P) ws),
    ) (le-ltb (taken_of (room_of ks ws) P (strip_keys t)) (length (strip_keys t)) (omega (arith, second-taken)));
  }

  -- the second call refuses nothing
  second-done : (let o = add_strip rec ks ws s in
      (add_strip o.answer.rec o.keys o.weights t).answer.refusal ≡ None)
  second-done = rw (outcome-all rec ks ws s first-accepted) (done-of-accepted _ _ _ t second-accepted)

-- ---- any number of strips

-- where the strips joined are accepted, each is
pub each-accepted : (ss : List (List ℕ)) (rec : Record) (ks ws : List ℕ) → EachWhole ss → Bytes (joined_strips ss)
    → (add_strip rec ks ws (joined_strips ss)).answer.refusal ≡ None → EachAdded rec ks ws ss
each-accepted [] rec ks ws w bytes h = tt
each-accepted (s ∷ ss) rec ks ws (w, each) bytes h =
    let front = bytes-front s (joined_strips ss) bytes in
    let ok = accepted-of-done rec ks ws (s ++ joined_strips ss) h in (
      done-of-accepted rec ks ws s (first-accepted rec ks ws s (joined_strips ss) front w ok),
      each-accepted ss _ _ _ each (bytes-behind s (joined_strips ss) bytes)
          (second-done rec ks ws s (joined_strips ss) front w ok),
    )

-- where each is accepted, the strips joined are, and leave the same
pub in-strips : (ss : List (List ℕ)) (rec : Record) (ks ws : List ℕ) → GoodTable rec ks ws → Bytes (joined_strips ss)
    → EachAdded rec ks ws ss
    → ((add_strip rec ks ws (joined_strips ss)).answer.refusal ≡ None)
    × (add_strips rec ks ws ss ≡ added_by (add_strip rec ks ws (joined_strips ss)))
in-strips [] rec ks ws g bytes each =
    let e = empty-strip rec ks ws ((bad-table-exactly rec ks ws).1 g) in
    (ap (λ (o : Outcome). o.answer.refusal) e, sym (ap added_by e))
in-strips (s ∷ ss) rec ks ws g bytes (h, each) =
    let front = bytes-front s (joined_strips ss) bytes in
    let o = add_strip rec ks ws s in
    let rest = in-strips ss o.answer.rec o.keys o.weights (stays-good rec ks ws s front g)
    (bytes-behind s (joined_strips ss) bytes) each in
    let e = joined-strips rec ks ws s (joined_strips ss) front h rest.0 in (
      ap (λ (x : Outcome). x.answer.refusal) e,
      ap (λ (r : AddedAll). record {
        taken = o.answer.taken + r.taken;
        rec = r.rec;
        keys = r.keys;
        weights = r.weights;
      }) rest.1 ∙ sym (ap added_by e),
    )
