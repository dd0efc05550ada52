-- Laws of a chunk of pixels as a sorted list of streaks: the table with the streaks is the table with the pixels.
use mathlib.Core.Path.{◌≡◌, ap, ◌∙◌}
use mathlib.Core.Bool.{true, cond}
use mathlib.Core.List.{List}
use Prim.Native.Nat.{ℕ, ◌+◌, ◌≤◌, ◌<◌}
use native.Mathlib.Omega.{arith}
use lib.ListN.{length, get_or, take, drop, length-take}
use lib.Seq.{take_all}
use mir.Syntax.{w8}
use mir.Val.{Fits}
use lib.Dec.{leb, eqb}
use borrow.Author.Tests.{le-leb, lt-leb}
use Rattle.number.specs.{sum_of}
use Rattle.table_entries.specs.{Entry, entries, pixels_of, sound, strip_keys, Keys, put_all}
use Rattle.table_entries.proofs.Gives.{keys-take, put_all-pixels}
use Rattle.table_entries.proofs.Strips.{byte-keys, keys-drop}
use Rattle.table_streaks.specs.{streak_key, streak_sum}
use Rattle.table_sort.specs.{sorted}
use Rattle.table_sort.proofs.Promises.{sorted_rises, sorted-keeps-sums}
use Rattle.table_channels.specs.{channel_sums, streak_sums}
use Rattle.table_channels.proofs.Sums.{streaks-are-pixels}
use Rattle.table_back.specs.{InOrder}
use Rattle.table_count.specs.{give_back, with_streaks}
use Rattle.table_count.proofs.Backs.{back-all, back-length-le}
use Rattle.table_entries.proofs.Slices.{keys-in-order, entries-length}
use Rattle.table_pixel.specs.{Standing}
use Rattle.table_add.specs.Trying.{piece}

-- a piece of a strip of bytes has keys
pub piece-keys : (s : List ℕ) (from n : ℕ) → ((i : ℕ) → get_or s i 0 < 256) → Keys (piece s from n)
piece-keys s from n h = keys-take n (keys-drop from (byte-keys s h))

-- the streaks L hold the pixels of a piece, and L' are they, sorted
pub record Listed (s : List ℕ) (from n : ℕ) (L L' : List ℕ) : Type 0 where
  pub bytes : (i : ℕ) → Fits w8 (get_or s i 0)
  pub sums : (f : ℕ → ℕ) → sum_of (streak_sum f) L ≡ sum_of f (piece s from n)
  pub sorts : L' ≡ sorted L

-- of what the code has in hand
pub listed : {s : List ℕ} {from n : ℕ} {L L' : List ℕ} → ((i : ℕ) → Fits w8 (get_or s i 0))
    → ((f : ℕ → ℕ) → sum_of (streak_sum f) L ≡ sum_of f (piece s from n)) → L' ≡ sorted L → Listed s from n L L'
listed a b c = record { bytes = a; sums = b; sorts = c }

module _ {s : List ℕ} {from n : ℕ} {L L' : List ℕ} (r : Listed s from n L L') where
  -- their keys rise
  pub list-rises : InOrder streak_key (length L') L'
  list-rises = rw r.sorts (sorted_rises L)

  -- sorted, they hold the same pixels
  list-holds : (f : ℕ → ℕ) → sum_of (streak_sum f) L' ≡ sum_of f (piece s from n)
  list-holds f = ap (sum_of (streak_sum f)) r.sorts ∙ sorted-keeps-sums (streak_sum f) L ∙ r.sums f

  -- so their levels are those of the pixels
  pub list-sums : streak_sums L' ≡ channel_sums (piece s from n)
  list-sums = streaks-are-pixels L' (piece s from n) list-holds

  -- and the table with them is the table with the pixels
  list_all : (es : List Entry) → sound 0 es ≡ true → give_back L' es ≡ put_all es (piece s from n)
  list_all es h =
      back-all L' (piece s from n) es (piece-keys s from n (λ i. omega (arith, r.bytes i))) h
      (λ c. list-holds (λ (k : ℕ). cond (eqb k c) 1 0))

  -- as it stands in two slices
  module _ {used room : ℕ} {ks ws : List ℕ} (t : Standing used room ks ws) where
    -- which has no fewer entries
    pub list-least : used ≤ length (with_streaks (length L') L' used ks ws)
    list-least =
        let all : take (length L') L' ≡ L' = take_all (length L') L' (omega arith) in
        rw all (omega (
          arith,
          back-length-le L' (entries used ks ws),
          entries-length used ks ws (omega (arith, t.in_room, t.keys_room)) (omega (arith, t.in_room, t.weights_room)),
        ))

    -- it is the table with the pixels
    pub list-given : with_streaks (length L') L' used ks ws ≡ put_all (entries used ks ws) (piece s from n)
    list-given =
        let all : take (length L') L' ≡ L' = take_all (length L') L' (omega arith) in
        rw all (list_all (entries used ks ws) t.sounds)

-- the keys of a table in two slices rise
pub standing-rises : {used room : ℕ} {ks ws : List ℕ} → Standing used room ks ws → InOrder (λ x. x) used ks
standing-rises {used} {room} {ks} {ws} t =
    keys-in-order used ks ws (omega (arith, t.in_room, t.keys_room)) (omega (arith, t.in_room, t.weights_room)) t.sounds

-- a piece has no more pixels than it was cut for
pub piece-pixels : (es : List Entry) (s : List ℕ) (from n : ℕ)
    → pixels_of (put_all es (piece s from n)) ≤ pixels_of es + n
piece-pixels es s from n = omega (arith, put_all-pixels es (piece s from n), length-take n (drop from (strip_keys s)))

-- either column of a table that does not go in, and of one that does
pub laid-shut : (room n : ℕ) (F : List Entry) (cs ds : List ℕ) → n ≡ length F → room < n
    → cs ≡ cond (leb (length F) room) ds cs
laid-shut room n F cs ds e h = rw (← e, lt-leb n room h)

-- and of one that does
pub laid-open : (room n : ℕ) (F : List Entry) (cs ds : List ℕ) → n ≡ length F → n ≤ room
    → ds ≡ cond (leb (length F) room) ds cs
laid-open room n F cs ds e h = rw (← e, le-leb n room h)
