-- The loops that take pixels: what holds at each turn, of the pixels ps that are to be taken. A turn tries a piece of
-- them; it goes in whole, or is tried again smaller, or is one pixel that does not go in.
use mathlib.Core.Path.{◌≡◌, refl, sym, ap, ◌∙◌}
use mathlib.Core.Bool.{true, false}
use mathlib.Core.List.{List, [], ◌∷◌, ◌++◌}
use Prim.Native.Nat.{ℕ, ◌+◌, ◌≤◌, ◌<◌}
use native.Mathlib.Omega.{arith}
use lib.ListN.{length, get_or, take, drop, length-drop, take-append-drop, drop_of_length-le}
use lib.Seq.{length-take-le, drop-drop, drop-cons}
use lib.Dec.{leb}
use borrow.Author.Tests.{le-leb, lt-leb}
use Rattle.colour.specs.{most_pixels}
use Rattle.table_entries.specs.{
  Entry,
  entries,
  keys_into,
  weights_into,
  pixels_of,
  Keys,
  put,
  put_all,
  stops,
  taken_of,
  with_taken,
}
use Rattle.table_entries.proofs.Gives.{put_all-length, put_all-pixels, put_all-sound}
use Rattle.table_entries.proofs.Slices.{
  entries-length,
  entries-laid,
  keys-laid,
  weights-laid,
  laid-length,
  laid_kept,
  drop-later,
}
use Rattle.table_entries.proofs.Takes.{stops-at-room, fits-taken, taken-append, with_taken-append}
use Rattle.table_channels.specs.{ChannelSums, channel_sums, no_sums, together}
use Rattle.table_channels.proofs.Sums.{sums-more}
use Rattle.table_pixel.specs.{Standing, laid_keys, laid_weights}
use Rattle.table_fill.specs.Taking.{TookMeets}

-- `taken` of the pixels are in the table, and taking the rest from here gives what taking all gives
pub record Taking (ks₀ ws₀ : List ℕ) (used room : ℕ) (ps ks ws : List ℕ) (now taken : ℕ) (sums : ChannelSums)
    : Type 0 where
  pub table : Standing now room ks ws
  pub keys_length : length ks ≡ length ks₀
  pub weights_length : length ws ≡ length ws₀
  pub within : taken ≤ length ps
  pub pixels : pixels_of (entries now ks ws) ≡ pixels_of (entries used ks₀ ws₀) + taken
  pub taken_is : taken + taken_of room (entries now ks ws) (drop taken ps) ≡ taken_of room (entries used ks₀ ws₀) ps
  pub table_is : with_taken room (entries now ks ws) (drop taken ps) ≡ with_taken room (entries used ks₀ ws₀) ps
  pub sums_are : sums ≡ channel_sums (take taken ps)
  pub keys_kept : drop now ks ≡ drop now ks₀
  pub weights_kept : drop now ws ≡ drop now ws₀

-- before the first turn
pub taking-start : (ks ws : List ℕ) (used room : ℕ) (ps : List ℕ) → Standing used room ks ws
    → Taking ks ws used room ps ks ws used 0 no_sums
taking-start ks ws used room ps t = record {
  table = t;
  keys_length = refl;
  weights_length = refl;
  within = omega arith;
  pixels = omega arith;
  taken_is = omega arith;
  table_is = refl;
  sums_are = refl;
  keys_kept = refl;
  weights_kept = refl;
}

module _ {ks₀ ws₀ : List ℕ} {used room : ℕ} {ps ks ws : List ℕ} {now taken : ℕ} {sums : ChannelSums}
    (t : Taking ks₀ ws₀ used room ps ks ws now taken sums) where
  -- the table at hand is within the keys
  in_keys : now ≤ length ks
  in_keys = omega (arith, t.table.in_room, t.table.keys_room)

  -- and within the weights
  in_weights : now ≤ length ws
  in_weights = omega (arith, t.table.in_room, t.table.weights_room)

  -- and has as many entries as are used
  length-E : length (entries now ks ws) ≡ now
  length-E = entries-length now ks ws in_keys in_weights

  -- where no more pixels go in, the answer is what is there
  taking-stop : taken_of room (entries now ks ws) (drop taken ps) ≡ 0
      → TookMeets room (entries used ks₀ ws₀) ps ks₀ ws₀ now taken sums ks ws
  taking-stop z =
      let e : entries now ks ws ≡ with_taken room (entries used ks₀ ws₀) ps = rw z at t.table_is in record {
        taken_is = omega (arith, t.taken_is, z);
        used_is = rw (← e) (sym length-E);
        sums_are = t.sums_are;
        keys_are = rw (← e) (sym (keys-laid now ks ws in_keys in_weights ks₀ t.keys_kept));
        weights_are = rw (← e) (sym (weights-laid now ks ws in_keys in_weights ws₀ t.weights_kept));
      }

  -- all pixels are taken
  pub taking-done : length ps ≤ taken → TookMeets room (entries used ks₀ ws₀) ps ks₀ ws₀ now taken sums ks ws
  taking-done l = taking-stop (rw (drop_of_length-le ps {i = taken} l))

  -- ---- the next pixel alone

  module _ (l : taken < length ps) where
    -- it is the first of those left
    one : take 1 (drop taken ps) ≡ get_or ps taken 0 ∷ []
    one = rw (drop-cons ps taken 0 l)

    -- where the table with it has more entries than the room, the answer is what is there
    taking-at : room < length (put (get_or ps taken 0) (entries now ks ws))
        → TookMeets room (entries used ks₀ ws₀) ps ks₀ ws₀ now taken sums ks ws
    taking-at h =
        let s : stops room (entries now ks ws) (get_or ps taken 0) ≡ true
        = stops-at-room room (entries now ks ws) (get_or ps taken 0) t.table.sounds
        (omega (arith, length-E, t.table.in_room)) h in
        taking-stop (rw (drop-cons ps taken 0 l) (simp s))

  -- ---- a turn that tries p pixels

  module _ (p : ℕ) (l : taken + p ≤ length ps) where
    -- the pixels tried, and the table with them
    abbrev C : List ℕ
    C = take p (drop taken ps)

    abbrev F : List Entry
    F = put_all (entries now ks ws) (take p (drop taken ps))

    -- p pixels are tried
    length-C : length (take p (drop taken ps)) ≡ p
    length-C = length-take-le p (drop taken ps) (rw length-drop (omega arith))

    -- the pixels left are those tried and the rest
    parts : drop taken ps ≡ take p (drop taken ps) ++ drop (taken + p) ps
    parts =
        sym (take-append-drop p (drop taken ps))
        ∙ ap (λ (r : List ℕ). take p (drop taken ps) ++ r) (drop-drop p taken ps)

    -- the pixel total with them
    pixels-F : pixels_of F ≡ pixels_of (entries used ks₀ ws₀) + (taken + p)
    pixels-F = omega (arith, put_all-pixels (entries now ks ws) (take p (drop taken ps)), length-C, t.pixels)

    -- their levels, if they are these, beside the sums so far
    more-sums : {more : ChannelSums} → more ≡ channel_sums (take p (drop taken ps))
        → together sums more ≡ channel_sums (take (taken + p) ps)
    more-sums e = rw (t.sums_are, e) (sym (sums-more taken p ps))

    module _ {ks' ws' : List ℕ} {now' : ℕ} {more : ChannelSums} (un : now' ≡ length F)
        (us : more ≡ channel_sums (take p (drop taken ps))) (uk : ks' ≡ laid_keys room F ks)
        (uw : ws' ≡ laid_weights room F ws) where
      -- they go in
      module _ (h : now' ≤ room) (m : pixels_of (entries used ks₀ ws₀) + (taken + p) ≤ most_pixels)
          (keys : Keys (take p (drop taken ps))) where
        -- the table with them is within the room
        opens : leb (length F) room ≡ true
        opens = rw (← un) (le-leb now' room h)

        -- so the keys are laid
        keys_in : ks' ≡ keys_into F ks
        keys_in = uk ∙ simp opens

        -- and the weights
        weights-in : ws' ≡ weights_into F ws
        weights-in = uw ∙ simp opens

        -- and it is read back
        read : entries now' ks' ws' ≡ F
        read = rw (un, keys_in, weights-in) (entries-laid _ _ _)

        -- the slices are as long as before
        keys-same : length ks' ≡ length ks
        keys-same =
            rw keys_in (laid-length (λ (e : Entry). e.key) F ks (omega (arith, un, h, t.table.keys_room)))

        weights-same : length ws' ≡ length ws
        weights-same =
            rw weights-in (laid-length (λ (e : Entry). e.weight) F ws (omega (arith, un, h, t.table.weights_room)))

        -- all of them are taken
        all-taken : taken_of room (entries now ks ws) (take p (drop taken ps)) ≡ length (take p (drop taken ps))
        all-taken =
            fits-taken room (entries now ks ws) keys t.table.sounds (omega (arith, un, h))
            (omega (arith, pixels-F, m))

        -- no entry is lost
        grows : now ≤ now'
        grows = omega (arith, put_all-length (entries now ks ws) (take p (drop taken ps)), length-E, un)

        -- the loop goes on with them in the table
        pub taking-in : Taking ks₀ ws₀ used room ps ks' ws' now' (taken + p) (together sums more)
        taking-in = record {
          table = record {
            in_room = h;
            keys_room = omega (arith, t.table.keys_room, keys-same);
            weights_room = omega (arith, t.table.weights_room, weights-same);
            sounds = rw read (put_all-sound (entries now ks ws) keys t.table.sounds);
          };
          keys_length = keys-same ∙ t.keys_length;
          weights_length = weights-same ∙ t.weights_length;
          within = l;
          pixels = rw read pixels-F;
          taken_is = rw read (omega (
            arith,
            rw parts at t.taken_is,
            taken-append room (entries now ks ws) C (drop (taken + p) ps) all-taken,
            length-C,
          ));
          table_is = rw read
              (sym (with_taken-append room (entries now ks ws) C (drop (taken + p) ps) all-taken)
              ∙ (rw parts at t.table_is));
          sums_are = more-sums us;
          keys_kept = rw (un, keys_in) (laid_kept (λ (e : Entry). e.key) F ks)
              ∙ drop-later now now' ks ks₀ grows t.keys_kept;
          weights_kept = rw (un, weights-in) (laid_kept (λ (e : Entry). e.weight) F ws)
              ∙ drop-later now now' ws ws₀ grows t.weights_kept;
        }

      -- they do not go in, and all is as it was
      module _ (h : room < now') where
        -- the table with them is beyond the room
        shuts : leb (length F) room ≡ false
        shuts = rw (← un) (lt-leb now' room h)

        -- both slices are as they were
        keys-as-they-were : ks' ≡ ks
        keys-as-they-were = uk ∙ simp shuts

        weights-as-they-were : ws' ≡ ws
        weights-as-they-were = uw ∙ simp shuts

        -- so the turn changed nothing
        pub taking-out : Taking ks₀ ws₀ used room ps ks' ws' now taken sums
        taking-out = rw (keys-as-they-were, weights-as-they-were) t

        -- and where one pixel was tried, that is the end
        pub taking-full : p ≡ 1 → TookMeets room (entries used ks₀ ws₀) ps ks₀ ws₀ now taken sums ks' ws'
        taking-full z =
            let n : room < length F = rw (← un) h in
            let l' : taken < length ps = omega arith in
            rw (keys-as-they-were, weights-as-they-were) (taking-at l' (rw (z, one l') at n))
