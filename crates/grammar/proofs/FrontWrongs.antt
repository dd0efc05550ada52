-- The first wrong byte of an input that should begin with a word, in terms of the words alone: some word has all bytes
-- before it and goes on, and none has that byte too.
use Prim.Native.Nat.{ℕ, suc, ◌≤◌, ◌<◌}
use mathlib.Core.List.{List, [], ◌++◌, append-nil}
use mathlib.Core.Path.{◌≡◌, ◌∙◌, subst}
use native.Mathlib.Decide.{dec_lt, ℕ_discrete}
use native.Mathlib.Omega.{arith}
use lib.ListN.{length, take, drop, take-append-drop}
use lib.Seq.{length-take-le, take-append-le, take-take, take_at, take-length}
use Rattle.grammar.specs.Languages.{Fronts, FirstWrong, GoesOn}

module _ (L : List ℕ → Type 0) (s : List ℕ) (at : ℕ) (f : FirstWrong (Fronts L) s at) where
  -- there are as many bytes before it as its place says
  bytes-before : length (take at s) ≡ at
  bytes-before = length-take-le at s f.inside

  -- no word stands before it
  no_word : (n : ℕ) → n ≤ at → ¬ L (take n s)
  no_word n h w = elim (ℕ_discrete at (length s)) [
    | yes e ↦ f.unfinished e (record { size = n; within = omega (arith, f.inside); word = w })
    | no e ↦
        let long : length (take (suc at) s) ≡ suc at = length-take-le (suc at) s (omega (arith, f.inside)) in
        f.stops (omega (arith, f.inside)) (record {
          more = [];
          word = rw append-nil (record {
            size = n;
            within = omega (arith, long);
            word = rw (take-take n (suc at) s (omega arith)) w;
          });
        })
  ]

  -- some word has the bytes before it and goes on
  pub wrong-goes-on : GoesOn L s at
  wrong-goes-on = go (dec_lt at b.size)
    where
      b : Fronts L (take at s ++ f.begins.more)
      b = f.begins.word

      go : Dec (at < b.size) → GoesOn L s at
      go (yes l) = record {
        word = take b.size (take at s ++ f.begins.more);
        is_word = b.word;
        longer = omega (arith, length-take-le b.size (take at s ++ f.begins.more) b.within);
        same =
            take-take at b.size (take at s ++ f.begins.more) (omega arith)
            ∙ take_at (take at s) f.begins.more at bytes-before;
      }
      go (no l) =
          absurd (no_word b.size (omega arith)
          (subst L (take-append-le b.size (take at s) f.begins.more (omega (arith, bytes-before))
          ∙ take-take b.size at s (omega arith)) b.word))

  -- and none has that byte too
  pub wrong-stops : at < length s → (h : List ℕ) → L h → at < length h → ¬ (take (suc at) h ≡ take (suc at) s)
  wrong-stops l h w longer same =
      f.stops l (record {
        more = drop (suc at) h;
        word = record {
          size = length h;
          within = rw (← same, take-append-drop (suc at) h) (omega arith);
          word = rw (← same, take-append-drop (suc at) h, take-length h) w;
        };
      })
