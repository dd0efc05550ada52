-- Choosing a start from the kept distances, and storing start after start: what holds at each turn.
use Prim.Native.Nat.{ℕ, suc, ◌+◌, ◌-◌, ◌*◌, ◌≤◌, ◌<◌}
use mathlib.Core.List.{List}
use mathlib.Core.Path.{◌≡◌, refl, sym, ap, ◌∙◌}
use native.Mathlib.Omega.{arith}
use lib.ListN.{length, get_or}
use Rattle.number.specs.{fill, peak, most, lesser_of}
use Rattle.number.proofs.Fills.{fill-length, fill-at, fill-again, fill-same, fill-self}
use Rattle.number.proofs.Peaks.{peak-same}
use Rattle.colour.specs.{Point, Within, most_coordinate, distance}
use Rattle.shades.specs.{colour_at, put_shade}
use Rattle.method.specs.{Base, starts_from, over}
use Rattle.method.proofs.Startings.{over-length, starts_more, next-given}
use Rattle.starts_far.specs.{lower_kept}
use Rattle.starts.specs.Keeping.{shade_from, kept}
use Rattle.starts.proofs.Keeping.{kept-start, kept_more, farthest-is-next}

-- ---- choosing a start

-- start number c is to be chosen: the one before it is p, at c = 0 the first, and the distances to the starts before p
-- are kept in d
pub record Choosing (ks : List ℕ) (n : ℕ) (B : Base) (c : ℕ) (p : Point) (d : List ℕ) : Type 0 where
  pub low : (q : ℕ) → Within most_coordinate (B.at q)
  pub room : n ≤ length d
  pub last : p ≡ shade_from B n (colour_at ks) (c - 1)
  pub same : (i : ℕ) → i < n → get_or d i 0 ≡ kept ks n B (c - 1) i

module _ {ks : List ℕ} {n : ℕ} {B : Base} {c : ℕ} {p : Point} {d : List ℕ} (t : Choosing ks n B c p d) where
  -- at c = 0 nothing is lowered
  pub choosing-first : c ≡ 0 → d ≡ fill n (kept ks n B c) d
  choosing-first e =
      let z : c - 1 ≡ c = omega arith in
      sym (fill-self n (kept ks n B c) d (λ i l. t.same i l ∙ ap (λ k. kept ks n B k i) z))

  -- below their number a given start is taken
  pub choosing-given : c < B.given → B.at c ≡ shade_from B n (colour_at ks) c
  choosing-given h = sym (next-given B n (colour_at ks) c (starts_from B n (colour_at ks) c) h)

  -- from there on, the distances lowered to those to p are the ones kept with it
  lowered-is-kept : ¬ (c ≡ 0) → (i : ℕ) → i < n → lower_kept ks p d i ≡ kept ks n B c i
  lowered-is-kept some i l =
      let e : suc (c - 1) ≡ c = omega arith in
      rw t.last
      (ap (λ x. lesser_of x (distance (colour_at ks i) (shade_from B n (colour_at ks) (c - 1)))) (t.same i l)
      ∙ sym (kept_more ks n B (c - 1) i) ∙ ap (λ k. kept ks n B k i) e)

  module _ (d' : List ℕ) (e : d' ≡ fill n (lower_kept ks p d) d) where
    -- where they are stored, each stands at its place
    lowered-stored : (i : ℕ) → i < n → lower_kept ks p d i ≡ get_or d' i 0
    lowered-stored i l = rw e (sym (fill-at n i (lower_kept ks p d) d l (omega (arith, t.room))))

    -- there is one for each entry
    pub choosing-room : n ≤ length d'
    choosing-room = rw (e, fill-length) t.room

    -- the greatest of them is the greatest of those stored
    pub choosing-greatest : peak n (lower_kept ks p d) ≡ peak n (λ i. get_or d' i 0)
    choosing-greatest = peak-same n _ _ lowered-stored

    -- they are the distances kept with p
    pub choosing-distances : ¬ (c ≡ 0) → d' ≡ fill n (kept ks n B c) d
    choosing-distances some = e ∙ fill-same n _ _ d (lowered-is-kept some)

    -- and the entry with the greatest is start number c
    pub choosing-shade : ¬ (c ≡ 0) → B.given ≤ c
        → colour_at ks (most n (λ i. get_or d' i 0)) ≡ shade_from B n (colour_at ks) c
    choosing-shade some chosen =
        farthest-is-next ks n B t.low c _ some chosen (λ i l. sym (lowered-stored i l) ∙ lowered-is-kept some i l)

-- ---- storing start after start

-- c starts of k are stored in s, which was s₀; the last is p, and the distances to those before it are kept in d,
-- which was d₀
pub record Storing (ks : List ℕ) (n : ℕ) (B : Base) (k : ℕ) (s₀ d₀ s d : List ℕ) (p : Point) (c : ℕ) : Type 0 where
  pub within : c ≤ k
  pub room : n ≤ length d₀
  pub last : p ≡ shade_from B n (colour_at ks) (c - 1)
  pub shades : s ≡ over (starts_from B n (colour_at ks) c) s₀
  pub distances : d ≡ fill n (kept ks n B (c - 1)) d₀

-- none is stored
pub storing-start : (ks : List ℕ) (n : ℕ) (B : Base) (k : ℕ) (s d e : List ℕ) (p : Point)
    → d ≡ fill n (λ i. 4294967295) e → n ≤ length e → 0 < B.given → p ≡ B.at 0 → Storing ks n B k s d s d p 0
unfolding starts_from over
storing-start ks n B k s d e p set room some first =
    record {
      within = omega arith;
      room = rw (set, fill-length) room;
      last = first ∙ sym (next-given B n (colour_at ks) 0 (starts_from B n (colour_at ks) 0) some);
      shades = refl;
      distances = kept-start ks n B d e set;
    }

module _ {ks : List ℕ} {n : ℕ} {B : Base} {k : ℕ} {s₀ d₀ s d : List ℕ} {p : Point} {c : ℕ}
    (t : Storing ks n B k s₀ d₀ s d p c) where
  -- as many coordinates as before
  pub storing-coordinates : length s ≡ length s₀
  storing-coordinates = ap length t.shades ∙ over-length _ _

  -- a member for each entry
  pub storing-room : n ≤ length d
  storing-room = rw (t.distances, fill-length) t.room

  -- the distances that are kept, one by one
  pub storing-same : (i : ℕ) → i < n → get_or d i 0 ≡ kept ks n B (c - 1) i
  storing-same i l = rw t.distances (fill-at n i (kept ks n B (c - 1)) d₀ l (omega (arith, t.room)))

  -- start number c is stored
  pub storing-step : c < k → 3 * k ≤ length s₀ → (s' d' : List ℕ) (p' : Point) → p' ≡ shade_from B n (colour_at ks) c
      → s' ≡ put_shade s c p' → d' ≡ fill n (kept ks n B c) d → Storing ks n B k s₀ d₀ s' d' p' (c + 1)
  storing-step l room s' d' p' ep es ed =
      let z : c + 1 - 1 ≡ c = omega arith in
      record {
        within = omega arith;
        room = t.room;
        last = rw z ep;
        shades = es ∙ rw (ep, t.shades) (starts_more B n (colour_at ks) c s₀ (omega arith));
        distances = rw z (ed ∙ rw t.distances (fill-again n _ _ d₀));
      }

  -- all are stored
  pub storing-done : k ≤ c → s ≡ over (starts_from B n (colour_at ks) k) s₀
  storing-done l = let e : c ≡ k = omega (arith, t.within) in rw e at t.shades

  -- members that are set to one value are set as if no distance had been kept in them
  pub storing-set : (v : ℕ) (d' e : List ℕ) → d₀ ≡ fill n (λ i. 4294967295) e → d' ≡ fill n (λ i. v) d
      → d' ≡ fill n (λ i. v) e
  storing-set v d' e set ed = ed ∙ rw (t.distances, set) (fill-again n _ _ _ ∙ fill-again n _ _ _)
