-- `turn` meets its contract: what it is given is `Choosing`.
use Rattle.std.proofs.Common.{◌≡◌, ℕ, ◌-◌, ◌≤◌, ◌<◌, ◌∙◌, List, length, get_or, ltb, ap, arith}
use Rattle.number.specs.{most}
use Rattle.number.proofs.Searches.{first_below}
use Rattle.colour.specs.{Point}
use Rattle.shades.specs.{colour_at, OnGrid}
use Rattle.method.specs.{listed}
use Rattle.method.proofs.Startings.{listed-within}
use Rattle.starts.specs.Keeping.{shade_from, kept}
use Rattle.starts.proofs.fill.Choosing.{
  Choosing,
  choosing-first,
  choosing-room,
  choosing-greatest,
  choosing-distances,
  choosing-shade,
}
use Rattle.starts.proofs.fill.turn.Goals as goal
use Rattle.starts.proofs.fill.turn.Goals.{After-first_of-at}

-- what the call is given
given : {ks d : List ℕ} {n q : ℕ} {p : Point} (base : List ℕ) → OnGrid base → n ≤ length d
    → p ≡ shade_from (listed base) n (colour_at ks) (q - 1)
    → ((i : ℕ) → i < n → get_or d i 0 ≡ kept ks n (listed base) (q - 1) i) → Choosing ks n (listed base) q p d
given base low room last same = record { low = listed-within base low; room = room; last = last; same = same }

-- the place found is that of an entry
found : (f : ℕ → ℕ) (n at : ℕ) → 0 < n → at ≡ most n f → at < n
found f n at some e = rw e (first_below (λ a b. ltb b a) n f some)

pub returns-then-q-eq0-clause-distances : goal.returns-then-q-eq0-clause-distances
returns-then-q-eq0-clause-distances c =
    let r = c.requires in
    choosing-first (given _ r.1 r.3 r.4 r.5) c.if-q-eq0.true

pub returns-then-q-base-clause-distances : goal.returns-then-q-base-clause-distances
returns-then-q-base-clause-distances c =
    let r = c.requires in
    choosing-distances (given _ r.1 r.3 r.4 r.5) _ c.lower_kept-far.ensures.distances c.if-q-eq0.false

pub first_of-at-requires : goal.first_of-at-requires
first_of-at-requires c =
    let r = c.requires in
    let t = given _ r.1 r.3 r.4 r.5 in
    let e = c.lower_kept-far.ensures in
    (r.0.some, choosing-room t _ e.distances, e.greatest ∙ choosing-greatest t _ e.distances)

pub offset_bounds-keys-at : goal.offset_bounds-keys-at
offset_bounds-keys-at c =
    omega (arith, c.well_formed, c.requires.0.room, found _ c.args.used _ c.requires.0.some c.first_of-at.ensures)

pub bounds-keys-at : goal.bounds-keys-at
bounds-keys-at c =
    omega (arith, c.requires.0.room, found _ c.args.used _ c.requires.0.some c.first_of-at.ensures)

pub returns-clause-shade : goal.returns-clause-shade
returns-clause-shade c =
    let r = c.requires in
    c.colour_of.ensures.0 ∙ ap (colour_at c.args.keys.now) c.first_of-at.ensures
    ∙ choosing-shade (given _ r.1 r.3 r.4 r.5) _ c.lower_kept-far.ensures.distances c.if-q-eq0.false c.if-q-base.false

pub returns-clause-distances : goal.returns-clause-distances
returns-clause-distances c =
    let r = c.requires in
    choosing-distances (given _ r.1 r.3 r.4 r.5) _ c.lower_kept-far.ensures.distances c.if-q-eq0.false
