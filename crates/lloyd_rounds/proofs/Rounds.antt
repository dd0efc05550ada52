-- The outcomes of single rounds: refused or made, and what is left either way.
use Prim.Native.Nat.{ℕ, ◌/◌, ◌≤◌, ◌<◌}
use mathlib.Core.Bool.{false}
use mathlib.Core.List.{List, [], ◌∷◌}
use mathlib.Core.Path.{◌≡◌, refl, sym, ap, ◌∙◌}
use lib.ListN.{get_or, length}
use borrow.Author.Tests.{ltb-false}
use Rattle.number.proofs.Fills.{fill-kept}
use Rattle.std.specs.Prelude.{Result, Ok, None}
use Rattle.std.specs.Result.{result_err, result_unwrap_or}
use Rattle.refusal.specs.{Row, Refusal, first_refusal, NoneHolds, RefusesBy}
use Rattle.refusal.proofs.Order.{none-front}
use Rattle.refusal.proofs.By.{none-exactly, refuses_by, refuses-by-all}
use Rattle.table_test.specs.{Record, bad_table}
use Rattle.shades.specs.{colour_at, nearest_shade, bad_coordinates, bad_centre}
use Rattle.shades.proofs.Checks.{bad-coordinates-exactly, shades-of-tests}
use Rattle.method.specs.{Colours, State, colours_of, to_mean, joins, plain_distances, short_distances}
use Rattle.method.proofs.Falls.{member-joined}
use Rattle.method.proofs.Sizes.{short-at-most-plain}
use Rattle.rounds_step.specs.{Steppable, Walkable}
use Rattle.lloyd_tests.specs.{short_members, bad_member}
use Rattle.lloyd_rounds.specs.Refusals.{plain_rows, member_row, short_rows}
use Rattle.lloyd_rounds.specs.Outcomes.{
  RoundOutcome,
  RoundMeets,
  made_round,
  kept_round,
  plain_round,
  short_round,
}
use Rattle.lloyd_rounds.specs.declared.Rounded.{Rounded}
use Rattle.lloyd_tests.proofs.Checks.{bad-member-exactly}
use Rattle.lloyd_tests.proofs.Tables.{tabled-of-test}

-- two answers that are one answer have one value
pub ok-only : {T : Type 0} {x y : T} → ◌≡◌ {A = Result T Refusal} (Ok x) (Ok y) → x ≡ y
ok-only {x} e = ap (λ r. result_unwrap_or r x) e

-- ---- a round of either kind

-- the contract of an outcome leaves one answer and one content of each lent slice
pub meets-only : {o : RoundOutcome} {r r' : Result Rounded Refusal} {cs cs' ms ms' : List ℕ} → RoundMeets o r cs ms
    → RoundMeets o r' cs' ms' → (r ≡ r') × (cs ≡ cs') × (ms ≡ ms')
meets-only a b =
    (a.answer ∙ sym b.answer, a.coordinates_are ∙ sym b.coordinates_are, a.members_are ∙ sym b.members_are)

-- members past the used entries stay, on every input
outcome-kept : {rows : List Row} {o : RoundOutcome} (C : Colours) (k : ℕ) (a : State)
    (distances : Colours → ℕ → State → ℕ)
    → RefusesBy rows o (λ o. result_err o.answer) (made_round to_mean C k a distances) (kept_round a)
    → (i : ℕ) → C.n ≤ i → get_or o.state.members i 0 ≡ get_or a.members i 0
outcome-kept C k a distances r i h =
    refuses-by-all r (λ o. get_or o.state.members i 0 ≡ get_or a.members i 0)
    (fill-kept C.n i (joins C k a.coordinates) a.members h) (λ n. refl)

-- ---- what the tests give

module _ (rec : Record) (ks ws : List ℕ) (a : State) where
  -- the tests of a plain round fail
  pub record PlainGood : Type 0 where
    pub table : bad_table rec ks ws ≡ false
    pub count : bad_coordinates (length a.coordinates) ≡ false
    pub centre : bad_centre a.coordinates ≡ false
    pub room : short_members rec a.members ≡ false

  -- then the round can be made
  pub plain-steppable : PlainGood → Steppable rec.used ks ws (length a.coordinates / 3) a
  plain-steppable g = record {
    table = tabled-of-test rec ks ws g.table;
    fit = record {
      some = ((bad-coordinates-exactly (length a.coordinates)).0 g.count).0;
      shades = shades-of-tests a.coordinates g.count g.centre;
      room = ltb-false (length a.members) rec.used g.room;
    };
  }

  -- with members that are shades' numbers, a shortened round can be made
  pub short-walkable : PlainGood → bad_member rec.used (length a.coordinates / 3) a.members ≡ false
      → Walkable rec.used ks ws (length a.coordinates / 3) a
  short-walkable g m = record {
    steppable = plain-steppable g;
    joined = (bad-member-exactly rec.used (length a.coordinates / 3) a.members).0 m;
  }

  -- a plain round that is accepted passes its tests
  plain-good : NoneHolds (plain_rows rec ks ws a) → PlainGood
  plain-good h = record { table = h.0; count = h.1.0; centre = h.1.1.0; room = h.1.1.1.0 }

  -- a shortened round that is accepted passes those of a plain one, and one more
  short-good : NoneHolds (short_rows rec ks ws a)
      → PlainGood × (bad_member rec.used (length a.coordinates / 3) a.members ≡ false)
  short-good h = (plain-good (none-front (plain_rows rec ks ws a) (member_row rec a ∷ []) h), h.1.1.1.1.0)

  -- where no row of a plain round holds its tests fail
  pub good-of-none : first_refusal (plain_rows rec ks ws a) ≡ None → PlainGood
  good-of-none e = plain-good ((none-exactly (plain_rows rec ks ws a)).0 e)

  -- where the tests of a plain round fail, no row of it holds
  pub plain-none : PlainGood → first_refusal (plain_rows rec ks ws a) ≡ None
  plain-none g = (none-exactly (plain_rows rec ks ws a)).1 (g.table, (g.count, (g.centre, (g.room, tt))))

  -- and where that of the members fails too, none of a shortened one
  pub short_none : PlainGood → bad_member rec.used (length a.coordinates / 3) a.members ≡ false
      → first_refusal (short_rows rec ks ws a) ≡ None
  short_none g m = (none-exactly (short_rows rec ks ws a)).1 (g.table, (g.count, (g.centre, (g.room, (m, tt)))))

  -- ---- the two calls

  -- a plain round refuses by its rows: it is a round, or its error, and no slice changes
  pub plain-refuses : RefusesBy (plain_rows rec ks ws a) (plain_round rec ks ws a) (λ o. result_err o.answer)
      (made_round to_mean (colours_of rec.used ks ws) (length a.coordinates / 3) a plain_distances) (kept_round a)
  unfolding plain_round
  plain-refuses = refuses_by _ _ _ _ refl (λ n. refl)

  -- and so does a shortened one
  pub short-refuses : RefusesBy (short_rows rec ks ws a) (short_round rec ks ws a) (λ o. result_err o.answer)
      (made_round to_mean (colours_of rec.used ks ws) (length a.coordinates / 3) a short_distances) (kept_round a)
  unfolding short_round
  short-refuses = refuses_by _ _ _ _ refl (λ n. refl)

  -- an accepted shortened round passes its tests
  short-good-of : {s : Rounded} → (short_round rec ks ws a).answer ≡ Ok s
      → PlainGood × (bad_member rec.used (length a.coordinates / 3) a.members ≡ false)
  short-good-of e = short-good (short-refuses.accepted_exactly.0 (ap result_err e))

  -- and answers what it makes
  short-answers : {s : Rounded} → (short_round rec ks ws a).answer ≡ Ok s
      → Ok s ≡ (made_round to_mean (colours_of rec.used ks ws) (length a.coordinates / 3) a short_distances).answer
  short-answers e =
      sym e ∙ ap (λ (o : RoundOutcome). o.answer) (short-refuses.accepted_is (ap result_err e))

  -- where it is accepted a plain one is made
  plain-of-short : {s : Rounded} → (short_round rec ks ws a).answer ≡ Ok s
      → plain_round rec ks ws a
      ≡ made_round to_mean (colours_of rec.used ks ws) (length a.coordinates / 3) a plain_distances
  plain-of-short e = plain-refuses.by_none (plain-none (short-good-of e).0)

  -- and leaves the same
  pub short-leaves-plain : (s : Rounded) → (short_round rec ks ws a).answer ≡ Ok s
      → (p : Rounded)
      × ((plain_round rec ks ws a).answer ≡ Ok p)
      × ((short_round rec ks ws a).state ≡ (plain_round rec ks ws a).state)
      × (s.total ≡ p.total)
      × (s.moved ≡ p.moved)
  short-leaves-plain s e =
      let is = ok-only (short-answers e) in (
        _,
        ap (λ (o : RoundOutcome). o.answer) (plain-of-short e),
        ap (λ (o : RoundOutcome). o.state) (short-refuses.accepted_is (ap result_err e))
            ∙ ap (λ (o : RoundOutcome). o.state) (sym (plain-of-short e)),
        ap (λ (x : Rounded). x.total) is,
        ap (λ (x : Rounded). x.moved) is,
      )

  -- and counts at least as many distances
  pub short-distances-at-most : (s p : Rounded) → (short_round rec ks ws a).answer ≡ Ok s
      → (plain_round rec ks ws a).answer ≡ Ok p → s.distances ≤ p.distances
  short-distances-at-most s p e f =
      let is = ok-only (short-answers e) in
      let was = ok-only (sym f ∙ ap (λ (o : RoundOutcome). o.answer) (plain-of-short e)) in
      let g = short-good-of e in
      rw (is, was)
      (short-at-most-plain (colours_of rec.used ks ws) (length a.coordinates / 3) a
      (short-walkable g.0 g.1).joined)

  -- members past the used entries stay after a plain round
  pub plain-members-kept : (i : ℕ) → rec.used ≤ i
      → get_or (plain_round rec ks ws a).state.members i 0 ≡ get_or a.members i 0
  plain-members-kept =
      outcome-kept (colours_of rec.used ks ws) (length a.coordinates / 3) a plain_distances plain-refuses

  -- and after a shortened one
  pub short-members-kept : (i : ℕ) → rec.used ≤ i
      → get_or (short_round rec ks ws a).state.members i 0 ≡ get_or a.members i 0
  short-members-kept =
      outcome-kept (colours_of rec.used ks ws) (length a.coordinates / 3) a short_distances short-refuses

  -- in an accepted plain round each used member is the nearest shade, as the shades came
  pub plain-joined : result_err (plain_round rec ks ws a).answer ≡ None → (i : ℕ) → i < rec.used
      → get_or (plain_round rec ks ws a).state.members i 0
      ≡ nearest_shade a.coordinates (length a.coordinates / 3) (colour_at ks i)
  plain-joined h i l =
      rw (plain-refuses.accepted_is h)
      (member-joined (colours_of rec.used ks ws) (length a.coordinates / 3) a
      (plain-steppable (plain-good (plain-refuses.accepted_exactly.0 h))).fit i l)

  -- and in an accepted shortened one
  pub short-joined : result_err (short_round rec ks ws a).answer ≡ None → (i : ℕ) → i < rec.used
      → get_or (short_round rec ks ws a).state.members i 0
      ≡ nearest_shade a.coordinates (length a.coordinates / 3) (colour_at ks i)
  short-joined h i l =
      rw (short-refuses.accepted_is h)
      (member-joined (colours_of rec.used ks ws) (length a.coordinates / 3) a
      (plain-steppable (short-good (short-refuses.accepted_exactly.0 h)).0).fit i l)
