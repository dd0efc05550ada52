-- The rounds of a run as calls of single rounds, one after the other; and what a settled run leaves, lent to one more.
use Prim.Native.Nat.{ℕ, zero, suc, ◌+◌, ◌-◌, ◌<◌}
use mathlib.Core.Bool.{true, false}
use mathlib.Core.List.{List}
use mathlib.Core.Path.{◌≡◌, refl, sym, ap, ◌∙◌}
use native.Mathlib.Omega.{arith}
use lib.ListN.{get_or}
use borrow.Author.Tests.{eqb-true}
use Rattle.std.specs.Prelude.{Ok, None}
use Rattle.std.specs.Result.{result_err}
use Rattle.number.specs.{sum}
use Rattle.number.proofs.Sums.{sum-eq}
use Rattle.table_test.specs.{Record, bad_table}
use Rattle.method.specs.{
  Colours,
  State,
  front_of,
  colours_of,
  to_mean,
  step,
  after,
  moved_of,
  total_of,
  plain_distances,
  short_distances,
  begin,
  Fit,
  Joined,
}
use Rattle.method.proofs.Ends.{still-moves-none, still-total, still-again}
use Rattle.method.proofs.Falls.{after_more, after-fit, after-joined}
use Rattle.method.proofs.Fronts.{
  front-total,
  front-distances,
  front_length,
  front-fit,
  front-moved,
  front-step,
}
use Rattle.lloyd_rounds.specs.{Rounded, RoundOutcome, made_round, plain_round, short_round}
use Rattle.lloyd_rounds.proofs.Accepts.{plain-made, short-made}
use Rattle.lloyd_rounds.proofs.Rounds.{ok-only}
use Rattle.lloyd.specs.Calling.{short_calls, lent_start, distances_told, Stays}
use Rattle.lloyd.specs.Outcomes.{AcceptedRun, left}
use Rattle.lloyd.specs.declared.Ran.{Ran}
use Rattle.lloyd.proofs.Accepted.{tests, making, joined}
use Rattle.lloyd.proofs.Ends.{settled-final}
use Rattle.lloyd.proofs.Made.{
  answer-is,
  rounds-made,
  rounds-within,
  settled_is,
  total-recorded,
  left_is,
  left-fit,
  member_below,
}

-- ---- what a single round makes of the front of a state

module _ (rec : Record) (ks ws : List ℕ) (k : ℕ) (a : State) (table : bad_table rec ks ws ≡ false)
    (fit : Fit (colours_of rec.used ks ws) k a) where
  -- a plain one
  pub plain-of-front : plain_round rec ks ws (front_of k a)
      ≡ made_round to_mean (colours_of rec.used ks ws) k (front_of k a) plain_distances
  plain-of-front =
      let C = colours_of rec.used ks ws in
      plain-made rec ks ws k (front_of k a) table (front-fit C k a fit) (front_length C k a fit)

  -- and a shortened one, where each member is a shade's number
  pub short-of-front : Joined (colours_of rec.used ks ws) k a
      → short_round rec ks ws (front_of k a)
      ≡ made_round to_mean (colours_of rec.used ks ws) k (front_of k a) short_distances
  short-of-front joined =
      let C = colours_of rec.used ks ws in
      short-made rec ks ws k (front_of k a) table (front-fit C k a fit) (front_length C k a fit) joined

module _ {rec : Record} {ks ws : List ℕ} {k limit : ℕ} {ms ts : List ℕ} {r : Ran} {members totals : List ℕ}
    (h : AcceptedRun rec ks ws k limit ms ts r members totals) where
  -- the colours of the table
  abbrev C : Colours
  C = colours_of rec.used ks ws

  -- the state after some rounds of the run
  abbrev at : ℕ → State
  at n = after to_mean (colours_of rec.used ks ws) k (begin (colours_of rec.used ks ws) k ms) n

  -- what as many calls leave
  abbrev called : ℕ → State
  called n = short_calls rec ks ws (lent_start rec ks ws k ms) n

  -- each state on the way is fit for a round
  fit_at : (n : ℕ) → Fit C k (at n)
  fit_at = after-fit to_mean C k (begin C k ms) (making h).good (making h).fair (making h).fit

  -- and each member is a shade's number
  joined_at : (n : ℕ) → Joined C k (at n)
  joined_at = after-joined to_mean C k (begin C k ms) (making h).good (making h).fair (making h).fit
      (joined (tests h))

  -- ---- the calls

  -- a call on the front of what the run has after n rounds is made
  call_at : (n : ℕ) → short_round rec ks ws (front_of k (at n)) ≡ made_round to_mean C k (front_of k (at n))
      short_distances
  call_at n = short-of-front rec ks ws k (at n) (tests h).table (fit_at n) (joined_at n)

  -- n calls leave that front
  pub calls-are-rounds : (n : ℕ) → called n ≡ front_of k (at n)
  unfolding short_calls after
  calls-are-rounds zero = refl
  calls-are-rounds (suc n) =
      ap (λ z. (short_round rec ks ws z).state) (calls-are-rounds n)
      ∙ ap (λ (o : RoundOutcome). o.state) (call_at n)
      ∙ front-step C k (at n) to_mean

  -- so each call is made
  call-made : (n : ℕ) → short_round rec ks ws (called n) ≡ made_round to_mean C k (front_of k (at n)) short_distances
  call-made n = ap (short_round rec ks ws) (calls-are-rounds n) ∙ call_at n

  -- and accepted
  pub call-accepted : (n : ℕ) → result_err (short_round rec ks ws (called n)).answer ≡ None
  call-accepted n = ap (λ (o : RoundOutcome). result_err o.answer) (call-made n)

  -- what it answers is what its round makes
  call-answers : (n : ℕ) {x : Rounded} → (short_round rec ks ws (called n)).answer ≡ Ok x
      → Ok x ≡ (made_round to_mean C k (front_of k (at n)) short_distances).answer
  call-answers n e = sym e ∙ ap (λ (o : RoundOutcome). o.answer) (call-made n)

  -- the total of its round
  pub call-total : (n : ℕ) → n < r.rounds → (x : Rounded) → (short_round rec ks ws (called n)).answer ≡ Ok x
      → x.total ≡ get_or totals n 0
  call-total n l x e =
      ap (λ (x : Rounded). x.total) (ok-only (call-answers n e))
      ∙ front-total C k (at n) (making h).fit.some
      ∙ sym (total-recorded (making h) n l)

  -- and how many shades its round moves
  pub call-moved : (n : ℕ) (x : Rounded) → (short_round rec ks ws (called n)).answer ≡ Ok x
      → x.moved ≡ moved_of to_mean C k (at n)
  call-moved n x e =
      ap (λ (x : Rounded). x.moved) (ok-only (call-answers n e)) ∙ front-moved C k (at n) to_mean

  -- the distances that the calls answer add up to the run's
  pub calls-distances : sum r.rounds (λ n. distances_told (short_round rec ks ws (called n)).answer) ≡ r.distances
  calls-distances =
      sum-eq r.rounds _ (λ n. short_distances C k (at n))
      (λ n l. ap (λ (o : RoundOutcome). distances_told o.answer) (call-made n)
      ∙ front-distances C k (at n) (joined_at n))
      ∙ ap (λ m. sum m (λ n. short_distances C k (at n))) (rounds-made (making h))
      ∙ sym (ap (λ (x : Ran). x.distances) (answer-is (making h)))

  -- ---- what the run leaves

  -- as many calls leave that, in three coordinates for each shade
  pub calls-leave : called r.rounds ≡ front_of k (left r members)
  calls-leave = calls-are-rounds r.rounds ∙ ap (front_of k) (sym (left_is (making h)))

  -- ---- a settled run

  module _ (settled : r.settled ≡ true) where
    -- the last round moves no shade
    still : moved_of to_mean C k (at (r.rounds - 1)) ≡ 0
    still = eqb-true _ 0 (sym (settled_is (making h)) ∙ settled)

    -- the run leaves what that round leaves
    left-last : left r members ≡ step to_mean C k (at (r.rounds - 1))
    left-last =
        let e : r.rounds ≡ r.rounds - 1 + 1 = omega (arith, (rounds-within (making h)).0) in
        left_is (making h) ∙ ap at e ∙ after_more to_mean C k (begin C k ms) (r.rounds - 1)

    -- another round leaves it as it is
    left-again : step to_mean C k (left r members) ≡ left r members
    left-again =
        ap (step to_mean C k) left-last
        ∙ still-again to_mean C k (at (r.rounds - 1)) (fit_at (r.rounds - 1)) still
        ∙ sym left-last

    -- moves no shade
    left-moves-none : moved_of to_mean C k (left r members) ≡ 0
    left-moves-none =
        ap (moved_of to_mean C k) left-last
        ∙ still-moves-none to_mean C k (at (r.rounds - 1)) (fit_at (r.rounds - 1)) still

    -- and has the final total
    left-total : total_of C k (left r members) ≡ r.total
    left-total =
        ap (total_of C k) left-last
        ∙ still-total to_mean C k (at (r.rounds - 1)) (fit_at (r.rounds - 1)) still
        ∙ sym (total-recorded (making h) (r.rounds - 1) (omega (arith, (rounds-within (making h)).0)))
        ∙ sym (settled-final (making h) settled)

    -- so a round that is made of its front stays
    front-stays : (distances : Colours → ℕ → State → ℕ)
        → Stays (made_round to_mean C k (front_of k (left r members)) distances) (front_of k (left r members)) r.total
    front-stays distances = record {
      answered = _;
      accepted = refl;
      state_is = front-step C k (left r members) to_mean ∙ ap (front_of k) left-again;
      moved_none = front-moved C k (left r members) to_mean ∙ left-moves-none;
      total_is = front-total C k (left r members) (making h).fit.some ∙ left-total;
    }

    -- a plain one
    pub settled_plain :
        Stays (plain_round rec ks ws (front_of k (left r members))) (front_of k (left r members)) r.total
    settled_plain =
        rw (plain-of-front rec ks ws k (left r members) (tests h).table (left-fit (making h)))
        (front-stays plain_distances)

    -- and a shortened one
    pub settled-short :
        Stays (short_round rec ks ws (front_of k (left r members))) (front_of k (left r members)) r.total
    settled-short =
        rw (short-of-front rec ks ws k (left r members) (tests h).table (left-fit (making h))
        (member_below (making h)))
        (front-stays short_distances)
