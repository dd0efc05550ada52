-- `bad_table` meets its contract: each way out is a law of `Ways`.
use mathlib.Core.Path.{◌≡◌, sym, ◌∙◌}
use native.Mathlib.Omega.{arith}
use borrow.Author.Rules.{rules}
use Rattle.number.specs.{sum}
use Rattle.table_entries.specs.{Tabled}
use Rattle.table_sums.proofs.Telling.{two-of-none}
use Rattle.table_test.specs.Testing.{weight_at}
use Rattle.table_test.proofs.test.Faultless.{Faultless, faultless-upto}
use Rattle.table_test.proofs.test.Ways.{
  InRoom,
  tabled-in-room,
  bad-over-room,
  bad-of-pixels-alone,
  bad-of-empty,
  bad-of-fault,
  bad-of-sum,
  bad-of-many,
  bad-of-sums,
}
use Rattle.table_test.proofs.test.bad_table.Statement.{statement}
use Rattle.table_test.proofs.test.bad_table.Tie as tie

-- past the first test the used entries are within the room
in_room : (c : tie.Else-room-used)
    → InRoom c.args.rec c.args.keys.now c.args.weights.now
in_room c = record { within = omega (arith, c.room_of-room.ensures) }

-- past the tests of the room and of an empty table, once the keys are looked at
abbrev within : tie.After-faults → tie.Else-room-used
within c = c.before.before

-- the keys looked at, once the weights are
abbrev keyed : tie.After-weigh-weighed → tie.After-faults
keyed c = c.before.before.before.before

room-of-requires : tie.Need-room_of-room-requires
room-of-requires c κs = search rules

returns : tie.Need-returns-then-room-used
returns c =
    sym
    (bad-over-room c.args.rec c.args.keys.now c.args.weights.now
    (omega (arith, c.room_of-room.ensures)))

returns-2 : tie.Need-returns-then-pixels-ne0
returns-2 c = sym (bad-of-pixels-alone (in_room c.before.before) c.if-used-eq0.true c.if-pixels-ne0.true)

other-sums-requires : tie.Need-other_sums-requires
other-sums-requires c κs = search rules

returns-3 : tie.Need-returns-then-used-eq0
returns-3 c =
    c.other_sums.ensures 0 0 0 two-of-none
    ∙ sym (bad-of-empty (in_room c.before.before.before) c.if-used-eq0.true c.if-pixels-ne0.false)

sub-last : tie.Need-overflow_sub-last
sub-last c = search rules

faults-requires : tie.Need-faults-requires
faults-requires c κs = search rules

returns-4 : tie.Need-returns-then-faults-ne0
returns-4 c =
    let room = in_room (within c.before) in
    sym (bad-of-fault room (λ f. c.if-faults-ne0.true (c.faults.ensures ∙ f.rising)))

mul-if5 : tie.Need-offset_bounds-keys-last
mul-if5 c = search rules

shared-slice-read-if5 : tie.Need-bounds-keys-last
shared-slice-read-if5 c = search rules

returns-5 : tie.Need-returns-then-keys-last-gt-MOST_KEY
returns-5 c =
    let room = in_room (within c.before.before.before) in
    sym (bad-of-fault room (λ f. omega (arith, f.greatest (omega arith))))

weigh-requires : tie.Need-weigh-weighed-requires
weigh-requires c κs = search rules

returns-6 : tie.Need-returns-then-zeros-ne0
returns-6 c =
    let room = in_room (within (keyed c.before)) in
    sym (bad-of-fault room (λ f. c.if-zeros-ne0.true (c.weigh-weighed.ensures.0 ∙ f.weighted)))

returns-7 : tie.Need-returns-then-sum-pixels
returns-7 c =
    let w = c.before.before in
    let room = in_room (within (keyed w)) in
    sym (bad-of-sum room (λ q. c.if-sum-pixels.true (w.weigh-weighed.ensures.1 ∙ q)))

returns-8 : tie.Need-returns-then-pixels-gt-MOST_PIXELS
returns-8 c = sym (bad-of-many (in_room (within (keyed c.before.before.before))) c.if-pixels-gt-MOST_PIXELS.true)

-- past all of these tests: where the keys were looked at, and where the call began
abbrev looked : tie.Else-pixels-gt-MOST_PIXELS → tie.After-faults
looked c = c.before.before.before.before.before.before.before

-- nothing is at fault
faultless : (c : tie.Else-pixels-gt-MOST_PIXELS)
    → (let a = c.args in Faultless a.rec.used a.keys.now a.weights.now)
faultless c =
    record {
      rising = sym c.faults.ensures ∙ c.if-faults-ne0.false;
      weighted = sym c.weigh-weighed.ensures.0 ∙ c.if-zeros-ne0.false;
      greatest = λ l. c.if-keys-last-gt-MOST_KEY.false;
    }

-- the weights come to the pixels
summed : (c : tie.Else-pixels-gt-MOST_PIXELS)
    → (let a = c.args in sum a.rec.used (weight_at a.weights.now) ≡ a.rec.pixels)
summed c = sym c.weigh-weighed.ensures.1 ∙ c.if-sum-pixels.false

-- so the entries are a table's
tabled : (c : tie.Else-pixels-gt-MOST_PIXELS)
    → (let a = c.args in Tabled a.rec.used a.keys.now a.weights.now)
tabled c = tabled-in-room (in_room (within (looked c))) (summed c) c.if-pixels-gt-MOST_PIXELS.false

two-sums-requires : tie.Need-two_sums-sums-requires
two-sums-requires c κs =
    (tabled c, faultless-upto _ _ _ (tabled c).keys_room (tabled c).weights_room (faultless c))

other-sums-requires-2 : tie.Need-other_sums-requires-2
other-sums-requires-2 c κs = search rules

returns-9 : tie.Need-returns
returns-9 c =
    let past = c.before.before in
    c.other_sums-2.ensures _ _ _ c.two_sums-sums.ensures
    ∙ sym (bad-of-sums (in_room (within (looked past))) (faultless past) (summed past)
    past.if-pixels-gt-MOST_PIXELS.false)

pub bad_table_spec : {M : Type 1} → statement M
bad_table_spec =
    tie.close
    (tie.spec
    room-of-requires
    returns
    returns-2
    other-sums-requires
    returns-3
    sub-last
    faults-requires
    returns-4
    mul-if5
    shared-slice-read-if5
    returns-5
    weigh-requires
    returns-6
    returns-7
    returns-8
    two-sums-requires
    other-sums-requires-2
    returns-9)
