-- `other_sums`: each way out is a law of `Ways`.
use Rattle.table_sums.proofs.sums.Ways.{
  others-of-red,
  others-of-green,
  others-of-blue,
  others-of-first,
  others-by-second,
}
use Rattle.table_sums.proofs.sums.other_sums.Goals as goal

pub returns-then-red-gt-MOST_SUM : goal.returns-then-red-gt-MOST_SUM
returns-then-red-gt-MOST_SUM c R G B t =
    let a = c.args in
    others-of-red a.red a.green a.blue R G B t c.if-red-gt-MOST_SUM.true

pub returns-then-green-gt-MOST_SUM : goal.returns-then-green-gt-MOST_SUM
returns-then-green-gt-MOST_SUM c R G B t =
    let a = c.args in
    others-of-green a.red a.green a.blue R G B t c.if-green-gt-MOST_SUM.true

pub returns-then-blue-gt-MOST_SUM : goal.returns-then-blue-gt-MOST_SUM
returns-then-blue-gt-MOST_SUM c R G B t =
    let a = c.args in
    others-of-blue a.red a.green a.blue R G B t c.if-blue-gt-MOST_SUM.true

pub returns-then-red-green : goal.returns-then-red-green
returns-then-red-green c R G B t =
    let a = c.args in
    others-of-first a.red a.green a.blue R G B t c.if-red-green.true

pub returns : goal.returns
returns c R G B t =
    let a = c.args in
    others-by-second a.red a.green a.blue R G B t c.if-red-gt-MOST_SUM.false c.if-green-gt-MOST_SUM.false
    c.if-blue-gt-MOST_SUM.false c.if-red-green.false
