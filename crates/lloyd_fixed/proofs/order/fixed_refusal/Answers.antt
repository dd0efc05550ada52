-- `fixed_refusal` meets its contract: where the colours left are counted, the tests before fail.
use mathlib.Core.Path.{sym, ◌∙◌}
use Rattle.table_test.proofs.Promises.{bad-table-exactly}
use Rattle.lloyd_stock.proofs.Promises.{used-keys-of-table}
use Rattle.lloyd_fixed.proofs.order.fixed_refusal.Goals as goal

pub few_left-requires : goal.few_left-requires
few_left-requires c =
    let s = c.args in (
      used-keys-of-table
          ((bad-table-exactly s.rec s.keys.now s.weights.now).0 (sym c.bad_table.ensures ∙ c.if-bad_table.false)),
      sym c.bad_fixed.ensures ∙ c.if-bad_fixed.false,
      c.if-count-held.false,
    )
