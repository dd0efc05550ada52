-- `add_chunk`: the streaks gathered and sorted hold the pixels of a piece; counted, they do not go in or are merged.
use Rattle.std.proofs.Common.{◌≡◌, length, arith, ap, ◌∙◌}
use Rattle.table_entries.specs.{entries, keys_into, weights_into, put_all}
use Rattle.table_add.specs.Trying.{piece}
use Rattle.table_add.proofs.chunk.Listing.{
  listed,
  list-rises,
  list-sums,
  list-least,
  list-given,
  standing-rises,
  piece-pixels,
  laid-shut,
  laid-open,
}
use Rattle.table_add.proofs.chunk.add_chunk.Goals as goal

pub count_with-next-requires-clause-in_order : goal.count_with-next-requires-clause-in_order
count_with-next-requires-clause-in_order c = standing-rises c.requires.addable.table

pub count_with-next-requires-clause-in_order_2 : goal.count_with-next-requires-clause-in_order_2
count_with-next-requires-clause-in_order_2 c =
    list-rises (listed c.type_inv.strip c.gather-got.ensures.by_index c.sort_streaks.ensures)

pub merge-requires : goal.merge-requires
merge-requires c =
    let t = c.requires.addable.table in
    let w = c.args.weights.now in
    let r = listed c.type_inv.strip c.gather-got.ensures.by_index c.sort_streaks.ensures in
    let next = c.count_with-next.ensures w (omega (arith, t.in_room, t.weights_room)) in
    record {
      used_le_next = omega (arith, next, list-least r t, t.keys_room, t.weights_room);
      in_order = standing-rises t;
      in_order_2 = list-rises r;
      next_value = next;
      weights_bound = rw (list-given r t) (omega (
        arith,
        c.requires.addable.total,
        piece-pixels (entries c.args.used c.args.keys.now w) c.args.strip.now c.args.from c.gather-got.result.pixels,
        c.gather-got.ensures.pixels_nonzero,
      ));
    }

pub returns-then-next-room : goal.returns-then-next-room
returns-then-next-room c =
    let t = c.requires.addable.table in
    let k = c.args.keys.now in
    let w = c.args.weights.now in
    let r = listed c.type_inv.strip c.gather-got.ensures.by_index c.sort_streaks.ensures in
    let F = put_all (entries c.args.used k w) (piece c.args.strip.now c.args.from c.gather-got.result.pixels) in
    let next : c.count_with-next.result ≡ length F
    = c.count_with-next.ensures w (omega (arith, t.in_room, t.weights_room)) ∙ ap length (list-given r t) in
    record {
      some = c.gather-got.ensures.pixels_nonzero.0;
      within = c.gather-got.ensures.pixels_nonzero.1;
      used_is = next;
      sums_are = c.streak_sums-sums.ensures ∙ list-sums r;
      keys_are = (rw (list-given r t) at c.merge.ensures.keys_after)
          ∙ laid-open c.args.room c.count_with-next.result F k (keys_into F k) next (omega arith);
      weights_are = (rw (list-given r t) at c.merge.ensures.weights_after)
          ∙ laid-open c.args.room c.count_with-next.result F w (weights_into F w) next (omega arith);
    }

pub returns-else-next-room : goal.returns-else-next-room
returns-else-next-room c =
    let t = c.requires.addable.table in
    let k = c.args.keys.now in
    let w = c.args.weights.now in
    let r = listed c.type_inv.strip c.gather-got.ensures.by_index c.sort_streaks.ensures in
    let F = put_all (entries c.args.used k w) (piece c.args.strip.now c.args.from c.gather-got.result.pixels) in
    let next : c.count_with-next.result ≡ length F
    = c.count_with-next.ensures w (omega (arith, t.in_room, t.weights_room)) ∙ ap length (list-given r t) in
    record {
      some = c.gather-got.ensures.pixels_nonzero.0;
      within = c.gather-got.ensures.pixels_nonzero.1;
      used_is = next;
      sums_are = c.streak_sums-sums.ensures ∙ list-sums r;
      keys_are = laid-shut c.args.room c.count_with-next.result F k (keys_into F k) next (omega arith);
      weights_are = laid-shut c.args.room c.count_with-next.result F w (weights_into F w) next (omega arith);
    }
