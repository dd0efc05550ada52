-- `add_one`: one pixel of the strip is a piece of one.
use Rattle.std.proofs.Common.{◌≡◌, ◌*◌, [], ◌∷◌, arith}
use Rattle.table_entries.specs.{key_at}
use Rattle.table_entries.proofs.Strips.{strip-one}
use Rattle.table_add.specs.Trying.{piece}
use Rattle.table_add.proofs.chunk.add_one.Goals as goal

pub returns : goal.returns
returns c =
    let one : piece c.args.strip.now c.args.from 1 ≡ key_at c.args.strip.now (3 * c.args.from) ∷ []
    = strip-one c.args.from c.args.strip.now c.requires.bytes in
    let key : c.key_at-key.result ≡ key_at c.args.strip.now (3 * c.args.from) = c.key_at-key.ensures.0 in
    record {
      some = omega arith;
      within = omega arith;
      used_is = rw one (rw key at c.add_pixel-next.ensures.value);
      sums_are = rw one (rw key at c.pixel_sums.ensures);
      keys_are = rw one (rw key at c.add_pixel-next.ensures.keys_after);
      weights_are = rw one (rw key at c.add_pixel-next.ensures.weights_after);
    }
