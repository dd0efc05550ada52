use Rattle.std.proofs.Common.{◌≡◌, ◌+◌, min, length, arith}
use Rattle.colour.specs.{Bytes}
use Rattle.map_blocks.proofs.strip.Blocks.{mapped-start, mapped-step, errors-small}
use Rattle.map_blocks.proofs.strip.map_blocks.Goals as goal

pub loop-i-init : goal.loop-i-init
loop-i-init c = mapped-start _ _ _ _

pub add-errors-requires : goal.add-errors-requires
add-errors-requires c =
    let end : c.min-end.result ≡ min (length c.args.index.now) (c.loop-i.i + 1024) = c.min-end.ensures in
    let bytes : Bytes c.args.strip.now = λ i. omega (arith, c.type_inv.strip i) in
    let s = errors-small c.loop-i.invariant c.min-end.result (omega arith) (omega arith) c.requires bytes
    c.map_block-block.ensures.errors in (
      omega (arith, s.0.red_small, s.1.red_small),
      omega (arith, s.0.green_small, s.1.green_small),
      omega (arith, s.0.blue_small, s.1.blue_small),
    )

-- the next block begins where this one ends
pub loop-i-preserved : goal.loop-i-preserved
loop-i-preserved c =
    let end : c.min-end.result ≡ min (length c.args.index.now) (c.loop-i.i + 1024) = c.min-end.ensures in
    let next : c.min-end.result ≡ c.loop-i.i + 1024 = omega arith in
    let block = c.map_block-block.ensures in
    rw (← next, c.add-errors.ensures)
    (mapped-step c.loop-i.invariant c.min-end.result (omega arith) (omega arith) block.index block.errors)

-- the last block ends with the strip
pub returns-2 : goal.returns-2
returns-2 c =
    let end : c.min-end.result ≡ min (length c.args.index.now) (c.loop-i.i + 1024) = c.min-end.ensures in
    let last : c.min-end.result ≡ length c.args.index.now = omega arith in
    let block = c.map_block-block.ensures in
    let w = mapped-step c.loop-i.invariant c.min-end.result (omega arith) (omega arith) block.index block.errors in
    record { index = rw (← last) w.is; errors = rw (← last, c.add-errors.ensures) w.errors_are }
