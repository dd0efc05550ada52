-- Each way out of `read_header` is a place where the header fails, or its end.
use Rattle.std.proofs.Common.{arith}
use Rattle.std.proofs.lemmas.Result.{err_from_is_err_and}
use Rattle.p6_gap.proofs.Bytes.{white-is, white-inside}
use Rattle.p6_header.specs.Headers.{last_white}
use Rattle.p6_header.proofs.read.Ways.{
  letter-fails,
  figure-fails,
  after_width,
  after_height,
  letters-pass,
  field-ends,
  field-passes,
  last-fails,
  last-passes,
}
use Rattle.p6_header.proofs.read.read_header.Goals as goal

pub returns-then-byte_at-ne80 : goal.returns-then-byte_at-ne80
returns-then-byte_at-ne80 c = letter-fails c.args.input.now _ c.byte_at.ensures c.if-byte_at-ne80.true

pub returns-then-byte_at-ne54 : goal.returns-then-byte_at-ne54
returns-then-byte_at-ne54 c =
    figure-fails c.args.input.now _ _ c.byte_at.ensures c.if-byte_at-ne80.false c.byte_at-2.ensures
    c.if-byte_at-ne54.true

-- with both letters there, the header goes on with the width
pub returns-in_err-width : goal.returns-in_err-width
returns-in_err-width c =
    let s = c.args.input.now in
    let two = letters-pass s _ _ c.byte_at.ensures c.if-byte_at-ne80.false c.byte_at-2.ensures c.if-byte_at-ne54.false
    in
    let p = err_from_is_err_and c.from_residual.result c.from_residual.ensures.1 in
    rw (p.1, p.2) (field-ends s 2 _ (after_width s) two c.in_err-width.ensures)

-- with the width read, it goes on with the height
pub returns-in_err-height : goal.returns-in_err-height
returns-in_err-height c =
    let s = c.args.input.now in
    let w = c.in_ok-width.width in
    let two = letters-pass s _ _ c.byte_at.ensures c.if-byte_at-ne80.false c.byte_at-2.ensures c.if-byte_at-ne54.false
    in
    let wide = field-passes s 2 w (after_width s) two c.in_ok-width.ensures in
    let r = c.from_residual-in_err-height in
    let p = err_from_is_err_and r.result r.ensures.1 in
    rw (p.1, p.2) (field-ends s w.next _ (after_height s w.value) wide c.in_err-height.ensures)

-- with the height read, it goes on with the depth
pub returns-in_err-depth : goal.returns-in_err-depth
returns-in_err-depth c =
    let s = c.args.input.now in
    let w = c.in_ok-width.width in
    let h = c.in_ok-height.height in
    let two = letters-pass s _ _ c.byte_at.ensures c.if-byte_at-ne80.false c.byte_at-2.ensures c.if-byte_at-ne54.false
    in
    let wide = field-passes s 2 w (after_width s) two c.in_ok-width.ensures in
    let high = field-passes s w.next h (after_height s w.value) wide c.in_ok-height.ensures in
    let r = c.from_residual-in_err-depth in
    let p = err_from_is_err_and r.result r.ensures.1 in
    rw (p.1, p.2) (field-ends s h.next _ (last_white s w.value h.value) high c.in_err-depth.ensures)

-- with the depth read, it goes on with the last byte
pub returns-then-not-is_white : goal.returns-then-not-is_white
returns-then-not-is_white c =
    let s = c.args.input.now in
    let w = c.in_ok-width.width in
    let h = c.in_ok-height.height in
    let d = c.in_ok-depth.depth in
    let two = letters-pass s _ _ c.byte_at.ensures c.if-byte_at-ne80.false c.byte_at-2.ensures c.if-byte_at-ne54.false
    in
    let wide = field-passes s 2 w (after_width s) two c.in_ok-width.ensures in
    let high = field-passes s w.next h (after_height s w.value) wide c.in_ok-height.ensures in
    let deep = field-passes s h.next d (last_white s w.value h.value) high c.in_ok-depth.ensures in
    last-fails s _ _ d.value d.next deep
    (white-is s d.next _ _ _ c.byte_at-3.ensures c.is_white.ensures c.if-not-is_white.true)

-- the last byte is white where the header is read, so it stands inside
pub overflow_add-result : goal.overflow_add-result
overflow_add-result c =
    let s = c.args.input.now in
    let d = c.in_ok-depth.depth in
    let white = white-is s d.next _ _ _ c.byte_at-3.ensures c.is_white.ensures c.if-not-is_white.false in
    omega (arith, c.well_formed, white-inside s d.next white)

pub returns : goal.returns
returns c =
    let s = c.args.input.now in
    let w = c.in_ok-width.width in
    let h = c.in_ok-height.height in
    let d = c.in_ok-depth.depth in
    let two = letters-pass s _ _ c.byte_at.ensures c.if-byte_at-ne80.false c.byte_at-2.ensures c.if-byte_at-ne54.false
    in
    let wide = field-passes s 2 w (after_width s) two c.in_ok-width.ensures in
    let high = field-passes s w.next h (after_height s w.value) wide c.in_ok-height.ensures in
    let deep = field-passes s h.next d (last_white s w.value h.value) high c.in_ok-depth.ensures in
    last-passes s _ _ d.value d.next deep
    (white-is s d.next _ _ _ c.byte_at-3.ensures c.is_white.ensures c.if-not-is_white.false)
