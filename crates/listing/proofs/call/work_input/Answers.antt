-- Each way out of `work_input` is a law of `Works`, with what the tests before it said.
use Rattle.std.proofs.Common.{sym, ◌∙◌}
use Rattle.std.proofs.lemmas.Result.{err_from_is_err_and}
use Rattle.listing.proofs.Fronts.{
  Named,
  line-no-digit,
  line-long,
  line-not-ended,
  line-good,
  picture-is,
}
use Rattle.listing.proofs.Works.{input-bad-line, input-long, input-bad-picture, input-left}
use Rattle.listing.proofs.call.work_input.Goals as goal

pub returns-in_default : goal.returns-in_default
returns-in_default c =
    let s = c.args.input.now in
    input-bad-line s (line-no-digit s c.in_default.field-0 (sym c.in_default.ensures))

pub returns-then-next-gt2 : goal.returns-then-next-gt2
returns-then-next-gt2 c =
    let s = c.args.input.now in
    let n = c.in-Ok.field-0 in
    let named : Named s n.value n.next = record { number = sym c.in-Ok.ensures } in
    input-bad-line s (line-long named c.if-next-gt2.true)

pub returns-then-byte_at-ne10 : goal.returns-then-byte_at-ne10
returns-then-byte_at-ne10 c =
    let s = c.args.input.now in
    let n = c.in-Ok.field-0 in
    let named : Named s n.value n.next = record { number = sym c.in-Ok.ensures } in
    input-bad-line s (line-not-ended named (λ e. c.if-byte_at-ne10.true (c.byte_at.ensures ∙ e)))

pub returns-then-input-gt-MOST_INPUT : goal.returns-then-input-gt-MOST_INPUT
returns-then-input-gt-MOST_INPUT c =
    let s = c.args.input.now in
    let n = c.in-Ok.field-0 in
    let named : Named s n.value n.next = record { number = sym c.in-Ok.ensures } in
    input-long s (line-good named c.if-next-gt2.false (sym c.byte_at.ensures ∙ c.if-byte_at-ne10.false))
    c.if-input-gt-MOST_INPUT.true

-- past the third test the line is read
pub returns-in_err-picture_refusal : goal.returns-in_err-picture_refusal
returns-in_err-picture_refusal c =
    let s = c.args.input.now in
    let n = c.in-Ok.field-0 in
    let named : Named s n.value n.next = record { number = sym c.in-Ok.ensures } in
    let gave = err_from_is_err_and c.from_residual.result c.from_residual.ensures.1 in
    rw (gave.1, gave.2)
    (input-bad-picture (record {
      named = named;
      few = c.if-next-gt2.false;
      ended = sym c.byte_at.ensures ∙ c.if-byte_at-ne10.false;
      short = c.if-input-gt-MOST_INPUT.false;
    }) (picture-is named) c.in_err-picture_refusal.field-0.0 c.in_err-picture_refusal.ensures)

pub returns : goal.returns
returns c =
    let s = c.args.input.now in
    let n = c.in-Ok.field-0 in
    let named : Named s n.value n.next = record { number = sym c.in-Ok.ensures } in
    c.work_picture.ensures
    ∙ input-left (record {
      named = named;
      few = c.if-next-gt2.false;
      ended = sym c.byte_at.ensures ∙ c.if-byte_at-ne10.false;
      short = c.if-input-gt-MOST_INPUT.false;
    }) (picture-is named) c.in_ok-picture_refusal.ensures
