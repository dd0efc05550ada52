use Rattle.std.proofs.Common.{◌≡◌, ◌%◌, ◌/◌, false, length, sym, ap, ◌∙◌, get_or, arith}
use Rattle.palette_twins.specs.Sites.{sites}
use Rattle.palette_twins.proofs.Finds.{unmarked, passed-found, passed-all}
use Rattle.palette_twins.proofs.find.twin_of.Goals as goal

pub equal_if_marked-requires : goal.equal_if_marked-requires
equal_if_marked-requires c = (
  omega arith,
  λ z. unmarked c.loop-q.invariant (ap (λ k. get_or c.loop-q.marks (k % sites) false) (sym c.entry_key.ensures) ∙ z),
)

pub returns-in-Some : goal.returns-in-Some
returns-in-Some c =
    passed-found c.loop-q.invariant (omega arith) c.in-Some.ensures.0 c.in-Some.ensures.1

pub returns : goal.returns
returns c =
    let all : c.loop-q.q ≡ length c.args.palette.now / 3 = omega arith in
    passed-all (rw all at c.loop-q.invariant)
