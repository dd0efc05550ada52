-- `map_strip` meets its contract: each way out is a law of `Ways`, with what the tests before it said.
use Rattle.std.proofs.Common.{
  ℕ,
  List,
  Option,
  None,
  ◌≡◌,
  ◌/◌,
  true,
  false,
  not,
  length,
  sym,
  ap,
  ◌∙◌,
  Some,
  is_some,
  arith,
}
use borrow.Author.Tests.{eq-eqb, ne_eqb, lt-ltb}
use Rattle.refusal.specs.{BadStrip, BadPalette, TwinShade, ManyPixels, ShortRoom}
use Rattle.palette_twins.specs.{Twins, twin_shade, twins_of}
use Rattle.palette_twins.proofs.Promises.{told-exactly}
use Rattle.mapping.proofs.Ways.{small-errors, short-room, map-meets-refused, map-meets-made}
use Rattle.mapping.proofs.call.map_strip.Goals as goal

-- where no twins are told all entries differ
unlike : (p : List ℕ) {t : Option Twins} → t ≡ twins_of p → t ≡ None → twin_shade p ≡ false
unlike p is none = told-exactly p ∙ ap is_some (sym is ∙ none)

pub returns-then-strip-ne0 : goal.returns-then-strip-ne0
returns-then-strip-ne0 c = map-meets-refused _ _ _ _ BadStrip _ (simp (ne_eqb _ _ c.if-strip-ne0.true)) c.from.ensures

pub returns-then-bad_palette : goal.returns-then-bad_palette
returns-then-bad_palette c =
    map-meets-refused _ _ _ _ BadPalette _
    (simp (ap not (eq-eqb _ _ c.if-strip-ne0.false), sym c.bad_palette.ensures ∙ c.if-bad_palette.true))
    c.from-then-bad_palette.ensures

pub returns-in-Some : goal.returns-in-Some
returns-in-Some c =
    let p = c.args.palette.now in
    let told = sym c.twin_of.ensures ∙ c.in-Some.is in
    let twins : twin_shade p ≡ true = told-exactly p ∙ ap is_some told in
    map-meets-refused _ _ _ _ TwinShade _
    (simp (ap not (eq-eqb _ _ c.if-strip-ne0.false), sym c.bad_palette.ensures ∙ c.if-bad_palette.false, twins))
    (ap (λ t. record { refusal = TwinShade; twins = t }) (sym told))

pub returns-then-count-gt-MOST_PIXELS : goal.returns-then-count-gt-MOST_PIXELS
returns-then-count-gt-MOST_PIXELS c =
    map-meets-refused _ _ _ _ ManyPixels _
    (simp (
      ap not (eq-eqb _ _ c.if-strip-ne0.false),
      sym c.bad_palette.ensures ∙ c.if-bad_palette.false,
      unlike _ c.twin_of.ensures c.in_default.is,
      lt-ltb _ _ c.if-count-gt-MOST_PIXELS.true,
    ))
    c.from-then-count-gt-MOST_PIXELS.ensures

pub returns-then-room-pixels : goal.returns-then-room-pixels
returns-then-room-pixels c =
    map-meets-refused _ _ _ _ ShortRoom _
    (short-room _ _ _ _ (ap not (eq-eqb _ _ c.if-strip-ne0.false))
    (sym c.bad_palette.ensures ∙ c.if-bad_palette.false) (unlike _ c.twin_of.ensures c.in_default.is) (omega arith)
    (omega arith))
    c.from-then-room-pixels.ensures

pub returns-then-last-first : goal.returns-then-last-first
returns-then-last-first c =
    map-meets-refused _ _ _ _ ShortRoom _
    (short-room _ _ _ _ (ap not (eq-eqb _ _ c.if-strip-ne0.false))
    (sym c.bad_palette.ensures ∙ c.if-bad_palette.false) (unlike _ c.twin_of.ensures c.in_default.is) (omega arith)
    (omega arith))
    c.from-then-last-first.ensures

pub answer-requires : goal.answer-requires
answer-requires c =
    let s = c.args.strip.now in (
      rw c.map_stretch-errors.ensures.errors
          (small-errors s c.args.palette.now (length s / 3) (λ i. omega (arith, c.type_inv.strip i))
          (λ i. omega (arith, c.type_inv.palette i)) (omega arith)),
      omega arith,
    )

pub returns : goal.returns
returns c =
    map-meets-made _ _ _ _ (ap not (eq-eqb _ _ c.if-strip-ne0.false))
    (sym c.bad_palette.ensures ∙ c.if-bad_palette.false) (unlike _ c.twin_of.ensures c.in_default.is) (omega arith)
    (omega arith) _ _ _ c.map_stretch-errors.ensures.errors c.answer.ensures c.map_stretch-errors.ensures.index
