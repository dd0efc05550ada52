-- The bytes are copied at once.
use Rattle.std.proofs.Common.{◌+◌, ◌-◌, length, refl, ap, ◌∙◌, arith}
use Rattle.texts.proofs.Texts.{text-laid}
use borrow.Rule.Slice.PartMut.{put_mid}
use Rattle.texts.proofs.word.put_word.Goals as goal

pub returns : goal.returns
returns c =
    let at = c.args.at in
    let n = at + length c.args.word.now - at in
    record {
      ends = refl;
      text_is =
          ap (put_mid at n c.args.out.now) c.copy_from_slice.ensures.after
          ∙ text-laid at n c.args.word.now c.args.out.now (omega arith) c.requires;
    }
