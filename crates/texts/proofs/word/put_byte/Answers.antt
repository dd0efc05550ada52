-- A store is a text of one byte.
use Rattle.std.proofs.Common.{refl}
use Rattle.texts.proofs.Texts.{put_one}
use Rattle.texts.proofs.word.put_byte.Goals as goal

pub returns : goal.returns
returns c = record { ends = refl; text_is = put_one c.args.at c.args.byte c.args.out.now c.requires }
