-- `make_run` meets its contract: the table's mean, read from the record's sums, is the only given shade, and none is
-- held.
use Rattle.std.proofs.Common.{◌∙◌}
use Rattle.method.specs.{kind_of}
use Rattle.moves.specs.{leaps}
use Rattle.rounds.proofs.Beginnings.{series-of-none-held}
use Rattle.rounds.proofs.Records.{mean-asked, mean-of-record}
use Rattle.rounds.proofs.run.make_run.Goals as goal

pub mean_of-m-requires : goal.mean_of-m-requires
mean_of-m-requires c = mean-asked c.requires.1 c.requires.0.pixels

pub returns-clause-series : goal.returns-clause-series
returns-clause-series c =
    series-of-none-held (kind_of (leaps c.args.stride))
    (rw (c.mean_of-m.ensures.0 ∙ mean-of-record c.requires.1) at c.run_from.ensures.series)
