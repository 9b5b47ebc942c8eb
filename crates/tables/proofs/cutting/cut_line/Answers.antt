use Rattle.std.proofs.Common.{[], refl}
use Rattle.zcore.specs.Cutting.{words_of}
use Rattle.tables.proofs.Cut.{words_cut}
use Rattle.tables.proofs.cutting.cut_line.Goals as goal

pub returns-clause-words : goal.returns-clause-words
unfolding words_of
returns-clause-words c = refl

pub returns-clause-cut : goal.returns-clause-cut
returns-clause-cut c = words_cut c.args.separators.now [] c.args.line.now 0 tt
