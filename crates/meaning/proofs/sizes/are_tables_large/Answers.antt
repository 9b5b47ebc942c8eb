use Rattle.std.proofs.Common.{ap, ◌∙◌}
use Rattle.std.specs.Prelude.{nat_lt}
use Rattle.meaning.specs.Places.{routines_place}
use Rattle.meaning.specs.Views.{program_of}
use Rattle.meaning.proofs.Folding.{fold_over}
use Rattle.meaning.proofs.sizes.are_tables_large.Goals as goal

pub returns : goal.returns
returns c = ap (nat_lt 65535) c.tables_size.ensures ∙ fold_over (routines_place (program_of c.args.checked.now))
