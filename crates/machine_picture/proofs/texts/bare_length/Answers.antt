use Rattle.std.proofs.Common.{arith}
use Rattle.std.proofs.lemmas.List.Sums.{suffix_len-le-length}
use Rattle.zcore_standard.specs.Windows.{is_space}
use Rattle.machine_picture.proofs.Rows.{bare_is}
use Rattle.machine_picture.proofs.texts.bare_length.Goals as goal

pub overflow_sub-result : goal.overflow_sub-result
overflow_sub-result c = omega (arith, c.blanks_at_end.ensures, suffix_len-le-length is_space c.args.cells.now)

pub returns-clause-bare : goal.returns-clause-bare
returns-clause-bare c = bare_is c.args.cells.now _ (omega (arith, c.blanks_at_end.ensures))
