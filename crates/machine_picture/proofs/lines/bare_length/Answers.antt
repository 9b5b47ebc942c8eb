use Rattle.std.proofs.Common.{arith}
use Rattle.std.proofs.lemmas.List.Sums.{suffix_len-le-length}
use Rattle.zcore_standard.specs.Windows.{is_space}
use Rattle.machine_picture.proofs.Showing.{bare_is}
use Rattle.machine_picture.proofs.lines.bare_length.Goals as goal

pub overflow_sub-result : goal.overflow_sub-result
overflow_sub-result c = omega (arith, c.spaces_at_end.ensures, suffix_len-le-length is_space c.args.text.now)

pub returns-clause-bare : goal.returns-clause-bare
returns-clause-bare c = bare_is c.args.text.now _ (omega (arith, c.spaces_at_end.ensures))
