use Rattle.std.proofs.Common.{arith}
use Rattle.std.proofs.lemmas.List.Sums.{suffix_len-le-length}
use Rattle.screen.specs.Upper.{is_in_line}
use Rattle.screen.proofs.screen.last_line_at.Goals as goal

pub overflow_sub-result : goal.overflow_sub-result
overflow_sub-result c =
    omega (arith, c.last_line_length.ensures, suffix_len-le-length is_in_line c.args.text.now)
