use Rattle.std.proofs.Common.{arith, sym, length}
use Rattle.std.proofs.lemmas.List.{length-take-le, take_all}
use Rattle.survey.proofs.beginning.looked_at.Goals as goal

pub slice_bounds-result-end : goal.slice_bounds-result-end
slice_bounds-result-end c = sym (length-take-le 64 c.args.file.now (omega arith))

pub returns-then-file-le-LOOKED_AT : goal.returns-then-file-le-LOOKED_AT
returns-then-file-le-LOOKED_AT c = sym (take_all 64 c.args.file.now (omega arith))
