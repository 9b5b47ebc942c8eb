use Rattle.std.proofs.Common.{arith, sym}
use Rattle.std.proofs.lemmas.List.{length-take-le, take_all}
use Rattle.play.specs.Reading.{most_read}
use Rattle.play.proofs.reading.first.Goals as goal

pub slice_bounds-result-end : goal.slice_bounds-result-end
slice_bounds-result-end c = sym (length-take-le most_read c.args.bytes.now (omega arith))

pub returns-then-bytes : goal.returns-then-bytes
returns-then-bytes c = sym (take_all most_read c.args.bytes.now (omega arith))
