use Rattle.std.proofs.Common.{List, ℕ, ap, sym, ◌∙◌, arith}
use Rattle.std.proofs.lemmas.List.{drop_all}
use Rattle.iff_files.specs.Steps.{whole}
use Rattle.iff_files.proofs.PackedBytes.{read_to_end}
use Rattle.iff_files.proofs.differences.unpack.Goals as goal

pub returns : goal.returns
returns c =
    sym c.loop-byte.invariant.whole
    ∙ ap (λ (t : List ℕ). whole c.loop-byte.memory c.loop-byte.place t)
    (drop_all c.loop-byte.byte-index c.args.differences.now (omega (arith, c.loop-byte-test.false)))
    ∙ read_to_end c.loop-byte.memory c.loop-byte.place.at c.loop-byte.place.is_run
