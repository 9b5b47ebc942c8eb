use Rattle.std.proofs.Common.{ap, ◌∙◌, take}
use Rattle.std.proofs.lemmas.List.{take_min}
use Rattle.machine_standard_texts.proofs.codes.with_codes.Goals as goal

pub returns : goal.returns
returns c = ap (λ n. take n c.args.extra.now) c.min.ensures ∙ take_min _ c.args.extra.now
