use Rattle.std.proofs.Common.{ap, ◌∙◌}
use Rattle.std.specs.List.{concat}
use Rattle.meaning.specs.Views.{CheckedProgram}
use Rattle.meaning.proofs.Cutting.{cut_all}
use Rattle.meaning.proofs.checked.Checked.array_bytes.Goals as goal

pub returns : goal.returns
returns c = c.deref.ensures.value ∙ cut_all _ _ c.self.invariant.0
    ∙ ap (λ (p : CheckedProgram). concat p.arrays) c.self.view_is
