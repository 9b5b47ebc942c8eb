use Rattle.std.proofs.Common.{ap, ◌∙◌, length}
use Rattle.std.specs.Prelude.{map}
use Rattle.meaning.specs.Views.{CheckedProgram}
use Rattle.meaning.proofs.Cutting.{cut_sizes}
use Rattle.meaning.proofs.checked.Checked.array_sizes.Goals as goal

pub returns : goal.returns
returns c = c.deref.ensures.value ∙ cut_sizes _ _ c.self.invariant.0
    ∙ ap (λ (p : CheckedProgram). map length p.arrays) c.self.view_is
