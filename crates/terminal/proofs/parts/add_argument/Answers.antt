use Rattle.std.proofs.Common.{◌∙◌, ap, ◌++◌, [], ◌∷◌}
use Rattle.terminal.proofs.parts.add_argument.Goals as goal

pub returns : goal.returns
returns c = (
  c.in_ok-argument.argument,
  c.push_reserved.ensures.items ∙ ap (λ before. before ++ c.in_ok-argument.argument ∷ []) c.in_ok-reserve.ensures.items,
  c.in_ok-argument.ensures,
)
