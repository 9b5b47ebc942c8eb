use Rattle.std.proofs.Common.{List, None, sym, ap, ◌∙◌}
use Rattle.std.specs.List.{flat_map}
use Rattle.syntax_directives.specs.declared.tree.Directive.{Directive}
use Rattle.syntax.specs.Views.{program_tree}
use Rattle.messages_diagnosis.specs.Needs.{program_needs}
use Rattle.messages_diagnosis.specs.Walk.{raised_all, own_directive_needs}
use Rattle.messages_diagnosis.proofs.Each.{directives_need}
use Rattle.messages_diagnosis.proofs.FirstGreatest.{greatest_so_far, greatest_of}
use Rattle.messages_diagnosis.proofs.statements.greatest_temporaries.Goals as goal

pub returns : goal.returns
returns c few =
    greatest_of (program_needs (program_tree c.args.program.now)) c.definitions.new.sought
    (c.definitions.ensures
    ∙ ap (λ (ds : List Directive). raised_all (greatest_so_far None) (flat_map own_directive_needs ds))
    c.deref.ensures.value
    ∙ ap (raised_all (greatest_so_far None)) (sym (directives_need c.args.program.now.directives.items)))
    few
