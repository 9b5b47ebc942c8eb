use Rattle.std.proofs.Common.{List, None, sym, ap, ◌∙◌}
use Rattle.std.specs.List.{flat_map}
use Rattle.syntax_directives.specs.declared.tree.Directive.{Directive}
use Rattle.syntax.specs.Views.{program_tree}
use Rattle.messages_diagnosis.specs.Needs.{program_needs}
use Rattle.messages_diagnosis.specs.Walk.{raised_all, own_directive_needs}
use Rattle.messages_diagnosis.proofs.Each.{directives_need}
use Rattle.messages_diagnosis.proofs.FirstAt.{at_offset, none_at, one_at}
use Rattle.messages_diagnosis.proofs.statements.temporaries_at.Goals as goal

pub returns-in-None : goal.returns-in-None
returns-in-None c =
    let o = c.args.offset in
    none_at o (program_needs (program_tree c.args.program.now)) c.definitions.new.sought
    (c.definitions.ensures
    ∙ ap (λ (ds : List Directive). raised_all (at_offset o None) (flat_map own_directive_needs ds))
    c.deref.ensures.value
    ∙ ap (raised_all (at_offset o None)) (sym (directives_need c.args.program.now.directives.items)))
    c.in-None.is

pub returns-in-Some : goal.returns-in-Some
returns-in-Some c =
    let o = c.args.offset in
    one_at o (program_needs (program_tree c.args.program.now)) c.definitions.new.sought c.in-Some.found
    (c.definitions.ensures
    ∙ ap (λ (ds : List Directive). raised_all (at_offset o None) (flat_map own_directive_needs ds))
    c.deref.ensures.value
    ∙ ap (raised_all (at_offset o None)) (sym (directives_need c.args.program.now.directives.items)))
    c.in-Some.is
