use Rattle.std.proofs.Common.{◌≡◌, refl, sym, ap, ◌∙◌}
use Rattle.syntax_trees.specs.Views.{name_tree}
use Rattle.syntax_statements.specs.PartViews.{literal_tree}
use Rattle.syntax_directives.specs.Tree.{DirectiveTree, global, constant, array, attribute, property, object, routine}
use Rattle.syntax_directives.specs.Views.{directive_tree, optional_tree, array_tree, object_tree, routine_tree}
use Rattle.checker_values.specs.Noted.{noted}
use Rattle.checker_values.specs.Scope.{file_in}
use Rattle.checker_values.proofs.Noted.{noted_two}
use Rattle.checker_values.specs.Literals.{named_breaches}
use Rattle.checker_statements.specs.Arrays.{array_breaches}
use Rattle.checker_values.specs.Names.{twice}
use Rattle.checker.specs.Programs.{routine_breaches, directive_breaches}
use Rattle.checker.proofs.Directives.{added_global, added_constant, added_array, added_attribute, added_property}
use Rattle.checker.proofs.Directives.{added_object, added_routine}
use Rattle.checker.proofs.directive_rules.directive.Goals as goal

pub returns-in_ok-push-in-Global-clause-added : goal.returns-in_ok-push-in-Global-clause-added
returns-in_ok-push-in-Global-clause-added c =
    added_global (file_in c.args.file.now) (directive_tree c.args.directive.now) (name_tree c.in-Global.name)
    (optional_tree c.in-Global.value) c.args.found.now _ c.global.result
    (ap directive_tree c.in-Global.is) c.in_ok-push-in-Global.ensures.items c.global.ensures.value
    (record { arrays = refl; defaults = refl; objects = refl; routines = refl })

pub returns-in_ok-push-in-Global-clause-breaches : goal.returns-in_ok-push-in-Global-clause-breaches
returns-in_ok-push-in-Global-clause-breaches c =
    let v : directive_tree c.args.directive.now ≡ global (name_tree c.in-Global.name)
    (optional_tree c.in-Global.value) = ap directive_tree c.in-Global.is in
    c.global.ensures.breaches
    ∙ ap (λ (d : DirectiveTree). noted c.args.tally.now
    (directive_breaches c.args.file.now.table.entries c.args.names.now.table.entries c.args.names.now.counts d))
    (sym v)

pub returns-in-Constant-clause-added : goal.returns-in-Constant-clause-added
returns-in-Constant-clause-added c =
    added_constant (file_in c.args.file.now) (directive_tree c.args.directive.now) (name_tree c.in-Constant.name)
    (literal_tree c.in-Constant.value) c.args.found.now (ap directive_tree c.in-Constant.is)

pub returns-in-Constant-clause-breaches : goal.returns-in-Constant-clause-breaches
returns-in-Constant-clause-breaches c =
    let v : directive_tree c.args.directive.now ≡ constant (name_tree c.in-Constant.name)
    (literal_tree c.in-Constant.value) = ap directive_tree c.in-Constant.is in
    noted_two c.args.tally.now c.definition_rule.new.tally c.constant_value.new.tally
    (twice c.args.names.now.table.entries (name_tree c.in-Constant.name))
    (named_breaches c.args.file.now.table.entries c.args.names.now.table.entries (literal_tree c.in-Constant.value))
    c.definition_rule.ensures c.constant_value.ensures
    ∙ ap (λ (d : DirectiveTree). noted c.args.tally.now
    (directive_breaches c.args.file.now.table.entries c.args.names.now.table.entries c.args.names.now.counts d))
    (sym v)

pub returns-in_ok-push-in-Routine-clause-added : goal.returns-in_ok-push-in-Routine-clause-added
returns-in_ok-push-in-Routine-clause-added c =
    added_routine (file_in c.args.file.now) (directive_tree c.args.directive.now) (routine_tree c.in-Routine.written)
    c.args.found.now _ c.in_ok-routine-in-Routine.field-0
    (ap directive_tree c.in-Routine.is) c.in_ok-push-in-Routine.ensures.items
    c.in_ok-routine-in-Routine.ensures.value
    (record { globals = refl; arrays = refl; defaults = refl; objects = refl })

pub returns-in_ok-push-in-Routine-clause-breaches : goal.returns-in_ok-push-in-Routine-clause-breaches
returns-in_ok-push-in-Routine-clause-breaches c =
    let v : directive_tree c.args.directive.now ≡ routine (routine_tree c.in-Routine.written) = ap directive_tree
    c.in-Routine.is in
    noted_two c.args.tally.now c.definition_rule-in-Routine.new.tally c.routine.new.tally
    (twice c.args.names.now.table.entries (name_tree c.in-Routine.written.name))
    (routine_breaches c.args.file.now.table.entries (routine_tree c.in-Routine.written)) c.definition_rule-in-Routine.ensures
    c.in_ok-routine-in-Routine.ensures.breaches
    ∙ ap (λ (d : DirectiveTree). noted c.args.tally.now
    (directive_breaches c.args.file.now.table.entries c.args.names.now.table.entries c.args.names.now.counts d))
    (sym v)

pub returns-in_ok-array-in-Array-clause-added : goal.returns-in_ok-array-in-Array-clause-added
returns-in_ok-array-in-Array-clause-added c =
    added_array (file_in c.args.file.now) (directive_tree c.args.directive.now) (array_tree c.in-Array.written)
    c.args.found.now _ (ap directive_tree c.in-Array.is) c.in_ok-array-in-Array.ensures.added
    (record { globals = refl; defaults = refl; objects = refl; routines = refl })

pub returns-in_ok-array-in-Array-clause-breaches : goal.returns-in_ok-array-in-Array-clause-breaches
returns-in_ok-array-in-Array-clause-breaches c =
    let v : directive_tree c.args.directive.now ≡ array (array_tree c.in-Array.written) = ap directive_tree
    c.in-Array.is in
    noted_two c.args.tally.now c.definition_rule-in-Array.new.tally c.array.new.tally
    (twice c.args.names.now.table.entries (name_tree c.in-Array.written.name))
    (array_breaches c.args.file.now.table.entries (array_tree c.in-Array.written)) c.definition_rule-in-Array.ensures
    c.in_ok-array-in-Array.ensures.breaches
    ∙ ap (λ (d : DirectiveTree). noted c.args.tally.now
    (directive_breaches c.args.file.now.table.entries c.args.names.now.table.entries c.args.names.now.counts d))
    (sym v)

pub returns-in-Attribute-clause-added : goal.returns-in-Attribute-clause-added
returns-in-Attribute-clause-added c =
    added_attribute (file_in c.args.file.now) (directive_tree c.args.directive.now) (name_tree c.in-Attribute.name)
    c.args.found.now (ap directive_tree c.in-Attribute.is)

pub returns-in-Attribute-clause-breaches : goal.returns-in-Attribute-clause-breaches
returns-in-Attribute-clause-breaches c =
    let v : directive_tree c.args.directive.now ≡ attribute (name_tree c.in-Attribute.name) = ap directive_tree
    c.in-Attribute.is in
    c.attribute.ensures
    ∙ ap (λ (d : DirectiveTree). noted c.args.tally.now
    (directive_breaches c.args.file.now.table.entries c.args.names.now.table.entries c.args.names.now.counts d))
    (sym v)

pub returns-in_ok-push-in-Property-clause-added : goal.returns-in_ok-push-in-Property-clause-added
returns-in_ok-push-in-Property-clause-added c =
    added_property (file_in c.args.file.now) (directive_tree c.args.directive.now) (name_tree c.in-Property.name)
    (optional_tree c.in-Property.value) c.args.found.now _ c.property.result
    (ap directive_tree c.in-Property.is) c.in_ok-push-in-Property.ensures.items c.property.ensures.value
    (record { globals = refl; arrays = refl; objects = refl; routines = refl })

pub returns-in_ok-push-in-Property-clause-breaches : goal.returns-in_ok-push-in-Property-clause-breaches
returns-in_ok-push-in-Property-clause-breaches c =
    let v : directive_tree c.args.directive.now ≡ property (name_tree c.in-Property.name)
    (optional_tree c.in-Property.value) = ap directive_tree c.in-Property.is in
    c.property.ensures.breaches
    ∙ ap (λ (d : DirectiveTree). noted c.args.tally.now
    (directive_breaches c.args.file.now.table.entries c.args.names.now.table.entries c.args.names.now.counts d))
    (sym v)

pub returns-in_ok-push-in-Object-clause-added : goal.returns-in_ok-push-in-Object-clause-added
returns-in_ok-push-in-Object-clause-added c =
    added_object (file_in c.args.file.now) (directive_tree c.args.directive.now) (object_tree c.in-Object.written)
    c.args.found.now _ c.in_ok-defined_object-in-Object.field-0
    (ap directive_tree c.in-Object.is) c.in_ok-push-in-Object.ensures.items
    c.in_ok-defined_object-in-Object.ensures.value
    (record { globals = refl; arrays = refl; defaults = refl; routines = refl })

pub returns-in_ok-push-in-Object-clause-breaches : goal.returns-in_ok-push-in-Object-clause-breaches
returns-in_ok-push-in-Object-clause-breaches c =
    let v : directive_tree c.args.directive.now ≡ object (object_tree c.in-Object.written) = ap directive_tree
    c.in-Object.is in
    c.in_ok-defined_object-in-Object.ensures.breaches
    ∙ ap (λ (d : DirectiveTree). noted c.args.tally.now
    (directive_breaches c.args.file.now.table.entries c.args.names.now.table.entries c.args.names.now.counts d))
    (sym v)
