use Rattle.std.proofs.Common.{List, Option, ◌++◌, ap, ◌∙◌}
use Rattle.std.specs.Prelude.{map}
use Rattle.std.specs.List.{flat_map}
use Rattle.syntax_directives.specs.declared.tree.ArrayValue.{ArrayValue}
use Rattle.syntax_directives.specs.Views.{value_tree}
use Rattle.checker_values.specs.declared.binding.Binding.{Binding}
use Rattle.checker_values.specs.Names.{key_of, in_table}
use Rattle.checker_values.specs.Noted.{noted}
use Rattle.checker_values.proofs.Noted.{noted_two}
use Rattle.checker_values.specs.Expressions.{property_breaches}
use Rattle.checker_statements.specs.Objects.{count_breaches, value_breaches}
use Rattle.checker_statements.proofs.object_rules.provided.Goals as goal

pub returns-clause-breaches : goal.returns-clause-breaches
returns-clause-breaches c =
    let whole = c.args.file.now.table.entries in
    let at = c.args.written.now.name.position in
    let kind = property_breaches at (in_table whole (key_of c.args.written.now.name.text.now)) in
    let count = count_breaches at (map value_tree c.args.written.now.values.items) in
    let each = flat_map (value_breaches whole) (map value_tree c.args.written.now.values.items) in
    noted_two c.args.tally.now c.property-number.new.tally c.words.new.tally kind (count ++ each)
    (c.property-number.ensures.breaches
    ∙ ap (λ (b : Option Binding). noted c.args.tally.now (property_breaches at b)) c.find.ensures)
    (noted_two c.property-number.new.tally c.count_rule.new.tally c.words.new.tally count each
    (c.count_rule.ensures
    ∙ ap (λ (vs : List ArrayValue). noted c.property-number.new.tally (count_breaches at (map value_tree vs)))
    c.deref.ensures.value)
    (c.in_ok-words.ensures.breaches
    ∙ ap (λ (vs : List ArrayValue). noted c.count_rule.new.tally (flat_map (value_breaches whole) (map value_tree vs)))
    c.deref-2.ensures.value))
