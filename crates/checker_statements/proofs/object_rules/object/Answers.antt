use Rattle.std.proofs.Common.{List, [], ◌++◌, ap, ◌∙◌}
use Rattle.std.specs.Prelude.{map}
use Rattle.std.specs.List.{flat_map}
use Rattle.std.specs.Option.{option_map}
use Rattle.syntax_trees.specs.declared.tree.Name.{Name}
use Rattle.syntax_trees.specs.Tree.{NameTree}
use Rattle.syntax_trees.specs.Views.{name_tree}
use Rattle.syntax_directives.specs.declared.tree.Property.{Property}
use Rattle.syntax_directives.specs.Views.{text_tree, property_tree}
use Rattle.checker_values.specs.Noted.{noted}
use Rattle.checker_values.proofs.Noted.{noted_two}
use Rattle.checker_values.specs.Names.{repeated_breaches}
use Rattle.checker_statements.specs.Objects.{short_breaches, property_name, provided_breaches, given_breaches}
use Rattle.checker_statements.proofs.object_rules.object.Goals as goal

pub returns-clause-breaches : goal.returns-clause-breaches
returns-clause-breaches c =
    let whole = c.args.file.now.table.entries in
    let ps = map property_tree c.args.written.now.properties.items in
    let short = short_breaches (option_map text_tree c.args.written.now.short) in
    let twice = repeated_breaches [] (map property_name ps) in
    let provided = flat_map (provided_breaches whole) ps in
    let given = flat_map (given_breaches whole) (map name_tree c.args.written.now.attributes.items) in
    noted_two c.args.tally.now c.short_rule.new.tally c.attributes.new.tally short (twice ++ (provided ++ given))
    c.short_rule.ensures
    (noted_two c.short_rule.new.tally c.repeat_rules.new.tally c.attributes.new.tally twice (provided ++ given)
    (c.in-Ok.ensures
    ∙ ap (λ (ns : List Name). noted c.short_rule.new.tally (repeated_breaches [] (map name_tree ns)))
    c.deref-2.ensures.value
    ∙ ap (λ (ns : List NameTree). noted c.short_rule.new.tally (repeated_breaches [] ns)) c.in_ok-names.ensures
    ∙ ap (λ (xs : List Property). noted c.short_rule.new.tally
    (repeated_breaches [] (map property_name (map property_tree xs)))) c.deref.ensures.value)
    (noted_two c.repeat_rules.new.tally c.provided_of_listed.new.tally c.attributes.new.tally provided given
    (c.in-Ok-provided_of_listed.ensures.breaches
    ∙ ap (λ (xs : List Property). noted c.repeat_rules.new.tally
    (flat_map (provided_breaches whole) (map property_tree xs))) c.deref-3.ensures.value)
    (c.in-Ok-attributes.ensures.breaches
    ∙ ap (λ (ns : List Name). noted c.provided_of_listed.new.tally (flat_map (given_breaches whole) (map name_tree ns)))
    c.deref-4.ensures.value)))
