use Rattle.std.proofs.Common.{ℕ, List, [], take, drop, ap, ◌∙◌}
use Rattle.std.specs.Prelude.{map}
use Rattle.std.specs.List.{flat_map}
use Rattle.std.proofs.lemmas.List.{take_rest}
use Rattle.syntax_directives.specs.declared.tree.Property.{Property}
use Rattle.syntax_directives.specs.Tree.{PropertyTree}
use Rattle.syntax_directives.specs.Views.{property_tree}
use Rattle.checker_values.specs.declared.noting.Tally.{Tally}
use Rattle.checker_values.specs.Noted.{noted}
use Rattle.checker_values.specs.Scope.{file_in}
use Rattle.checker_statements.specs.Objects.{with_properties, provided_breaches}
use Rattle.checker_statements.specs.FirstListed.{most_provided}
use Rattle.checker_statements.proofs.ObjectLists.{front_mapped, noted_apart}
use Rattle.checker_statements.proofs.object_rules.provided_of_listed.Goals as goal

pub returns-clause-value : goal.returns-clause-value
returns-clause-value c =
    c.in_ok-found.ensures.value
    ∙ ap (λ (ps : List PropertyTree). with_properties (file_in c.args.file.now) [] ps)
    (ap (λ (n : ℕ). map property_tree (take n c.args.written.now)) c.min-count.ensures
    ∙ front_mapped property_tree most_provided c.args.written.now)

pub returns-clause-breaches : goal.returns-clause-breaches
returns-clause-breaches c =
    let rules = provided_breaches c.args.file.now.table.entries in
    let count = c.min-count.result in
    let rest = take_rest c.args.written.now count in
    c.in-Ok.ensures
    ∙ ap (λ (ps : List Property). noted c.properties.new.tally (flat_map rules (map property_tree ps))) rest
    ∙ ap (λ (m : Tally). noted m (flat_map rules (map property_tree (drop count c.args.written.now))))
    c.in_ok-found.ensures.breaches
    ∙ noted_apart rules c.args.tally.now count c.args.written.now
