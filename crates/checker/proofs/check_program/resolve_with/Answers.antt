use Rattle.std.proofs.Common.{◌≡◌, ℕ, List, [], length, ap, ◌∙◌, arith}
use Rattle.std.specs.Prelude.{map}
use Rattle.syntax_directives.specs.declared.tree.Directive.{Directive}
use Rattle.syntax_directives.specs.declared.tree.Text.{Text}
use Rattle.syntax_directives.specs.Views.{directive_tree, text_tree}
use Rattle.syntax.specs.Views.{program_tree}
use Rattle.meaning.specs.declared.checked.CheckedObject.{CheckedObject}
use Rattle.meaning.specs.Views.{object_of}
use Rattle.checker_values.specs.Names.{File, first_table, no_counts, in_table}
use Rattle.checker_values.specs.Noted.{noted}
use Rattle.checker_values.specs.Scope.{file_in}
use Rattle.checker_statements.specs.Arrays.{arrays_of}
use Rattle.checker_statements.specs.Objects.{all_defaults, standing_breaches, with_parents, object_trees}
use Rattle.checker_statements.proofs.Chains.{take_exact}
use Rattle.checker.specs.Programs.{directives_breaches, main_breaches, main_key, first_routine, abbreviations_breaches}
use Rattle.checker.proofs.Whole.{file_table, program_checked, program_break}
use Rattle.checker.proofs.check_program.resolve_with.Goals as goal

pub returns-clause-value : goal.returns-clause-value
returns-clause-value c =
    let count : c.in_ok-found.found.objects.len ≡ length c.place.new.objects = omega
    (arith, c.place.auto.objects, ap length c.deref_mut.ensures.value, c.in_ok-found.found.objects.ok.0) in
    program_checked c.args.program.now (file_in c.args.file) c.args.file.numbers.keys.items
    c.deref-directives.result.now c.deref-directives.result.now c.deref-texts.result.now c.in_ok-found.found
    c.in_ok-defaults.defaults.items
    c.in_ok-parents.parents.items _ c.in_ok-abbreviations.abbreviations c.main_number-main.result c.new.result
    c.requires.file c.requires.keys c.deref-directives.ensures.value c.deref-directives.ensures.value
    c.deref-texts.ensures.value
    c.in_ok-found.ensures.found
    (c.in_ok-defaults.ensures ∙ ap (λ (ws : List ℕ). all_defaults ws) c.deref-2.ensures.value)
    c.in_ok-parents.ensures.value
    (ap (λ (os : List CheckedObject). map object_of os)
    (take_exact c.place.new.objects _ c.in_ok-found.found.objects.len count)
    ∙ c.place.ensures
    ∙ ap (λ (ps : List ℕ). with_parents ps (map object_of c.deref_mut.result.now)) c.deref.ensures.value
    ∙ ap (λ (os : List CheckedObject). with_parents c.in_ok-parents.parents.items (map object_of os))
    c.deref_mut.ensures.value)
    c.in_ok-abbreviations.ensures c.main_number-main.ensures.value c.new.ensures

pub returns-clause-breaches : goal.returns-clause-breaches
returns-clause-breaches c =
    program_break c.args.tally.now c.all_directives.new.tally c.parents.new.tally
    c.abbreviation_rules.new.tally c.main_number-main.new.tally
    c.args.program.now c.args.file.table.entries
    (ap (λ (f : File). f.table) c.requires.file ∙ file_table (program_tree c.args.program.now))
    (c.in_ok-found.ensures.breaches
    ∙ ap (λ (ds : List Directive). noted c.args.tally.now
    (directives_breaches c.args.file.table.entries first_table no_counts (map directive_tree ds)))
    c.deref-directives.ensures.value)
    (c.in_ok-parents.ensures.breaches
    ∙ ap (λ (ds : List Directive). noted c.all_directives.new.tally
    (standing_breaches c.args.file.table.entries (object_trees (map directive_tree ds))))
    c.deref-directives.ensures.value)
    (c.abbreviation_rules.ensures
    ∙ ap (λ (ts : List Text). noted c.parents.new.tally (abbreviations_breaches [] (map text_tree ts)))
    c.deref-texts.ensures.value)
    (c.main_number-main.ensures.breaches
    ∙ ap (λ (ds : List Directive). noted c.abbreviation_rules.new.tally
    (main_breaches c.args.program.now.end (first_routine (map directive_tree ds) main_key)
    (in_table c.args.file.table.entries main_key))) c.deref-directives.ensures.value)

pub new-requires : goal.new-requires
new-requires c = record {
  arrays = (
    arrays_of (file_in c.args.file) (map directive_tree c.deref-directives.result.now),
    c.in_ok-found.ensures.found.sizes,
    c.in_ok-found.ensures.found.bytes,
  );
  few = c.requires.few;
}
