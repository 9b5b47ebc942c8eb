-- A whole program.
use Rattle.std.proofs.Common.{◌≡◌, ℕ, List, [], ◌++◌, refl, subst, ap, ◌∙◌}
use Rattle.std.specs.Prelude.{map}
use Rattle.syntax_directives.specs.declared.tree.Directive.{Directive}
use Rattle.syntax_directives.specs.declared.tree.Text.{Text}
use Rattle.syntax_directives.specs.Tree.{TextTree}
use Rattle.syntax_directives.specs.Views.{directive_tree, text_tree}
use Rattle.syntax.specs.declared.tree.Program.{Program}
use Rattle.syntax.specs.Tree.{ProgramTree}
use Rattle.syntax.specs.Views.{program_tree}
use Rattle.meaning.specs.Objects.{ObjectOf}
use Rattle.meaning.specs.Places.{machine_character}
use Rattle.meaning.specs.declared.checked.CheckedObject.{CheckedObject}
use Rattle.meaning.specs.Resolved.{RoutineOf, ProgramOf}
use Rattle.meaning.specs.Views.{CheckedProgram, object_of, routine_of, cut}
use Rattle.meaning.specs.declared.checked.CheckedRoutine.{CheckedRoutine}
use Rattle.meaning.proofs.Cutting.{cut_is}
use Rattle.checker_values.specs.declared.noting.Tally.{Tally}
use Rattle.checker_values.specs.Keys.{keys_of}
use Rattle.checker_values.specs.Names.{Table, File, in_table, first_table, no_counts, table_of}
use Rattle.checker_values.specs.Noted.{noted}
use Rattle.checker_values.proofs.Noted.{noted_two}
use Rattle.checker_statements.specs.Arrays.{arrays_of}
use Rattle.checker_statements.specs.Objects.{all_defaults, standing_breaches, parents_of, with_parents, object_trees, objects_of}
use Rattle.checker.specs.declared.directive_rules.ResolvedFile.{ResolvedFile}
use Rattle.checker.specs.Resolving.{IsFound}
use Rattle.checker.specs.Programs.{main_key, first_routine, main_breaches, directives_breaches, program_breaches}
use Rattle.checker.specs.Programs.{defaults_in, globals_of, routines_of, resolve_with, file_of}
use Rattle.checker_values.specs.Expressions.{routine_of_binding}
use Rattle.checker.specs.Programs.{abbreviations_breaches, resolve_program}
use Rattle.checker.specs.Checked.{IsCheckedOf}
use Rattle.checker.proofs.FewListed.{first_objects}

-- the characters of abbreviations
abbrev pub characters_of : TextTree → List ℕ
characters_of t = map machine_character t.bytes

abbrev pub made : List ℕ → List (List ℕ) → List ℕ → List ObjectOf → List ℕ → List (List ℕ) → List RoutineOf → ℕ
    → ProgramOf
made gs arrays ws os keys texts rs n = record {
  globals = gs;
  arrays = arrays;
  defaults = ws;
  objects = os;
  keys = keys;
  abbreviations = texts;
  routines = rs;
  main = n;
}

pub program_value : (p : Program) (file : File) (gs : List ℕ) (arrays : List (List ℕ)) (ws : List ℕ)
    (os : List ObjectOf)
    (keys : List ℕ) (texts : List (List ℕ)) (rs : List RoutineOf) (n : ℕ)
    → file ≡ file_of (program_tree p)
    → gs ≡ globals_of file (map directive_tree p.directives.items)
    → arrays ≡ arrays_of file (map directive_tree p.directives.items)
    → ws ≡ all_defaults (defaults_in file (map directive_tree p.directives.items))
    → os ≡ objects_of file (map directive_tree p.directives.items)
    → keys ≡ keys_of (program_tree p).words
    → texts ≡ map characters_of (program_tree p).abbreviations
    → rs ≡ routines_of file (map directive_tree p.directives.items)
    → n ≡ routine_of_binding (in_table file.table main_key)
    → made gs arrays ws os keys texts rs n ≡ resolve_program (program_tree p)
unfolding resolve_program resolve_with
program_value p file gs arrays ws os keys texts rs n w g a d o k t r m =
    let ds = map directive_tree p.directives.items in
    let words = (program_tree p).words in
    let written = map characters_of (program_tree p).abbreviations in
    let here : made gs arrays ws os keys texts rs n
    ≡ made (globals_of file ds) (arrays_of file ds) (all_defaults (defaults_in file ds)) (objects_of file ds)
    (keys_of words) written (routines_of file ds) (routine_of_binding (in_table file.table main_key)) =
    rw (g, a, d, o, k, t, r, m) refl in
    here
    ∙ ap (λ (f : File). made (globals_of f ds) (arrays_of f ds) (all_defaults (defaults_in f ds)) (objects_of f ds)
    (keys_of words) written (routines_of f ds) (routine_of_binding (in_table f.table main_key))) w

-- the names of a program's file are those of its table
pub file_table : (p : ProgramTree) → (file_of p).table ≡ table_of p.directives
unfolding file_of
file_table p = refl

pub program_break : (m o q a r : Tally) (p : Program) (whole : Table)
    → whole ≡ table_of (map directive_tree p.directives.items)
    → o ≡ noted m (directives_breaches whole first_table no_counts (map directive_tree p.directives.items))
    → q ≡ noted o (standing_breaches whole (object_trees (map directive_tree p.directives.items)))
    → a ≡ noted q (abbreviations_breaches [] (map text_tree p.abbreviations.items))
    → r ≡ noted a
    (main_breaches p.end (first_routine (map directive_tree p.directives.items) main_key)
    (in_table whole main_key))
    → r ≡ noted m (program_breaches (program_tree p))
unfolding program_breaches
program_break m o q a r p whole w d s t b =
    let ds = map directive_tree p.directives.items in
    let standing = standing_breaches whole (object_trees ds) in
    let texts = abbreviations_breaches [] (map text_tree p.abbreviations.items) in
    let main = main_breaches p.end (first_routine ds main_key) (in_table whole main_key) in
    noted_two m o r (directives_breaches whole first_table no_counts ds) (standing ++ (texts ++ main)) d
    (noted_two o q r standing (texts ++ main) s (noted_two q a r texts main t b))
    ∙ ap (λ (t : Table). noted m
    (directives_breaches t first_table no_counts ds
    ++ (standing_breaches t (object_trees ds)
    ++ (texts ++ main_breaches p.end (first_routine ds main_key) (in_table t main_key))))) w

abbrev pub checked : List ℕ → List (List ℕ) → List ℕ → List CheckedObject → List ℕ → List (List ℕ)
    → List CheckedRoutine → ℕ → ℕ → ℕ → CheckedProgram
checked globals arrays defaults objects keys abbreviations routines main weight end = record {
  globals = globals;
  arrays = arrays;
  defaults = defaults;
  objects = objects;
  keys = keys;
  abbreviations = abbreviations;
  routines = routines;
  main = main;
  weight = weight;
  end_line = end;
}

pub program_checked : (p : Program) (file : File) (keys : List ℕ) (given again : List Directive) (texts : List Text)
    (found : ResolvedFile) (defaults parents : List ℕ) (objects : List CheckedObject) (abbreviations : List (List ℕ))
    (n : ℕ)
    (c : CheckedProgram) → file ≡ file_of (program_tree p)
    → keys ≡ keys_of (program_tree p).words
    → given ≡ p.directives.items → again ≡ p.directives.items → texts ≡ p.abbreviations.items
    → IsFound file (map directive_tree given) found
    → defaults ≡ all_defaults found.defaults.items
    → parents ≡ parents_of file.table (object_trees (map directive_tree again))
    → map object_of objects ≡ with_parents parents (map object_of found.objects.items)
    → abbreviations ≡ map characters_of (map text_tree texts)
    → n ≡ routine_of_binding (in_table file.table main_key)
    → c ≡ checked found.globals.items (cut found.arrays.sizes.items found.arrays.bytes.items) defaults objects keys
    abbreviations found.routines.items n p.weight p.end.line
    → program_breaches (program_tree p) ≡ []
    → IsCheckedOf (program_tree p) c
program_checked p file keys given again texts found defaults parents objects abbreviations n c w k same twice written f
    d ps os ts m is unbroken =
    let ds = map directive_tree p.directives.items in
    let g : IsFound file ds found = subst
    (λ (x : List Directive). IsFound file (map directive_tree x) found) same f in
    let stand : parents ≡ parents_of file.table (object_trees ds) = ps
    ∙ ap (λ (x : List Directive). parents_of file.table (object_trees (map directive_tree x))) twice in
    rw is (record {
      program = program_value p file found.globals.items (cut found.arrays.sizes.items found.arrays.bytes.items)
          defaults (map object_of objects) keys abbreviations
          (map routine_of found.routines.items) n w g.globals
          (cut_is found.arrays.sizes.items found.arrays.bytes.items
          (arrays_of file (map directive_tree p.directives.items)) g.sizes g.bytes)
          (d ∙ ap all_defaults g.defaults)
          (os ∙ ap (λ (x : List ℕ). with_parents x (map object_of found.objects.items)) stand
          ∙ ap (λ (x : List ObjectOf). with_parents (parents_of file.table (object_trees ds)) x)
          (g.objects
          ∙ first_objects file (program_tree p)
          (ap (λ (x : File). x.table) w ∙ file_table (program_tree p)) unbroken)) k
          (ts ∙ ap (λ (x : List Text). map characters_of (map text_tree x)) written) g.routines m;
      titles = g.titles;
      weight = refl;
      end_line = refl;
    })
