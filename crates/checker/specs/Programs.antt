-- The rules that a program can break, and what it resolves to.
use Rattle.std.specs.Prelude.{◌==◌, ◌||◌, ◌%◌, ℕ, nat_le, nat_lt, Bool, true, false, map, if◌then◌else◌, List, [], ◌∷◌}
use Rattle.std.specs.Prelude.{◌++◌, codes, length, Option, Some, None}
use Rattle.ztext.specs.Bytes.{most_abbreviations}
use Rattle.syntax_lexer.specs.FaultNumbers.{bad_abbreviation, defined_twice, no_proper_main, too_many}
use Rattle.syntax_lexer.specs.declared.token.Position.{Position}
use Rattle.syntax_trees.specs.Tree.{NameTree}
use Rattle.syntax_statements.specs.PartTree.{LiteralTree}
use Rattle.syntax_directives.specs.Tree.{RoutineTree, DirectiveTree, global, constant, array, attribute, property}
use Rattle.syntax_directives.specs.Tree.{object, routine, ObjectTree, TextTree}
use Rattle.syntax.specs.Tree.{ProgramTree}
use Rattle.meaning.specs.Places.{machine_character, number_in}
use Rattle.meaning.specs.Enclosure.{outside}
use Rattle.meaning.specs.Resolved.{RoutineOf, ProgramOf}
use Rattle.meaning.specs.Limits.{most_globals, most_objects, most_properties}
use Rattle.checker_values.specs.declared.binding.Binding.{Binding}
use Rattle.checker_values.specs.declared.binding.Binding.TheVariants as bindings
use Rattle.checker_values.specs.declared.breach.Breach.{Breach}
use Rattle.checker_values.specs.Breaches.{at}
use Rattle.checker_values.specs.declared.counts.Counts.{Counts}
use Rattle.checker_values.specs.Keys.{keys_of}
use Rattle.checker_values.specs.Names.{Table, File, key_of, same_key, in_table, first_table, no_counts, with_directive}
use Rattle.checker_values.specs.Names.{counts_after, table_of, look_up, Seen, seen_from}
use Rattle.checker_values.specs.Names.{twice, has_name}
use Rattle.checker_values.specs.Expressions.{routine_of_binding}
use Rattle.checker_values.specs.Literals.{initial_breaches, named_breaches, initial_value}
use Rattle.checker_statements.specs.Statements.{statements_breaches, resolve_statements}
use Rattle.checker_statements.specs.Arrays.{array_breaches, arrays_of}
use Rattle.checker_statements.specs.Objects.{object_breaches, standing_breaches, all_defaults, object_trees, objects_of}
use Rattle.zcore.specs.Layout.{attribute_count, most_locals}

-- Definitions: E22 at a name that is defined already; E24 at the 233rd global, the 49th attribute, the 63rd property
-- beside `name` and the 2,001st object

-- of a kind of which there may be so many
abbrev pub limit_breaches : ℕ → ℕ → NameTree → List Breach
limit_breaches most before name = if nat_le most before then at name.position too_many else []

-- Locals: E22 at the second of two, E24 at the 16th

-- of the locals that follow some
abbrev pub locals_breaches : List NameTree → List NameTree → List Breach
locals_breaches before [] = []
locals_breaches before (l ∷ ls) =
    (if has_name before l then at l.position defined_twice else [])
    ++ ((if nat_le most_locals (length before) then at l.position too_many else [])
    ++ locals_breaches (before ++ l ∷ []) ls)

abbrev pub routine_breaches : Table → RoutineTree → List Breach
routine_breaches whole r = locals_breaches [] r.locals ++ statements_breaches (look_up whole r.locals) outside r.body

abbrev pub global_directive_breaches : Table → Table → Counts → NameTree → Option LiteralTree → List Breach
global_directive_breaches whole table counts n v =
    twice table n ++ (limit_breaches most_globals counts.globals n ++ initial_breaches whole v)

abbrev pub attribute_directive_breaches : Table → Counts → NameTree → List Breach
attribute_directive_breaches table counts n = twice table n ++ limit_breaches attribute_count counts.attributes n

abbrev pub property_directive_breaches : Table → Table → Counts → NameTree → Option LiteralTree → List Breach
property_directive_breaches whole table counts n v =
    twice table n ++ (limit_breaches most_properties counts.properties n ++ initial_breaches whole v)

abbrev pub object_directive_breaches : Table → Table → Counts → ObjectTree → List Breach
object_directive_breaches whole table counts o =
    twice table o.name ++ (limit_breaches most_objects counts.objects o.name ++ object_breaches whole o)

-- of a directive, with the names of the whole file, and the names and how much is defined before it
abbrev pub directive_breaches : Table → Table → Counts → DirectiveTree → List Breach
directive_breaches whole table counts (global n v) = global_directive_breaches whole table counts n v
directive_breaches whole table counts (constant n v) = twice table n ++ named_breaches whole table v
directive_breaches whole table counts (array a) = twice table a.name ++ array_breaches whole a
directive_breaches whole table counts (attribute n) = attribute_directive_breaches table counts n
directive_breaches whole table counts (property n v) = property_directive_breaches whole table counts n v
directive_breaches whole table counts (object o) = object_directive_breaches whole table counts o
directive_breaches whole table counts (routine r) = twice table r.name ++ routine_breaches whole r

abbrev pub directives_breaches : Table → Table → Counts → List DirectiveTree → List Breach
directives_breaches whole table counts [] = []
directives_breaches whole table counts (d ∷ ds) =
    directive_breaches whole table counts d
    ++ directives_breaches whole (with_directive whole table counts d) (counts_after counts d) ds

-- Main: E21 at the end of the source where no routine has this name, and at its name where it has locals

abbrev pub main_key : List ℕ
main_key = key_of (codes "main")

-- the name of the first routine with a key
abbrev pub first_routine : List DirectiveTree → List ℕ → Option NameTree
first_routine [] key = None
first_routine (routine r ∷ ds) key = if same_key (key_of r.name.text) key then Some r.name else first_routine ds key
first_routine (_ ∷ ds) key = first_routine ds key

abbrev pub position_or : Position → Option NameTree → Position
position_or end None = end
position_or end (Some name) = name.position

abbrev pub main_breaches : Position → Option NameTree → Option Binding → List Breach
main_breaches end name (Some (bindings.Routine r locals)) =
    if nat_le 1 locals then at (position_or end name) no_proper_main else []
main_breaches end name _ = at end no_proper_main

-- Abbreviations: E24 from the 97th on; else E33 at one of fewer than two characters, or that stands earlier

abbrev pub same_bytes : List ℕ → List ℕ → Bool
same_bytes [] [] = true
same_bytes [] (d ∷ ds) = false
same_bytes (c ∷ cs) [] = false
same_bytes (c ∷ cs) (d ∷ ds) = if c == d then same_bytes cs ds else false

abbrev pub has_text : List TextTree → List ℕ → Bool
has_text [] bytes = false
has_text (t ∷ ts) bytes = same_bytes t.bytes bytes || has_text ts bytes

-- of one that follows some
abbrev pub abbreviation_breaches : List TextTree → TextTree → List Breach
abbreviation_breaches before t =
    if nat_le most_abbreviations (length before) then at t.position too_many
    else (if nat_lt (length t.bytes) 2 || has_text before t.bytes then at t.position bad_abbreviation else [])

abbrev pub abbreviations_breaches : List TextTree → List TextTree → List Breach
abbreviations_breaches before [] = []
abbreviations_breaches before (t ∷ ts) =
    abbreviation_breaches before t ++ abbreviations_breaches (before ++ t ∷ []) ts

-- every broken rule of a program, with its place
unfoldable pub program_breaches : ProgramTree → List Breach
program_breaches p =
    directives_breaches (table_of p.directives) first_table no_counts p.directives
    ++ (standing_breaches (table_of p.directives) (object_trees p.directives)
    ++ (abbreviations_breaches [] p.abbreviations
    ++ main_breaches p.end (first_routine p.directives main_key) (in_table (table_of p.directives) main_key)))

-- Resolving

abbrev pub globals_of : File → List DirectiveTree → List ℕ
globals_of file [] = []
globals_of file (global n v ∷ ds) = initial_value file v ∷ globals_of file ds
globals_of file (_ ∷ ds) = globals_of file ds

-- the defaults of the properties that are defined
abbrev pub defaults_in : File → List DirectiveTree → List ℕ
defaults_in file [] = []
defaults_in file (property n v ∷ ds) = initial_value file v % 65536 ∷ defaults_in file ds
defaults_in file (_ ∷ ds) = defaults_in file ds

-- where a routine sees so much of the file
abbrev pub resolve_body : Seen → RoutineTree → RoutineOf
resolve_body seen r = record { locals = length r.locals; body = resolve_statements seen r.body }

abbrev pub resolve_routine : File → RoutineTree → RoutineOf
resolve_routine file r = resolve_body (seen_from file r.locals) r

abbrev pub routines_of : File → List DirectiveTree → List RoutineOf
routines_of file [] = []
routines_of file (routine r ∷ ds) = resolve_routine file r ∷ routines_of file ds
routines_of file (_ ∷ ds) = routines_of file ds

-- with the names of a file and these numbers of keys
unfoldable pub resolve_with : File → ProgramTree → ProgramOf
resolve_with file p = record {
  globals = globals_of file p.directives;
  arrays = arrays_of file p.directives;
  defaults = all_defaults (defaults_in file p.directives);
  objects = objects_of file p.directives;
  keys = keys_of p.words;
  abbreviations = map (λ (t : TextTree). map machine_character t.bytes) p.abbreviations;
  routines = routines_of file p.directives;
  main = routine_of_binding (in_table file.table main_key);
}

abbrev pub no_numbers : ProgramTree → File
no_numbers p = record { table = table_of p.directives; number = λ key. 0 }

-- The numbers of keys rest on the sizes of arrays and of the tables of objects, and on how many keys there are. These
-- do not rest on the numbers of keys: they are the same where every key has the number 0.
unfoldable pub file_of : ProgramTree → File
file_of p = record { table = table_of p.directives; number = number_in (resolve_with (no_numbers p) p) }

unfoldable pub resolve_program : ProgramTree → ProgramOf
resolve_program p = resolve_with (file_of p) p

-- the routines of a file in order
abbrev pub routine_trees : List DirectiveTree → List RoutineTree
routine_trees [] = []
routine_trees (routine r ∷ ds) = r ∷ routine_trees ds
routine_trees (_ ∷ ds) = routine_trees ds
