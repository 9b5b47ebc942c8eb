-- A program that breaks no rule resolves to one within the limits.
use Rattle.std.proofs.Common.{◌≡◌, ℕ, ◌+◌, ◌^◌, ◌<◌, ◌≤◌, nat_le, List, [], ◌∷◌, ◌++◌, length, Option, Some, None, refl}
use Rattle.std.proofs.Common.{sym, subst, arith}
use Rattle.std.specs.Prelude.{map}
use Rattle.std.specs.List.{All}
use Rattle.std.specs.List.Sorted.{IsStrictlyIncreasing}
use Rattle.std.proofs.lemmas.List.Elements.{All-nil, All-cons}
use Rattle.syntax_lexer.specs.declared.token.Position.{Position}
use Rattle.syntax_trees.specs.Tree.{NameTree}
use Rattle.syntax_directives.specs.Tree.{RoutineTree, DirectiveTree, global, constant, array, attribute, property}
use Rattle.syntax_directives.specs.Tree.{object, routine, TextTree}
use Rattle.meaning.specs.Resolved.{ProgramOf}
use Rattle.meaning.specs.Meaning.{routine_at}
use Rattle.meaning.specs.Enclosure.{outside}
use Rattle.meaning.specs.Objects.{object_at}
use Rattle.meaning.specs.Accepted.{IsRoutine, IsArray, IsObject, IsAccepted}
use Rattle.checker_values.specs.declared.binding.Binding.{Binding}
use Rattle.checker_values.specs.declared.binding.Binding.TheVariants as bindings
use Rattle.checker_values.specs.declared.counts.Counts.{Counts}
use Rattle.checker_values.specs.Names.{Table, in_table, first_table, no_counts, counts_after, with_directive, table_of}
use Rattle.checker_values.specs.Names.{File, look_up, seen_from}
use Rattle.checker_values.specs.Keys.{keys_of}
use Rattle.checker_values.proofs.Gathered.{keys_ascend}
use Rattle.checker_values.proofs.SmallKeys.{keys_small}
use Rattle.checker_values.proofs.Kept.{left_empty, right_empty, kept, below}
use Rattle.checker_statements.specs.Statements.{statements_breaches}
use Rattle.checker_statements.specs.Arrays.{array_breaches, array_bytes, arrays_of}
use Rattle.checker_statements.proofs.ArraySizes.{array_short}
use Rattle.checker_statements.specs.Objects.{object_breaches, standing_breaches, parents_of, object_in, with_parents}
use Rattle.checker_statements.specs.Objects.{all_defaults, objects_of, objects_in, object_trees}
use Rattle.checker_values.specs.Names.{twice}
use Rattle.checker_statements.proofs.Chains.{placed_many}
use Rattle.checker.specs.Programs.{limit_breaches, defaults_in, locals_breaches, routine_breaches, directive_breaches}
use Rattle.checker.specs.Programs.{directives_breaches, main_key, first_routine, position_or, main_breaches}
use Rattle.checker.specs.Programs.{program_breaches, globals_of, resolve_routine, routines_of, abbreviations_breaches}
use Rattle.checker.specs.Programs.{resolve_with, file_of, resolve_program}
use Rattle.checker_values.specs.Expressions.{routine_of_binding}
use Rattle.checker.proofs.Whole.{characters_of, made}
use Rattle.checker.specs.Laws.{AcceptedPrograms}
use Rattle.checker.proofs.AbbreviationLimits.{texts_few, texts_long}
use Rattle.checker.proofs.Placed.{IsAlone, object_within, objects_placed, parents_rise, defaults_many, defaults_small}
use Rattle.checker.proofs.MeantNames.{IsMeant}
use Rattle.checker.proofs.Unbroken.{statements_within}
use Rattle.checker.proofs.BreaksStand.{statements_stand}
use Rattle.checker.proofs.Bindings.{attributes_in, AreEntries, file_entries, found_meant, name_meant}
use Rattle.checker.proofs.FewDirectives.{after_kept, locals_few, globals_few, attributes_few, properties_few}
use Rattle.checker.proofs.FewDirectives.{objects_few}

-- Arrays

arrays_within : (file : File) (t : Table) (counts : Counts) (ds : List DirectiveTree)
    → directives_breaches file.table t counts ds ≡ [] → All IsArray (arrays_of file ds)
arrays_within file t counts [] h = All-nil IsArray
arrays_within file t counts (global n v ∷ ds) h =
    let d = global n v in
    arrays_within file (with_directive file.table t counts d) (counts_after counts d) ds
    (after_kept file t counts d ds h)
arrays_within file t counts (constant n v ∷ ds) h =
    let d = constant n v in
    arrays_within file (with_directive file.table t counts d) (counts_after counts d) ds
    (after_kept file t counts d ds h)
arrays_within file t counts (array a ∷ ds) h =
    let d = array a in
    let own = directive_breaches file.table t counts d in
    let rest = directives_breaches file.table (with_directive file.table t counts d) (counts_after counts d) ds in
    All-cons IsArray (array_bytes file a) (arrays_of file ds)
    (array_short file a (right_empty (twice t a.name) (array_breaches file.table a) (left_empty own rest h)))
    (arrays_within file (with_directive file.table t counts d) (counts_after counts d) ds (right_empty own rest h))
arrays_within file t counts (attribute n ∷ ds) h =
    let d = attribute n in
    arrays_within file (with_directive file.table t counts d) (counts_after counts d) ds
    (after_kept file t counts d ds h)
arrays_within file t counts (property n v ∷ ds) h =
    let d = property n v in
    arrays_within file (with_directive file.table t counts d) (counts_after counts d) ds
    (after_kept file t counts d ds h)
arrays_within file t counts (object o ∷ ds) h =
    let d = object o in
    arrays_within file (with_directive file.table t counts d) (counts_after counts d) ds
    (after_kept file t counts d ds h)
arrays_within file t counts (routine r ∷ ds) h =
    let d = routine r in
    arrays_within file (with_directive file.table t counts d) (counts_after counts d) ds
    (after_kept file t counts d ds h)

-- Routines

module _ (p : ProgramOf) (file : File) (attributes properties : ℕ) (few : attributes ≤ 48) (short : properties ≤ 62)
    (entries : AreEntries (length p.globals) (length p.arrays) attributes properties p.routines file.table) where
  routine_within : (r : RoutineTree) → routine_breaches file.table r ≡ [] → IsRoutine p (resolve_routine file r)
  routine_within r h =
      let names = locals_breaches [] r.locals in
      let body = statements_breaches (look_up file.table r.locals) outside r.body in
      let brief = locals_few [] r.locals (omega arith) (left_empty names body h) in (
        omega (arith, brief),
        statements_within p (length r.locals) (seen_from file r.locals)
            (λ name. name_meant p attributes properties few short file.table r.locals name entries) outside r.body
            (right_empty names body h),
        statements_stand (seen_from file r.locals) outside r.body (right_empty names body h),
      )

  routines_within : (t : Table) (counts : Counts) (ds : List DirectiveTree)
      → directives_breaches file.table t counts ds ≡ [] → All (IsRoutine p) (routines_of file ds)
  routines_within t counts [] h = All-nil (IsRoutine p)
  routines_within t counts (global n v ∷ ds) h =
      let d = global n v in
      routines_within (with_directive file.table t counts d) (counts_after counts d) ds
      (after_kept file t counts d ds h)
  routines_within t counts (constant n v ∷ ds) h =
      let d = constant n v in
      routines_within (with_directive file.table t counts d) (counts_after counts d) ds
      (after_kept file t counts d ds h)
  routines_within t counts (array a ∷ ds) h =
      let d = array a in
      routines_within (with_directive file.table t counts d) (counts_after counts d) ds
      (after_kept file t counts d ds h)
  routines_within t counts (attribute n ∷ ds) h =
      let d = attribute n in
      routines_within (with_directive file.table t counts d) (counts_after counts d) ds
      (after_kept file t counts d ds h)
  routines_within t counts (property n v ∷ ds) h =
      let d = property n v in
      routines_within (with_directive file.table t counts d) (counts_after counts d) ds
      (after_kept file t counts d ds h)
  routines_within t counts (object o ∷ ds) h =
      let d = object o in
      routines_within (with_directive file.table t counts d) (counts_after counts d) ds
      (after_kept file t counts d ds h)
  routines_within t counts (routine r ∷ ds) h =
      let d = routine r in
      let own = directive_breaches file.table t counts d in
      let rest = directives_breaches file.table (with_directive file.table t counts d) (counts_after counts d) ds in
      All-cons (IsRoutine p) (resolve_routine file r) (routines_of file ds)
      (routine_within r (right_empty (twice t r.name) (routine_breaches file.table r) (left_empty own rest h)))
      (routines_within (with_directive file.table t counts d) (counts_after counts d) ds (right_empty own rest h))

  -- Objects, still without their parents

  objects_within : (t : Table) (counts : Counts) (ds : List DirectiveTree)
      → directives_breaches file.table t counts ds ≡ [] → All IsAlone (objects_in file ds)
  objects_within t counts [] h = All-nil IsAlone
  objects_within t counts (global n v ∷ ds) h =
      let d = global n v in
      objects_within (with_directive file.table t counts d) (counts_after counts d) ds
      (after_kept file t counts d ds h)
  objects_within t counts (constant n v ∷ ds) h =
      let d = constant n v in
      objects_within (with_directive file.table t counts d) (counts_after counts d) ds
      (after_kept file t counts d ds h)
  objects_within t counts (array a ∷ ds) h =
      let d = array a in
      objects_within (with_directive file.table t counts d) (counts_after counts d) ds
      (after_kept file t counts d ds h)
  objects_within t counts (attribute n ∷ ds) h =
      let d = attribute n in
      objects_within (with_directive file.table t counts d) (counts_after counts d) ds
      (after_kept file t counts d ds h)
  objects_within t counts (property n v ∷ ds) h =
      let d = property n v in
      objects_within (with_directive file.table t counts d) (counts_after counts d) ds
      (after_kept file t counts d ds h)
  objects_within t counts (object o ∷ ds) h =
      let d = object o in
      let own = directive_breaches file.table t counts d in
      let rest = directives_breaches file.table (with_directive file.table t counts d) (counts_after counts d) ds in
      All-cons IsAlone (object_in file o) (objects_in file ds)
      (object_within p attributes properties few short file entries o
      (right_empty (limit_breaches 2000 counts.objects o.name) (object_breaches file.table o)
      (right_empty (twice t o.name) (limit_breaches 2000 counts.objects o.name ++ object_breaches file.table o)
      (left_empty own rest h))))
      (objects_within (with_directive file.table t counts d) (counts_after counts d) ds (right_empty own rest h))
  objects_within t counts (routine r ∷ ds) h =
      let d = routine r in
      objects_within (with_directive file.table t counts d) (counts_after counts d) ds
      (after_kept file t counts d ds h)

  -- Main

  record IsMain (main : ℕ) : Type 0 where
    there : main < length p.routines
    alone : (routine_at p.routines main).locals ≡ 0

  main_within : (end : Position) (name : Option NameTree) (o : Option Binding) → IsMeant p 0 o
      → main_breaches end name o ≡ [] → IsMain (routine_of_binding o)
  main_within end name None m h = absurd cc
  main_within end name (Some (bindings.Constant n)) m h = absurd cc
  main_within end name (Some (bindings.Global g)) m h = absurd cc
  main_within end name (Some (bindings.Array a kind)) m h = absurd cc
  main_within end name (Some (bindings.Routine r n)) m h =
      let none = below 1 n (kept (nat_le 1 n) (position_or end name) 21 h) in
      let same = m.1 in
      record { there = m.0; alone = omega (arith, none, same) }
  main_within end name (Some (bindings.Attribute a)) m h = absurd cc
  main_within end name (Some (bindings.Property n)) m h = absurd cc
  main_within end name (Some (bindings.Object o)) m h = absurd cc
  main_within end name (Some (bindings.Local l)) m h = absurd cc

-- Programs

accepted : (ds : List DirectiveTree) (ts : List TextTree) (end : Position) (name : Option NameTree) (keys : List ℕ)
    (file : File) → All (λ k. k < 2 ^ 48) keys → IsStrictlyIncreasing keys → file.table ≡ table_of ds
    → directives_breaches file.table first_table no_counts ds
    ++ (standing_breaches file.table (object_trees ds)
    ++ (abbreviations_breaches [] ts ++ main_breaches end name (in_table file.table main_key)))
    ≡ []
    → IsAccepted
    (made (globals_of file ds) (arrays_of file ds) (all_defaults (defaults_in file ds)) (objects_of file ds) keys
    (map characters_of ts) (routines_of file ds) (routine_of_binding (in_table file.table main_key)))
accepted ds ts end name keys file small ascending is h =
    let p : ProgramOf = made (globals_of file ds) (arrays_of file ds) (all_defaults (defaults_in file ds))
    (objects_of file ds) keys (map characters_of ts) (routines_of file ds)
    (routine_of_binding (in_table file.table main_key)) in
    let attributes : ℕ = attributes_in ds in
    let properties : ℕ = length (defaults_in file ds) in
    let all = directives_breaches file.table first_table no_counts ds in
    let standing = standing_breaches file.table (object_trees ds) in
    let texts = abbreviations_breaches [] ts in
    let main = main_breaches end name (in_table file.table main_key) in
    let own = left_empty all (standing ++ (texts ++ main)) h in
    let rest = right_empty all (standing ++ (texts ++ main)) h in
    let written = left_empty texts main (right_empty standing (texts ++ main) rest) in
    let last = right_empty texts main (right_empty standing (texts ++ main) rest) in
    let globals = globals_few file first_table no_counts ds (omega arith) own in
    let all_few = attributes_few file first_table no_counts ds (omega arith) own in
    let all_short = properties_few file first_table no_counts ds (omega arith) own in
    let few : attributes ≤ 48 = omega (arith, all_few) in
    let short : properties ≤ 62 = omega (arith, all_short) in
    let many = objects_few file first_table no_counts ds (omega arith) own in
    let entries : AreEntries (length p.globals) (length p.arrays) attributes properties p.routines file.table = subst
    (λ (t : Table). AreEntries (length p.globals) (length p.arrays) attributes properties p.routines t) (sym is)
    (file_entries (length p.globals)
    (length p.arrays) attributes properties p.routines file ds refl refl refl refl refl) in
    let parents : List ℕ = parents_of file.table (object_trees ds) in
    let as_many = placed_many parents (objects_in file ds) in
    let kept_main = main_within p file attributes properties few short entries end name (in_table file.table main_key)
    (found_meant p attributes properties few short 0 file.table main_key entries) last in
    record {
      globals = omega (arith, globals);
      arrays = arrays_within file first_table no_counts ds own;
      defaults = (defaults_many (defaults_in file ds), defaults_small file ds);
      few = omega (arith, many, as_many);
      objects = λ (k : ℕ) lt. subst (λ (n : ℕ). IsObject (object_at (with_parents parents (objects_in file ds)) (k + 1)) n)
          (omega arith)
          (objects_placed 0 parents (objects_in file ds)
          (parents_rise file.table [] 0 (object_trees ds) tt (left_empty standing (texts ++ main) rest))
          (objects_within p file attributes properties few short entries first_table no_counts ds own) k lt);
      routines = routines_within p file attributes properties few short entries first_table no_counts ds own;
      main = kept_main.there;
      alone = kept_main.alone;
      keys = small;
      ascending = ascending;
      few_abbreviations = texts_few ts written;
      abbreviations = texts_long [] ts written;
    }

pub accepted_programs : AcceptedPrograms
unfolding program_breaches resolve_program resolve_with file_of
accepted_programs p h = accepted p.directives p.abbreviations p.end (first_routine p.directives main_key)
    (keys_of p.words) (file_of p)
    (keys_small p.words) (keys_ascend p.words) refl h
