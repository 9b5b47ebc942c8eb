-- Directives, one at a time.
use Rattle.std.proofs.Common.{◌≡◌, ℕ, ◌+◌, ◌%◌, ◌<◌, ◌≤◌, List, [], ◌∷◌, ◌++◌, length, drop, slice_index_or, Option}
use Rattle.std.proofs.Common.{refl, sym, subst, ap, ◌∙◌}
use Rattle.std.specs.Prelude.{map}
use Rattle.std.specs.List.{concat}
use Rattle.std.specs.Global.{Vec}
use Rattle.syntax_trees.specs.Tree.{NameTree}
use Rattle.syntax_statements.specs.PartTree.{LiteralTree}
use Rattle.syntax_directives.specs.declared.tree.Directive.{Directive}
use Rattle.syntax_directives.specs.Tree.{ArrayTree, ObjectTree, RoutineTree, DirectiveTree, global, constant, array}
use Rattle.syntax_directives.specs.Tree.{attribute, property, object, routine}
use Rattle.syntax_directives.specs.Views.{directive_tree}
use Rattle.meaning.specs.declared.arrays.Arrays.{Arrays}
use Rattle.meaning.specs.declared.checked.CheckedObject.{CheckedObject}
use Rattle.meaning.specs.declared.checked.CheckedRoutine.{CheckedRoutine}
use Rattle.meaning.specs.Objects.{ObjectOf}
use Rattle.meaning.specs.Resolved.{RoutineOf}
use Rattle.meaning.specs.Views.{object_of, routine_of, title_of}
use Rattle.checker_values.specs.declared.noting.Tally.{Tally}
use Rattle.checker_values.specs.declared.counts.Counts.{Counts}
use Rattle.checker_values.specs.Names.{Table, File, counts_after, with_directive}
use Rattle.checker_values.specs.Noted.{noted}
use Rattle.checker_values.proofs.Dropped.{drop_here, drop_end}
use Rattle.checker_values.proofs.Noted.{noted_append}
use Rattle.checker_values.proofs.Mapped.{nothing_more, map_push}
use Rattle.checker_values.specs.Literals.{initial_value}
use Rattle.checker_statements.specs.Arrays.{array_bytes, arrays_of}
use Rattle.checker_statements.specs.Entries.{IsArrayAdded}
use Rattle.checker_statements.proofs.ArrayLists.{bytes_more, list_step, sizes_more}
use Rattle.checker_statements.specs.Objects.{object_in}
use Rattle.checker_statements.specs.FirstListed.{first_listed, first_objects_in}
use Rattle.checker.specs.declared.directive_rules.ResolvedFile.{ResolvedFile}
use Rattle.checker.specs.Resolving.{IsAdded, IsAdding}
use Rattle.checker.specs.Programs.{globals_of, defaults_in, routines_of, resolve_routine, routine_trees}
use Rattle.checker.specs.Programs.{directive_breaches, directives_breaches}
use Rattle.checker.specs.Checked.{title}
use Rattle.checker.proofs.DirectiveLists.{defaults_more, globals_more, objects_more, routines_more, titles_more}

-- what one directive adds

same_bytes : (old new : Arrays) → new ≡ old → new.bytes.items ≡ old.bytes.items ++ []
same_bytes old new same = ap (λ (a : Arrays). a.bytes.items) same ∙ nothing_more old.bytes.items

same_sizes : (old new : Arrays) → new ≡ old → new.sizes.items ≡ old.sizes.items ++ []
same_sizes old new same = ap (λ (a : Arrays). a.sizes.items) same ∙ nothing_more old.sizes.items

-- what was found of other kinds stays as it was

pub record KeepsButGlobals (old new : ResolvedFile) : Type 0 where
  pub arrays : new.arrays ≡ old.arrays
  pub defaults : new.defaults ≡ old.defaults
  pub objects : new.objects ≡ old.objects
  pub routines : new.routines ≡ old.routines

pub record KeepsButArrays (old new : ResolvedFile) : Type 0 where
  pub globals : new.globals ≡ old.globals
  pub defaults : new.defaults ≡ old.defaults
  pub objects : new.objects ≡ old.objects
  pub routines : new.routines ≡ old.routines

pub record KeepsButDefaults (old new : ResolvedFile) : Type 0 where
  pub globals : new.globals ≡ old.globals
  pub arrays : new.arrays ≡ old.arrays
  pub objects : new.objects ≡ old.objects
  pub routines : new.routines ≡ old.routines

pub record KeepsButObjects (old new : ResolvedFile) : Type 0 where
  pub globals : new.globals ≡ old.globals
  pub arrays : new.arrays ≡ old.arrays
  pub defaults : new.defaults ≡ old.defaults
  pub routines : new.routines ≡ old.routines

pub record KeepsButRoutines (old new : ResolvedFile) : Type 0 where
  pub globals : new.globals ≡ old.globals
  pub arrays : new.arrays ≡ old.arrays
  pub defaults : new.defaults ≡ old.defaults
  pub objects : new.objects ≡ old.objects

pub added_global : (file : File) (d : DirectiveTree) (n : NameTree) (v : Option LiteralTree) (old new : ResolvedFile)
    (x : ℕ)
    → d ≡ global n v → new.globals.items ≡ old.globals.items ++ x ∷ [] → x ≡ initial_value file v
    → KeepsButGlobals old new → IsAdded file (d ∷ []) old new
added_global file d n v old new x is more value keeps = rw is (record {
  globals = more ∙ ap (λ y. old.globals.items ++ y ∷ []) value;
  bytes = same_bytes old.arrays new.arrays keeps.arrays;
  sizes = same_sizes old.arrays new.arrays keeps.arrays;
  defaults = ap (λ (ws : Vec ℕ). ws.items) keeps.defaults ∙ nothing_more old.defaults.items;
  objects = ap (λ (os : Vec CheckedObject). map object_of os.items) keeps.objects
      ∙ nothing_more (map object_of old.objects.items);
  routines = ap (λ (rs : Vec CheckedRoutine). map routine_of rs.items) keeps.routines
      ∙ nothing_more (map routine_of old.routines.items);
  titles = ap (λ (rs : Vec CheckedRoutine). map title_of rs.items) keeps.routines
      ∙ nothing_more (map title_of old.routines.items);
})

-- nothing is added
nothing_added : (file : File) (ds : List DirectiveTree) (old : ResolvedFile) → globals_of file ds ≡ []
    → concat (arrays_of file ds) ≡ [] → map length (arrays_of file ds) ≡ [] → defaults_in file ds ≡ []
    → first_objects_in file ds ≡ [] → routines_of file ds ≡ [] → map title (routine_trees ds) ≡ [] → IsAdded file ds old old
nothing_added file ds old g b s w o r t = record {
  globals = nothing_more old.globals.items ∙ ap (λ x. old.globals.items ++ x) (sym g);
  bytes = nothing_more old.arrays.bytes.items ∙ ap (λ x. old.arrays.bytes.items ++ x) (sym b);
  sizes = nothing_more old.arrays.sizes.items ∙ ap (λ x. old.arrays.sizes.items ++ x) (sym s);
  defaults = nothing_more old.defaults.items ∙ ap (λ x. old.defaults.items ++ x) (sym w);
  objects = nothing_more (map object_of old.objects.items) ∙ ap (λ x. map object_of old.objects.items ++ x) (sym o);
  routines = nothing_more (map routine_of old.routines.items)
      ∙ ap (λ x. map routine_of old.routines.items ++ x) (sym r);
  titles = nothing_more (map title_of old.routines.items) ∙ ap (λ x. map title_of old.routines.items ++ x) (sym t);
}

pub added_constant : (file : File) (d : DirectiveTree) (n : NameTree) (v : LiteralTree) (old : ResolvedFile)
    → d ≡ constant n v → IsAdded file (d ∷ []) old old
added_constant file d n v old is = rw is (nothing_added file (constant n v ∷ []) old refl refl refl refl refl refl refl)

pub added_attribute : (file : File) (d : DirectiveTree) (n : NameTree) (old : ResolvedFile)
    → d ≡ attribute n → IsAdded file (d ∷ []) old old
added_attribute file d n old is = rw is (nothing_added file (attribute n ∷ []) old refl refl refl refl refl refl refl)

pub added_array : (file : File) (d : DirectiveTree) (a : ArrayTree) (old new : ResolvedFile) → d ≡ array a
    → IsArrayAdded (array_bytes file a) old.arrays new.arrays → KeepsButArrays old new
    → IsAdded file (d ∷ []) old new
added_array file d a old new is more keeps = rw is (record {
  globals = ap (λ (gs : Vec ℕ). gs.items) keeps.globals ∙ nothing_more old.globals.items;
  bytes = more.bytes_added
      ∙ ap (λ (x : List ℕ). old.arrays.bytes.items ++ x) (nothing_more (array_bytes file a));
  sizes = more.size_added;
  defaults = ap (λ (ws : Vec ℕ). ws.items) keeps.defaults ∙ nothing_more old.defaults.items;
  objects = ap (λ (os : Vec CheckedObject). map object_of os.items) keeps.objects
      ∙ nothing_more (map object_of old.objects.items);
  routines = ap (λ (rs : Vec CheckedRoutine). map routine_of rs.items) keeps.routines
      ∙ nothing_more (map routine_of old.routines.items);
  titles = ap (λ (rs : Vec CheckedRoutine). map title_of rs.items) keeps.routines
      ∙ nothing_more (map title_of old.routines.items);
})

pub added_property : (file : File) (d : DirectiveTree) (n : NameTree) (v : Option LiteralTree)
    (old new : ResolvedFile) (x : ℕ)
    → d ≡ property n v → new.defaults.items ≡ old.defaults.items ++ x ∷ [] → x ≡ initial_value file v % 65536
    → KeepsButDefaults old new → IsAdded file (d ∷ []) old new
added_property file d n v old new x is more value keeps = rw is (record {
  globals = ap (λ (gs : Vec ℕ). gs.items) keeps.globals ∙ nothing_more old.globals.items;
  bytes = same_bytes old.arrays new.arrays keeps.arrays;
  sizes = same_sizes old.arrays new.arrays keeps.arrays;
  defaults = more ∙ ap (λ y. old.defaults.items ++ y ∷ []) value;
  objects = ap (λ (os : Vec CheckedObject). map object_of os.items) keeps.objects
      ∙ nothing_more (map object_of old.objects.items);
  routines = ap (λ (rs : Vec CheckedRoutine). map routine_of rs.items) keeps.routines
      ∙ nothing_more (map routine_of old.routines.items);
  titles = ap (λ (rs : Vec CheckedRoutine). map title_of rs.items) keeps.routines
      ∙ nothing_more (map title_of old.routines.items);
})

pub added_object : (file : File) (d : DirectiveTree) (o : ObjectTree) (old new : ResolvedFile) (c : CheckedObject)
    → d ≡ object o → new.objects.items ≡ old.objects.items ++ c ∷ [] → object_of c ≡ object_in file (first_listed o)
    → KeepsButObjects old new → IsAdded file (d ∷ []) old new
added_object file d o old new c is more value keeps = rw is (record {
  globals = ap (λ (gs : Vec ℕ). gs.items) keeps.globals ∙ nothing_more old.globals.items;
  bytes = same_bytes old.arrays new.arrays keeps.arrays;
  sizes = same_sizes old.arrays new.arrays keeps.arrays;
  defaults = ap (λ (ws : Vec ℕ). ws.items) keeps.defaults ∙ nothing_more old.defaults.items;
  objects = ap (λ os. map object_of os) more ∙ map_push object_of old.objects.items c
      ∙ ap (λ (x : ObjectOf). map object_of old.objects.items ++ x ∷ []) value;
  routines = ap (λ (rs : Vec CheckedRoutine). map routine_of rs.items) keeps.routines
      ∙ nothing_more (map routine_of old.routines.items);
  titles = ap (λ (rs : Vec CheckedRoutine). map title_of rs.items) keeps.routines
      ∙ nothing_more (map title_of old.routines.items);
})

abbrev pub IsSame : RoutineOf × (NameTree × ℕ) → RoutineOf × (NameTree × ℕ) → Type 0
IsSame p q = p ≡ q

pub added_routine : (file : File) (d : DirectiveTree) (r : RoutineTree) (old new : ResolvedFile) (c : CheckedRoutine)
    → d ≡ routine r → new.routines.items ≡ old.routines.items ++ c ∷ []
    → IsSame (routine_of c, title_of c) (resolve_routine file r, title r) → KeepsButRoutines old new
    → IsAdded file (d ∷ []) old new
added_routine file d r old new c is more value keeps = rw is (record {
  globals = ap (λ (gs : Vec ℕ). gs.items) keeps.globals ∙ nothing_more old.globals.items;
  bytes = same_bytes old.arrays new.arrays keeps.arrays;
  sizes = same_sizes old.arrays new.arrays keeps.arrays;
  defaults = ap (λ (ws : Vec ℕ). ws.items) keeps.defaults ∙ nothing_more old.defaults.items;
  objects = ap (λ (os : Vec CheckedObject). map object_of os.items) keeps.objects
      ∙ nothing_more (map object_of old.objects.items);
  routines =
      ap (λ rs. map routine_of rs) more ∙ map_push routine_of old.routines.items c
      ∙ ap (λ (p : RoutineOf × (NameTree × ℕ)). map routine_of old.routines.items ++ p.0 ∷ []) value;
  titles =
      ap (λ rs. map title_of rs) more ∙ map_push title_of old.routines.items c
      ∙ ap (λ (p : RoutineOf × (NameTree × ℕ)). map title_of old.routines.items ++ p.1 ∷ []) value;
})

-- one more directive

pub adding_more : (file : File) (ds : List Directive) (i : ℕ) (x : Directive) (first old new : ResolvedFile)
    → i < length ds → x ≡ slice_index_or ds i x
    → IsAdded file (directive_tree x ∷ []) old new
    → IsAdding file (map directive_tree (drop i ds)) (map directive_tree ds) first old
    → IsAdding file (map directive_tree (drop (i + 1) ds)) (map directive_tree ds) first new
adding_more file ds i x first old new lt is a h = record {
  globals = list_step (λ (q : List DirectiveTree). globals_of file q) (globals_more file) old.globals.items
      new.globals.items ds i x lt is a.globals ∙ h.globals;
  bytes = list_step (λ (q : List DirectiveTree). concat (arrays_of file q)) (bytes_more file)
      old.arrays.bytes.items new.arrays.bytes.items ds i x lt is a.bytes ∙ h.bytes;
  sizes = list_step (λ (q : List DirectiveTree). map length (arrays_of file q)) (sizes_more file)
      old.arrays.sizes.items new.arrays.sizes.items ds i x lt is a.sizes ∙ h.sizes;
  defaults = list_step (λ (q : List DirectiveTree). defaults_in file q) (defaults_more file) old.defaults.items
      new.defaults.items ds i x lt is a.defaults ∙ h.defaults;
  objects = list_step (λ (q : List DirectiveTree). first_objects_in file q) (objects_more file)
      (map object_of old.objects.items) (map object_of new.objects.items) ds i x lt is a.objects ∙ h.objects;
  routines = list_step (λ (q : List DirectiveTree). routines_of file q) (routines_more file)
      (map routine_of old.routines.items) (map routine_of new.routines.items) ds i x lt is a.routines ∙ h.routines;
  titles = list_step (λ (q : List DirectiveTree). map title (routine_trees q)) titles_more
      (map title_of old.routines.items) (map title_of new.routines.items) ds i x lt is a.titles ∙ h.titles;
}

pub adding_end : (file : File) (ds : List Directive) (i : ℕ) (first found : ResolvedFile) → length ds ≤ i
    → IsAdding file (map directive_tree (drop i ds)) (map directive_tree ds) first found
    → IsAdded file (map directive_tree ds) first found
adding_end file ds i first found end h =
    let e : drop i ds ≡ [] = drop_end ds i end in
    let k : IsAdding file [] (map directive_tree ds) first found = subst
    (λ (q : List Directive). IsAdding file (map directive_tree q) (map directive_tree ds) first found) e h in
    record {
      globals = nothing_more found.globals.items ∙ k.globals;
      bytes = nothing_more found.arrays.bytes.items ∙ k.bytes;
      sizes = nothing_more found.arrays.sizes.items ∙ k.sizes;
      defaults = nothing_more found.defaults.items ∙ k.defaults;
      objects = nothing_more (map object_of found.objects.items) ∙ k.objects;
      routines = nothing_more (map routine_of found.routines.items) ∙ k.routines;
      titles = nothing_more (map title_of found.routines.items) ∙ k.titles;
    }

pub breaches_step : (whole t u : Table) (g h : Counts) (m n : Tally) (ds : List Directive) (i : ℕ)
    (x : Directive) → i < length ds → x ≡ slice_index_or ds i x
    → n ≡ noted m (directive_breaches whole t g (directive_tree x)) → u ≡ with_directive whole t g (directive_tree x)
    → h ≡ counts_after g (directive_tree x)
    → noted n (directives_breaches whole u h (map directive_tree (drop (i + 1) ds)))
    ≡ noted m (directives_breaches whole t g (map directive_tree (drop i ds)))
breaches_step whole t u g h m n ds i x lt is a b c =
    rw (a, b, c)
    (sym (noted_append m (directive_breaches whole t g (directive_tree x))
    (directives_breaches whole (with_directive whole t g (directive_tree x)) (counts_after g (directive_tree x))
    (map directive_tree (drop (i + 1) ds))))
    ∙ ap (λ (q : List Directive). noted m (directives_breaches whole t g (map directive_tree q)))
    (sym (drop_here ds i x lt is)))
