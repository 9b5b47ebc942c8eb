-- The names of a file: its globals and routines are there.
use Rattle.std.proofs.Common.{◌≡◌, ℕ, ◌+◌, ◌<◌, ◌≤◌, Bool, true, false, List, [], ◌∷◌, ◌++◌, length, Option, Some, None}
use Rattle.std.proofs.Common.{cond, is_some, refl, sym, ap, ◌∙◌, append_assoc, length-append, arith}
use Rattle.syntax_trees.specs.Tree.{NameTree}
use Rattle.syntax_directives.specs.Tree.{DirectiveTree, global, constant, array, attribute, property, object, routine}
use Rattle.meaning.specs.Resolved.{RoutineOf, ProgramOf}
use Rattle.meaning.specs.Meaning.{routine_at}
use Rattle.checker_values.specs.declared.binding.Binding.{Binding}
use Rattle.checker_values.specs.declared.binding.Binding.TheVariants as bindings
use Rattle.checker_values.specs.declared.counts.Counts.{Counts}
use Rattle.checker_values.specs.Names.{Table, File, key_of, same_key, in_table, first_table, earlier_known, with_name}
use Rattle.checker_values.specs.Names.{no_counts, counts_after, with_directive, table_from, table_of, local_from}
use Rattle.checker_values.specs.Names.{local_first, look_up}
use Rattle.checker_statements.specs.Arrays.{arrays_of}
use Rattle.checker.specs.Programs.{globals_of, defaults_in, resolve_routine, routines_of}
use Rattle.checker.proofs.MeantNames.{IsMeant}

routine_here : (front : List RoutineOf) (r : RoutineOf) (rest : List RoutineOf)
    → routine_at (front ++ r ∷ rest) (length front) ≡ r
routine_here [] r rest = refl
routine_here (s ∷ front) r rest = routine_here front r rest

-- how many attributes are defined
abbrev pub attributes_in : List DirectiveTree → ℕ
attributes_in [] = 0
attributes_in (global n v ∷ ds) = attributes_in ds
attributes_in (constant n v ∷ ds) = attributes_in ds
attributes_in (array a ∷ ds) = attributes_in ds
attributes_in (attribute n ∷ ds) = 1 + attributes_in ds
attributes_in (property n v ∷ ds) = attributes_in ds
attributes_in (object o ∷ ds) = attributes_in ds
attributes_in (routine r ∷ ds) = attributes_in ds

-- in a file with so many globals, arrays, attributes and properties beside `name`, and these routines
module _ (globals arrays attributes properties : ℕ) (routines : List RoutineOf) where
  abbrev pub IsEntry : Binding → Type 0
  IsEntry (bindings.Constant n) = Unit {0}
  IsEntry (bindings.Global g) = g < globals
  IsEntry (bindings.Array a kind) = a < arrays
  IsEntry (bindings.Routine r n) = (r < length routines) × ((routine_at routines r).locals ≡ n)
  IsEntry (bindings.Attribute a) = a < attributes
  IsEntry (bindings.Property n) = (1 ≤ n) × (n ≤ properties + 1)
  IsEntry (bindings.Object o) = Unit {0}
  IsEntry (bindings.Local l) = ⊥

  abbrev pub AreEntries : Table → Type 0
  AreEntries [] = Unit {0}
  AreEntries (e ∷ es) = IsEntry e.1 × AreEntries es

  one_more : (t : Table) (k : List ℕ) (b : Binding) → AreEntries t → IsEntry b → AreEntries (t ++ (k, b) ∷ [])
  one_more [] k b h i = (i, tt)
  one_more (e ∷ es) k b h i = (h.0, one_more es k b h.1 i)

  perhaps_more : (defined : Bool) (t : Table) (k : List ℕ) (b : Binding) → AreEntries t → IsEntry b
      → AreEntries (cond defined t (t ++ (k, b) ∷ []))
  perhaps_more true t k b h i = h
  perhaps_more false t k b h i = one_more t k b h i

  name_more : (t : Table) (n : NameTree) (b : Binding) → AreEntries t → IsEntry b → AreEntries (with_name t n b)
  name_more t n b h i = perhaps_more (is_some (in_table t (key_of n.text))) t (key_of n.text) b h i

  -- the table of a file, from a place on, before which there are these routines
  table_entries : (file : File) (whole t : Table) (counts : Counts) (front : List RoutineOf) (ds : List DirectiveTree)
      → AreEntries t → counts.globals + length (globals_of file ds) ≡ globals
      → counts.arrays + length (arrays_of file ds) ≡ arrays → counts.attributes + attributes_in ds ≡ attributes
      → counts.properties + length (defaults_in file ds) ≡ properties → counts.routines ≡ length front
      → front ++ routines_of file ds ≡ routines → AreEntries (table_from whole t counts ds)
  table_entries file whole t counts front [] h g a b p n r = h
  table_entries file whole t counts front (global name v ∷ ds) h g a b p n r =
      let d = global name v in
      table_entries file whole (with_directive whole t counts d) (counts_after counts d) front ds
      (name_more t name (bindings.Global counts.globals) h (omega (arith, g))) (omega (arith, g)) a b p n r
  table_entries file whole t counts front (constant name v ∷ ds) h g a b p n r =
      let d = constant name v in
      table_entries file whole (with_directive whole t counts d) (counts_after counts d) front ds
      (name_more t name (bindings.Constant (earlier_known whole t v)) h tt) g a b p n r
  table_entries file whole t counts front (array x ∷ ds) h g a b p n r =
      let d = array x in
      table_entries file whole (with_directive whole t counts d) (counts_after counts d) front ds
      (name_more t x.name (bindings.Array counts.arrays x.kind) h (omega (arith, a))) g (omega (arith, a)) b p n r
  table_entries file whole t counts front (attribute name ∷ ds) h g a b p n r =
      let d = attribute name in
      table_entries file whole (with_directive whole t counts d) (counts_after counts d) front ds
      (name_more t name (bindings.Attribute counts.attributes) h (omega (arith, b))) g a (omega (arith, b)) p n r
  table_entries file whole t counts front (property name v ∷ ds) h g a b p n r =
      let d = property name v in
      table_entries file whole (with_directive whole t counts d) (counts_after counts d) front ds
      (name_more t name (bindings.Property (counts.properties + 2)) h (omega arith, omega (arith, p))) g a b
      (omega (arith, p)) n r
  table_entries file whole t counts front (object x ∷ ds) h g a b p n r =
      let d = object x in
      table_entries file whole (with_directive whole t counts d) (counts_after counts d) front ds
      (name_more t x.name (bindings.Object (counts.objects + 1)) h tt) g a b p n r
  table_entries file whole t counts front (routine x ∷ ds) h g a b p n r =
      let d = routine x in
      let number : ℕ = counts.routines in
      let made : RoutineOf = resolve_routine file x in
      let rest : List RoutineOf = routines_of file ds in
      let there : number < length routines = omega (arith, n, ap length r, length-append front (made ∷ rest)) in
      let same : (routine_at routines number).locals
      ≡ length x.locals = ap (λ (rs : List RoutineOf). (routine_at rs number).locals) (sym r)
      ∙ ap (λ (m : ℕ). (routine_at (front ++ made ∷ rest) m).locals) n
      ∙ ap (λ (s : RoutineOf). s.locals) (routine_here front made rest) in
      table_entries file whole (with_directive whole t counts d) (counts_after counts d)
      (front ++ made ∷ []) ds (name_more t x.name (bindings.Routine number (length x.locals)) h (there, same)) g a b p
      (omega (arith, n, length-append front (made ∷ []))) (append_assoc front (made ∷ []) rest ∙ r)

  pub file_entries : (file : File) (ds : List DirectiveTree) → length (globals_of file ds) ≡ globals
      → length (arrays_of file ds) ≡ arrays → attributes_in ds ≡ attributes
      → length (defaults_in file ds) ≡ properties → routines_of file ds ≡ routines → AreEntries (table_of ds)
  unfolding table_of
  file_entries file ds g a b p r =
      table_entries file (table_from [] first_table no_counts ds) first_table no_counts [] ds
      ((omega arith, omega arith), tt) (omega (arith, g)) (omega (arith, a)) (omega (arith, b))
      (omega (arith, p)) refl r

-- What is found

abbrev Below : ℕ → Option ℕ → Type 0
Below n None = Unit {0}
Below n (Some m) = m < n

below_either : (c : Bool) (n limit : ℕ) (o : Option ℕ) → n < limit → Below limit o → Below limit (cond c (Some n) o)
below_either true n limit o h i = h
below_either false n limit o h i = i

locals_below : (limit n : ℕ) (ls : List NameTree) (key : List ℕ) → n + length ls ≤ limit
    → Below limit (local_from n ls key)
locals_below limit n [] key h = tt
locals_below limit n (l ∷ ls) key h = below_either (same_key (key_of l.text) key) n limit (local_from (n + 1) ls key)
    (omega (arith, h)) (locals_below limit (n + 1) ls key (omega (arith, h)))

module _ (p : ProgramOf) (attributes properties : ℕ) (few : attributes ≤ 48) (short : properties ≤ 62)
    (locals : ℕ) where
  abbrev AreNames : Table → Type 0
  AreNames t = AreEntries (length p.globals) (length p.arrays) attributes properties p.routines t

  entry_meant : (b : Binding) → IsEntry (length p.globals) (length p.arrays) attributes properties p.routines b
      → IsMeant p locals (Some b)
  entry_meant (bindings.Constant n) h = tt
  entry_meant (bindings.Global g) h = h
  entry_meant (bindings.Array a kind) h = h
  entry_meant (bindings.Routine r n) h = h
  entry_meant (bindings.Attribute a) h = omega (arith, h, few)
  entry_meant (bindings.Property n) h = let low = h.0 in let high = h.1 in (low, omega (arith, high, short))
  entry_meant (bindings.Object o) h = tt
  entry_meant (bindings.Local l) h = absurd h

  meant_either : (c : Bool) (b : Binding) (o : Option Binding) → IsMeant p locals (Some b) → IsMeant p locals o
      → IsMeant p locals (cond c (Some b) o)
  meant_either true b o h i = h
  meant_either false b o h i = i

  pub found_meant : (t : Table) (key : List ℕ) → AreNames t
      → IsMeant p locals (in_table t key)
  found_meant [] key h = tt
  found_meant (e ∷ es) key h = meant_either (same_key e.0 key) e.1 (in_table es key) (entry_meant e.1 h.0)
      (found_meant es key h.1)

  local_meant : (o : Option ℕ) (found : Option Binding) → Below locals o → IsMeant p locals found
      → IsMeant p locals (local_first o found)
  local_meant None found b h = h
  local_meant (Some n) found b h = b

-- what a name stands for in a routine is there
pub name_meant : (p : ProgramOf) (attributes properties : ℕ) → attributes ≤ 48 → properties ≤ 62 → (t : Table)
    (ls : List NameTree) (name : List ℕ)
    → AreEntries (length p.globals) (length p.arrays) attributes properties p.routines t
    → IsMeant p (length ls) (look_up t ls name)
unfolding look_up
name_meant p attributes properties few short t ls name h =
    local_meant p attributes properties few short (length ls) (local_from 0 ls (key_of name)) (in_table t (key_of name))
    (locals_below (length ls) 0 ls (key_of name) (omega arith))
    (found_meant p attributes properties few short (length ls) t (key_of name) h)
