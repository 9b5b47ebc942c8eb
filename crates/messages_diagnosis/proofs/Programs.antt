-- Where each token of a program stands at a position of which P holds, so does each rule that the program breaks, and
-- the name of its first routine that is too heavy.
use Rattle.std.proofs.Common.{ℕ, nat_lt, nat_le, Bool, true, false, cond, List, [], ◌∷◌, ◌++◌, length, Option, Some}
use Rattle.std.proofs.Common.{None, refl}
use Rattle.std.specs.Prelude.{◌||◌, IfSome}
use Rattle.ztext.specs.Bytes.{most_abbreviations}
use Rattle.syntax_lexer.specs.declared.token.Position.{Position}
use Rattle.syntax_lexer.specs.Token.{Lexeme}
use Rattle.syntax_trees.specs.Tree.{NameTree}
use Rattle.syntax_directives.specs.Tree.{TextTree, RoutineTree, DirectiveTree, global, constant, array}
use Rattle.syntax_directives.specs.Tree.{attribute, property, object, routine}
use Rattle.syntax.specs.Tree.{EntryTree, directives_of, abbreviations_of, ProgramTree}
use Rattle.syntax.specs.Grammar.{e_directive, e_abbreviate, IsEntries, entries_stop, entries_next, IsProgram}
use Rattle.syntax.specs.Grammar.{program}
use Rattle.meaning.specs.Enclosure.{outside}
use Rattle.meaning.specs.Limits.{most_globals, most_objects, most_properties}
use Rattle.meaning.specs.Sizes.{first_heavy, greatest_routine_weight}
use Rattle.zcore.specs.Layout.{attribute_count, most_locals}
use Rattle.checker_values.specs.declared.binding.Binding.{Binding}
use Rattle.checker_values.specs.declared.binding.Binding.TheVariants as bindings
use Rattle.checker_values.specs.declared.counts.Counts.{Counts}
use Rattle.checker_values.specs.Names.{Table, key_of, same_key, in_table, first_table, no_counts, with_directive}
use Rattle.checker_values.specs.Names.{counts_after, table_of, look_up, has_name}
use Rattle.checker_statements.specs.Objects.{object_trees}
use Rattle.checker.specs.Programs.{limit_breaches, locals_breaches, directive_breaches, directives_breaches, main_key}
use Rattle.checker.specs.Programs.{first_routine, position_or, main_breaches, has_text, abbreviation_breaches}
use Rattle.checker.specs.Programs.{abbreviations_breaches, program_breaches, routine_trees}
use Rattle.messages_diagnosis.proofs.Sounds.{Sounds, nothing, one, join, if_then, Stand, first, after}
use Rattle.messages_diagnosis.proofs.Names.{EachName, twice_sounds}
use Rattle.messages_diagnosis.proofs.Values.{initial_sounds, named_sounds}
use Rattle.messages_diagnosis.proofs.Directives.{EachText, EachObject, DirectiveAt, directive_in, texts_in}
use Rattle.messages_diagnosis.proofs.Objects.{array_values_sounds, object_sounds, standing_sounds}

module _ (P : Position → Type 0) where
  -- ---- directives

  limit_sounds : (most before : ℕ) (n : NameTree) → P n.position → Sounds P (limit_breaches most before n)
  limit_sounds most before n h = if_then (nat_le most before) (one h refl) nothing

  locals_sounds : (before ls : List NameTree) → EachName P ls → Sounds P (locals_breaches before ls)
  locals_sounds before [] h = nothing
  locals_sounds before (l ∷ ls) h = join (if_then (has_name before l) (one h.0 refl) nothing)
      (join (if_then (nat_le most_locals (length before)) (one h.0 refl) nothing)
      (locals_sounds (before ++ l ∷ []) ls h.1))

  directive_sounds : (whole table : Table) (counts : Counts) (d : DirectiveTree) → DirectiveAt P d
      → Sounds P (directive_breaches whole table counts d)
  directive_sounds whole table counts (global n v) h = join (twice_sounds table n h.0)
      (join (limit_sounds most_globals counts.globals n h.0) (initial_sounds P whole v h.1))
  directive_sounds whole table counts (constant n v) h = join (twice_sounds table n h.0)
      (named_sounds P whole table v h.1)
  directive_sounds whole table counts (array a) h = join (twice_sounds table a.name h.0)
      (array_values_sounds P whole a.name.position h.0 a.kind a.values h.1)
  directive_sounds whole table counts (attribute n) h = join (twice_sounds table n h)
      (limit_sounds attribute_count counts.attributes n h)
  directive_sounds whole table counts (property n v) h = join (twice_sounds table n h.0)
      (join (limit_sounds most_properties counts.properties n h.0) (initial_sounds P whole v h.1))
  directive_sounds whole table counts (object o) h = join (twice_sounds table o.name h.name)
      (join (limit_sounds most_objects counts.objects o.name h.name) (object_sounds P whole o h))
  directive_sounds whole table counts (routine r) h = join (twice_sounds table r.name h.name)
      (join (locals_sounds [] r.locals h.locals) (h.body (look_up whole r.locals) outside))

  abbrev EachDirective : List DirectiveTree → Type 0
  EachDirective [] = Unit {0}
  EachDirective (d ∷ ds) = DirectiveAt P d × EachDirective ds

  directives_sounds : (whole table : Table) (counts : Counts) (ds : List DirectiveTree) → EachDirective ds
      → Sounds P (directives_breaches whole table counts ds)
  directives_sounds whole table counts [] h = nothing
  directives_sounds whole table counts (d ∷ ds) h = join (directive_sounds whole table counts d h.0)
      (directives_sounds whole (with_directive whole table counts d) (counts_after counts d) ds h.1)

  objects_among : (ds : List DirectiveTree) → EachDirective ds → EachObject P (object_trees ds)
  objects_among [] h = tt
  objects_among (global n v ∷ ds) h = objects_among ds h.1
  objects_among (constant n v ∷ ds) h = objects_among ds h.1
  objects_among (array a ∷ ds) h = objects_among ds h.1
  objects_among (attribute n ∷ ds) h = objects_among ds h.1
  objects_among (property n v ∷ ds) h = objects_among ds h.1
  objects_among (object o ∷ ds) h = (h.0, objects_among ds h.1)
  objects_among (routine r ∷ ds) h = objects_among ds h.1

  -- ---- abbreviations

  abbreviation_sounds : (before : List TextTree) (t : TextTree) → P t.position
      → Sounds P (abbreviation_breaches before t)
  abbreviation_sounds before t h = if_then (nat_le most_abbreviations (length before)) (one h refl)
      (if_then (nat_lt (length t.bytes) 2 || has_text before t.bytes) (one h refl) nothing)

  abbreviations_sounds : (before ts : List TextTree) → EachText P ts → Sounds P (abbreviations_breaches before ts)
  abbreviations_sounds before [] h = nothing
  abbreviations_sounds before (t ∷ ts) h = join (abbreviation_sounds before t h.0)
      (abbreviations_sounds (before ++ t ∷ []) ts h.1)

  -- ---- Main

  routine_found : (ds : List DirectiveTree) (key : List ℕ) → EachDirective ds
      → IfSome (first_routine ds key) (λ n. P n.position)
  routine_found [] key h = tt
  routine_found (global n v ∷ ds) key h = routine_found ds key h.1
  routine_found (constant n v ∷ ds) key h = routine_found ds key h.1
  routine_found (array a ∷ ds) key h = routine_found ds key h.1
  routine_found (attribute n ∷ ds) key h = routine_found ds key h.1
  routine_found (property n v ∷ ds) key h = routine_found ds key h.1
  routine_found (object o ∷ ds) key h = routine_found ds key h.1
  routine_found (routine r ∷ ds) key h =
      either (same_key (key_of r.name.text) key) (Some r.name) (first_routine ds key) h.0.name (routine_found ds key h.1)
    where
      either : (t : Bool) (a b : Option NameTree) → IfSome a (λ n. P n.position) → IfSome b (λ n. P n.position)
          → IfSome (cond t a b) (λ n. P n.position)
      either true a b h k = h
      either false a b h k = k

  position_sounds : (q : Position) → P q → (n : Option NameTree) → IfSome n (λ n. P n.position)
      → P (position_or q n)
  position_sounds q h None k = h
  position_sounds q h (Some n) k = k

  main_sounds : (q : Position) → P q → (n : Option NameTree) → IfSome n (λ n. P n.position)
      → (o : Option Binding) → Sounds P (main_breaches q n o)
  main_sounds q h n k None = one h refl
  main_sounds q h n k (Some (bindings.Routine r locals)) =
      if_then (nat_le 1 locals) (one (position_sounds q h n k) refl) nothing
  main_sounds q h n k (Some _) = one h refl

  -- ---- programs

  record EntriesIn (es : List EntryTree) (r : List Lexeme) : Type 0 where
    directives : EachDirective (directives_of es)
    abbreviations : EachText P (abbreviations_of es)
    rest : Stand P r

  joined_texts : (xs ys : List TextTree) → EachText P xs → EachText P ys → EachText P (xs ++ ys)
  joined_texts [] ys h k = k
  joined_texts (x ∷ xs) ys h k = (h.0, joined_texts xs ys h.1 k)

  entries_in : {ts r : List Lexeme} {es : List EntryTree} → IsEntries ts es r → Stand P ts → EntriesIn es r
  entries_in entries_stop g = record { directives = tt; abbreviations = tt; rest = g }
  entries_in (entries_next (e_directive a) b) g =
      let l = directive_in P a g in
      let m = entries_in b l.rest in
      record { directives = (l.stands, m.directives); abbreviations = m.abbreviations; rest = m.rest }
  entries_in (entries_next {es = es} (e_abbreviate {xs = xs} a lt) b) g =
      let l = texts_in P a (after g) in
      let m = entries_in b (after l.rest) in
      record {
        directives = m.directives;
        abbreviations = joined_texts xs (abbreviations_of es) l.stands m.abbreviations;
        rest = m.rest;
      }

  pub breaches_stand : {ts : List Lexeme} {p : ProgramTree} → IsProgram ts p → Stand P ts
      → Sounds P (program_breaches p)
  unfolding program_breaches
  breaches_stand (program {p = q} {es = es} a) g =
      let l = entries_in a g in
      let ds = directives_of es in
      join (directives_sounds (table_of ds) first_table no_counts ds l.directives)
      (join (standing_sounds P (table_of ds) [] 0 (object_trees ds) (objects_among ds l.directives))
      (join (abbreviations_sounds [] (abbreviations_of es) l.abbreviations)
      (main_sounds q (first l.rest) (first_routine ds main_key) (routine_found ds main_key l.directives)
      (in_table (table_of ds) main_key))))

  -- ---- the first routine that is too heavy

  heavy_found : (weight : RoutineTree → ℕ) (ds : List DirectiveTree) → EachDirective ds
      → IfSome (first_heavy weight (λ (r : RoutineTree). r.name.position) (routine_trees ds)) P
  heavy_found weight [] h = tt
  heavy_found weight (global n v ∷ ds) h = heavy_found weight ds h.1
  heavy_found weight (constant n v ∷ ds) h = heavy_found weight ds h.1
  heavy_found weight (array a ∷ ds) h = heavy_found weight ds h.1
  heavy_found weight (attribute n ∷ ds) h = heavy_found weight ds h.1
  heavy_found weight (property n v ∷ ds) h = heavy_found weight ds h.1
  heavy_found weight (object o ∷ ds) h = heavy_found weight ds h.1
  heavy_found weight (routine r ∷ ds) h =
      either (nat_lt greatest_routine_weight (weight r)) (Some r.name.position)
      (first_heavy weight (λ (r : RoutineTree). r.name.position) (routine_trees ds)) h.0.name
      (heavy_found weight ds h.1)
    where
      either : (t : Bool) (a b : Option Position) → IfSome a P → IfSome b P → IfSome (cond t a b) P
      either true a b h k = h
      either false a b h k = k

  pub heavy_stands : {ts : List Lexeme} {p : ProgramTree} (weight : RoutineTree → ℕ) → IsProgram ts p → Stand P ts
      → IfSome (first_heavy weight (λ (r : RoutineTree). r.name.position) (routine_trees p.directives)) P
  heavy_stands weight (program {es = es} a) g = heavy_found weight (directives_of es) (entries_in a g).directives
