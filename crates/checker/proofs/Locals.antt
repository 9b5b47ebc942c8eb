-- What a routine sees.
use Rattle.std.proofs.Common.{◌≡◌, ℕ, suc, List, [], ◌∷◌, length, Option, Some, None, refl, sym, ap, subst, ◌∙◌}
use Rattle.std.specs.Prelude.{map, Result, IfOk}
use Rattle.std.specs.declared.alloc.AllocError.{AllocError}
use Rattle.std.proofs.Math.Path.{fun_ext}
use Rattle.syntax_trees.specs.declared.tree.Name.{Name}
use Rattle.syntax_trees.specs.Tree.{NameTree}
use Rattle.syntax_trees.specs.Views.{name_tree}
use Rattle.syntax_statements.specs.declared.tree.Statement.{Statement}
use Rattle.syntax_directives.specs.declared.tree.Routine.{Routine}
use Rattle.syntax_directives.specs.Views.{routine_tree}
use Rattle.meaning.specs.declared.checked.CheckedRoutine.{CheckedRoutine}
use Rattle.meaning.specs.Resolved.{Action, Actions, RoutineOf}
use Rattle.meaning.specs.Views.{actions_of, routine_of, title_of}
use Rattle.meaning.specs.Enclosure.{outside}
use Rattle.checker_values.specs.declared.binding.Binding.{Binding}
use Rattle.checker_values.specs.declared.noting.Tally.{Tally}
use Rattle.checker_values.specs.declared.table.Scope.{Scope}
use Rattle.checker_values.specs.Names.{Table, key_of, in_table, local_from, local_first, look_up, File, Seen, seen_from}
use Rattle.checker_values.specs.Noted.{noted}
use Rattle.checker_values.specs.Scope.{either, number_at, file_in, look_in, local_binding, seen_in}
use Rattle.checker_values.specs.Walk.{IsWalked}
use Rattle.checker_values.proofs.Walks.{before}
use Rattle.checker_statements.specs.Statements.{statements_breaches}
use Rattle.checker_statements.specs.StatementWalk.{AreActions}
use Rattle.checker_statements.proofs.StatementForms.{statements_walked}
use Rattle.checker.specs.Resolving.{IsRoutineIn, IsRoutineOf}
use Rattle.checker.specs.Programs.{locals_breaches, resolve_body, resolve_routine}
use Rattle.checker.specs.Checked.{title}

-- What a routine sees

sides : (o : Option ℕ) (b : Option Binding) → either (local_binding o) b ≡ local_first o b
sides None b = refl
sides (Some n) b = refl

abbrev sees : (List ℕ → Option Binding) → (ℕ → ℕ) → Seen
sees look number = record { look = look; number = number }

look_same : (scope : Scope) (table : Table) (ls : List NameTree) → scope.file.now.table.entries ≡ table
    → ((key : List ℕ) → in_table scope.locals.now.entries key ≡ local_binding (local_from 0 ls key))
    → (name : List ℕ) → look_in scope name ≡ look_up table ls name
unfolding look_in look_up
look_same scope table ls f h name =
    ap (λ (o : Option Binding). either o (in_table scope.file.now.table.entries (key_of name))) (h (key_of name))
    ∙ ap (λ (t : Table). either (local_binding (local_from 0 ls (key_of name))) (in_table t (key_of name))) f
    ∙ sides (local_from 0 ls (key_of name)) (in_table table (key_of name))

scope_looks : (scope : Scope) (table : Table) (ls : List NameTree) → scope.file.now.table.entries ≡ table
    → ((key : List ℕ) → in_table scope.locals.now.entries key ≡ local_binding (local_from 0 ls key))
    → look_in scope ≡ look_up table ls
scope_looks scope table ls f h = fun_ext (look_same scope table ls f h)

scope_sees : (scope : Scope) (file : File) (ls : List NameTree) → file_in scope.file.now ≡ file
    → ((key : List ℕ) → in_table scope.locals.now.entries key ≡ local_binding (local_from 0 ls key))
    → seen_in scope ≡ seen_from file ls
scope_sees scope file ls f h =
    ap (λ (look : List ℕ → Option Binding). sees look (number_at scope.file.now.numbers))
    (scope_looks scope scope.file.now.table.entries ls refl h)
    ∙ ap (λ (x : File). seen_from x ls) f

names_length : (names : List Name) → length (map name_tree names) ≡ length names
names_length [] = refl
names_length (x ∷ xs) = ap suc (names_length xs)

abbrev made : ℕ → Actions → RoutineOf
made n b = record { locals = n; body = b }

-- a routine of a body that was walked
pub routine_walked : (seen : Seen) (r : Routine) (given : List Statement) (n : ℕ)
    (found : List Action) (m o : Tally)
    → given ≡ r.body.items → n ≡ length r.locals.items → AreActions seen outside given m o found
    → IsWalked {A = RoutineOf × (NameTree × ℕ)} (statements_breaches seen.look outside (routine_tree r).body) m o
    (made n (actions_of found), (name_tree r.name, r.weight))
    (resolve_body seen (routine_tree r), title (routine_tree r))
routine_walked seen r given n found m o same count w =
    let body = statements_walked seen outside r.body.items found
    (subst (λ (ss : List Statement). AreActions seen outside ss m o found) same w) in
    record {
      value =
          ap (λ (k : ℕ). (made k (actions_of found), (name_tree r.name, r.weight)))
          (count ∙ sym (names_length r.locals.items))
          ∙ ap (λ (b : Actions). (made (length (map name_tree r.locals.items)) b, (name_tree r.name, r.weight)))
          body.value;
      breaches = body.breaches;
    }

-- a routine in the scope of its own locals
pub routine_scoped : (found : Result CheckedRoutine AllocError) (scope : Scope) (file : File) (r : Routine)
    (m n o : Tally)
    → file_in scope.file.now ≡ file
    → ((key : List ℕ) → in_table scope.locals.now.entries key
    ≡ local_binding (local_from 0 (map name_tree r.locals.items) key))
    → n ≡ noted m (locals_breaches [] (map name_tree r.locals.items))
    → IfOk found (λ c. IsRoutineIn (seen_in scope) (routine_tree r) n o c)
    → IfOk found (λ c. IsRoutineOf file (routine_tree r) m o c)
routine_scoped found scope file r m n o f h b w =
    before (λ (c : CheckedRoutine). (routine_of c, title_of c)) found
    (locals_breaches [] (map name_tree r.locals.items))
    (statements_breaches (look_up file.table (map name_tree r.locals.items)) outside (routine_tree r).body) m n o
    (resolve_routine file (routine_tree r), title (routine_tree r)) b
    (subst (λ (seen : Seen). IfOk found (λ c. IsRoutineIn seen (routine_tree r) n o c))
    (scope_sees scope file (map name_tree r.locals.items) f h) w)
