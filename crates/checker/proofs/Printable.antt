-- Texts stay as they are where names are resolved.
use Rattle.std.proofs.Common.{ℕ, List, [], ◌∷◌}
use Rattle.std.specs.Prelude.{map, Option, Some, None}
use Rattle.std.specs.List.{All}
use Rattle.std.proofs.lemmas.List.Elements.{All-nil, All-cons, All-head, All-tail}
use Rattle.syntax_lexer.specs.Printable.{IsPrintable}
use Rattle.syntax_statements.specs.PartTree.{PrintItemTree, text_item, character_item, object_item, number_item}
use Rattle.syntax_statements.specs.Tree.{StatementTree, give, move, remove, each, each_in, each_where, StatementTrees}
use Rattle.syntax_statements.specs.Tree.{CaseTrees, empty, block, text_alone, print, print_return, new_line, if_then}
use Rattle.syntax_statements.specs.Tree.{if_else, while_do, do_until, for_loop, switch_on, break_at, continue_at}
use Rattle.syntax_statements.specs.Tree.{return_alone, return_value, return_true, return_false, quit, read_line, effect}
use Rattle.syntax_statements.specs.Tree.{stop, next, no_case, default_case, case}
use Rattle.syntax_directives.specs.Tree.{TextTree, DirectiveTree, global, constant, array, attribute, property, object}
use Rattle.syntax_directives.specs.Tree.{routine}
use Rattle.syntax_directives.specs.Printable as source
use Rattle.meaning.specs.Objects.{ObjectOf}
use Rattle.meaning.specs.Printable.{IsPrintableItem, IsPrintableAction, ArePrintableActions, ArePrintableCases}
use Rattle.meaning.specs.Printable.{IsPrintableRoutine}
use Rattle.checker_values.specs.Names.{File, Seen, seen_from}
use Rattle.checker_statements.specs.Statements.{resolve_item, resolve_statement, resolve_statements, resolve_cases}
use Rattle.checker_statements.specs.Objects.{short_name, object_in, with_parents, parents_of, object_trees, objects_in}
use Rattle.checker.specs.Programs.{resolve_routine, routines_of, resolve_with, file_of, resolve_program}
use Rattle.checker.specs.Laws.{PrintablePrograms}
use Rattle.checker.proofs.AbbreviationLimits.{texts_print}

module _ (seen : Seen) where
  item_prints : (i : PrintItemTree) → source.IsPrintableItem i → IsPrintableItem (resolve_item seen i)
  item_prints (text_item bytes) h = h
  item_prints (character_item p e) h = tt
  item_prints (object_item p e) h = tt
  item_prints (number_item p e) h = tt

  items_print : (is : List PrintItemTree) → All source.IsPrintableItem is
      → All IsPrintableItem (map (resolve_item seen) is)
  items_print [] h = All-nil IsPrintableItem
  items_print (i ∷ is) h =
      All-cons IsPrintableItem (resolve_item seen i) (map (resolve_item seen) is)
      (item_prints i (All-head source.IsPrintableItem i is h))
      (items_print is (All-tail source.IsPrintableItem i is h))

  mutual
    statement_prints : (x : StatementTree) → source.IsPrintableStatement x
        → IsPrintableAction (resolve_statement seen x)
    statement_prints empty h = tt
    statement_prints (block xs) h = statements_print xs h
    statement_prints (text_alone bytes) h = h
    statement_prints (print is) h = items_print is h
    statement_prints (print_return is) h = items_print is h
    statement_prints new_line h = tt
    statement_prints (if_then p c x) h = statement_prints x h
    statement_prints (if_else p c x y) h = (statement_prints x h.0, statement_prints y h.1)
    statement_prints (while_do p c x) h = statement_prints x h
    statement_prints (do_until p x c) h = statement_prints x h
    statement_prints (for_loop p a b c x) h = statement_prints x h
    statement_prints (switch_on p e cs) h = cases_print cs h
    statement_prints (break_at p) h = tt
    statement_prints (continue_at p) h = tt
    statement_prints return_alone h = tt
    statement_prints (return_value p e) h = tt
    statement_prints return_true h = tt
    statement_prints return_false h = tt
    statement_prints quit h = tt
    statement_prints (read_line n m) h = tt
    statement_prints (give p e xs) h = tt
    statement_prints (move p a b) h = tt
    statement_prints (remove p e) h = tt
    statement_prints (each n x) h = statement_prints x h
    statement_prints (each_in p n e x) h = statement_prints x h
    statement_prints (each_where p n e x) h = statement_prints x h
    statement_prints (effect p e) h = tt

    statements_print : (xs : StatementTrees) → source.ArePrintableStatements xs
        → ArePrintableActions (resolve_statements seen xs)
    statements_print stop h = tt
    statements_print (next x xs) h = (statement_prints x h.0, statements_print xs h.1)

    cases_print : (cs : CaseTrees) → source.ArePrintableCases cs → ArePrintableCases (resolve_cases seen cs)
    cases_print no_case h = tt
    cases_print (default_case xs) h = statements_print xs h
    cases_print (case gs xs cs) h = (statements_print xs h.0, cases_print cs h.1)

routines_print : (file : File) (ds : List DirectiveTree) → All source.IsPrintableDirective ds
    → All IsPrintableRoutine (routines_of file ds)
routines_print file [] h = All-nil IsPrintableRoutine
routines_print file (global n v ∷ ds) h = routines_print file ds
    (All-tail source.IsPrintableDirective (global n v) ds h)
routines_print file (constant n v ∷ ds) h = routines_print file ds
    (All-tail source.IsPrintableDirective (constant n v) ds h)
routines_print file (attribute n ∷ ds) h = routines_print file ds
    (All-tail source.IsPrintableDirective (attribute n) ds h)
routines_print file (property n v ∷ ds) h = routines_print file ds
    (All-tail source.IsPrintableDirective (property n v) ds h)
routines_print file (object o ∷ ds) h = routines_print file ds
    (All-tail source.IsPrintableDirective (object o) ds h)
routines_print file (array a ∷ ds) h = routines_print file ds
    (All-tail source.IsPrintableDirective (array a) ds h)
routines_print file (routine r ∷ ds) h =
    All-cons IsPrintableRoutine (resolve_routine file r) (routines_of file ds)
    (statements_print (seen_from file r.locals) r.body (All-head source.IsPrintableDirective (routine r) ds h))
    (routines_print file ds (All-tail source.IsPrintableDirective (routine r) ds h))

-- the names of objects

abbrev NamePrints : ObjectOf → Type 0
NamePrints o = All IsPrintable o.name

short_prints : (s : Option TextTree) → source.IsPrintableName s → All IsPrintable (short_name s)
short_prints None h = All-nil IsPrintable
short_prints (Some s) h = h

names_print : (file : File) (ds : List DirectiveTree) → All source.IsPrintableDirective ds
    → All NamePrints (objects_in file ds)
names_print file [] h = All-nil NamePrints
names_print file (global n v ∷ ds) h = names_print file ds (All-tail source.IsPrintableDirective (global n v) ds h)
names_print file (constant n v ∷ ds) h = names_print file ds (All-tail source.IsPrintableDirective (constant n v) ds h)
names_print file (array a ∷ ds) h = names_print file ds (All-tail source.IsPrintableDirective (array a) ds h)
names_print file (attribute n ∷ ds) h = names_print file ds (All-tail source.IsPrintableDirective (attribute n) ds h)
names_print file (property n v ∷ ds) h = names_print file ds (All-tail source.IsPrintableDirective (property n v) ds h)
names_print file (routine r ∷ ds) h = names_print file ds (All-tail source.IsPrintableDirective (routine r) ds h)
names_print file (object o ∷ ds) h =
    All-cons NamePrints (object_in file o) (objects_in file ds)
    (short_prints o.short (All-head source.IsPrintableDirective (object o) ds h))
    (names_print file ds (All-tail source.IsPrintableDirective (object o) ds h))

placed_print : (ps : List ℕ) (os : List ObjectOf) → All NamePrints os → All NamePrints (with_parents ps os)
placed_print ps [] h = All-nil NamePrints
placed_print [] (o ∷ os) h =
    All-cons NamePrints (record o { parent = 0 }) (with_parents [] os) (All-head NamePrints o os h)
    (placed_print [] os (All-tail NamePrints o os h))
placed_print (p ∷ ps) (o ∷ os) h =
    All-cons NamePrints (record o { parent = p }) (with_parents ps os) (All-head NamePrints o os h)
    (placed_print ps os (All-tail NamePrints o os h))

pub printable_programs : PrintablePrograms
unfolding resolve_program resolve_with
printable_programs p h = (
  routines_print (file_of p) p.directives h.0,
  placed_print (parents_of (file_of p).table (object_trees p.directives)) (objects_in (file_of p) p.directives)
      (names_print (file_of p) p.directives h.0),
  texts_print p.abbreviations h.1,
)
