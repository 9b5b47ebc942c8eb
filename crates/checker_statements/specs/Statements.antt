-- The rules that a statement can break, and what it resolves to.
use Rattle.std.specs.Prelude.{ℕ, nat_lt, Bool, if◌then◌else◌, List, [], ◌∷◌, ◌++◌, map, Option, Some, None}
use Rattle.std.specs.List.{flat_map}
use Rattle.std.specs.Option.{option_map}
use Rattle.syntax_lexer.specs.FaultNumbers.{break_outside, expression_too_large, unknown_name, wrong_kind}
use Rattle.syntax_lexer.specs.declared.token.Position.{Position}
use Rattle.syntax_trees.specs.Tree.{NameTree, ExpressionTree}
use Rattle.syntax_statements.specs.PartTree as parts
use Rattle.syntax_statements.specs.PartTree.{LiteralTree, RangeTree, FlagTree, PrintItemTree}
use Rattle.syntax_statements.specs.Tree as trees
use Rattle.syntax_statements.specs.Tree.{StatementTree, StatementTrees, CaseTrees}
use Rattle.meaning.specs.declared.enclosure.Enclosure.{Enclosure}
use Rattle.meaning.specs.Enclosure.{in_loop, in_switch}
use Rattle.meaning.specs.declared.resolved.Variable.{Variable}
use Rattle.meaning.specs.Limits.{operands, most_temporaries}
use Rattle.meaning.specs.Resolved.{RangeOf, one, between, Printed, text, character_of, number_of, Action, Actions}
use Rattle.meaning.specs.Resolved.{CasesOf, empty, block, text_alone, print, print_return, new_line, if_then, if_else}
use Rattle.meaning.specs.Resolved.{while_do, do_until, for_loop, switch_on, break_out, continue_on, read_line}
use Rattle.meaning.specs.Resolved.{return_value, quit, effect, stop, next, no_case, default_case, case, number, name_of}
use Rattle.meaning.specs.Resolved.{give_to, move_to, remove_from, each_object, each_in, each_where}
use Rattle.checker_values.specs.declared.binding.Binding.{Binding}
use Rattle.checker_values.specs.declared.binding.Binding.TheVariants as bindings
use Rattle.checker_values.specs.declared.breach.Breach.{Breach}
use Rattle.checker_values.specs.Breaches.{at}
use Rattle.checker_values.specs.Keys.{key_of_word, value_of_known, or_zero}
use Rattle.checker_values.specs.Names.{constant_known, Seen}
use Rattle.checker_values.specs.Literals.{constant_breaches}
use Rattle.checker_values.specs.Temporaries.{need}
use Rattle.checker_values.specs.Expressions.{breaches, attribute_breaches, array_of_binding, attribute_of_binding}
use Rattle.checker_values.specs.Expressions.{variable_of_binding, resolve}
use Rattle.checker_statements.specs.Buffers.{read_breaches}

-- `break` may stand in a loop or a `switch`, `continue` in a loop; in the body of a routine neither may

-- what the parts of a `for` need, as operands of one form: those that are there
abbrev pub part_needs : Option ExpressionTree → List ℕ
part_needs None = []
part_needs (Some e) = need e ∷ []

abbrev pub heading_need : Option ExpressionTree → Option ExpressionTree → Option ExpressionTree → ℕ
heading_need a b c = operands 0 (part_needs a ++ (part_needs b ++ part_needs c))

-- what the operands of a `move` need, as those of one form
abbrev pub move_need : ExpressionTree → ExpressionTree → ℕ
move_need a b = operands 0 (need a ∷ need b ∷ [])

-- what begins at p needs so many temporaries: E29 where they are more than 48
abbrev pub room_breaches : Position → ℕ → List Breach
room_breaches p n = if nat_lt most_temporaries n then at p expression_too_large else []

-- the variable of an `objectloop`: E20 where it is unknown, E23 where it is no variable
abbrev pub loop_breaches : Position → Option Binding → List Breach
loop_breaches p None = at p unknown_name
loop_breaches p (Some (bindings.Global g)) = []
loop_breaches p (Some (bindings.Local l)) = []
loop_breaches p (Some _) = at p wrong_kind

-- `break` or `continue` where it may not stand
abbrev pub outside_breaches : Bool → Position → List Breach
outside_breaches stands p = if stands then [] else at p break_outside

-- `look` tells what a name stands for
module _ (look : List ℕ → Option Binding) where
  -- an expression of a statement or an item that begins at p: E29 where it needs more than 48 temporaries
  abbrev pub whole_breaches : Position → ExpressionTree → List Breach
  whole_breaches p e = room_breaches p (need e) ++ breaches look e

  -- the parts of a `for` that begins at p
  abbrev pub part_breaches : Option ExpressionTree → List Breach
  part_breaches None = []
  part_breaches (Some e) = breaches look e

  abbrev pub heading_breaches : Position → Option ExpressionTree → Option ExpressionTree → Option ExpressionTree
      → List Breach
  heading_breaches p a b c = room_breaches p (heading_need a b c)
      ++ (part_breaches a ++ (part_breaches b ++ part_breaches c))

  -- a value of a case: a name in it is a constant, and a local hides one
  abbrev pub known_breaches : LiteralTree → List Breach
  known_breaches (parts.number_value n) = []
  known_breaches (parts.word_value s) = []
  known_breaches (parts.named_value n) = constant_breaches n.position (look n.text)

  abbrev pub high_breaches : Option LiteralTree → List Breach
  high_breaches None = []
  high_breaches (Some k) = known_breaches k

  abbrev pub range_breaches : RangeTree → List Breach
  range_breaches g = known_breaches g.low ++ high_breaches g.high

  abbrev pub item_breaches : PrintItemTree → List Breach
  item_breaches (parts.text_item s) = []
  item_breaches (parts.character_item p e) = whole_breaches p e
  item_breaches (parts.object_item p e) = whole_breaches p e
  item_breaches (parts.number_item p e) = whole_breaches p e

  -- an attribute of a `give`
  abbrev pub flag_breaches : FlagTree → List Breach
  flag_breaches x = attribute_breaches x.1.position (look x.1.text)

  -- the operands of a `move` that begins at p
  abbrev pub move_breaches : Position → ExpressionTree → ExpressionTree → List Breach
  move_breaches p a b = room_breaches p (move_need a b) ++ (breaches look a ++ breaches look b)

  -- of a statement that stands in what is around it
  abbrev mutual
    pub statement_breaches : Enclosure → StatementTree → List Breach
    statement_breaches around (trees.block xs) = statements_breaches around xs
    statement_breaches around (trees.print is) = flat_map item_breaches is
    statement_breaches around (trees.print_return is) = flat_map item_breaches is
    statement_breaches around (trees.if_then p c x) = whole_breaches p c ++ statement_breaches around x
    statement_breaches around (trees.if_else p c x y) = whole_breaches p c
        ++ (statement_breaches around x ++ statement_breaches around y)
    statement_breaches around (trees.while_do p c x) = whole_breaches p c ++ statement_breaches in_loop x
    statement_breaches around (trees.do_until p x c) = statement_breaches in_loop x ++ whole_breaches p c
    statement_breaches around (trees.for_loop p a b c x) = heading_breaches p a b c ++ statement_breaches in_loop x
    statement_breaches around (trees.switch_on p e cs) = whole_breaches p e ++ cases_breaches (in_switch around) cs
    statement_breaches around (trees.break_at p) = outside_breaches around.can_break p
    statement_breaches around (trees.continue_at p) = outside_breaches around.can_continue p
    statement_breaches around (trees.return_value p e) = whole_breaches p e
    statement_breaches around (trees.read_line n m) = read_breaches look n m
    statement_breaches around (trees.give p e xs) = whole_breaches p e ++ flat_map flag_breaches xs
    statement_breaches around (trees.move p a b) = move_breaches p a b
    statement_breaches around (trees.remove p e) = whole_breaches p e
    statement_breaches around (trees.each n x) = loop_breaches n.position (look n.text) ++ statement_breaches in_loop x
    statement_breaches around (trees.each_in p n e x) = loop_breaches n.position (look n.text)
        ++ (whole_breaches p e ++ statement_breaches in_loop x)
    statement_breaches around (trees.each_where p n c x) = loop_breaches n.position (look n.text)
        ++ (whole_breaches p c ++ statement_breaches in_loop x)
    statement_breaches around (trees.effect p e) = whole_breaches p e
    statement_breaches around _ = []

    pub statements_breaches : Enclosure → StatementTrees → List Breach
    statements_breaches around trees.stop = []
    statements_breaches around (trees.next x xs) = statement_breaches around x ++ statements_breaches around xs

    pub cases_breaches : Enclosure → CaseTrees → List Breach
    cases_breaches around trees.no_case = []
    cases_breaches around (trees.default_case xs) = statements_breaches around xs
    cases_breaches around (trees.case gs xs cs) = flat_map range_breaches gs
        ++ (statements_breaches around xs ++ cases_breaches around cs)

-- Resolving, in a routine that sees so much of the file
module _ (seen : Seen) where
  abbrev pub known_number : LiteralTree → ℕ
  known_number (parts.number_value n) = n
  known_number (parts.word_value s) = seen.number (key_of_word s)
  known_number (parts.named_value n) = value_of_known seen.number (or_zero (constant_known (seen.look n.text)))

  abbrev pub range_to : ℕ → Option LiteralTree → RangeOf
  range_to low None = one low
  range_to low (Some k) = between low (known_number k)

  abbrev pub resolve_range : RangeTree → RangeOf
  resolve_range g = range_to (known_number g.low) g.high

  abbrev pub resolve_item : PrintItemTree → Printed
  resolve_item (parts.text_item s) = text s
  resolve_item (parts.character_item p e) = character_of (resolve seen e)
  resolve_item (parts.object_item p e) = name_of (resolve seen e)
  resolve_item (parts.number_item p e) = number_of (resolve seen e)

  -- an attribute of a `give`, and whether it is set
  abbrev pub resolve_flag : FlagTree → Bool × ℕ
  resolve_flag x = (x.0, attribute_of_binding (seen.look x.1.text))

  abbrev pub loop_variable : NameTree → Variable
  loop_variable n = variable_of_binding (seen.look n.text)

  abbrev mutual
    pub resolve_statement : StatementTree → Action
    resolve_statement trees.empty = empty
    resolve_statement (trees.block xs) = block (resolve_statements xs)
    resolve_statement (trees.text_alone s) = text_alone s
    resolve_statement (trees.print is) = print (map resolve_item is)
    resolve_statement (trees.print_return is) = print_return (map resolve_item is)
    resolve_statement trees.new_line = new_line
    resolve_statement (trees.if_then p c x) = if_then (resolve seen c) (resolve_statement x)
    resolve_statement (trees.if_else p c x y) = if_else (resolve seen c) (resolve_statement x) (resolve_statement y)
    resolve_statement (trees.while_do p c x) = while_do (resolve seen c) (resolve_statement x)
    resolve_statement (trees.do_until p x c) = do_until (resolve_statement x) (resolve seen c)
    resolve_statement (trees.for_loop p a b c x) = for_loop (option_map (resolve seen) a) (option_map (resolve seen) b)
        (option_map (resolve seen) c) (resolve_statement x)
    resolve_statement (trees.switch_on p e cs) = switch_on (resolve seen e) (resolve_cases cs)
    resolve_statement (trees.break_at p) = break_out
    resolve_statement (trees.continue_at p) = continue_on
    resolve_statement trees.return_alone = return_value (number 1)
    resolve_statement (trees.return_value p e) = return_value (resolve seen e)
    resolve_statement trees.return_true = return_value (number 1)
    resolve_statement trees.return_false = return_value (number 0)
    resolve_statement trees.quit = quit
    resolve_statement (trees.read_line n m) = read_line (array_of_binding (seen.look n.text))
        (array_of_binding (seen.look m.text))
    resolve_statement (trees.give p e xs) = give_to (resolve seen e) (map resolve_flag xs)
    resolve_statement (trees.move p a b) = move_to (resolve seen a) (resolve seen b)
    resolve_statement (trees.remove p e) = remove_from (resolve seen e)
    resolve_statement (trees.each n x) = each_object (loop_variable n) (resolve_statement x)
    resolve_statement (trees.each_in p n e x) = each_in (loop_variable n) (resolve seen e) (resolve_statement x)
    resolve_statement (trees.each_where p n c x) = each_where (loop_variable n) (resolve seen c) (resolve_statement x)
    resolve_statement (trees.effect p e) = effect (resolve seen e)

    pub resolve_statements : StatementTrees → Actions
    resolve_statements trees.stop = stop
    resolve_statements (trees.next x xs) = next (resolve_statement x) (resolve_statements xs)

    pub resolve_cases : CaseTrees → CasesOf
    resolve_cases trees.no_case = no_case
    resolve_cases (trees.default_case xs) = default_case (resolve_statements xs)
    resolve_cases (trees.case gs xs cs) = case (map resolve_range gs) (resolve_statements xs) (resolve_cases cs)
