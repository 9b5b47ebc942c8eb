-- The code of a statement is no longer than its tree weighs.
use Rattle.std.proofs.Common.{◌+◌, List, [], ◌∷◌, map, arith}
use Rattle.std.proofs.lemmas.List.{length-map}
use Rattle.syntax_lexer.specs.declared.token.Position.{Position}
use Rattle.syntax_lexer.specs.Token.{Lexeme}
use Rattle.syntax_trees.specs.Tree.{NameTree, ExpressionTree}
use Rattle.syntax_statements.specs.PartTree.{FlagTree, PrintItemTree}
use Rattle.syntax_statements.specs.Tree.{StatementTree, StatementTrees, CaseTrees}
use Rattle.syntax_statements.specs.Tree as statements
use Rattle.syntax_statements.specs.Grammar.{IsS, s_empty, s_block, s_text, s_print, s_print_ret, s_new_line, s_if}
use Rattle.syntax_statements.specs.Grammar.{s_if_else, s_while, s_do, s_for, s_objectloop, s_switch, s_break}
use Rattle.syntax_statements.specs.Grammar.{s_continue, s_return, s_return_value, s_rtrue, s_rfalse, s_quit, s_read}
use Rattle.syntax_statements.specs.Grammar.{s_give, s_move, s_remove, s_effect, IsSs, ss_stop, ss_next, IsCases}
use Rattle.syntax_statements.specs.Grammar.{cases_none, cases_default, cases_next}
use Rattle.checker_values.specs.Names.{Seen}
use Rattle.checker_values.specs.Expressions.{resolve}
use Rattle.checker_statements.specs.Statements.{resolve_flag, resolve_statement, resolve_statements}
use Rattle.code_drafts.specs.Items.{nowhere, alone, alone_items, left_of}
use Rattle.code_drafts.specs.Items as items
use Rattle.code_items.specs.Statements.{action_count, action_items, actions_items}
use Rattle.story.proofs.Most.{most_append}
use Rattle.story.proofs.SizesOfExpressions.{fits_E, few_value, few_alone, few_two, FitsExpression}
use Rattle.story.proofs.SizesOfStatements.{PrintedFit, fits_Items, StatementFits, BodyFits, text_fits}
use Rattle.story.proofs.SizesOfStatements.{print_return_fits, if_fits, if_else_fits, while_fits, do_fits}
use Rattle.story.proofs.SizesOfStatements.{fits_Optional, for_fits}
use Rattle.story.proofs.SizesOfLoops.{loop_fits}
use Rattle.story.proofs.SizesOfCases.{CasesFit, no_case_fits, default_fits, case_fits, switch_fits}

-- in a routine that sees so much of the file
module _ (seen : Seen) where
  give_fits : {p : Position} {c : ExpressionTree} {xs : List FlagTree} → FitsExpression seen c
      → StatementFits seen (statements.give p c xs)
  give_fits {c = c} {xs = xs} f =
      let v = resolve seen c in
      record {
        within = λ e at. omega (
          arith,
          most_append (alone_items at v) (items.give (alone v) (map (resolve_flag seen) xs) ∷ []),
          length-map xs (resolve_flag seen),
          few_alone seen c f at,
        );
      }

  move_fits : {p : Position} {a b : ExpressionTree} → FitsExpression seen a → FitsExpression seen b
      → StatementFits seen (statements.move p a b)
  move_fits {a = a} {b = b} f g =
      let v = resolve seen a in
      let w = resolve seen b in
      record {
        within = λ e at. omega
            (arith, few_two seen a b f g at (items.move_object (left_of v w) (alone w) ∷ []));
      }

  remove_fits : {p : Position} {c : ExpressionTree} → FitsExpression seen c → StatementFits seen (statements.remove p c)
  remove_fits {c = c} f = record {
    within =
        λ e at. omega (
          arith,
          most_append (alone_items at (resolve seen c)) (items.remove_object (alone (resolve seen c)) ∷ []),
          few_alone seen c f at,
        );
  }

  break_fits : {p : Position} → StatementFits seen (statements.break_at p)
  break_fits = record { within = λ e at. omega arith }

  continue_fits : {p : Position} → StatementFits seen (statements.continue_at p)
  continue_fits = record { within = λ e at. omega arith }

  return_fits : {p : Position} {c : ExpressionTree} → FitsExpression seen c
      → StatementFits seen (statements.return_value p c)
  return_fits {c = c} f = record {
    within =
        λ e at. omega (
          arith,
          most_append (alone_items at (resolve seen c)) (items.return (alone (resolve seen c)) ∷ []),
          few_alone seen c f at,
        );
  }

  effect_fits : {p : Position} {c : ExpressionTree} → FitsExpression seen c → StatementFits seen (statements.effect p c)
  effect_fits {c = c} f = record { within = λ e at. omega (arith, few_value seen c f nowhere at) }

  -- statements of one word, or none
  empty_fits : StatementFits seen statements.empty
  empty_fits = record { within = λ e at. omega arith }

  new_line_fits : StatementFits seen statements.new_line
  new_line_fits = record { within = λ e at. omega arith }

  return_alone_fits : StatementFits seen statements.return_alone
  return_alone_fits = record { within = λ e at. omega arith }

  return_true_fits : StatementFits seen statements.return_true
  return_true_fits = record { within = λ e at. omega arith }

  return_false_fits : StatementFits seen statements.return_false
  return_false_fits = record { within = λ e at. omega arith }

  quit_fits : StatementFits seen statements.quit
  quit_fits = record { within = λ e at. omega arith }

  read_fits : {a b : NameTree} → StatementFits seen (statements.read_line a b)
  read_fits = record { within = λ e at. omega arith }

  print_fits : {is : List PrintItemTree} → PrintedFit seen is → StatementFits seen (statements.print is)
  print_fits a = record { within = λ e at. omega (arith, a.within at) }

  block_fits : {xs : StatementTrees} → BodyFits seen xs → StatementFits seen (statements.block xs)
  block_fits a = record { within = λ e at. omega (arith, a.within e at) }

  stop_fits : BodyFits seen statements.stop
  stop_fits = record { within = λ e at. omega arith }

  next_fits : {x : StatementTree} {xs : StatementTrees} → StatementFits seen x → BodyFits seen xs
      → BodyFits seen (statements.next x xs)
  next_fits {x} {xs} f g =
      let a = resolve_statement seen x in
      record {
        within = λ e at. omega (
          arith,
          most_append (action_items e at a) (actions_items e (at + action_count a) (resolve_statements seen xs)),
          f.within e at,
          g.within e (at + action_count a),
        );
      }

  mutual
    pub fits_S : {ts r : List Lexeme} {x : StatementTree} → IsS ts x r → StatementFits seen x
    fits_S s_empty = empty_fits
    fits_S (s_block a) = block_fits (fits_Ss a)
    fits_S s_text = text_fits seen
    fits_S (s_print a) = print_fits (fits_Items seen a)
    fits_S (s_print_ret a) = print_return_fits seen (fits_Items seen a)
    fits_S s_new_line = new_line_fits
    fits_S (s_if c a e) = if_fits seen (fits_E seen c) (fits_S a)
    fits_S (s_if_else c a b) = if_else_fits seen (fits_E seen c) (fits_S a) (fits_S b)
    fits_S (s_while c a) = while_fits seen (fits_E seen c) (fits_S a)
    fits_S (s_do a c) = do_fits seen (fits_S a) (fits_E seen c)
    fits_S (s_for a f b c g x) =
        for_fits seen (fits_Optional seen a) (fits_Optional seen b) (fits_Optional seen c) (fits_S x)
    fits_S (s_objectloop l x) = loop_fits seen _ l (fits_S x)
    fits_S (s_switch e a) = switch_fits seen (fits_E seen e) (fits_Cases a)
    fits_S s_break = break_fits
    fits_S s_continue = continue_fits
    fits_S s_return = return_alone_fits
    fits_S (s_return_value c) = return_fits (fits_E seen c)
    fits_S s_rtrue = return_true_fits
    fits_S s_rfalse = return_false_fits
    fits_S s_quit = quit_fits
    fits_S s_read = read_fits
    fits_S (s_give e xs) = give_fits (fits_E seen e)
    fits_S (s_move a b) = move_fits (fits_E seen a) (fits_E seen b)
    fits_S (s_remove e) = remove_fits (fits_E seen e)
    fits_S (s_effect c f) = effect_fits (fits_E seen c)

    pub fits_Ss : {ts r : List Lexeme} {xs : StatementTrees} → IsSs ts xs r → BodyFits seen xs
    fits_Ss ss_stop = stop_fits
    fits_Ss (ss_next a b) = next_fits (fits_S a) (fits_Ss b)

    fits_Cases : {ts r : List Lexeme} {cs : CaseTrees} → IsCases ts cs r → CasesFit seen cs
    fits_Cases cases_none = no_case_fits seen
    fits_Cases (cases_default a) = default_fits seen (fits_Ss a)
    fits_Cases (cases_next g a b) = case_fits seen g (fits_Ss a) (fits_Cases b)
