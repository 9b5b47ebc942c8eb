-- No token stands deeper than the tokens before it lead: a bound of how deep is given by their number.
use Rattle.std.proofs.Common.{ℕ, ◌≤◌, ◌*◌, ◌+◌, List, length, Option, arith}
use Rattle.syntax_lexer.specs.Token.{Lexeme}
use Rattle.syntax_trees.specs.Tree.{ExpressionTree}
use Rattle.syntax_expressions.specs.Nesting.{DeepE, deep_e_left, deep_e_first, deep_e_right, DeepE1, deep_e1_first}
use Rattle.syntax_expressions.specs.Nesting.{deep_e1_next, DeepN1, deep_n1_plain, deep_n1_not, deep_n1_in, DeepE2}
use Rattle.syntax_expressions.specs.Nesting.{deep_e2_left, deep_e2_compare, deep_e2_equal, deep_e2_contained}
use Rattle.syntax_expressions.specs.Nesting.{DeepChoice}
use Rattle.syntax_expressions.specs.Nesting.{deep_choice_first, deep_choice_next, DeepE3, deep_e3_first, deep_e3_next}
use Rattle.syntax_expressions.specs.Nesting.{DeepE4, deep_e4_first, deep_e4_next, DeepN4, deep_n4_plain}
use Rattle.syntax_expressions.specs.Nesting.{deep_n4_complement, deep_n4_in, DeepE5, deep_e5_plain, deep_e5_index}
use Rattle.syntax_expressions.specs.Nesting.{deep_e5_entry, DeepU, deep_u_plain, deep_u_minus, deep_u_minus_in}
use Rattle.syntax_expressions.specs.Nesting.{deep_u_before, deep_u_before_in, DeepP, deep_p_call, deep_p_arguments}
use Rattle.syntax_expressions.specs.Nesting.{deep_p_relative, deep_p_relative_in, deep_p_parenthesis, deep_p_in}
use Rattle.syntax_expressions.specs.Nesting.{DeepArguments, deep_arguments_first, deep_arguments_next}
use Rattle.syntax_expressions.proofs.Short.{short_E, short_E1, short_E3, short_E4, short_P}
use Rattle.syntax_statements.specs.PartGrammar.{IsOptional, optional_none, optional_some}
use Rattle.syntax_statements.specs.PartNesting.{DeepItem, deep_item_parenthesis, deep_item_character}
use Rattle.syntax_statements.specs.PartNesting.{deep_item_object_parenthesis, deep_item_object, deep_item_number}
use Rattle.syntax_statements.specs.PartNesting.{DeepItems, deep_items_first, deep_items_next, DeepHeading}
use Rattle.syntax_statements.specs.PartNesting.{deep_heading_before, deep_heading_test, deep_heading_after}
use Rattle.syntax_statements.specs.Nesting.{DeepS, deep_s_brace, deep_s_block, deep_s_print, deep_s_print_ret}
use Rattle.syntax_statements.specs.Nesting.{deep_s_if, deep_s_if_condition, deep_s_if_then, deep_s_if_else}
use Rattle.syntax_statements.specs.Nesting.{deep_s_while, deep_s_while_condition, deep_s_while_do, deep_s_do_begins}
use Rattle.syntax_statements.specs.Nesting.{deep_s_do, deep_s_until, deep_s_until_condition, deep_s_for}
use Rattle.syntax_statements.specs.Nesting.{deep_s_for_parts, deep_s_for_body, deep_s_objectloop}
use Rattle.syntax_statements.specs.Nesting.{deep_s_objectloop_head, deep_s_objectloop_body, deep_s_switch}
use Rattle.syntax_statements.specs.Nesting.{deep_s_switch_value, deep_s_switch_brace, deep_s_switch_cases}
use Rattle.syntax_statements.specs.Nesting.{deep_s_return, deep_s_give, deep_s_move, deep_s_move_to, deep_s_remove}
use Rattle.syntax_statements.specs.Nesting.{deep_s_effect, DeepInside, deep_inside_begins, deep_inside_first}
use Rattle.syntax_statements.specs.Nesting.{deep_inside_next, DeepCases, deep_cases_first, deep_cases_next}
use Rattle.syntax_statements.specs.Nesting.{deep_cases_default, DeepInCase, deep_in_case_begins, deep_in_case_first}
use Rattle.syntax_statements.specs.Nesting.{deep_in_case_next, DeepSs, deep_ss_first, deep_ss_next}
use Rattle.syntax_statements.proofs.Follow.{short_Item, short_S, short_Ss}
use Rattle.syntax_statements.proofs.KnownValues.{short_Ranges}
use Rattle.syntax_statements.proofs.LoopHeads.{short_Loop}
use Rattle.syntax_directives.specs.Nesting.{DeepDirective, deep_d_routine}
use Rattle.syntax_directives.proofs.Lists.{short_Names}

mutual
  pub shallow_E : {n : ℕ} {ts u : List Lexeme} → DeepE n ts u → n ≤ length ts
  shallow_E (deep_e_left x) = shallow_E1 x
  shallow_E (deep_e_first a b) = omega (arith, short_E1 a)
  shallow_E (deep_e_right a x) = omega (arith, short_E1 a, shallow_E x)

  pub shallow_E1 : {n : ℕ} {ts u : List Lexeme} → DeepE1 n ts u → n ≤ length ts
  shallow_E1 (deep_e1_first x) = shallow_N1 x
  shallow_E1 (deep_e1_next a o x) = omega (arith, short_E1 a, shallow_N1 x)

  pub shallow_N1 : {n : ℕ} {ts u : List Lexeme} → DeepN1 n ts u → n ≤ length ts
  shallow_N1 (deep_n1_plain x) = shallow_E2 x
  shallow_N1 deep_n1_not = omega arith
  shallow_N1 (deep_n1_in x) = omega (arith, shallow_N1 x)

  pub shallow_E2 : {n : ℕ} {ts u : List Lexeme} → DeepE2 n ts u → n ≤ length ts
  shallow_E2 (deep_e2_left x) = shallow_E3 x
  shallow_E2 (deep_e2_compare a o x) = omega (arith, short_E3 a, shallow_E3 x)
  shallow_E2 (deep_e2_equal a o x) = omega (arith, short_E3 a, shallow_Choice x)
  shallow_E2 (deep_e2_contained a o x) = omega (arith, short_E3 a, shallow_E3 x)

  pub shallow_Choice : {n : ℕ} {ts u : List Lexeme} → DeepChoice n ts u → n ≤ length ts
  shallow_Choice (deep_choice_first x) = shallow_E3 x
  shallow_Choice (deep_choice_next a x) = omega (arith, short_E3 a, shallow_Choice x)

  pub shallow_E3 : {n : ℕ} {ts u : List Lexeme} → DeepE3 n ts u → n ≤ length ts
  shallow_E3 (deep_e3_first x) = shallow_E4 x
  shallow_E3 (deep_e3_next a o x) = omega (arith, short_E3 a, shallow_E4 x)

  pub shallow_E4 : {n : ℕ} {ts u : List Lexeme} → DeepE4 n ts u → n ≤ length ts
  shallow_E4 (deep_e4_first x) = shallow_N4 x
  shallow_E4 (deep_e4_next a o x) = omega (arith, short_E4 a, shallow_N4 x)

  pub shallow_N4 : {n : ℕ} {ts u : List Lexeme} → DeepN4 n ts u → n ≤ length ts
  shallow_N4 (deep_n4_plain x) = shallow_E5 x
  shallow_N4 deep_n4_complement = omega arith
  shallow_N4 (deep_n4_in x) = omega (arith, shallow_N4 x)

  pub shallow_E5 : {n : ℕ} {ts u : List Lexeme} → DeepE5 n ts u → n ≤ length ts
  shallow_E5 (deep_e5_plain x) = shallow_U x
  shallow_E5 (deep_e5_index o x) = omega (arith, shallow_U x)
  shallow_E5 (deep_e5_entry a x) = omega (arith, short_P a, shallow_U x)

  pub shallow_U : {n : ℕ} {ts u : List Lexeme} → DeepU n ts u → n ≤ length ts
  shallow_U (deep_u_plain x) = shallow_P x
  shallow_U deep_u_minus = omega arith
  shallow_U (deep_u_minus_in x) = omega (arith, shallow_U x)
  shallow_U (deep_u_before o) = omega arith
  shallow_U (deep_u_before_in o x) = omega (arith, shallow_P x)

  pub shallow_P : {n : ℕ} {ts u : List Lexeme} → DeepP n ts u → n ≤ length ts
  shallow_P deep_p_call = omega arith
  shallow_P (deep_p_arguments x) = omega (arith, shallow_Arguments x)
  shallow_P (deep_p_relative o) = omega arith
  shallow_P (deep_p_relative_in o x) = omega (arith, shallow_E x)
  shallow_P deep_p_parenthesis = omega arith
  shallow_P (deep_p_in x) = omega (arith, shallow_E x)

  pub shallow_Arguments : {n : ℕ} {ts u : List Lexeme} → DeepArguments n ts u → n ≤ length ts
  shallow_Arguments (deep_arguments_first x) = shallow_E x
  shallow_Arguments (deep_arguments_next a x) = omega (arith, short_E a, shallow_Arguments x)

-- ---- statements: a brace opens a nesting, and so does the statement after it

shallow_Item : {n : ℕ} {ts u : List Lexeme} → DeepItem n ts u → n ≤ length ts
shallow_Item deep_item_parenthesis = omega arith
shallow_Item (deep_item_character x) = omega (arith, shallow_E x)
shallow_Item deep_item_object_parenthesis = omega arith
shallow_Item (deep_item_object x) = omega (arith, shallow_E x)
shallow_Item (deep_item_number x) = shallow_E x

shallow_Items : {n : ℕ} {ts u : List Lexeme} → DeepItems n ts u → n ≤ length ts
shallow_Items (deep_items_first x) = shallow_Item x
shallow_Items (deep_items_next a x) = omega (arith, short_Item a, shallow_Items x)

short_Optional : {ts r : List Lexeme} {e : Option ExpressionTree} → IsOptional ts e r → length r ≤ length ts
short_Optional optional_none = omega arith
short_Optional (optional_some a) = omega (arith, short_E a)

shallow_Heading : {n : ℕ} {ts u : List Lexeme} → DeepHeading n ts u → n ≤ length ts
shallow_Heading (deep_heading_before x) = shallow_E x
shallow_Heading (deep_heading_test a o x) = omega (arith, short_Optional a, shallow_E x)
shallow_Heading (deep_heading_after a o b x) = omega (arith, short_Optional a, short_Optional b, shallow_E x)

mutual
  pub shallow_S : {n : ℕ} {ts u : List Lexeme} → DeepS n ts u → n ≤ 2 * length ts
  shallow_S deep_s_brace = omega arith
  shallow_S (deep_s_block x) = omega (arith, shallow_Inside x)
  shallow_S (deep_s_print x) = omega (arith, shallow_Items x)
  shallow_S (deep_s_print_ret x) = omega (arith, shallow_Items x)
  shallow_S deep_s_if = omega arith
  shallow_S (deep_s_if_condition x) = omega (arith, shallow_E x)
  shallow_S (deep_s_if_then a x) = omega (arith, short_E a, shallow_S x)
  shallow_S (deep_s_if_else a b x) = omega (arith, short_E a, short_S b, shallow_S x)
  shallow_S deep_s_while = omega arith
  shallow_S (deep_s_while_condition x) = omega (arith, shallow_E x)
  shallow_S (deep_s_while_do a x) = omega (arith, short_E a, shallow_S x)
  shallow_S (deep_s_do_begins b) = omega arith
  shallow_S (deep_s_do x) = omega (arith, shallow_S x)
  shallow_S (deep_s_until a) = omega arith
  shallow_S (deep_s_until_condition a x) = omega (arith, short_S a, shallow_E x)
  shallow_S deep_s_for = omega arith
  shallow_S (deep_s_for_parts x) = omega (arith, shallow_Heading x)
  shallow_S (deep_s_for_body a o b c u x) = omega
      (arith, short_Optional a, short_Optional b, short_Optional c, shallow_S x)
  shallow_S deep_s_objectloop = omega arith
  shallow_S (deep_s_objectloop_head x) = omega (arith, shallow_E1 x)
  shallow_S (deep_s_objectloop_body a x) = omega (arith, short_Loop a, shallow_S x)
  shallow_S deep_s_switch = omega arith
  shallow_S (deep_s_switch_value x) = omega (arith, shallow_E x)
  shallow_S (deep_s_switch_brace a) = omega arith
  shallow_S (deep_s_switch_cases a x) = omega (arith, short_E a, shallow_Cases x)
  shallow_S (deep_s_return x) = omega (arith, shallow_E x)
  shallow_S (deep_s_give x) = omega (arith, shallow_E x)
  shallow_S (deep_s_move x) = omega (arith, shallow_E x)
  shallow_S (deep_s_move_to a x) = omega (arith, short_E a, shallow_E x)
  shallow_S (deep_s_remove x) = omega (arith, shallow_E x)
  shallow_S (deep_s_effect x) = omega (arith, shallow_E x)

  shallow_Inside : {n : ℕ} {ts u : List Lexeme} → DeepInside n ts u → n ≤ 2 * length ts + 1
  shallow_Inside (deep_inside_begins b) = omega arith
  shallow_Inside (deep_inside_first x) = omega (arith, shallow_S x)
  shallow_Inside (deep_inside_next a x) = omega (arith, short_S a, shallow_Inside x)

  shallow_Cases : {n : ℕ} {ts u : List Lexeme} → DeepCases n ts u → n ≤ 2 * length ts
  shallow_Cases (deep_cases_first a x) = omega (arith, short_Ranges a, shallow_InCase x)
  shallow_Cases (deep_cases_next a b x) = omega (arith, short_Ranges a, short_Ss b, shallow_Cases x)
  shallow_Cases (deep_cases_default x) = omega (arith, shallow_Inside x)

  shallow_InCase : {n : ℕ} {ts u : List Lexeme} → DeepInCase n ts u → n ≤ 2 * length ts + 1
  shallow_InCase (deep_in_case_begins b) = omega arith
  shallow_InCase (deep_in_case_first b x) = omega (arith, shallow_S x)
  shallow_InCase (deep_in_case_next a x) = omega (arith, short_S a, shallow_InCase x)

pub shallow_Ss : {n : ℕ} {ts u : List Lexeme} → DeepSs n ts u → n ≤ 2 * length ts
shallow_Ss (deep_ss_first x) = shallow_S x
shallow_Ss (deep_ss_next a x) = omega (arith, short_S a, shallow_Ss x)

pub shallow_Directive : {n : ℕ} {ts u : List Lexeme} → DeepDirective n ts u → n ≤ 2 * length ts
shallow_Directive (deep_d_routine a x) = omega (arith, short_Names a, shallow_Ss x)
