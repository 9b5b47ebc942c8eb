-- A token that stands deep in what begins somewhere is one of the tokens from there on.
use Rattle.std.proofs.Common.{◌≡◌, ℕ, List, [], ◌∷◌, ◌++◌, append_assoc, refl, sym, ap, ◌∙◌, true}
use Rattle.syntax_lexer.specs.Token.{Lexeme}
use Rattle.syntax_expressions.specs.Nesting.{DeepE, deep_e_left, deep_e_first, deep_e_right, DeepE1}
use Rattle.syntax_expressions.specs.Nesting.{deep_e1_first, deep_e1_next, DeepN1, deep_n1_plain, deep_n1_not}
use Rattle.syntax_expressions.specs.Nesting.{deep_n1_in, DeepE2, deep_e2_left, deep_e2_compare, deep_e2_equal}
use Rattle.syntax_expressions.specs.Nesting.{deep_e2_contained, DeepChoice, deep_choice_first, deep_choice_next, DeepE3}
use Rattle.syntax_expressions.specs.Nesting.{deep_e3_first, deep_e3_next, DeepE4, deep_e4_first, deep_e4_next, DeepN4}
use Rattle.syntax_expressions.specs.Nesting.{deep_n4_plain, deep_n4_complement, deep_n4_in, DeepE5, deep_e5_plain}
use Rattle.syntax_expressions.specs.Nesting.{deep_e5_index, deep_e5_entry, DeepU, deep_u_plain, deep_u_minus}
use Rattle.syntax_expressions.specs.Nesting.{deep_u_minus_in, deep_u_before, deep_u_before_in, DeepP, deep_p_call}
use Rattle.syntax_expressions.specs.Nesting.{deep_p_arguments, deep_p_relative, deep_p_relative_in, deep_p_parenthesis}
use Rattle.syntax_expressions.specs.Nesting.{deep_p_in, DeepArguments, deep_arguments_first, deep_arguments_next}
use Rattle.syntax_statements.specs.PartNesting.{DeepItem, deep_item_parenthesis, deep_item_character}
use Rattle.syntax_statements.specs.PartNesting.{deep_item_object_parenthesis, deep_item_object, deep_item_number}
use Rattle.syntax_statements.specs.PartNesting.{DeepItems, deep_items_first, deep_items_next, DeepHeading}
use Rattle.syntax_statements.specs.PartNesting.{deep_heading_before, deep_heading_test, deep_heading_after}
use Rattle.syntax_statements.specs.Nesting.{begins_statement, begins_in_case, DeepS, deep_s_brace, deep_s_block}
use Rattle.syntax_statements.specs.Nesting.{deep_s_print, deep_s_print_ret, deep_s_if, deep_s_if_condition}
use Rattle.syntax_statements.specs.Nesting.{deep_s_if_then, deep_s_if_else, deep_s_while, deep_s_while_condition}
use Rattle.syntax_statements.specs.Nesting.{deep_s_while_do, deep_s_do_begins, deep_s_do, deep_s_until}
use Rattle.syntax_statements.specs.Nesting.{deep_s_until_condition, deep_s_for, deep_s_for_parts, deep_s_for_body}
use Rattle.syntax_statements.specs.Nesting.{deep_s_objectloop, deep_s_objectloop_head, deep_s_objectloop_body}
use Rattle.syntax_statements.specs.Nesting.{deep_s_switch, deep_s_switch_value, deep_s_switch_brace}
use Rattle.syntax_statements.specs.Nesting.{deep_s_switch_cases, deep_s_return, deep_s_give, deep_s_move}
use Rattle.syntax_statements.specs.Nesting.{deep_s_move_to, deep_s_remove, deep_s_effect, DeepInside}
use Rattle.syntax_statements.specs.Nesting.{deep_inside_begins, deep_inside_first, deep_inside_next, DeepCases}
use Rattle.syntax_statements.specs.Nesting.{deep_cases_first, deep_cases_next, deep_cases_default, DeepInCase}
use Rattle.syntax_statements.specs.Nesting.{deep_in_case_begins, deep_in_case_first, deep_in_case_next, DeepSs}
use Rattle.syntax_statements.specs.Nesting.{deep_ss_first, deep_ss_next}
use Rattle.syntax_directives.specs.Nesting.{DeepDirective, deep_d_routine}
use Rattle.syntax_directives.proofs.Spelled.{Spelled, SpelledAbout}
use Rattle.syntax_directives.proofs.SpelledExpressions.{spelled_E, spelled_E1, spelled_E3, spelled_E4, spelled_P}
use Rattle.syntax_directives.proofs.SpelledStatements.{spelled_Item, spelled_Labels, spelled_Optional}
use Rattle.syntax_directives.proofs.SpelledStatements.{spelled_Loop, spelled_S, spelled_Ss, spelled_Names}

-- u, of which there is a first token, is what the tokens ts end with
pub record EndsAt (ts u : List Lexeme) : Type 0 where
  pub front : List Lexeme
  pub token : Lexeme
  pub after : List Lexeme
  pub first : u ≡ token ∷ after
  pub at : ts ≡ front ++ u

here : {t : Lexeme} {m : List Lexeme} → EndsAt (t ∷ m) (t ∷ m)
here {t = t} {m = m} = record { front = []; token = t; after = m; first = refl; at = refl }

later : {t : Lexeme} {m u : List Lexeme} → EndsAt m u → EndsAt (t ∷ m) u
later {t = t} a = record {
  front = t ∷ a.front;
  token = a.token;
  after = a.after;
  first = a.first;
  at = ap (λ us. t ∷ us) a.at;
}

pub over : {ts m u : List Lexeme} (front : List Lexeme) → ts ≡ front ++ m → EndsAt m u → EndsAt ts u
over {u = u} front is a = record {
  front = front ++ a.front;
  token = a.token;
  after = a.after;
  first = a.first;
  at = is ∙ ap (λ us. front ++ us) a.at ∙ sym (append_assoc front a.front u);
}

past : {w : ℕ} {ts m u : List Lexeme} → Spelled w ts m → EndsAt m u → EndsAt ts u
past s a = over s.front s.at a

past_about : {most extra : ℕ} {ts m u : List Lexeme} → SpelledAbout most extra ts m → EndsAt m u → EndsAt ts u
past_about s a = over s.front s.at a

mutual
  ends_E : {n : ℕ} {ts u : List Lexeme} → DeepE n ts u → EndsAt ts u
  ends_E (deep_e_left x) = ends_E1 x
  ends_E (deep_e_first a b) = past (spelled_E1 a) (later here)
  ends_E (deep_e_right a x) = past (spelled_E1 a) (later (ends_E x))

  ends_E1 : {n : ℕ} {ts u : List Lexeme} → DeepE1 n ts u → EndsAt ts u
  ends_E1 (deep_e1_first x) = ends_N1 x
  ends_E1 (deep_e1_next a o x) = past (spelled_E1 a) (later (ends_N1 x))

  ends_N1 : {n : ℕ} {ts u : List Lexeme} → DeepN1 n ts u → EndsAt ts u
  ends_N1 (deep_n1_plain x) = ends_E2 x
  ends_N1 deep_n1_not = here
  ends_N1 (deep_n1_in x) = later (ends_N1 x)

  ends_E2 : {n : ℕ} {ts u : List Lexeme} → DeepE2 n ts u → EndsAt ts u
  ends_E2 (deep_e2_left x) = ends_E3 x
  ends_E2 (deep_e2_compare a o x) = past (spelled_E3 a) (later (ends_E3 x))
  ends_E2 (deep_e2_equal a o x) = past (spelled_E3 a) (later (ends_Choice x))
  ends_E2 (deep_e2_contained a o x) = past (spelled_E3 a) (later (ends_E3 x))

  ends_Choice : {n : ℕ} {ts u : List Lexeme} → DeepChoice n ts u → EndsAt ts u
  ends_Choice (deep_choice_first x) = ends_E3 x
  ends_Choice (deep_choice_next a x) = past (spelled_E3 a) (later (ends_Choice x))

  ends_E3 : {n : ℕ} {ts u : List Lexeme} → DeepE3 n ts u → EndsAt ts u
  ends_E3 (deep_e3_first x) = ends_E4 x
  ends_E3 (deep_e3_next a o x) = past (spelled_E3 a) (later (ends_E4 x))

  ends_E4 : {n : ℕ} {ts u : List Lexeme} → DeepE4 n ts u → EndsAt ts u
  ends_E4 (deep_e4_first x) = ends_N4 x
  ends_E4 (deep_e4_next a o x) = past (spelled_E4 a) (later (ends_N4 x))

  ends_N4 : {n : ℕ} {ts u : List Lexeme} → DeepN4 n ts u → EndsAt ts u
  ends_N4 (deep_n4_plain x) = ends_E5 x
  ends_N4 deep_n4_complement = here
  ends_N4 (deep_n4_in x) = later (ends_N4 x)

  ends_E5 : {n : ℕ} {ts u : List Lexeme} → DeepE5 n ts u → EndsAt ts u
  ends_E5 (deep_e5_plain x) = ends_U x
  ends_E5 (deep_e5_index o x) = later (later (ends_U x))
  ends_E5 (deep_e5_entry a x) = past (spelled_P a) (later (later (later (ends_U x))))

  ends_U : {n : ℕ} {ts u : List Lexeme} → DeepU n ts u → EndsAt ts u
  ends_U (deep_u_plain x) = ends_P x
  ends_U deep_u_minus = here
  ends_U (deep_u_minus_in x) = later (ends_U x)
  ends_U (deep_u_before o) = here
  ends_U (deep_u_before_in o x) = later (ends_P x)

  ends_P : {n : ℕ} {ts u : List Lexeme} → DeepP n ts u → EndsAt ts u
  ends_P deep_p_call = later here
  ends_P (deep_p_arguments x) = later (later (ends_Arguments x))
  ends_P (deep_p_relative o) = later here
  ends_P (deep_p_relative_in o x) = later (later (ends_E x))
  ends_P deep_p_parenthesis = here
  ends_P (deep_p_in x) = later (ends_E x)

  ends_Arguments : {n : ℕ} {ts u : List Lexeme} → DeepArguments n ts u → EndsAt ts u
  ends_Arguments (deep_arguments_first x) = ends_E x
  ends_Arguments (deep_arguments_next a x) = past (spelled_E a) (later (ends_Arguments x))

-- ---- statements

ends_Item : {n : ℕ} {ts u : List Lexeme} → DeepItem n ts u → EndsAt ts u
ends_Item deep_item_parenthesis = here
ends_Item (deep_item_character x) = later (later (later (ends_E x)))
ends_Item deep_item_object_parenthesis = here
ends_Item (deep_item_object x) = later (later (later (ends_E x)))
ends_Item (deep_item_number x) = ends_E x

ends_Items : {n : ℕ} {ts u : List Lexeme} → DeepItems n ts u → EndsAt ts u
ends_Items (deep_items_first x) = ends_Item x
ends_Items (deep_items_next a x) = past (spelled_Item a) (later (ends_Items x))

ends_Heading : {n : ℕ} {ts u : List Lexeme} → DeepHeading n ts u → EndsAt ts u
ends_Heading (deep_heading_before x) = ends_E x
ends_Heading (deep_heading_test a f x) = past (spelled_Optional a) (later (ends_E x))
ends_Heading (deep_heading_after a f b x) =
    past (spelled_Optional a) (later (past (spelled_Optional b) (later (ends_E x))))

ends_in_case : (ts : List Lexeme) → begins_in_case ts ≡ true → EndsAt ts ts
unfolding begins_statement
ends_in_case [] b = absurd cc
ends_in_case (t ∷ ts) b = here

mutual
  ends_S : {n : ℕ} {ts u : List Lexeme} → DeepS n ts u → EndsAt ts u
  ends_S deep_s_brace = here
  ends_S (deep_s_block x) = later (ends_Inside x)
  ends_S (deep_s_print x) = later (ends_Items x)
  ends_S (deep_s_print_ret x) = later (ends_Items x)
  ends_S deep_s_if = later here
  ends_S (deep_s_if_condition x) = later (later (ends_E x))
  ends_S (deep_s_if_then a x) = later (later (past (spelled_E a) (later (ends_S x))))
  ends_S (deep_s_if_else a b x) =
      later (later (past (spelled_E a) (later (past_about (spelled_S b) (later (ends_S x))))))
  ends_S deep_s_while = later here
  ends_S (deep_s_while_condition x) = later (later (ends_E x))
  ends_S (deep_s_while_do a x) = later (later (past (spelled_E a) (later (ends_S x))))
  ends_S (deep_s_do_begins b) = later here
  ends_S (deep_s_do x) = later (ends_S x)
  ends_S (deep_s_until a) = later (past_about (spelled_S a) (later here))
  ends_S (deep_s_until_condition a x) = later (past_about (spelled_S a) (later (later (ends_E x))))
  ends_S deep_s_for = later here
  ends_S (deep_s_for_parts x) = later (later (ends_Heading x))
  ends_S (deep_s_for_body a f b c g x) =
      later
      (later
      (past (spelled_Optional a)
      (later (past (spelled_Optional b) (later (past (spelled_Optional c) (later (ends_S x))))))))
  ends_S deep_s_objectloop = later here
  ends_S (deep_s_objectloop_head x) = later (later (ends_E1 x))
  ends_S (deep_s_objectloop_body a x) = later (later (past (spelled_Loop a) (later (ends_S x))))
  ends_S deep_s_switch = later here
  ends_S (deep_s_switch_value x) = later (later (ends_E x))
  ends_S (deep_s_switch_brace a) = later (later (past (spelled_E a) (later here)))
  ends_S (deep_s_switch_cases a x) = later (later (past (spelled_E a) (later (later (ends_Cases x)))))
  ends_S (deep_s_return x) = later (ends_E x)
  ends_S (deep_s_give x) = later (ends_E x)
  ends_S (deep_s_move x) = later (ends_E x)
  ends_S (deep_s_move_to a x) = later (past (spelled_E a) (later (ends_E x)))
  ends_S (deep_s_remove x) = later (ends_E x)
  ends_S (deep_s_effect x) = ends_E x

  ends_Inside : {n : ℕ} {ts u : List Lexeme} → DeepInside n ts u → EndsAt ts u
  ends_Inside (deep_inside_begins b) = here
  ends_Inside (deep_inside_first x) = ends_S x
  ends_Inside (deep_inside_next a x) = past_about (spelled_S a) (ends_Inside x)

  ends_Cases : {n : ℕ} {ts u : List Lexeme} → DeepCases n ts u → EndsAt ts u
  ends_Cases (deep_cases_first g x) = past_about (spelled_Labels g) (ends_InCase x)
  ends_Cases (deep_cases_next g a x) = past_about (spelled_Labels g) (past_about (spelled_Ss a) (ends_Cases x))
  ends_Cases (deep_cases_default x) = later (later (ends_Inside x))

  ends_InCase : {n : ℕ} {ts u : List Lexeme} → DeepInCase n ts u → EndsAt ts u
  ends_InCase {ts = ts} (deep_in_case_begins b) = ends_in_case ts b
  ends_InCase (deep_in_case_first b x) = ends_S x
  ends_InCase (deep_in_case_next a x) = past_about (spelled_S a) (ends_InCase x)

ends_Ss : {n : ℕ} {ts u : List Lexeme} → DeepSs n ts u → EndsAt ts u
ends_Ss (deep_ss_first x) = ends_S x
ends_Ss (deep_ss_next a x) = past_about (spelled_S a) (ends_Ss x)

-- ---- directives

pub ends_Directive : {n : ℕ} {ts u : List Lexeme} → DeepDirective n ts u → EndsAt ts u
ends_Directive (deep_d_routine a x) = later (later (past (spelled_Names a) (later (ends_Ss x))))
