-- The token with which an expression begins that reaches a token too deep.
use Rattle.std.proofs.Common.{◌≡◌, ℕ, ◌<◌, true, List, None, refl, arith}
use Rattle.syntax_lexer.specs.Token.{Lexeme}
use Rattle.syntax_trees.specs.Parse.{head}
use Rattle.syntax_expressions.specs.Operators.{begins_expression}
use Rattle.syntax_expressions.specs.Nesting.{DeepE, deep_e_left, deep_e_first, deep_e_right, DeepE1, deep_e1_first}
use Rattle.syntax_expressions.specs.Nesting.{deep_e1_next, DeepN1, deep_n1_plain, deep_n1_not, deep_n1_in, DeepE2}
use Rattle.syntax_expressions.specs.Nesting.{deep_e2_left, deep_e2_compare, deep_e2_equal, deep_e2_contained, DeepE3}
use Rattle.syntax_expressions.specs.Nesting.{deep_e3_first, deep_e3_next, DeepE4, deep_e4_first, deep_e4_next, DeepN4}
use Rattle.syntax_expressions.specs.Nesting.{deep_n4_plain, deep_n4_complement, deep_n4_in, DeepE5, deep_e5_plain}
use Rattle.syntax_expressions.specs.Nesting.{deep_e5_index, deep_e5_entry, DeepU, deep_u_plain, deep_u_minus}
use Rattle.syntax_expressions.specs.Nesting.{deep_u_minus_in, deep_u_before, deep_u_before_in, DeepP, deep_p_call}
use Rattle.syntax_expressions.specs.Nesting.{deep_p_arguments, deep_p_relative, deep_p_relative_in, deep_p_parenthesis}
use Rattle.syntax_expressions.specs.Nesting.{deep_p_in, DeepArguments, deep_arguments_first, deep_arguments_next}
use Rattle.syntax_expressions.specs.PartParse.{array_at}
use Rattle.syntax_expressions.proofs.Begins.{begins}
use Rattle.syntax_expressions.proofs.Begins.{begins_any, step_begins, relating_begins}
use Rattle.syntax_expressions.proofs.Begins.{begin_P, begin_E1, begin_E3, begin_E4, begin_E}
use Rattle.syntax_expressions.proofs.ArrayParts.{no_arrow}

-- ---- the token with which what is read begins

pub deep_begin_P : {n : ℕ} {ts u : List Lexeme} → DeepP n ts u → 3 < begins (head ts)
deep_begin_P deep_p_call = omega arith
deep_begin_P (deep_p_arguments x) = omega arith
deep_begin_P (deep_p_relative {t = t} {which = which} o) = omega (arith, relating_begins t which o)
deep_begin_P (deep_p_relative_in {t = t} {which = which} o x) = omega (arith, relating_begins t which o)
deep_begin_P deep_p_parenthesis = omega arith
deep_begin_P (deep_p_in x) = omega arith

deep_begin_U : {n : ℕ} {ts u : List Lexeme} → DeepU n ts u → 2 < begins (head ts)
deep_begin_U (deep_u_plain x) = omega (arith, deep_begin_P x)
deep_begin_U deep_u_minus = omega arith
deep_begin_U (deep_u_minus_in x) = omega arith
deep_begin_U (deep_u_before {t = t} {op = op} o) = omega (arith, step_begins t op o)
deep_begin_U (deep_u_before_in {t = t} {op = op} o x) = omega (arith, step_begins t op o)

pub deep_begin_E5 : {n : ℕ} {ts u : List Lexeme} → DeepE5 n ts u → 2 < begins (head ts)
deep_begin_E5 (deep_e5_plain x) = deep_begin_U x
deep_begin_E5 (deep_e5_index o x) = omega arith
deep_begin_E5 (deep_e5_entry a x) = omega (arith, begin_P a)

deep_begin_N4 : {n : ℕ} {ts u : List Lexeme} → DeepN4 n ts u → 1 < begins (head ts)
deep_begin_N4 (deep_n4_plain x) = omega (arith, deep_begin_E5 x)
deep_begin_N4 deep_n4_complement = omega arith
deep_begin_N4 (deep_n4_in x) = omega arith

deep_begin_E4 : {n : ℕ} {ts u : List Lexeme} → DeepE4 n ts u → 1 < begins (head ts)
deep_begin_E4 (deep_e4_first x) = deep_begin_N4 x
deep_begin_E4 (deep_e4_next a o x) = begin_E4 a

deep_begin_E3 : {n : ℕ} {ts u : List Lexeme} → DeepE3 n ts u → 1 < begins (head ts)
deep_begin_E3 (deep_e3_first x) = deep_begin_E4 x
deep_begin_E3 (deep_e3_next a o x) = begin_E3 a

pub deep_begin_E2 : {n : ℕ} {ts u : List Lexeme} → DeepE2 n ts u → 1 < begins (head ts)
deep_begin_E2 (deep_e2_left x) = deep_begin_E3 x
deep_begin_E2 (deep_e2_compare a o x) = begin_E3 a
deep_begin_E2 (deep_e2_equal a o x) = begin_E3 a
deep_begin_E2 (deep_e2_contained a o x) = begin_E3 a

deep_begin_N1 : {n : ℕ} {ts u : List Lexeme} → DeepN1 n ts u → 0 < begins (head ts)
deep_begin_N1 (deep_n1_plain x) = omega (arith, deep_begin_E2 x)
deep_begin_N1 deep_n1_not = omega arith
deep_begin_N1 (deep_n1_in x) = omega arith

pub deep_begin_E1 : {n : ℕ} {ts u : List Lexeme} → DeepE1 n ts u → 0 < begins (head ts)
deep_begin_E1 (deep_e1_first x) = deep_begin_N1 x
deep_begin_E1 (deep_e1_next a o x) = begin_E1 a

pub deep_begin_E : {n : ℕ} {ts u : List Lexeme} → DeepE n ts u → 0 < begins (head ts)
deep_begin_E (deep_e_left x) = deep_begin_E1 x
deep_begin_E (deep_e_first a b) = begin_E1 a
deep_begin_E (deep_e_right a x) = begin_E1 a

pub deep_begin_Arguments : {n : ℕ} {ts u : List Lexeme} → DeepArguments n ts u → 0 < begins (head ts)
deep_begin_Arguments (deep_arguments_first x) = deep_begin_E x
deep_begin_Arguments (deep_arguments_next a x) = begin_E a

pub deep_starts_E : {n : ℕ} {ts u : List Lexeme} → DeepE n ts u → begins_expression (head ts) ≡ true
deep_starts_E {ts = ts} x = begins_any (head ts) (deep_begin_E x)

-- no array comes next
pub deep_no_array : {n : ℕ} {ts u : List Lexeme} → DeepP n ts u → array_at ts ≡ None
unfolding array_at
deep_no_array deep_p_call = refl
deep_no_array (deep_p_arguments x) = refl
deep_no_array (deep_p_relative {t = t} o) = no_arrow t
deep_no_array (deep_p_relative_in {t = t} o x) = no_arrow t
deep_no_array deep_p_parenthesis = refl
deep_no_array (deep_p_in x) = refl
