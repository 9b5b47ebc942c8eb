-- What has a tree is read as that tree, unless it is nested too deep. So tokens have one tree.
use Rattle.std.proofs.Common.{ℕ, List, ◌∷◌, refl, arith, length, suc}
use Rattle.syntax_lexer.specs.declared.token.Position.{Position}
use Rattle.syntax_lexer.specs.declared.token.Sign.TheVariants as s
use Rattle.syntax_lexer.specs.declared.token.Word.TheVariants as w
use Rattle.syntax_lexer.specs.Token.{Lexeme, reserved, sign}
use Rattle.syntax_trees.specs.Tree.{ExpressionTree, ExpressionTrees}
use Rattle.syntax_trees.specs.Parse.{head, is_sign, is_word}
use Rattle.syntax_expressions.specs.Operators.{logical, adding, scaling}
use Rattle.syntax_expressions.specs.Parse.{nested, primary, unary, array_entry, factor, product, sum, comparison}
use Rattle.syntax_expressions.specs.Parse.{logical_operand, condition, expression}
use Rattle.syntax_expressions.specs.Grammar.{IsE, e_plain, e_assign, IsE1, e1_plain, e1_logical, IsN1, n1_plain, n1_not}
use Rattle.syntax_expressions.specs.Grammar.{IsE2, e2_plain, e2_compare, e2_equal, e2_contained, e2_tested, IsChoice}
use Rattle.syntax_expressions.specs.Grammar.{choice_last, choice_or, IsE3, e3_plain, e3_add, IsE4, e4_plain, e4_scale}
use Rattle.syntax_expressions.specs.Grammar.{IsN4, n4_plain, n4_complement, IsE5, e5_plain, e5_index, e5_entry, IsU}
use Rattle.syntax_expressions.specs.Grammar.{u_plain, u_minus, u_before, u_after, u_length, IsP, p_property, p_number}
use Rattle.syntax_expressions.specs.Grammar.{p_character, p_word, p_true, p_false, p_nothing, p_name, p_call}
use Rattle.syntax_expressions.specs.Grammar.{p_call_with, p_relative, p_parenthesised, IsArguments, arguments_last}
use Rattle.syntax_expressions.specs.Grammar.{arguments_comma, nesting, nestings}
use Rattle.syntax_expressions.proofs.Limited.{Limited, in_whole, in_negation, in_complement, in_prefix, in_operand}
use Rattle.syntax_expressions.proofs.Limited.{in_arguments, Chained, goes_on, stops, Listed, listed_last, listed_next}
use Rattle.syntax_expressions.proofs.Limited.{listed_all}
use Rattle.syntax_expressions.proofs.Properties.{Owned, owner_next}
use Rattle.syntax_expressions.proofs.Follow.{Stops, logical_binds, comparing_binds, equating_binds, containing_binds}
use Rattle.syntax_expressions.proofs.Follow.{testing_binds, adding_binds, scaling_binds, stepping_binds, logical_stops}
use Rattle.syntax_expressions.proofs.Follow.{or_stops, adding_stops, scaling_stops, entry_stops, step_no_entry}
use Rattle.syntax_expressions.proofs.Begins.{begins_not, begins_tilde, begins_minus, begins_step, begins_prefix}
use Rattle.syntax_expressions.proofs.Begins.{step_prefixes, begins_close, begin_P, begin_E5, begin_E2, begin_Arguments}
use Rattle.syntax_expressions.proofs.Begins.{first_E}
use Rattle.syntax_expressions.proofs.Arrays.{no_array_P, no_array}
use Rattle.syntax_expressions.proofs.Short.{short_E, short_N1, short_Choice, short_E3, short_E4, short_N4, short_U, short_P, short_Arguments}
use Rattle.syntax_expressions.proofs.Alternatives.{list_of, owner_ends, suffix_none, suffix_step, suffix_length}
use Rattle.syntax_expressions.proofs.Alternatives.{step_e_plain, step_e_assign, step_e1_plain, step_n1_plain}
use Rattle.syntax_expressions.proofs.Alternatives.{step_e2_plain, step_e2_contained, step_e2_tested, step_e2_compare}
use Rattle.syntax_expressions.proofs.Alternatives.{step_e2_equal, step_e3_plain, step_e4_plain, step_n4_plain}
use Rattle.syntax_expressions.proofs.Alternatives.{step_e5_prefixed, step_e5_suffixed, step_e5_entry, step_u_suffixed}
use Rattle.syntax_expressions.proofs.Alternatives.{step_primary, step_n1_not, step_n4_complement, step_e5_index}
use Rattle.syntax_expressions.proofs.Alternatives.{step_u_minus, step_u_before, step_p_number, step_p_character}
use Rattle.syntax_expressions.proofs.Alternatives.{step_p_word, step_p_true, step_p_false, step_p_nothing, step_p_name}
use Rattle.syntax_expressions.proofs.Alternatives.{step_p_parenthesised, step_p_relative, step_p_call, step_called_none}
use Rattle.syntax_expressions.proofs.Alternatives.{step_called}

mutual
  pub at_E : {ts r : List Lexeme} {e : ExpressionTree} → IsE ts e r → (d : ℕ) → Stops 1 r
      → Limited (expression (nested d) ts) d (nesting e) e r
  at_E {ts} (e_plain a) d st = step_e_plain ts d (at_E1 a d (omega arith)) st
  at_E {ts} (e_assign {m = m} a b) d st = step_e_assign ts d m (at_E1 a d (omega arith)) (first_E b) (omega (arith, short_E b))
      (in_whole (length m) m d (short_E b) (λ k. at_E b k st))

  pub at_E1 : {ts r : List Lexeme} {e : ExpressionTree} → IsE1 ts e r → (d : ℕ) → Stops 2 r
      → Limited (condition (nested d) ts) d (nesting e) e r
  at_E1 {ts} {r} (e1_plain a) d st = stops (step_e1_plain ts d (at_N1 a d (omega arith))) (logical_stops (head r) st)
  at_E1 {r = r} (e1_logical {t = t} {op = op} a o b) d st = stops
      (goes_on (chain_E1 a d (omega (arith, logical_binds t op o))) o (at_N1 b d (omega arith)) (short_N1 b))
      (logical_stops (head r) st)

  pub chain_E1 : {ts r : List Lexeme} {e : ExpressionTree} → IsE1 ts e r → (d : ℕ) → Stops 3 r
      → Chained logical (logical_operand (nested d)) (condition (nested d) ts) d (nesting e) e r
  chain_E1 {ts} (e1_plain a) d st = step_e1_plain ts d (at_N1 a d st)
  chain_E1 (e1_logical {t = t} {op = op} a o b) d st = goes_on (chain_E1 a d (omega (arith, logical_binds t op o))) o
      (at_N1 b d st) (short_N1 b)

  pub at_N1 : {ts r : List Lexeme} {e : ExpressionTree} → IsN1 ts e r → (d : ℕ) → Stops 3 r
      → Limited (logical_operand (nested d) ts) d (nesting e) e r
  at_N1 {ts} (n1_plain a) d st = step_n1_plain ts d (begins_not (head ts) (begin_E2 a)) (at_E2 a d st)
  at_N1 (n1_not {m = m} {p = p} a) d st = step_n1_not d m p (in_negation (suc (length m)) m d (omega (arith, short_N1 a)) (λ k. at_N1 a k st))

  pub at_E2 : {ts r : List Lexeme} {e : ExpressionTree} → IsE2 ts e r → (d : ℕ) → Stops 3 r
      → Limited (comparison (nested d) ts) d (nesting e) e r
  at_E2 {ts} (e2_plain a) d st = step_e2_plain ts d (at_E3 a d (omega arith)) st
  at_E2 {ts} (e2_compare {t = t} {op = op} a o b) d st = step_e2_compare ts d
      (at_E3 a d (omega (arith, comparing_binds t op o))) o (omega (arith, short_E3 b)) (at_E3 b d (omega arith))
  at_E2 {ts} (e2_contained {t = t} {op = op} a o b) d st = step_e2_contained ts d
      (at_E3 a d (omega (arith, containing_binds t op o))) o (omega (arith, short_E3 b)) (at_E3 b d (omega arith))
  at_E2 {ts} (e2_tested {t = t} {test = test} a o) d st = step_e2_tested ts d
      (at_E3 a d (omega (arith, testing_binds t test o))) o
  at_E2 {ts} (e2_equal {m = m} {t = t} {op = op} a o b) d st = step_e2_equal ts d
      (at_E3 a d (omega (arith, equating_binds t op o))) o (omega (arith, short_Choice b))
      (listed_all (is_word w.Or) (sum (nested d)) d m (at_Choice b d st))

  at_Choice : {ts r : List Lexeme} {es : ExpressionTrees} → IsChoice ts es r → (d : ℕ) → Stops 3 r
      → Listed (is_word w.Or) (sum (nested d)) d (nestings es) ts (list_of es) r
  at_Choice {ts} {r} (choice_last a) d st = listed_last (is_word w.Or) (sum (nested d)) d ts
      (at_E3 a d (omega arith)) (short_E3 a) (or_stops (head r) st)
  at_Choice {ts} (choice_or {p = p} a b) d st = listed_next (is_word w.Or) (sum (nested d)) d ts (reserved w.Or p)
      (at_E3 a d (omega arith)) (short_E3 a) refl (at_Choice b d st)

  pub at_E3 : {ts r : List Lexeme} {e : ExpressionTree} → IsE3 ts e r → (d : ℕ) → Stops 4 r
      → Limited (sum (nested d) ts) d (nesting e) e r
  at_E3 {ts} {r} (e3_plain a) d st = stops (step_e3_plain ts d (at_E4 a d (omega arith))) (adding_stops (head r) st)
  at_E3 {r = r} (e3_add {t = t} {op = op} a o b) d st = stops
      (goes_on (chain_E3 a d (omega (arith, adding_binds t op o))) o (at_E4 b d (omega arith)) (short_E4 b))
      (adding_stops (head r) st)

  pub chain_E3 : {ts r : List Lexeme} {e : ExpressionTree} → IsE3 ts e r → (d : ℕ) → Stops 5 r
      → Chained adding (product (nested d)) (sum (nested d) ts) d (nesting e) e r
  chain_E3 {ts} (e3_plain a) d st = step_e3_plain ts d (at_E4 a d st)
  chain_E3 (e3_add {t = t} {op = op} a o b) d st = goes_on (chain_E3 a d (omega (arith, adding_binds t op o))) o
      (at_E4 b d st) (short_E4 b)

  pub at_E4 : {ts r : List Lexeme} {e : ExpressionTree} → IsE4 ts e r → (d : ℕ) → Stops 5 r
      → Limited (product (nested d) ts) d (nesting e) e r
  at_E4 {ts} {r} (e4_plain a) d st = stops (step_e4_plain ts d (at_N4 a d (omega arith))) (scaling_stops (head r) st)
  at_E4 {r = r} (e4_scale {t = t} {op = op} a o b) d st = stops
      (goes_on (chain_E4 a d (omega (arith, scaling_binds t op o))) o (at_N4 b d (omega arith)) (short_N4 b))
      (scaling_stops (head r) st)

  pub chain_E4 : {ts r : List Lexeme} {e : ExpressionTree} → IsE4 ts e r → (d : ℕ) → Stops 6 r
      → Chained scaling (factor (nested d)) (product (nested d) ts) d (nesting e) e r
  chain_E4 {ts} (e4_plain a) d st = step_e4_plain ts d (at_N4 a d st)
  chain_E4 (e4_scale {t = t} {op = op} a o b) d st = goes_on (chain_E4 a d (omega (arith, scaling_binds t op o))) o
      (at_N4 b d st) (short_N4 b)

  pub at_N4 : {ts r : List Lexeme} {e : ExpressionTree} → IsN4 ts e r → (d : ℕ) → Stops 6 r
      → Limited (factor (nested d) ts) d (nesting e) e r
  at_N4 {ts} (n4_plain a) d st = step_n4_plain ts d (begins_tilde (head ts) (begin_E5 a)) (at_E5 a d st)
  at_N4 (n4_complement {m = m} {p = p} a) d st = step_n4_complement d m p (in_complement (suc (length m)) m d (omega (arith, short_N4 a)) (λ k. at_N4 a k st))

  pub at_E5 : {ts r : List Lexeme} {e : ExpressionTree} → IsE5 ts e r → (d : ℕ) → Stops 6 r
      → Limited (array_entry (nested d) ts) d (nesting e) e r
  at_E5 {ts} {r} (e5_plain (u_plain {e = e} a)) d st = step_e5_suffixed ts d (no_array (u_plain a) st)
      (begins_prefix (head ts) (begin_P a)) (owner_ends (owner_P a d (omega arith)) (omega arith))
      (entry_stops (head r) st) (omega arith) (suffix_none e r st)
  at_E5 {ts} (e5_plain (u_minus {m = m} {p = p} a)) d st = step_e5_prefixed ts d (no_array (u_minus a) st) refl
      (step_u_minus d m p (in_prefix (suc (length m)) m d (omega (arith, short_U a)) (λ k. at_U a k st)))
  at_E5 {ts} (e5_plain (u_before {m = m} {t = t} {op = op} o a)) d st = step_e5_prefixed ts d
      (no_array (u_before o a) st) (step_prefixes t op o)
      (step_u_before d m t op o (in_operand (suc (length m)) m d (omega (arith, short_P a)) (λ k. owner_ends (owner_P a k (omega arith)) (omega arith))))
  at_E5 {ts} {r} (e5_plain (u_after {t = t} {op = op} {e = e} a o)) d st = step_e5_suffixed ts d
      (no_array (u_after a o) st) (begins_prefix (head ts) (begin_P a))
      (owner_ends (owner_P a d (omega (arith, stepping_binds t op o))) (omega (arith, stepping_binds t op o)))
      (step_no_entry t op o) (omega arith) (suffix_step e t op r o)
  at_E5 {ts} {r} (e5_plain (u_length {p = p} {q = q} {n = f} {e = e} a)) d st = step_e5_suffixed ts d
      (no_array (u_length a) st) (begins_prefix (head ts) (begin_P a))
      (owner_ends (owner_P a d (omega arith)) (omega arith)) refl (omega arith) (suffix_length e p q f r)
  at_E5 {ts} (e5_entry a b) d st = step_e5_entry ts d (no_array_P a refl) (begins_prefix (head ts) (begin_P a))
      (owner_ends (owner_P a d (omega arith)) (omega arith)) (omega (arith, short_U b)) (at_U b d st)
  at_E5 (e5_index {m = m} {p = p} {t = t} {n = f} {width = width} o a) d st = step_e5_index d m p t f width o
      (at_U a d st)

  pub at_U : {ts r : List Lexeme} {e : ExpressionTree} → IsU ts e r → (d : ℕ) → Stops 6 r
      → Limited (unary (nested d) ts) d (nesting e) e r
  at_U {ts} {r} (u_plain {e = e} a) d st = step_u_suffixed ts d (begins_minus (head ts) (begin_P a))
      (begins_step (head ts) (begin_P a)) (owner_ends (owner_P a d (omega arith)) (omega arith)) (omega arith) (suffix_none e r st)
  at_U (u_minus {m = m} {p = p} a) d st = step_u_minus d m p (in_prefix (suc (length m)) m d (omega (arith, short_U a)) (λ k. at_U a k st))
  at_U (u_before {m = m} {t = t} {op = op} o a) d st = step_u_before d m t op o
      (in_operand (suc (length m)) m d (omega (arith, short_P a)) (λ k. owner_ends (owner_P a k (omega arith)) (omega arith)))
  at_U {ts} {r} (u_after {t = t} {op = op} {e = e} a o) d st = step_u_suffixed ts d
      (begins_minus (head ts) (begin_P a)) (begins_step (head ts) (begin_P a))
      (owner_ends (owner_P a d (omega (arith, stepping_binds t op o))) (omega (arith, stepping_binds t op o)))
      (omega arith) (suffix_step e t op r o)
  at_U {ts} {r} (u_length {p = p} {q = q} {n = f} {e = e} a) d st = step_u_suffixed ts d
      (begins_minus (head ts) (begin_P a)) (begins_step (head ts) (begin_P a))
      (owner_ends (owner_P a d (omega arith)) (omega arith)) (omega arith) (suffix_length e p q f r)

  pub owner_P : {ts r : List Lexeme} {e : ExpressionTree} → IsP ts e r → (d : ℕ) → Stops 8 r
      → Owned (primary (nested d) ts) d (nesting e) e r
  owner_P (p_property a) d st = owner_next (owner_P a d (omega arith))
  owner_P {ts} (p_number {r = r} {p = p} {n = n}) d st = step_primary ts d (step_p_number d r p n)
  owner_P {ts} (p_character {r = r} {p = p} {c = n}) d st = step_primary ts d (step_p_character d r p n)
  owner_P {ts} (p_word {r = r} {p = p} {s = f}) d st = step_primary ts d (step_p_word d r p f)
  owner_P {ts} (p_true {r = r} {p = p}) d st = step_primary ts d (step_p_true d r p)
  owner_P {ts} (p_false {r = r} {p = p}) d st = step_primary ts d (step_p_false d r p)
  owner_P {ts} (p_nothing {r = r} {p = p}) d st = step_primary ts d (step_p_nothing d r p)
  owner_P {ts} (p_name {r = r} {p = p} {n = f}) d st = step_primary ts d (step_p_name d r p f st)
  owner_P {ts} (p_call {r = r} {p = p} {q = q} {o = o} {n = f}) d st =
      step_primary ts d
      (step_p_call d (sign s.CloseParenthesis o ∷ r) p q f
      (in_arguments (record { text = f; position = p }) (suc (suc (length r))) (sign s.CloseParenthesis o ∷ r) d (omega arith)
      (λ k. step_called_none k r o (record { text = f; position = p }))))
  owner_P {ts} (p_call_with {m = m} {p = p} {q = q} {n = f} {es = es} a) d st =
      step_primary ts d
      (step_p_call d m p q f
      (in_arguments (record { text = f; position = p }) (suc (length m)) m d (omega (arith, short_Arguments a))
      (λ k. step_called k m (record { text = f; position = p }) es (begins_close (head m) (begin_Arguments a))
      (listed_all (is_sign s.Comma) (expression (nested k)) k m (at_Arguments a k)))))
  owner_P {ts} (p_relative {m = m} {p = p} {t = t} {which = which} h a) d st = step_primary ts d
      (step_p_relative d m t which p h (in_whole (suc (length m)) m d (omega (arith, short_E a)) (λ k. at_E a k (omega arith))))
  owner_P {ts} (p_parenthesised {m = m} {p = p} a) d st = step_primary ts d
      (step_p_parenthesised d m p (in_whole (suc (length m)) m d (omega (arith, short_E a)) (λ k. at_E a k (omega arith))))

  -- up to the closing parenthesis
  at_Arguments : {ts r : List Lexeme} {o : Position} {es : ExpressionTrees}
      → IsArguments ts es (sign s.CloseParenthesis o ∷ r) → (d : ℕ)
      → Listed (is_sign s.Comma) (expression (nested d)) d (nestings es) ts (list_of es)
      (sign s.CloseParenthesis o ∷ r)
  at_Arguments {ts} (arguments_last a) d = listed_last (is_sign s.Comma) (expression (nested d)) d ts
      (at_E a d (omega arith)) (short_E a) refl
  at_Arguments {ts} (arguments_comma {p = p} a b) d = listed_next (is_sign s.Comma) (expression (nested d)) d ts
      (sign s.Comma p) (at_E a d (omega arith)) (short_E a) refl (at_Arguments b d)
