-- A part of an expression that is a name or a number alone is what an operand without operators is.
use Rattle.std.proofs.Common.{◌≡◌, ◌&&◌, ℕ, Bool, true, false, List, [], ◌∷◌, None, Ok, refl, sym, ◌∙◌, arith}
use Rattle.std.specs.Prelude.{nat_le}
use Rattle.std.proofs.lemmas.Bool.Decides.{nat_tests}
use Rattle.syntax_lexer.specs.declared.token.Position.{Position}
use Rattle.syntax_lexer.specs.declared.token.Sign.TheVariants as s
use Rattle.syntax_lexer.specs.Token.{Lexeme, name, number, reserved, sign}
use Rattle.syntax_trees.specs.Tree.{ExpressionTree, constant, named}
use Rattle.syntax_trees.specs.Parse.{Parse}
use Rattle.syntax_expressions.specs.declared.operators.Operators.{Operators}
use Rattle.syntax_expressions.specs.declared.operators.Operators.TheVariants as operators
use Rattle.syntax_expressions.specs.Operators.{logical, adding, scaling}
use Rattle.syntax_expressions.specs.PartParse.{array_at, properties, after_operand, with_length, tested_next}
use Rattle.syntax_expressions.specs.Parse.{Level, after_name, atom, primary, after_owner, object_entry, array_entry, factor}
use Rattle.syntax_expressions.specs.Parse.{product, sum, after_left, comparison, logical_operand, condition}
use Rattle.syntax_expressions.specs.Levels.{chain_of}
use Rattle.syntax_expressions.specs.Single.{operand_width, width, ended_by, ends, is_plain, is_single}
use Rattle.syntax_expressions.proofs.Chain.{chain_stop, level_chain}

both : (a b : Bool) → (a && b) ≡ true → (a ≡ true) × (b ≡ true)
both true b e = (refl, e)
both false b e = absurd cc

clash : (t : Bool) → t ≡ true → t ≡ false → ⊥
clash t p q = cc

-- ---- the token after it

two_one : (k : ℕ) → nat_le 2 k ≡ true → nat_le 1 k ≡ true
two_one k e = grind (arith, nat_tests)

three_two : (k : ℕ) → nat_le 3 k ≡ true → nat_le 2 k ≡ true
three_two k e = grind (arith, nat_tests)

four_three : (k : ℕ) → nat_le 4 k ≡ true → nat_le 3 k ≡ true
four_three k e = grind (arith, nat_tests)

-- what ends a part ends what it is made of

ends_operand : (u : Lexeme) → ends (width operators.Scaling) u ≡ true → ends operand_width u ≡ true
ends_operand (sign g p) e = two_one (ended_by g) e
ends_operand u e = absurd cc

ends_product : (u : Lexeme) → ends (width operators.Adding) u ≡ true → ends (width operators.Scaling) u ≡ true
ends_product (sign g p) e = three_two (ended_by g) e
ends_product u e = absurd cc

ends_sum : (u : Lexeme) → ends (width operators.Logical) u ≡ true → ends (width operators.Adding) u ≡ true
ends_sum (sign g p) e = four_three (ended_by g) e
ends_sum u e = absurd cc

-- and is none of its operators

not_scaling : (u : Lexeme) → ends (width operators.Scaling) u ≡ true → scaling u ≡ None
not_scaling (sign s.Star p) e = absurd cc
not_scaling (sign s.Slash p) e = absurd cc
not_scaling (sign s.Percent p) e = absurd cc
not_scaling (sign s.Ampersand p) e = absurd cc
not_scaling (sign s.Bar p) e = absurd cc
not_scaling u e = refl

not_adding : (u : Lexeme) → ends (width operators.Adding) u ≡ true → adding u ≡ None
not_adding (sign s.Plus p) e = absurd cc
not_adding (sign s.Minus p) e = absurd cc
not_adding u e = refl

not_logical : (u : Lexeme) → ends (width operators.Logical) u ≡ true → logical u ≡ None
not_logical (sign s.AndAlso p) e = absurd cc
not_logical (sign s.OrElse p) e = absurd cc
not_logical u e = refl

-- ---- each level

abbrev value_of : Lexeme → ExpressionTree
value_of (number n p) = constant n
value_of (name n p) = named (record { text = n; position = p })
value_of t = constant 0

module _ (below : Level → ℕ → Parse ExpressionTree) where
  atom_is : (t u : Lexeme) (r : List Lexeme) → is_plain t ≡ true → ends operand_width u ≡ true
      → atom below (t ∷ u ∷ r) ≡ Ok (value_of t, u ∷ r)
  unfolding atom after_name
  atom_is (number n p) u r plain e = refl
  atom_is (name n p) (sign s.OpenParenthesis q) r plain e = absurd cc
  atom_is (name n p) u r plain e = refl
  atom_is t u r plain e = absurd cc

  number_is : (n : ℕ) (p : Position) (u : Lexeme) (r : List Lexeme) → ends operand_width u ≡ true
      → factor below (number n p ∷ u ∷ r) ≡ Ok (constant n, u ∷ r)
  unfolding factor array_entry array_at object_entry primary atom properties after_owner after_operand with_length
  number_is n p (sign s.Dot q) r e = absurd cc
  number_is n p (sign s.DotAmpersand q) r e = absurd cc
  number_is n p (sign s.DotHash q) r e = absurd cc
  number_is n p (sign s.Increment q) r e = absurd cc
  number_is n p (sign s.Decrement q) r e = absurd cc
  number_is n p u r e = refl

  name_is : (n : List ℕ) (p : Position) (u : Lexeme) (r : List Lexeme) → ends operand_width u ≡ true
      → factor below (name n p ∷ u ∷ r) ≡ Ok (named (record { text = n; position = p }), u ∷ r)
  unfolding factor array_entry array_at object_entry primary atom after_name properties after_owner after_operand with_length
  name_is n p (sign s.OpenParenthesis q) r e = absurd cc
  name_is n p (sign s.Dot q) r e = absurd cc
  name_is n p (sign s.DotAmpersand q) r e = absurd cc
  name_is n p (sign s.DotHash q) r e = absurd cc
  name_is n p (sign s.Increment q) r e = absurd cc
  name_is n p (sign s.Decrement q) r e = absurd cc
  name_is n p (sign s.Arrow q) r e = absurd cc
  name_is n p (sign s.LongArrow q) r e = absurd cc
  name_is n p u r e = refl

  operand_is : (t u : Lexeme) (r : List Lexeme) → is_plain t ≡ true → ends operand_width u ≡ true
      → factor below (t ∷ u ∷ r) ≡ Ok (value_of t, u ∷ r)
  operand_is (number n p) u r plain e = number_is n p u r e
  operand_is (name n p) u r plain e = name_is n p u r e
  operand_is t u r plain e = absurd cc

  product_is : (t u : Lexeme) (r : List Lexeme) → is_plain t ≡ true → ends (width operators.Scaling) u ≡ true
      → product below (t ∷ u ∷ r) ≡ Ok (value_of t, u ∷ r)
  product_is t u r plain e =
      level_chain below operators.Scaling (t ∷ u ∷ r) (value_of t) (u ∷ r) (operand_is t u r plain (ends_operand u e))
      ∙ chain_stop scaling (factor below) _ (value_of t) (u ∷ r) (not_scaling u e)

  sum_is : (t u : Lexeme) (r : List Lexeme) → is_plain t ≡ true → ends (width operators.Adding) u ≡ true
      → sum below (t ∷ u ∷ r) ≡ Ok (value_of t, u ∷ r)
  sum_is t u r plain e =
      level_chain below operators.Adding (t ∷ u ∷ r) (value_of t) (u ∷ r) (product_is t u r plain (ends_product u e))
      ∙ chain_stop adding (product below) _ (value_of t) (u ∷ r) (not_adding u e)

  compared_is : (a : ExpressionTree) (u : Lexeme) (r : List Lexeme) → ends (width operators.Logical) u ≡ true
      → after_left below a (u ∷ r) ≡ Ok (a, u ∷ r)
  unfolding after_left tested_next
  compared_is a (sign s.Less q) r e = absurd cc
  compared_is a (sign s.Greater q) r e = absurd cc
  compared_is a (sign s.LessOrEqual q) r e = absurd cc
  compared_is a (sign s.GreaterOrEqual q) r e = absurd cc
  compared_is a (sign s.Equal q) r e = absurd cc
  compared_is a (sign s.NotEqual q) r e = absurd cc
  compared_is a (reserved g q) r e = absurd cc
  compared_is a u r e = refl

  negated_is : (t u : Lexeme) (r : List Lexeme) → is_plain t ≡ true → ends (width operators.Logical) u ≡ true
      → logical_operand below (t ∷ u ∷ r) ≡ Ok (value_of t, u ∷ r)
  unfolding logical_operand comparison
  negated_is (number n p) u r plain e = rw (sum_is (number n p) u r plain (ends_sum u e))
      (compared_is (constant n) u r e)
  negated_is (name n p) u r plain e = rw (sum_is (name n p) u r plain (ends_sum u e))
      (compared_is (named (record { text = n; position = p })) u r e)
  negated_is t u r plain e = absurd cc

  condition_is : (t u : Lexeme) (r : List Lexeme) → is_plain t ≡ true → ends (width operators.Logical) u ≡ true
      → condition below (t ∷ u ∷ r) ≡ Ok (value_of t, u ∷ r)
  condition_is t u r plain e =
      level_chain below operators.Logical (t ∷ u ∷ r) (value_of t) (u ∷ r) (negated_is t u r plain e)
      ∙ chain_stop logical (logical_operand below) _ (value_of t) (u ∷ r) (not_logical u e)

  -- ---- at the front of the tokens

  pub complemented_single : (ts : List Lexeme) → is_single operand_width ts ≡ true
      → factor below ts ≡ atom below ts
  complemented_single [] e = absurd cc
  complemented_single (t ∷ []) e = absurd (clash false (both (is_plain t) false e).1 refl)
  complemented_single (t ∷ u ∷ r) e =
      let b = both (is_plain t) (ends operand_width u) e in
      operand_is t u r b.0 b.1 ∙ sym (atom_is t u r b.0 b.1)

  pub chain_single : (l : Operators) (ts : List Lexeme) → is_single (width l) ts ≡ true
      → chain_of below l ts ≡ atom below ts
  chain_single l [] e = absurd cc
  chain_single l (t ∷ []) e = absurd (clash false (both (is_plain t) false e).1 refl)
  chain_single operators.Scaling (t ∷ u ∷ r) e =
      let b = both (is_plain t) (ends (width operators.Scaling) u) e in
      product_is t u r b.0 b.1 ∙ sym (atom_is t u r b.0 (ends_operand u b.1))
  chain_single operators.Adding (t ∷ u ∷ r) e =
      let b = both (is_plain t) (ends (width operators.Adding) u) e in
      sum_is t u r b.0 b.1 ∙ sym (atom_is t u r b.0 (ends_operand u (ends_product u b.1)))
  chain_single operators.Logical (t ∷ u ∷ r) e =
      let b = both (is_plain t) (ends (width operators.Logical) u) e in
      condition_is t u r b.0 b.1 ∙ sym (atom_is t u r b.0 (ends_operand u (ends_product u (ends_sum u b.1))))
