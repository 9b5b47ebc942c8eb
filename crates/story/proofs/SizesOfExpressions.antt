-- The code of an expression is shorter than its tree weighs.
use Rattle.std.proofs.Common.{◌≤◌, ◌+◌, ◌*◌, ℕ, List, [], ◌++◌, Bool, arith}
use Rattle.syntax_lexer.specs.declared.token.Position.{Position}
use Rattle.syntax_lexer.specs.Token.{Lexeme}
use Rattle.syntax_trees.specs.declared.tree.Binary.{Binary}
use Rattle.syntax_trees.specs.declared.tree.Equality.{Equality}
use Rattle.syntax_trees.specs.declared.tree.Comparison.{Comparison}
use Rattle.syntax_trees.specs.declared.tree.Containment.{Containment}
use Rattle.syntax_trees.specs.declared.tree.ObjectTest.{ObjectTest}
use Rattle.syntax_trees.specs.declared.tree.Prefix.{Prefix}
use Rattle.syntax_trees.specs.declared.tree.Relative.{Relative}
use Rattle.syntax_trees.specs.declared.tree.Step.{Step}
use Rattle.syntax_trees.specs.declared.tree.Width.{Width}
use Rattle.syntax_trees.specs.Tree.{NameTree, ExpressionTree, ExpressionTrees}
use Rattle.syntax_trees.specs.Tree as trees
use Rattle.syntax_expressions.specs.Grammar.{IsE, e_plain, e_assign, IsE1, e1_plain, e1_logical, IsN1, n1_plain, n1_not}
use Rattle.syntax_expressions.specs.Grammar.{IsE2, e2_plain, e2_compare, e2_equal, e2_contained, e2_tested, IsChoice}
use Rattle.syntax_expressions.specs.Grammar.{choice_last, choice_or, IsE3, e3_plain, e3_add, IsE4, e4_plain, e4_scale}
use Rattle.syntax_expressions.specs.Grammar.{IsN4, n4_plain, n4_complement, IsE5, e5_plain, e5_index, e5_entry, IsU}
use Rattle.syntax_expressions.specs.Grammar.{u_plain, u_minus, u_before, u_after, u_length, IsP, p_property, p_number}
use Rattle.syntax_expressions.specs.Grammar.{p_character, p_word, p_true, p_false, p_nothing, p_name, p_call}
use Rattle.syntax_expressions.specs.Grammar.{p_call_with, p_relative, p_parenthesised, IsArguments, arguments_last}
use Rattle.syntax_expressions.specs.Grammar.{arguments_comma}
use Rattle.syntax_directives.specs.Weight.{expression_weight, expression_weights}
use Rattle.meaning.specs.Accepted.{count_of}
use Rattle.checker_values.specs.Names.{Seen}
use Rattle.checker_values.specs.Expressions.{resolve, resolve_all}
use Rattle.code_drafts.specs.Items.{Item, Destination, push, alone, left_of, if_pushed, operand_count, value_items}
use Rattle.code_drafts.specs.Items.{branch_items, alone_items}
use Rattle.story.proofs.Most.{most_of, tokens, list_tokens, alternative_tokens, or_tokens, if_small}
use Rattle.story.proofs.BoundsOfForms.{two_small}
use Rattle.story.proofs.Bounds.{small}
use Rattle.story.proofs.SizesOfNames.{binding_few, assigned_tokens, tested_tokens}

-- in a routine that sees so much of the file
module _ (seen : Seen) where
  -- an expression has tokens enough
  pub record FitsExpression (e : ExpressionTree) : Type 0 where
    pub weighs : 32 * tokens (resolve seen e) ≤ expression_weight e

  pub record AllFit (es : ExpressionTrees) : Type 0 where
    pub arguments : 32 * list_tokens (resolve_all seen es) + 32 * count_of (resolve_all seen es) ≤ expression_weights
        es
    pub others : 32 * or_tokens (resolve_all seen es) ≤ expression_weights es

  -- the values with which one is compared
  pub record Sides (es : ExpressionTrees) : Type 0 where
    pub all : AllFit es
    pub first : 32 * alternative_tokens (resolve_all seen es) ≤ expression_weights es

  number_fits : {n : ℕ} → FitsExpression (trees.constant n)
  number_fits = record { weighs = omega arith }

  word_fits : {s : List ℕ} → FitsExpression (trees.word s)
  word_fits = record { weighs = omega arith }

  name_fits : {n : NameTree} → FitsExpression (trees.named n)
  name_fits {n} = record { weighs = omega (arith, binding_few seen.number (seen.look n.text)) }

  none_fit : AllFit trees.none
  none_fit = record { arguments = omega arith; others = omega arith }

  more_fit : {e : ExpressionTree} {es : ExpressionTrees} → FitsExpression e → AllFit es → AllFit (trees.more e es)
  more_fit a b =
      record { arguments = omega (arith, a.weighs, b.arguments); others = omega (arith, a.weighs, b.others) }

  sides_fit : {e : ExpressionTree} {es : ExpressionTrees} → FitsExpression e → AllFit es → Sides (trees.more e es)
  sides_fit a b = record { all = more_fit a b; first = omega (arith, a.weighs, b.others) }

  called : (n : NameTree) (es : ExpressionTrees) → AllFit es
      → 32 * tokens (resolve seen (trees.call n es)) ≤ expression_weight (trees.call n es)
  called n trees.none a = omega arith
  called n (trees.more e es) a = omega (arith, a.arguments)

  call_fits : {n : NameTree} {es : ExpressionTrees} → AllFit es → FitsExpression (trees.call n es)
  call_fits {n} {es} a = record { weighs = called n es a }

  index_fits : {n : NameTree} {width : Width} {e : ExpressionTree} → FitsExpression e
      → FitsExpression (trees.index n width e)
  index_fits a = record { weighs = omega (arith, a.weighs) }

  relative_fits : {r : Relative} {e : ExpressionTree} → FitsExpression e → FitsExpression (trees.relative_of r e)
  relative_fits a = record { weighs = omega (arith, a.weighs) }

  property_fits : {e : ExpressionTree} {n : NameTree} → FitsExpression e → FitsExpression (trees.property e n)
  property_fits a = record { weighs = omega (arith, a.weighs) }

  length_fits : {e : ExpressionTree} {n : NameTree} → FitsExpression e → FitsExpression (trees.property_length e n)
  length_fits a = record { weighs = omega (arith, a.weighs) }

  entry_fits : {e i : ExpressionTree} {n : NameTree} → FitsExpression e → FitsExpression i
      → FitsExpression (trees.property_entry e n i)
  entry_fits a b = record { weighs = omega (arith, a.weighs, b.weighs) }

  parenthesised_fits : {e : ExpressionTree} → FitsExpression e → FitsExpression (trees.parenthesised e)
  parenthesised_fits a = record { weighs = omega (arith, a.weighs) }

  prefixed_fits : {op : Prefix} {e : ExpressionTree} → FitsExpression e → FitsExpression (trees.prefixed op e)
  prefixed_fits a = record { weighs = omega (arith, a.weighs) }

  -- an expression has a token at least
  some_weight : (e : ExpressionTree) → 32 ≤ expression_weight e
  some_weight (trees.constant n) = omega arith
  some_weight (trees.word s) = omega arith
  some_weight (trees.named n) = omega arith
  some_weight (trees.call n trees.none) = omega arith
  some_weight (trees.call n (trees.more e es)) = omega arith
  some_weight (trees.index n width e) = omega arith
  some_weight (trees.parenthesised e) = omega arith
  some_weight (trees.relative_of r e) = omega arith
  some_weight (trees.property e n) = omega arith
  some_weight (trees.property_length e n) = omega arith
  some_weight (trees.property_entry e n i) = omega arith
  some_weight (trees.prefixed op e) = omega arith
  some_weight (trees.step_before op p e) = omega arith
  some_weight (trees.step_after e op p) = omega arith
  some_weight (trees.binary op a b) = omega arith
  some_weight (trees.compare op a b) = omega arith
  some_weight (trees.equal op a bs) = let h = some_weight a in omega (arith, h)
  some_weight (trees.contained op a b) = omega arith
  some_weight (trees.tested test e n) = omega arith
  some_weight (trees.assign a p b) = omega arith

  step_before_fits : {op : Step} {p : Position} {e : ExpressionTree} → FitsExpression e
      → FitsExpression (trees.step_before op p e)
  step_before_fits {e = e} a = record { weighs = omega (arith, some_weight e) }

  step_after_fits : {op : Step} {p : Position} {e : ExpressionTree} → FitsExpression e
      → FitsExpression (trees.step_after e op p)
  step_after_fits {e = e} a = record { weighs = omega (arith, some_weight e) }

  binary_fits : {op : Binary} {a b : ExpressionTree} → FitsExpression a → FitsExpression b
      → FitsExpression (trees.binary op a b)
  binary_fits f g = record { weighs = omega (arith, f.weighs, g.weighs) }

  compare_fits : {op : Comparison} {a b : ExpressionTree} → FitsExpression a → FitsExpression b
      → FitsExpression (trees.compare op a b)
  compare_fits f g = record { weighs = omega (arith, f.weighs, g.weighs) }

  contained_fits : {op : Containment} {a b : ExpressionTree} → FitsExpression a → FitsExpression b
      → FitsExpression (trees.contained op a b)
  contained_fits f g = record { weighs = omega (arith, f.weighs, g.weighs) }

  tested_fits : {test : ObjectTest} {e : ExpressionTree} {n : NameTree} → FitsExpression e
      → FitsExpression (trees.tested test e n)
  tested_fits {test} {e} {n} f =
      record { weighs = omega (arith, f.weighs, tested_tokens test (resolve seen e) (seen.look n.text)) }

  equal_fits : {op : Equality} {a : ExpressionTree} {bs : ExpressionTrees} → FitsExpression a → Sides bs
      → FitsExpression (trees.equal op a bs)
  equal_fits f g = record { weighs = omega (arith, f.weighs, g.first) }

  assign_fits : {p : Position} {a b : ExpressionTree} → FitsExpression a → FitsExpression b
      → FitsExpression (trees.assign a p b)
  assign_fits {a = a} {b = b} f g =
      record { weighs = omega (arith, f.weighs, g.weighs, assigned_tokens (resolve seen a) (resolve seen b)) }

  mutual
    pub fits_E : {ts r : List Lexeme} {e : ExpressionTree} → IsE ts e r → FitsExpression e
    fits_E (e_plain a) = fits_E1 a
    fits_E (e_assign a b) = assign_fits (fits_E1 a) (fits_E b)

    pub fits_E1 : {ts r : List Lexeme} {e : ExpressionTree} → IsE1 ts e r → FitsExpression e
    fits_E1 (e1_plain a) = fits_N1 a
    fits_E1 (e1_logical a o b) = binary_fits (fits_E1 a) (fits_N1 b)

    fits_N1 : {ts r : List Lexeme} {e : ExpressionTree} → IsN1 ts e r → FitsExpression e
    fits_N1 (n1_plain a) = fits_E2 a
    fits_N1 (n1_not a) = prefixed_fits (fits_N1 a)

    fits_E2 : {ts r : List Lexeme} {e : ExpressionTree} → IsE2 ts e r → FitsExpression e
    fits_E2 (e2_plain a) = fits_E3 a
    fits_E2 (e2_compare a o b) = compare_fits (fits_E3 a) (fits_E3 b)
    fits_E2 (e2_equal a o b) = equal_fits (fits_E3 a) (fits_Choice b)
    fits_E2 (e2_contained a o b) = contained_fits (fits_E3 a) (fits_E3 b)
    fits_E2 (e2_tested a o) = tested_fits (fits_E3 a)

    fits_Choice : {ts r : List Lexeme} {es : ExpressionTrees} → IsChoice ts es r → Sides es
    fits_Choice (choice_last a) = sides_fit (fits_E3 a) none_fit
    fits_Choice (choice_or a b) = sides_fit (fits_E3 a) (fits_Choice b).all

    pub fits_E3 : {ts r : List Lexeme} {e : ExpressionTree} → IsE3 ts e r → FitsExpression e
    fits_E3 (e3_plain a) = fits_E4 a
    fits_E3 (e3_add a o b) = binary_fits (fits_E3 a) (fits_E4 b)

    fits_E4 : {ts r : List Lexeme} {e : ExpressionTree} → IsE4 ts e r → FitsExpression e
    fits_E4 (e4_plain a) = fits_N4 a
    fits_E4 (e4_scale a o b) = binary_fits (fits_E4 a) (fits_N4 b)

    fits_N4 : {ts r : List Lexeme} {e : ExpressionTree} → IsN4 ts e r → FitsExpression e
    fits_N4 (n4_plain a) = fits_E5 a
    fits_N4 (n4_complement a) = prefixed_fits (fits_N4 a)

    fits_E5 : {ts r : List Lexeme} {e : ExpressionTree} → IsE5 ts e r → FitsExpression e
    fits_E5 (e5_plain a) = fits_U a
    fits_E5 (e5_index o a) = index_fits (fits_U a)
    fits_E5 (e5_entry a b) = entry_fits (fits_P a) (fits_U b)

    fits_U : {ts r : List Lexeme} {e : ExpressionTree} → IsU ts e r → FitsExpression e
    fits_U (u_plain a) = fits_P a
    fits_U (u_minus a) = prefixed_fits (fits_U a)
    fits_U (u_before o a) = step_before_fits (fits_P a)
    fits_U (u_after a o) = step_after_fits (fits_P a)
    fits_U (u_length a) = length_fits (fits_P a)

    fits_P : {ts r : List Lexeme} {e : ExpressionTree} → IsP ts e r → FitsExpression e
    fits_P (p_property a) = property_fits (fits_P a)
    fits_P p_number = number_fits
    fits_P p_character = number_fits
    fits_P p_word = word_fits
    fits_P p_true = number_fits
    fits_P p_false = number_fits
    fits_P p_nothing = number_fits
    fits_P p_name = name_fits
    fits_P p_call = call_fits none_fit
    fits_P (p_call_with a) = call_fits (fits_Arguments a)
    fits_P (p_relative o a) = relative_fits (fits_E a)
    fits_P (p_parenthesised a) = parenthesised_fits (fits_E a)

    fits_Arguments : {ts r : List Lexeme} {es : ExpressionTrees} → IsArguments ts es r → AllFit es
    fits_Arguments (arguments_last a) = more_fit (fits_E a) none_fit
    fits_Arguments (arguments_comma a b) = more_fit (fits_E a) (fits_Arguments b)

  -- The items of an expression

  pub few_value : (e : ExpressionTree) → FitsExpression e → (d : Destination) (at : ℕ)
      → most_of (value_items at (resolve seen e) d) + 20 ≤ expression_weight e
  few_value e f d at = let s = (small (resolve seen e)).value d at in omega (arith, s, f.weighs)

  pub few_branch : (e : ExpressionTree) → FitsExpression e → (when : Bool) (at t : ℕ)
      → most_of (branch_items at (resolve seen e) when t) + 20 ≤ expression_weight e
  few_branch e f when at t = let s = (small (resolve seen e)).branch when at t in omega (arith, s, f.weighs)

  pub few_alone : (e : ExpressionTree) → FitsExpression e → (at : ℕ)
      → most_of (alone_items at (resolve seen e)) + 20 ≤ expression_weight e
  few_alone e f at = if_small (alone (resolve seen e)) (value_items at (resolve seen e) push) (expression_weight e)
      (few_value e f push at)

  -- two operands, and what is done with them
  pub few_two : (a b : ExpressionTree) → FitsExpression a → FitsExpression b → (at : ℕ) (tail : List Item)
      → most_of (if_pushed (left_of (resolve seen a) (resolve seen b)) (value_items at (resolve seen a) push) []
      ++ (if_pushed (alone (resolve seen b)) (value_items
      (at + operand_count (resolve seen a) (left_of (resolve seen a) (resolve seen b))) (resolve seen b) push) []
      ++ tail)) + 40
      ≤ expression_weight a + expression_weight b + most_of tail
  few_two a b f g at tail =
      let v = resolve seen a in
      let w = resolve seen b in
      two_small (left_of v w) (alone w) _ _ tail _ _ (few_value a f push at)
      (few_value b g push (at + operand_count v (left_of v w)))
