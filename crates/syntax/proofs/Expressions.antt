-- Expressions, level by level and to any depth.
use Rattle.std.proofs.Common.{◌≡◌, ℕ, zero, suc, ◌≤◌, Bool, true, false, cond, List, [], ◌∷◌, length, Option, Some}
use Rattle.std.proofs.Common.{None, Result, Ok, Err, refl, sym, ◌∙◌, arith}
use Rattle.syntax_lexer.specs.declared.token.Position.{Position}
use Rattle.syntax_lexer.specs.declared.token.Sign.TheVariants as s
use Rattle.syntax_lexer.specs.declared.token.Word.TheVariants as w
use Rattle.syntax_lexer.specs.Token.{Lexeme, name, number, character, dictionary_word, reserved, sign}
use Rattle.syntax_lexer.specs.Token.{position_of}
use Rattle.syntax_trees.specs.declared.tree.Binary.{Binary}
use Rattle.syntax_trees.specs.declared.tree.Equality.{Equality}
use Rattle.syntax_trees.specs.declared.tree.Prefix.TheVariants as op
use Rattle.syntax_trees.specs.declared.tree.Relative.{Relative}
use Rattle.syntax_trees.specs.Tree.{NameTree, ExpressionTree, constant, word, named, call, index, parenthesised}
use Rattle.syntax_trees.specs.Tree.{prefixed, relative_of, property, property_length, property_entry, step_before}
use Rattle.syntax_trees.specs.Tree.{step_after, binary, compare, equal, contained, tested, assign, none}
use Rattle.syntax_trees.specs.Views.{trees_of}
use Rattle.syntax_trees.specs.Stop.{Stop, unfit}
use Rattle.syntax_trees.specs.Parse.{Parse, ◌>>=◌, head, tail, is_sign, is_word, expect, list}
use Rattle.syntax_expressions.specs.Operators.{logical, comparing, equating, containing, testing, adding, scaling}
use Rattle.syntax_expressions.specs.Operators.{stepping, prefixes, relating_word, indexing, begins_expression}
use Rattle.syntax_expressions.specs.Parse as parse
use Rattle.syntax_expressions.specs.PartParse.{expect_name, property_next, properties, entry_of, with_length, tested_on}
use Rattle.syntax_expressions.specs.PartParse.{tested_next, word_value, constant_on, step_on, after_operand, array_of, array_at}
use Rattle.syntax_expressions.specs.Parse.{chain_on, chain, Level, whole, after_name, in_parentheses, object_relative, word_on, atom}
use Rattle.syntax_expressions.specs.Parse.{postfix, unary_on, entry, after_owner, object_entry, array_entry_on, factor}
use Rattle.syntax_expressions.specs.Parse.{after_left, compared_on, equate_on, equated_on, contained_on, logical_operand, right_side}
use Rattle.syntax_expressions.specs.Parse.{assignment, rest_of_call, nested}
use Rattle.syntax_statements.specs.PartGrammar.{has_effect}
use Rattle.syntax.proofs.Frames.{Frame, token, any_name, close, primary, unary, indexed, complement}
use Rattle.syntax.proofs.Frames.{product, sum}
use Rattle.syntax.proofs.Frames.{comparison, negation, condition, expression, arguments, name_after}
use Rattle.syntax.proofs.Frames.{array_after}
use Rattle.syntax.proofs.Frames.{properties_left, suffix_left, owned_left, scale_left, add_left}
use Rattle.syntax.proofs.Frames.{compare_left, or_left}
use Rattle.syntax.proofs.Frames.{logic_left, assign_left, arguments_left, set, Stack, given}
use Rattle.syntax.proofs.Frames.{on_unindexed}
use Rattle.syntax.proofs.Machine.{shift, accepts}
use Rattle.syntax.proofs.Frames.{less}
use Rattle.syntax.proofs.Machine.{stop}
use Rattle.syntax.proofs.After.{Follows, no_effect, onward, follows_read, follows_unfit, follows_deep}
use Rattle.syntax.proofs.After.{follows_as, shorter}
use Rattle.syntax.proofs.After.{follows_then, follows_by, follows_given, follows_if, set_goes, follows_set}
use Rattle.syntax.proofs.After.{follows_made}
use Rattle.syntax.proofs.After.{follows_expect, list_follows, stops_alike}

-- ---- names, and what follows an object

pub name_follows : (b : Bool) (k : Stack) (ts : List Lexeme)
    → Follows (stop b (any_name ∷ k) ts) no_effect k (tail ts) (expect_name ts)
unfolding stop shift accepts expect_name
name_follows b k [] = follows_unfit refl
name_follows b k (name n p ∷ m) = follows_read _ m refl (omega arith)
name_follows b k (number n p ∷ m) = follows_unfit refl
name_follows b k _ = follows_unfit refl

-- a name, of which a tree is made that has no effect
made_of_name : (k : Stack) (ts : List Lexeme) (make : NameTree → ExpressionTree)
    → ((n : NameTree) → false ≡ has_effect (make n))
    → Follows (stop false (any_name ∷ k) ts) has_effect k ts (expect_name ts >>= λ x. Ok (make x.0, x.1))
made_of_name k ts make same = follows_then _ (follows_as refl (shorter ts) (name_follows false k ts))
    (λ n r h. follows_read (make n) r (rw (sym (same n)) refl) (omega arith))

properties_follow : (n : ℕ) (k : Stack) (e : ExpressionTree) (ts : List Lexeme) → length ts ≤ n
    → Follows (stop (has_effect e) (properties_left ∷ k) ts) has_effect k ts (properties n e ts)
unfolding stop shift accepts properties property_next
properties_follow zero k e [] le = follows_read e [] refl (omega arith)
properties_follow zero k e (t ∷ m) le = absurd (omega (arith, le))
properties_follow (suc n) k e [] le = follows_read e [] refl (omega arith)
properties_follow (suc n) k e (t ∷ m) le = follows_by (onward m) (is_sign s.Dot t) _ _
    (λ is. follows_as {us = m} refl (omega arith)
    (follows_then _ (made_of_name (properties_left ∷ k) m (λ x. property e x) (λ x. refl))
    (λ a r h. properties_follow n k a r (omega (arith, le, h)))))
    (λ is. follows_read e (t ∷ m) refl (omega arith))

lengthened_follows : (k : Stack) (e : ExpressionTree) (t : Lexeme) (m : List Lexeme)
    → Follows (onward m (cond (is_sign s.DotHash t) (Some (any_name ∷ k)) (shift (has_effect e) k t))) has_effect k
    (t ∷ m) (with_length e (t ∷ m))
unfolding stop with_length
lengthened_follows k e t m = follows_by (onward m) (is_sign s.DotHash t) _ _
    (λ is. follows_as {us = m} refl (omega arith) (made_of_name k m (λ x. property_length e x) (λ x. refl)))
    (λ is. follows_read e (t ∷ m) refl (omega arith))

suffixed_follows : (k : Stack) (e : ExpressionTree) (ts : List Lexeme)
    → Follows (stop (has_effect e) (suffix_left ∷ k) ts) has_effect k ts (after_operand e ts)
unfolding stop shift accepts after_operand with_length
suffixed_follows k e [] = follows_read e [] refl (omega arith)
suffixed_follows k e (t ∷ m) = follows_given (onward m) (stepping t) (λ o. step_on e (t ∷ m) o)
    (λ op is. follows_read (step_after e op (position_of t)) m (set_goes false true k m) (omega arith))
    (λ is. lengthened_follows k e t m)

-- ---- chains of operators of one level

module _ (operator : Lexeme → Option Binary) (operand : Parse ExpressionTree) (first more : Frame)
    (reads : (k : Stack) (ts : List Lexeme)
    → Follows (stop false (first ∷ k) ts) has_effect k (tail ts) (operand ts))
    (step : (b : Bool) (k : Stack) (t : Lexeme)
    → shift b (more ∷ k) t ≡ given (operator t) (Some (first ∷ set false ∷ more ∷ k)) (shift b k t))
    (ends : (b : Bool) (k : Stack) → accepts b (more ∷ k) ≡ accepts b k) (never : operator (head []) ≡ None) where
  chain_follows : (n : ℕ) (k : Stack) (e : ExpressionTree) (ts : List Lexeme) → length ts ≤ n
      → Follows (stop (has_effect e) (more ∷ k) ts) has_effect k ts (chain operator operand n e ts)
  unfolding stop chain
  chain_follows zero k e [] le = rw (ends (has_effect e) k) (follows_read e [] refl (omega arith))
  chain_follows zero k e (t ∷ m) le = absurd (omega (arith, le))
  chain_follows (suc n) k e [] le = rw (ends (has_effect e) k, never) (follows_read e [] refl (omega arith))
  chain_follows (suc n) k e (t ∷ m) le = rw (step (has_effect e) k t)
      (follows_given (onward m) (operator t)
      (λ o. chain_on (chain operator operand n) operand e (t ∷ m) o)
      (λ o is. follows_as {us = m} refl (omega arith)
      (follows_then _ (follows_as refl (shorter m) (reads (set false ∷ more ∷ k) m))
      (λ a r h. follows_as (set_goes (has_effect a) false (more ∷ k) r) (omega arith)
      (chain_follows n k (binary o e a) r (omega (arith, le, h))))))
      (λ is. follows_read e (t ∷ m) refl (omega arith)))

-- ---- after `)`

-- an expression in parentheses has the effect of what they enclose
close_follows : (b : Bool) (k : Stack) (ts : List Lexeme) {A : Type 0} {g : A → Bool} {j : Stack}
    (f : List Lexeme → Result (A × List Lexeme) Stop)
    → ((r : List Lexeme) → length r ≤ length (tail ts) → Follows (stop b k r) g j r (f r))
    → Follows (stop b (close ∷ k) ts) g j (tail ts) (expect s.CloseParenthesis ts >>= f)
unfolding stop shift accepts expect
close_follows b k [] f next = follows_unfit refl
close_follows b k (t ∷ m) {A} {g} {j} f next = go (is_sign s.CloseParenthesis t)
  where
    go : (d : Bool) → Follows (onward m (cond d (Some (set b ∷ k)) None)) g j m
        (cond d (Ok m) (Err (unfit (suc (length m)))) >>= f)
    go true = follows_as (set_goes false b k m) (omega arith) (next m (omega arith))
    go false = follows_unfit refl

-- ---- a token with which no expression begins

unfit_alone : (k : Stack) (ts : List Lexeme) → stop false (expression ∷ k) ts
    ≡ cond (begins_expression (head ts)) (stop false (expression ∷ k) ts) (Some (length ts))
unfolding stop shift accepts
unfit_alone k [] = refl
unfit_alone k (reserved w.True p ∷ m) = refl
unfit_alone k (sign s.Minus p ∷ m) = refl
unfit_alone k (name n p ∷ m) = refl
unfit_alone k _ = refl

pub refused_expression : (k : Stack) (ts : List Lexeme) → begins_expression (head ts) ≡ false
    → stop false (expression ∷ k) ts ≡ Some (length ts)
refused_expression k ts is = unfit_alone k ts ∙ rw is refl

-- ---- each level, over those one nesting further in

pub record Inner (below : Level → ℕ → Parse ExpressionTree) : Type 0 where
  pub in_whole : (opening : ℕ) (k : Stack) (ts : List Lexeme)
      → Follows (stop false (expression ∷ k) ts) has_effect k (tail ts) (below whole opening ts)
  pub in_negation : (opening : ℕ) (k : Stack) (ts : List Lexeme)
      → Follows (stop false (negation ∷ k) ts) has_effect k (tail ts) (below parse.negation opening ts)
  pub in_complement : (opening : ℕ) (k : Stack) (ts : List Lexeme)
      → Follows (stop false (complement ∷ k) ts) has_effect k (tail ts) (below parse.complement opening ts)
  pub in_prefix : (opening : ℕ) (k : Stack) (ts : List Lexeme)
      → Follows (stop false (unary ∷ k) ts) has_effect k (tail ts) (below parse.prefix opening ts)
  pub in_operand : (opening : ℕ) (k : Stack) (ts : List Lexeme)
      → Follows (stop false (primary ∷ k) ts) has_effect k (tail ts) (below parse.operand opening ts)
  pub in_arguments : (opening : ℕ) (n : NameTree) (k : Stack) (ts : List Lexeme)
      → Follows (stop false (arguments ∷ set true ∷ k) ts) has_effect k (tail ts) (below (parse.arguments n) opening ts)

module _ (below : Level → ℕ → Parse ExpressionTree) (inner : Inner below) where
  after_name_follows : (k : Stack) (n : NameTree) (ts : List Lexeme)
      → Follows (stop false (name_after ∷ k) ts) has_effect k ts (after_name below n ts)
  unfolding stop shift accepts after_name
  after_name_follows k n [] = follows_read (named n) [] refl (omega arith)
  after_name_follows k n (t ∷ m) = follows_by (onward m) (is_sign s.OpenParenthesis t) _ _
      (λ is. follows_as refl (omega (arith, shorter m)) (inner.in_arguments _ n k m))
      (λ is. follows_read (named n) (t ∷ m) refl (omega arith))

  enclosed_follows : (opening : ℕ) (k : Stack) (ts : List Lexeme)
      → Follows (stop false (expression ∷ close ∷ k) ts) has_effect k ts (in_parentheses below opening ts)
  unfolding in_parentheses
  enclosed_follows opening k ts = follows_then _ (follows_as refl (shorter ts) (inner.in_whole opening (close ∷ k) ts))
      (λ a r h. follows_as refl (shorter r) (close_follows (has_effect a) k r _
      (λ u g. follows_read (parenthesised a) u refl (omega arith))))

  related_follows : (which : Relative) (k : Stack) (ts : List Lexeme)
      → Follows (stop false (token s.OpenParenthesis ∷ expression ∷ close ∷ set false ∷ k) ts) has_effect k ts
      (object_relative below which ts)
  unfolding stop shift accepts object_relative
  related_follows which k [] = follows_unfit refl
  related_follows which k (t ∷ m) = follows_by (onward m) (is_sign s.OpenParenthesis t) _ _
      (λ is. follows_as {us = m} refl (omega arith)
      (follows_then _ (follows_as refl (shorter m) (inner.in_whole _ (close ∷ set false ∷ k) m))
      (λ a r h. follows_as refl (shorter r) (close_follows (has_effect a) (set false ∷ k) r _
      (λ u g. follows_read (relative_of which a) u (set_goes (has_effect a) false k u) (omega arith))))))
      (λ is. follows_unfit refl)

  atom_follows : (k : Stack) (ts : List Lexeme)
      → Follows (stop false (primary ∷ k) ts) has_effect (properties_left ∷ k) (tail ts) (atom below ts)
  unfolding stop shift accepts atom
  atom_follows k [] = follows_unfit refl
  atom_follows k (number n p ∷ m) = follows_read (constant n) m refl (omega arith)
  atom_follows k (character c p ∷ m) = follows_read (constant c) m refl (omega arith)
  atom_follows k (dictionary_word f p ∷ m) = follows_read (word f) m refl (omega arith)
  atom_follows k (reserved w p ∷ m) =
      follows_given (onward m) (relating_word w) (λ o. word_on below w o (reserved w p ∷ m))
      (λ which is. related_follows which (properties_left ∷ k) m)
      (λ is. follows_given (onward m) (word_value w) (λ o. constant_on o (reserved w p ∷ m))
      (λ n is. follows_read (constant n) m refl (omega arith)) (λ is. follows_unfit refl))
  atom_follows k (name n p ∷ m) =
      after_name_follows (properties_left ∷ k) (record { text = n; position = p }) m
  atom_follows k (sign s.OpenParenthesis p ∷ m) = enclosed_follows _ (properties_left ∷ k) m
  atom_follows k _ = follows_unfit refl

  primary_follows : (k : Stack) (ts : List Lexeme)
      → Follows (stop false (primary ∷ k) ts) has_effect k (tail ts) (parse.primary below ts)
  unfolding parse.primary
  primary_follows k ts =
      follows_then _ (atom_follows k ts) (λ a r h. properties_follow (length r) k a r (omega arith))

  stepped_follows : (k : Stack) (ts : List Lexeme)
      → Follows (stop false (primary ∷ suffix_left ∷ k) ts) has_effect k (tail ts) (postfix below ts)
  unfolding postfix
  stepped_follows k ts = follows_then _ (primary_follows (suffix_left ∷ k) ts) (λ a r h. suffixed_follows k a r)

  unary_follows : (k : Stack) (ts : List Lexeme)
      → Follows (stop false (unary ∷ k) ts) has_effect k (tail ts) (parse.unary below ts)
  unfolding stop shift accepts parse.unary
  unary_follows k [] = stepped_follows k []
  unary_follows k (t ∷ m) = follows_by (onward m) (is_sign s.Minus t) _ _
      (λ is. follows_made false (λ a. prefixed op.Minus a) (λ a. refl)
      (follows_as refl (shorter m) (inner.in_prefix _ (set false ∷ k) m)))
      (λ is. follows_given (onward m) (stepping t) (λ o. unary_on below (t ∷ m) o)
      (λ o is. follows_made true (λ a. step_before o (position_of t) a) (λ a. refl)
      (follows_as refl (shorter m) (inner.in_operand _ (set true ∷ k) m)))
      (λ is. stepped_follows k (t ∷ m)))

  entry_follows : (k : Stack) (e : ExpressionTree) (ts : List Lexeme)
      → Follows (stop false (any_name ∷ token s.LongArrow ∷ unary ∷ set false ∷ k) ts) has_effect k ts
      (entry below e ts)
  unfolding entry entry_of
  entry_follows k e ts =
      follows_then _ (follows_then {k = unary ∷ set false ∷ k} _
      (follows_as refl (shorter ts) (name_follows false (token s.LongArrow ∷ unary ∷ set false ∷ k) ts))
      (λ n r h. follows_as refl (shorter r) (follows_expect s.LongArrow false (unary ∷ set false ∷ k) r _
      (λ u g. follows_read {effect = no_effect} n u refl (omega arith)))))
      (λ n r h. follows_made false (λ a. property_entry e n a) (λ a. refl)
      (follows_as refl (shorter r) (unary_follows (set false ∷ k) r)))

  owned_follows : (k : Stack) (e : ExpressionTree) (ts : List Lexeme)
      → Follows (stop (has_effect e) (owned_left ∷ k) ts) has_effect k ts (after_owner below e ts)
  unfolding stop shift accepts after_owner after_operand with_length
  owned_follows k e [] = follows_read e [] refl (omega arith)
  owned_follows k e (t ∷ m) = follows_by (onward m) (is_sign s.DotAmpersand t) _ _
      (λ is. follows_as {us = m} refl (omega arith) (entry_follows k e m))
      (λ is. suffixed_follows k e (t ∷ m))

  -- an operand that is no entry of an array
  unindexed_follows : (k : Stack) (t : Lexeme) (m : List Lexeme)
      → Follows (onward m (on_unindexed t k)) has_effect k m (object_entry below (t ∷ m))
  unfolding stop shift accepts object_entry
  unindexed_follows k t m = follows_by (onward m) (prefixes t) _ _
      (λ is. unary_follows k (t ∷ m))
      (λ is. follows_then _ (primary_follows (owned_left ∷ k) (t ∷ m)) (λ a r h. owned_follows k a r))

  -- after a name
  past_name : (k : Stack) (n : List ℕ) (p : Position) (m : List Lexeme)
      → Follows (stop false (array_after ∷ properties_left ∷ owned_left ∷ k) m) has_effect k m
      (parse.array_entry below (name n p ∷ m))
  unfolding stop shift accepts parse.array_entry array_at less
  past_name k n p [] = unindexed_follows k (name n p) []
  past_name k n p (u ∷ m) =
      follows_given (onward m) (indexing u) (λ o. array_entry_on below (name n p ∷ u ∷ m) (array_of (name n p) o))
      (λ width is. follows_made false (λ a. index (record { text = n; position = p }) width a) (λ a. refl)
      (follows_as refl (omega (arith, shorter m)) (unary_follows (set false ∷ k) m)))
      (λ is. unindexed_follows k (name n p) (u ∷ m))

  indexed_follows : (k : Stack) (ts : List Lexeme)
      → Follows (stop false (indexed ∷ k) ts) has_effect k (tail ts) (parse.array_entry below ts)
  unfolding stop shift accepts parse.array_entry array_at object_entry
  indexed_follows k [] = follows_then _ (primary_follows (owned_left ∷ k) []) (λ a r h. owned_follows k a r)
  indexed_follows k (name n p ∷ m) = past_name k n p m
  indexed_follows k (t ∷ m) = unindexed_follows k t m

  complemented_follows : (k : Stack) (ts : List Lexeme)
      → Follows (stop false (complement ∷ k) ts) has_effect k (tail ts) (factor below ts)
  unfolding stop shift accepts factor
  complemented_follows k [] = indexed_follows k []
  complemented_follows k (t ∷ m) = follows_by (onward m) (is_sign s.Tilde t) _ _
      (λ is. follows_made false (λ a. prefixed op.Complement a) (λ a. refl)
      (follows_as refl (shorter m) (inner.in_complement _ (set false ∷ k) m)))
      (λ is. indexed_follows k (t ∷ m))

  product_follows : (k : Stack) (ts : List Lexeme)
      → Follows (stop false (product ∷ k) ts) has_effect k (tail ts) (parse.product below ts)
  unfolding shift accepts parse.product
  product_follows k ts =
      follows_as (stops_alike false false (product ∷ k) (complement ∷ scale_left ∷ k) refl (λ t. refl) ts) (omega arith)
      (follows_then _ (complemented_follows (scale_left ∷ k) ts)
      (λ a r h. chain_follows scaling (factor below) complement scale_left complemented_follows
      (λ b k t. refl) (λ b k. refl) refl (length r) k a r (omega arith)))

  sum_follows : (k : Stack) (ts : List Lexeme)
      → Follows (stop false (sum ∷ k) ts) has_effect k (tail ts) (parse.sum below ts)
  unfolding shift accepts parse.sum
  sum_follows k ts =
      follows_as (stops_alike false false (sum ∷ k) (product ∷ add_left ∷ k) refl (λ t. refl) ts) (omega arith)
      (follows_then _ (product_follows (add_left ∷ k) ts)
      (λ a r h. chain_follows adding (parse.product below) product add_left product_follows
      (λ b k t. refl) (λ b k. refl) refl (length r) k a r (omega arith)))

  -- a sum that is compared, without what it has for an effect
  sum_quiet : (k : Stack) (ts : List Lexeme)
      → Follows (stop false (sum ∷ set false ∷ k) ts) no_effect k (tail ts) (parse.sum below ts)
  sum_quiet k ts = follows_set (sum_follows (set false ∷ k) ts)

  equated_follows : (k : Stack) (e : ExpressionTree) (o : Equality) (ts : List Lexeme)
      → Follows (stop false (sum ∷ set false ∷ or_left ∷ k) ts) has_effect k (tail ts) (equate_on below e o ts)
  unfolding shift accepts equate_on
  equated_follows k e o ts = follows_then _
      (list_follows (parse.sum below) (λ j. sum ∷ set false ∷ j) or_left sum_quiet (is_word w.Or)
      (λ k t. refl) (λ k. refl) refl k ts)
      (λ es r h. follows_read (equal o e (trees_of es)) r refl (omega arith))

  compared_follows : (k : Stack) (e : ExpressionTree) (ts : List Lexeme)
      → Follows (stop (has_effect e) (compare_left ∷ k) ts) has_effect k ts (after_left below e ts)
  unfolding stop shift accepts after_left tested_next
  compared_follows k e [] = follows_read e [] refl (omega arith)
  compared_follows k e (t ∷ m) =
      follows_given (onward m) (comparing t) (λ o. compared_on below e (t ∷ m) o)
      (λ o is. side (λ a. compare o e a) (λ a. refl))
      (λ is. follows_given (onward m) (equating t) (λ o. equated_on below e (t ∷ m) o)
      (λ o is. follows_as refl (omega (arith, shorter m)) (equated_follows k e o m))
      (λ is. follows_given (onward m) (containing t) (λ o. contained_on below e (t ∷ m) o)
      (λ o is. side (λ a. contained o e a) (λ a. refl))
      (λ is. follows_given (onward m) (testing t) (λ o. tested_on e (t ∷ m) o)
      (λ o is. follows_as {us = m} refl (omega arith) (made_of_name k m (λ x. tested o e x) (λ x. refl)))
      (λ is. follows_read e (t ∷ m) refl (omega arith)))))
    where
      side : (make : ExpressionTree → ExpressionTree) → ((a : ExpressionTree) → false ≡ has_effect (make a))
          → Follows (stop false (sum ∷ set false ∷ k) m) has_effect k (t ∷ m)
          (parse.sum below m >>= λ x. Ok (make x.0, x.1))
      side make same = follows_made false make same
          (follows_as refl (omega (arith, shorter m)) (sum_follows (set false ∷ k) m))

  comparison_follows : (k : Stack) (ts : List Lexeme)
      → Follows (stop false (comparison ∷ k) ts) has_effect k (tail ts) (parse.comparison below ts)
  unfolding shift accepts parse.comparison
  comparison_follows k ts =
      follows_as (stops_alike false false (comparison ∷ k) (sum ∷ compare_left ∷ k) refl (λ t. refl) ts) (omega arith)
      (follows_then _ (sum_follows (compare_left ∷ k) ts) (λ a r h. compared_follows k a r))

  negated_follows : (k : Stack) (ts : List Lexeme)
      → Follows (stop false (negation ∷ k) ts) has_effect k (tail ts) (logical_operand below ts)
  unfolding stop shift accepts logical_operand
  negated_follows k [] = comparison_follows k []
  negated_follows k (t ∷ m) = follows_by (onward m) (is_sign s.Not t) _ _
      (λ is. follows_made false (λ a. prefixed op.Not a) (λ a. refl)
      (follows_as refl (shorter m) (inner.in_negation _ (set false ∷ k) m)))
      (λ is. comparison_follows k (t ∷ m))

  condition_over : (k : Stack) (ts : List Lexeme)
      → Follows (stop false (condition ∷ k) ts) has_effect k (tail ts) (parse.condition below ts)
  unfolding shift accepts parse.condition
  condition_over k ts =
      follows_as (stops_alike false false (condition ∷ k) (negation ∷ logic_left ∷ k) refl (λ t. refl) ts) (omega arith)
      (follows_then _ (negated_follows (logic_left ∷ k) ts)
      (λ a r h. chain_follows logical (logical_operand below) negation logic_left negated_follows
      (λ b k t. refl) (λ b k. refl) refl (length r) k a r (omega arith)))

  assigned_follows : (k : Stack) (ts : List Lexeme)
      → Follows (stop false (expression ∷ k) ts) has_effect k (tail ts) (right_side below ts)
  unfolding right_side
  assigned_follows k ts = follows_if (begins_expression (head ts)) _ _ (λ is. inner.in_whole _ k ts)
      (λ is. follows_unfit (refused_expression k ts is))

  assignment_follows : (k : Stack) (e : ExpressionTree) (ts : List Lexeme)
      → Follows (stop (has_effect e) (assign_left ∷ k) ts) has_effect k ts (assignment below e ts)
  unfolding stop shift accepts assignment
  assignment_follows k e [] = follows_read e [] refl (omega arith)
  assignment_follows k e (t ∷ m) = follows_by (onward m) (is_sign s.Assign t) _ _
      (λ is. follows_made true (λ a. assign e (position_of t) a) (λ a. refl)
      (follows_as refl (omega (arith, shorter m)) (assigned_follows (set true ∷ k) m)))
      (λ is. follows_read e (t ∷ m) refl (omega arith))

  expression_over : (k : Stack) (ts : List Lexeme)
      → Follows (stop false (expression ∷ k) ts) has_effect k (tail ts) (parse.expression below ts)
  unfolding shift accepts parse.expression
  expression_over k ts =
      follows_as (stops_alike false false (expression ∷ k) (condition ∷ assign_left ∷ k) refl (λ t. refl) ts)
      (omega arith)
      (follows_then _ (condition_over (assign_left ∷ k) ts) (λ a r h. assignment_follows k a r))

  -- the arguments of a call
  listed_follow : (f : NameTree) (k : Stack) (ts : List Lexeme)
      → Follows (stop false (expression ∷ set false ∷ arguments_left ∷ token s.CloseParenthesis ∷ set true ∷ k) ts)
      has_effect k (tail ts)
      (list (is_sign s.Comma) (parse.expression below) ts >>= λ x. expect s.CloseParenthesis x.1
      >>= λ r. Ok (call f (trees_of x.0), r))
  unfolding shift accepts
  listed_follow f k ts = follows_then _
      (list_follows (parse.expression below) (λ j. expression ∷ set false ∷ j) arguments_left
      (λ j us. follows_set (expression_over (set false ∷ j) us)) (is_sign s.Comma) (λ j t. refl) (λ j. refl) refl
      (token s.CloseParenthesis ∷ set true ∷ k) ts)
      (λ es r h. follows_as refl (shorter r)
      (follows_expect s.CloseParenthesis false (set true ∷ k) r _
      (λ u g. follows_read (call f (trees_of es)) u (set_goes false true k u) (omega arith))))

  called_follows : (f : NameTree) (k : Stack) (ts : List Lexeme)
      → Follows (stop false (arguments ∷ set true ∷ k) ts) has_effect k (tail ts) (rest_of_call below f ts)
  unfolding stop shift accepts rest_of_call
  called_follows f k [] = listed_follow f k []
  called_follows f k (t ∷ m) = follows_by (onward m) (is_sign s.CloseParenthesis t) _ _
      (λ is. follows_read (call f none) m (set_goes false true k m) (omega arith))
      (λ is. listed_follow f k (t ∷ m))

inner_follows : (d : ℕ) → Inner (nested d)
unfolding nested
inner_follows zero = record {
  in_whole = λ o k ts. follows_deep;
  in_negation = λ o k ts. follows_deep;
  in_complement = λ o k ts. follows_deep;
  in_prefix = λ o k ts. follows_deep;
  in_operand = λ o k ts. follows_deep;
  in_arguments = λ o n k ts. follows_deep;
}
inner_follows (suc d) = record {
  in_whole = λ o k ts. expression_over (nested d) (inner_follows d) k ts;
  in_negation = λ o k ts. negated_follows (nested d) (inner_follows d) k ts;
  in_complement = λ o k ts. complemented_follows (nested d) (inner_follows d) k ts;
  in_prefix = λ o k ts. unary_follows (nested d) (inner_follows d) k ts;
  in_operand = λ o k ts. primary_follows (nested d) (inner_follows d) k ts;
  in_arguments = λ o n k ts. called_follows (nested d) (inner_follows d) n k ts;
}

-- ---- for what is above expressions, whatever had an effect before

-- an expression, with so many nestings at most
pub expression_follows : (d : ℕ) (b : Bool) (k : Stack) (ts : List Lexeme)
    → Follows (stop b (expression ∷ k) ts) has_effect k (tail ts) (parse.expression (nested d) ts)
unfolding shift accepts
expression_follows d b k ts = follows_as (stops_alike b false (expression ∷ k) (expression ∷ k) refl (λ t. refl) ts)
    (omega arith) (expression_over (nested d) (inner_follows d) k ts)

-- one without an assignment at its root
pub condition_follows : (d : ℕ) (b : Bool) (k : Stack) (ts : List Lexeme)
    → Follows (stop b (condition ∷ k) ts) has_effect k (tail ts) (parse.condition (nested d) ts)
unfolding shift accepts
condition_follows d b k ts = follows_as (stops_alike b false (condition ∷ k) (condition ∷ k) refl (λ t. refl) ts)
    (omega arith) (condition_over (nested d) (inner_follows d) k ts)

-- an expression one nesting further in
pub whole_follows : (d opening : ℕ) (b : Bool) (k : Stack) (ts : List Lexeme)
    → Follows (stop b (expression ∷ k) ts) has_effect k (tail ts) (nested d whole opening ts)
unfolding shift accepts
whole_follows d opening b k ts = follows_as (stops_alike b false (expression ∷ k) (expression ∷ k) refl (λ t. refl) ts)
    (omega arith) ((inner_follows d).in_whole opening k ts)
