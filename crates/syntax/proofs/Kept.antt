-- What the machine takes leaves a stack under which all frames are in their places.
use Rattle.std.proofs.Common.{subst, ◌≡◌, Bool, true, false, [], ◌∷◌, Option, Some, refl}
use Rattle.std.proofs.Common.{sym, ap}
use Rattle.syntax_lexer.specs.declared.token.Sign.{Sign}
use Rattle.syntax_lexer.specs.declared.token.Sign.TheVariants as s
use Rattle.syntax_lexer.specs.declared.token.Word.TheVariants as w
use Rattle.syntax_lexer.specs.Token.{Lexeme, name, number, text, character, dictionary_word, reserved, sign, end}
use Rattle.syntax_trees.specs.Parse.{is_sign, is_word}
use Rattle.syntax_expressions.specs.Operators.{logical, comparing, equating, containing, testing, adding, scaling}
use Rattle.syntax_expressions.specs.Operators.{stepping, indexing}
use Rattle.syntax_expressions.specs.PartParse.{is_name}
use Rattle.syntax.proofs.Frames.{Frame, token, word, any_name, any_text, number_left, last, close}
use Rattle.syntax.proofs.Frames.{primary, unary, indexed, complement, product, sum, comparison}
use Rattle.syntax.proofs.Frames.{negation, condition, expression, arguments, name_after, array_after}
use Rattle.syntax.proofs.Frames.{properties_left, suffix_left, owned_left, scale_left, add_left}
use Rattle.syntax.proofs.Frames.{compare_left, or_left, logic_left, assign_left, arguments_left, set}
use Rattle.syntax.proofs.Frames.{need, value, upper_left, ranges_left, flag, flags_left, item}
use Rattle.syntax.proofs.Frames.{items_left}
use Rattle.syntax.proofs.Frames.{cast_after, optional, optional_effect, loop, returned, statement}
use Rattle.syntax.proofs.Frames.{statements_left, else_left, cases_left, otherwise_left, body_left}
use Rattle.syntax.proofs.Frames.{case_after, minus_after, names_left, values_left, value_left}
use Rattle.syntax.proofs.Frames.{initial_left, array_kind, object_heading, arrows_left, short_left}
use Rattle.syntax.proofs.Frames.{parent_left, properties_after, attributes_left, with_or_has}
use Rattle.syntax.proofs.Frames.{property_or_has, props_left, texts_left, entries_left, Stack}
use Rattle.syntax.proofs.Frames.{less}
use Rattle.syntax.proofs.Frames.{on_expression, on_number}
use Rattle.syntax.proofs.Frames.{on_value, on_flag, on_text, on_item, on_cast, on_statement, in_case}
use Rattle.syntax.proofs.Frames.{on_case, on_minus, on_kind, on_object, on_entry, on_end, on_entries}
use Rattle.syntax.proofs.Machine.{on}
use Rattle.syntax.proofs.Machine.{effect, shift, file}
use Rattle.syntax.proofs.StackWords.{anywhere, words, next, ends_expression, ends_list, ends_statements}
use Rattle.syntax.proofs.StackWords.{Ends}
use Rattle.syntax.proofs.StackWords.{rest_of_effect, Place, lends, Fits}
use Rattle.syntax.proofs.KeptExpressions.{Fit, raised, with_effect, less_fits, over_cases, to, by_if}
use Rattle.syntax.proofs.KeptExpressions.{by_given, by_else, nothing, primary_kept, unary_kept}
use Rattle.syntax.proofs.KeptExpressions.{indexed_kept, complement_kept, product_kept, sum_kept}
use Rattle.syntax.proofs.KeptExpressions.{comparison_kept, negation_kept, condition_kept}
use Rattle.syntax.proofs.KeptExpressions.{expression_kept, arguments_kept}

-- ---- what statements are made of

number_kept : (t : Lexeme) (k j : Stack) → on_number t k ≡ Some j → Fit k → Fit j
number_kept (number n p) k j e h = to k j e h
number_kept _ k j e h = absurd cc

value_kept : (t : Lexeme) (k j : Stack) → on_value t k ≡ Some j → Fit k → Fit j
unfolding Fits
value_kept (number n p) k j e h = to k j e h
value_kept (character c p) k j e h = to k j e h
value_kept (dictionary_word f p) k j e h = to k j e h
value_kept (reserved w.True p) k j e h = to k j e h
value_kept (reserved w.False p) k j e h = to k j e h
value_kept (reserved w.Nothing p) k j e h = to k j e h
value_kept (name n p) k j e h = to k j e h
value_kept (sign s.Minus p) k j e h = to (number_left ∷ k) j e (tt, h)
value_kept _ k j e h = absurd cc

flag_kept : (t : Lexeme) (k j : Stack) → on_flag t k ≡ Some j → Fit k → Fit j
unfolding Fits
flag_kept t k j e h = by_if (is_sign s.Tilde t) _ _ j e (λ is. to (any_name ∷ k) j is (tt, h))
    (λ is. by_if (is_name t) _ _ j is (λ has. to k j has h) (λ has. nothing j has))

text_kept : (t : Lexeme) (k j : Stack) → on_text t k ≡ Some j → Fit k → Fit j
text_kept (text b p) k j e h = to k j e h
text_kept _ k j e h = absurd cc

item_kept : (t : Lexeme) (k j : Stack) → on_item t k ≡ Some j → Ends ends_expression k → Fit k → Fit j
unfolding Fits words
item_kept (text b p) k j e o h = to k j e h
item_kept (sign s.OpenParenthesis p) k j e o h =
    to (cast_after ∷ expression ∷ close ∷ properties_left ∷ owned_left ∷ scale_left ∷ add_left ∷ compare_left
    ∷ logic_left ∷ assign_left ∷ set false ∷ k) j e
    ((k, refl), (refl, (refl, (refl, (refl, (refl, (refl, (refl, (refl, (o, (tt, h)))))))))))
item_kept (name n p) k j e o h = expression_kept (name n p) (set false ∷ k) j e o (tt, h)
item_kept (number n p) k j e o h = expression_kept (number n p) (set false ∷ k) j e o (tt, h)
item_kept (character c p) k j e o h = expression_kept (character c p) (set false ∷ k) j e o (tt, h)
item_kept (dictionary_word f p) k j e o h = expression_kept (dictionary_word f p) (set false ∷ k) j e o (tt, h)
item_kept (reserved w p) k j e o h = expression_kept (reserved w p) (set false ∷ k) j e o (tt, h)
item_kept (sign r p) k j e o h = expression_kept (sign r p) (set false ∷ k) j e o (tt, h)
item_kept (end p) k j e o h = expression_kept (end p) (set false ∷ k) j e o (tt, h)

cast_kept : (t : Lexeme) (k i j : Stack) (other : Option Stack) → on_cast t k other ≡ Some j
    → k ≡ expression ∷ close ∷ properties_left ∷ owned_left ∷ scale_left ∷ add_left ∷ compare_left ∷ logic_left
    ∷ assign_left ∷ set false ∷ i
    → Fits true k → (other ≡ Some j → Fit j) → Fit j
unfolding Fits words less
cast_kept t k i j other e is h again = go t (subst (λ x. on_cast t x other ≡ Some j) is e)
  where
    over : Stack
    over = expression ∷ close ∷ properties_left ∷ owned_left ∷ scale_left ∷ add_left ∷ compare_left ∷ logic_left
        ∷ assign_left ∷ set false ∷ i

    whole : Fits true over
    whole = subst (λ x. Fits true x) is h

    -- the rest from the assignment on
    rest : Fits false (assign_left ∷ set false ∷ i)
    rest = whole.1.1.1.1.1.1.1.1

    cast : Fit (token s.CloseParenthesis ∷ expression ∷ set false ∷ i)
    cast = (tt, rest)

    go : (t : Lexeme) → on_cast t over other ≡ Some j → Fit j
    go (reserved w.Char p) e = to (token s.CloseParenthesis ∷ expression ∷ set false ∷ i) j e cast
    go (reserved w.Object p) e = to (token s.CloseParenthesis ∷ expression ∷ set false ∷ i) j e cast
    go _ e = again e

-- ---- statements

enclosed_fits : (k : Stack) → Fit k → Fit (token s.OpenParenthesis ∷ expression ∷ token s.CloseParenthesis ∷ k)
unfolding Fits words
enclosed_fits k h = (tt, (refl, (tt, h)))

heading_fits : (k : Stack) → Fit k
    → Fit (optional_effect s.Colon ∷ token s.Colon ∷ optional s.Colon ∷ token s.Colon
    ∷ optional_effect s.CloseParenthesis ∷ token s.CloseParenthesis ∷ k)
unfolding Fits words
heading_fits k h = ((refl, (_, refl)), (tt, ((refl, (_, refl)), (tt, ((refl, (k, refl)), (tt, h))))))

effect_kept : (t : Lexeme) (k j : Stack) → on_expression t (need ∷ token s.Semicolon ∷ k) ≡ Some j → Fit k → Fit j
unfolding Fits words
effect_kept t k j e h =
    expression_kept t (need ∷ token s.Semicolon ∷ k) j e refl ((refl, (s.Semicolon, k, refl)), (tt, h))

statement_kept : (t : Lexeme) (k j : Stack) → on_statement t k ≡ Some j → Ends ends_statements k → Fit k → Fit j
unfolding Fits words
statement_kept (sign s.Semicolon p) k j e o h = to k j e h
statement_kept (sign s.OpenBrace p) k j e o h =
    to (statements_left ∷ token s.CloseBrace ∷ k) j e (refl, (tt, h))
statement_kept (reserved w.If p) k j e o h = to _ j e (enclosed_fits (statement ∷ else_left ∷ k) (o, (o, h)))
statement_kept (reserved w.While p) k j e o h = to _ j e (enclosed_fits (statement ∷ k) (o, h))
statement_kept (reserved w.Do p) k j e o h =
    to _ j e (refl, (tt, enclosed_fits (token s.Semicolon ∷ k) (tt, h)))
statement_kept (reserved w.For p) k j e o h = to _ j e (tt, heading_fits (statement ∷ k) (o, h))
statement_kept (reserved w.Objectloop p) k j e o h = to _ j e (tt, (refl, (tt, (o, h))))
statement_kept (reserved w.Switch p) k j e o h = to _ j e
    (enclosed_fits (token s.OpenBrace ∷ cases_left ∷ otherwise_left ∷ token s.CloseBrace ∷ k)
    (tt, (refl, (refl, (tt, h)))))
statement_kept (text bytes p) k j e o h = to _ j e (tt, h)
statement_kept (reserved w.Print p) k j e o h = to _ j e (refl, (refl, (tt, h)))
statement_kept (reserved w.PrintRet p) k j e o h = to _ j e (refl, (refl, (tt, h)))
statement_kept (reserved w.NewLine p) k j e o h = to _ j e (tt, h)
statement_kept (reserved w.Break p) k j e o h = to _ j e (tt, h)
statement_kept (reserved w.Continue p) k j e o h = to _ j e (tt, h)
statement_kept (reserved w.Return p) k j e o h = to _ j e (tt, h)
statement_kept (reserved w.Rtrue p) k j e o h = to _ j e (tt, h)
statement_kept (reserved w.Rfalse p) k j e o h = to _ j e (tt, h)
statement_kept (reserved w.Quit p) k j e o h = to _ j e (tt, h)
statement_kept (reserved w.Read p) k j e o h = to _ j e (tt, (tt, (tt, h)))
statement_kept (reserved w.Give p) k j e o h = to _ j e (refl, (tt, (refl, (tt, h))))
statement_kept (reserved w.Move p) k j e o h = to _ j e (refl, (tt, (refl, (tt, h))))
statement_kept (reserved w.Remove p) k j e o h = to _ j e (refl, (tt, h))
statement_kept (name n p) k j e o h = effect_kept (name n p) k j e h
statement_kept (number n p) k j e o h = effect_kept (number n p) k j e h
statement_kept (character n p) k j e o h = effect_kept (character n p) k j e h
statement_kept (dictionary_word n p) k j e o h = effect_kept (dictionary_word n p) k j e h
statement_kept (end p) k j e o h = effect_kept (end p) k j e h
statement_kept (reserved w p) k j e o h = effect_kept (reserved w p) k j e h
statement_kept (sign r p) k j e o h = effect_kept (sign r p) k j e h

-- ---- statements of a case

in_case_kept : (t : Lexeme) (k i j : Stack) → in_case t (on_statement t (body_left ∷ k)) ≡ Some j → k ≡ cases_left ∷ i
    → Fit k → Fit j
unfolding Fits words less
in_case_kept t k i j e is h = go t e
  where
    below : Ends ends_statements (body_left ∷ k)
    below =
        let g : Fits false (cases_left ∷ i) = subst (λ x. Fits false x) is h in
        let o : Ends ends_statements (cases_left ∷ i) = g.0 in
        subst (λ x. Ends ends_statements x) (sym is) o

    fits : Fit (body_left ∷ k)
    fits = ((i, is), h)

    other : (t : Lexeme) → on_statement t (body_left ∷ k) ≡ Some j → Fit j
    other t e = statement_kept t (body_left ∷ k) j e below fits

    go : (t : Lexeme) → in_case t (on_statement t (body_left ∷ k)) ≡ Some j → Fit j
    go (number n p) e = to _ j e (((i, is), refl), effect_kept (number n p) (body_left ∷ k) _ refl fits)
    go (character n p) e = to _ j e (((i, is), refl), effect_kept (character n p) (body_left ∷ k) _ refl fits)
    go (dictionary_word n p) e =
        to _ j e (((i, is), refl), effect_kept (dictionary_word n p) (body_left ∷ k) _ refl fits)
    go (reserved w.True p) e = to _ j e (((i, is), refl), effect_kept (reserved w.True p) (body_left ∷ k) _ refl fits)
    go (reserved w.False p) e = to _ j e (((i, is), refl), effect_kept (reserved w.False p) (body_left ∷ k) _ refl fits)
    go (reserved w.Nothing p) e =
        to _ j e (((i, is), refl), effect_kept (reserved w.Nothing p) (body_left ∷ k) _ refl fits)
    go (name n p) e = to _ j e (((i, is), refl), effect_kept (name n p) (body_left ∷ k) _ refl fits)
    go (sign s.Minus p) e = to _ j e (
      (i, ap (λ x. unary ∷ set false ∷ rest_of_effect x) is),
      effect_kept (sign s.Minus p) (body_left ∷ k) _ refl fits,
    )
    go (text b p) e = other (text b p) e
    go (reserved w p) e = other (reserved w p) e
    go (sign r p) e = other (sign r p) e
    go (end p) e = other (end p) e

case_kept : (t : Lexeme) (k i j : Stack) (other : Option Stack) → on_case t k other ≡ Some j → k ≡ cases_left ∷ i
    → Fit k → (other ≡ Some j → Fit j) → Fit j
unfolding Fits words
case_kept (sign s.Comma p) k i j other e is h again =
    to (value ∷ upper_left ∷ ranges_left ∷ token s.Colon ∷ body_left ∷ k) j e
    (tt, (refl, (refl, (tt, ((i, is), h)))))
case_kept (sign s.Colon p) k i j other e is h again = to (body_left ∷ k) j e ((i, is), h)
case_kept (reserved w.To p) k i j other e is h again =
    to (value ∷ ranges_left ∷ token s.Colon ∷ body_left ∷ k) j e (tt, (refl, (tt, ((i, is), h))))
case_kept (name n p) k i j other e is h again = again e
case_kept (number n p) k i j other e is h again = again e
case_kept _ k i j other e is h again = again e

-- after `-`, over the operand
minus_kept : (t : Lexeme) (b : Bool) (k i j : Stack) → on_minus t (shift b k t) ≡ Some j
    → k ≡ unary ∷ set false ∷ rest_of_effect (cases_left ∷ i) → Fits false k → (shift b k t ≡ Some j → Fit j) → Fit j
unfolding Fits words shift less
minus_kept t b k i j e is h again =
    go t (subst (λ x. on_minus t (shift b x t) ≡ Some j) is e) (λ a. again (subst (λ x. shift b x t ≡ Some j) (sym is) a))
  where
    over : Stack
    over = unary ∷ set false ∷ rest_of_effect (cases_left ∷ i)

    whole : Fits false over
    whole = subst (λ x. Fits false x) is h

    go : (t : Lexeme) → on_minus t (shift b over t) ≡ Some j → (shift b over t ≡ Some j → Fit j) → Fit j
    go (number n p) e again = to _ j e (((i, refl), refl), (refl, (refl, whole.1)))
    go _ e again = again e

-- ---- directives

kind_kept : (t : Lexeme) (k j : Stack) → on_kind t k ≡ Some j → Fit k → Fit j
kind_kept (sign s.Arrow p) k j e h = to k j e h
kind_kept (sign s.LongArrow p) k j e h = to k j e h
kind_kept (reserved w.String p) k j e h = to k j e h
kind_kept (reserved w.Table p) k j e h = to k j e h
kind_kept _ k j e h = absurd cc

object_kept : (t : Lexeme) (k j : Stack) → on_object t k ≡ Some j → Ends ends_list k → Fit k → Fit j
unfolding Fits words
object_kept (sign s.Arrow p) k j e o h =
    to (arrows_left ∷ any_name ∷ short_left ∷ k) j e ((_, refl), (tt, (o, h)))
object_kept (name n p) k j e o h = to (short_left ∷ parent_left ∷ k) j e (o, (o, h))
object_kept _ k j e o h = absurd cc

entry_kept : (t : Lexeme) (k j : Stack) → on_entry t k ≡ Some j → Fit k → Fit j
unfolding Fits words
entry_kept (reserved w.Abbreviate p) k j e h = to _ j e (tt, (refl, (tt, h)))
entry_kept (reserved w.Global p) k j e h = to _ j e (tt, (refl, (tt, h)))
entry_kept (reserved w.Constant p) k j e h = to _ j e (tt, (tt, (tt, (tt, h))))
entry_kept (reserved w.Array p) k j e h = to _ j e (tt, (tt, (tt, (refl, (tt, h)))))
entry_kept (reserved w.Attribute p) k j e h = to _ j e (tt, (tt, h))
entry_kept (reserved w.Property p) k j e h = to _ j e (tt, (refl, (tt, h)))
entry_kept (reserved w.Object p) k j e h = to _ j e (refl, (refl, (refl, (tt, h))))
entry_kept (sign s.OpenBracket p) k j e h = to _ j e (tt, (refl, (tt, (refl, (tt, (tt, h))))))
entry_kept _ k j e h = absurd cc

end_kept : (t : Lexeme) (k j : Stack) → on_end t k ≡ Some j → Fit k → Fit j
end_kept (end p) k j e h = to k j e h
end_kept _ k j e h = absurd cc

entries_kept : (t : Lexeme) (k j : Stack) (other : Option Stack) → on_entries t k other ≡ Some j → Fit k
    → (other ≡ Some j → Fit j) → Fit j
entries_kept (end p) k j other e h again = again e
entries_kept (name n p) k j other e h again = entry_kept (name n p) k j e h
entries_kept (number n p) k j other e h again = entry_kept (number n p) k j e h
entries_kept (text n p) k j other e h again = entry_kept (text n p) k j e h
entries_kept (character n p) k j other e h again = entry_kept (character n p) k j e h
entries_kept (dictionary_word n p) k j other e h again = entry_kept (dictionary_word n p) k j e h
entries_kept (reserved w p) k j other e h again = entry_kept (reserved w p) k j e h
entries_kept (sign r p) k j other e h again = entry_kept (sign r p) k j e h

-- ---- one token

-- an expression may stand before what ends a list, and before a sign that ends one
listed : (k : Stack) → Ends ends_list k → Ends ends_expression k
listed k o = go (next k) o
  where
    go : (t : Lexeme) → ends_list t ≡ true → ends_expression t ≡ true
    go (sign s.CloseParenthesis p) o = refl
    go (sign s.Semicolon p) o = refl
    go (sign s.Colon p) o = refl
    go _ o = absurd cc

before_sign : (k j : Stack) (s : Sign) → k ≡ token s ∷ j → ends_expression (sign s anywhere) ≡ true
    → Ends ends_expression k
unfolding words
before_sign k j s e o = rw e o

indexed_array : (k j i : Stack) → Some (unary ∷ set false ∷ less 2 k) ≡ Some j
    → k ≡ properties_left ∷ owned_left ∷ i → Fit k → Fit j
unfolding Fits words less
indexed_array k j i e is h =
    let whole : Fit (properties_left ∷ owned_left ∷ i) = subst (λ x. Fits false x) is h in
    to (unary ∷ set false ∷ i) j (subst (λ x. Some (unary ∷ set false ∷ less 2 x) ≡ Some j) is e)
    (whole.0, (tt, whole.1.1))

turn_kept : (f : Frame) (c b : Bool) (t : Lexeme) (k j : Stack) → on f b t k (shift (effect f b) k t) ≡ Some j
    → Place c f k → Fits (lends f) k → (shift (effect f b) k t ≡ Some j → Fit j) → Fit j
unfolding Fits words
turn_kept (token s) c b t k j e o h again =
    by_if (is_sign s t) _ _ j e (λ is. to k j is h) (λ is. nothing j is)
turn_kept (word w) c b t k j e o h again =
    by_if (is_word w t) _ _ j e (λ is. to k j is h) (λ is. nothing j is)
turn_kept any_name c b t k j e o h again =
    by_if (is_name t) _ _ j e (λ is. to k j is h) (λ is. nothing j is)
turn_kept any_text c b t k j e o h again = text_kept t k j e h
turn_kept number_left c b t k j e o h again = number_kept t k j e h
turn_kept last c b t k j e o h again = end_kept t k j e h
turn_kept close c b t k j e o h again = by_if (is_sign s.CloseParenthesis t) _ _ j e
    (λ is. to (set b ∷ k) j is (tt, with_effect b k h)) (λ is. nothing j is)
turn_kept primary c b t k j e o h again = primary_kept t k j e o h
turn_kept unary c b t k j e o h again = unary_kept t k j e o h
turn_kept indexed c b t k j e o h again = indexed_kept t k j e o h
turn_kept complement c b t k j e o h again = complement_kept t k j e o h
turn_kept product c b t k j e o h again = product_kept t k j e o h
turn_kept sum c b t k j e o h again = sum_kept t k j e o h
turn_kept comparison c b t k j e o h again = comparison_kept t k j e o h
turn_kept negation c b t k j e o h again = negation_kept t k j e o h
turn_kept condition c b t k j e o h again = condition_kept t k j e o h
turn_kept expression c b t k j e o h again = expression_kept t k j e o h
turn_kept arguments c b t k j e o h again = arguments_kept t k j e h
turn_kept name_after c b t k j e o h again = by_if (is_sign s.OpenParenthesis t) _ _ j e
    (λ is. to (arguments ∷ set true ∷ k) j is (tt, (tt, raised false k h))) again
turn_kept array_after c b t k j e o h again = by_given (indexing t) _ _ j e (λ is. indexed_array k j o.0 is o.1 h)
    (λ is. by_if (is_sign s.OpenParenthesis t) _ _ j is
    (λ has. to (arguments ∷ set true ∷ k) j has (tt, (tt, raised false k h))) again)
turn_kept properties_left c b t k j e o h again = by_if (is_sign s.Dot t) _ _ j e
    (λ is. to (any_name ∷ properties_left ∷ k) j is (tt, (o, h))) again
turn_kept suffix_left c b t k j e o h again = by_given (stepping t) _ _ j e
    (λ is. to (set true ∷ k) j is (tt, raised false k h))
    (λ is. by_if (is_sign s.DotHash t) _ _ j is (λ has. to (any_name ∷ k) j has (tt, h)) again)
turn_kept owned_left c b t k j e o h again = by_if (is_sign s.DotAmpersand t) _ _ j e
    (λ is. to (any_name ∷ token s.LongArrow ∷ unary ∷ set false ∷ k) j is (tt, (tt, (o, (tt, h)))))
    (λ is. by_given (stepping t) _ _ j is (λ has. to (set true ∷ k) j has (tt, raised false k h))
    (λ has. by_if (is_sign s.DotHash t) _ _ j has (λ does. to (any_name ∷ k) j does (tt, h)) again))
turn_kept scale_left c b t k j e o h again = by_given (scaling t) _ _ j e
    (λ is. to (complement ∷ set false ∷ scale_left ∷ k) j is (o, (tt, (o, h)))) again
turn_kept add_left c b t k j e o h again = by_given (adding t) _ _ j e
    (λ is. to (product ∷ set false ∷ add_left ∷ k) j is (o, (tt, (o, h)))) again
turn_kept compare_left c b t k j e o h again = by_given (comparing t) _ _ j e
    (λ is. to (sum ∷ set false ∷ k) j is (o, (tt, h)))
    (λ is. by_given (equating t) _ _ j is (λ has. to (sum ∷ set false ∷ or_left ∷ k) j has (o, (tt, (o, h))))
    (λ has. by_given (containing t) _ _ j has (λ does. to (sum ∷ set false ∷ k) j does (o, (tt, h)))
    (λ does. by_given (testing t) _ _ j does (λ tests. to (any_name ∷ k) j tests (tt, h)) again)))
turn_kept or_left c b t k j e o h again = by_if (is_word w.Or t) _ _ j e
    (λ is. to (sum ∷ set false ∷ or_left ∷ k) j is (o, (tt, (o, h)))) again
turn_kept logic_left c b t k j e o h again = by_given (logical t) _ _ j e
    (λ is. to (negation ∷ set false ∷ logic_left ∷ k) j is (o, (tt, (o, h)))) again
turn_kept assign_left c b t k j e o h again = by_if (is_sign s.Assign t) _ _ j e
    (λ is. to (expression ∷ set true ∷ k) j is (o, (tt, h))) again
turn_kept arguments_left c b t k j e o h again = by_if (is_sign s.Comma t) _ _ j e
    (λ is. to (expression ∷ set false ∷ arguments_left ∷ k) j is (listed (arguments_left ∷ k) o, (tt, (o, h)))) again
turn_kept (set v) c b t k j e o h again = again e
turn_kept need c b t k j e o h again = by_if b _ _ j e again (λ is. nothing j is)
turn_kept value c b t k j e o h again = value_kept t k j e h
turn_kept upper_left c b t k j e o h again = by_if (is_word w.To t) _ _ j e (λ is. to (value ∷ k) j is (tt, h)) again
turn_kept ranges_left c b t k j e o h again = by_if (is_sign s.Comma t) _ _ j e
    (λ is. to (value ∷ upper_left ∷ ranges_left ∷ k) j is (tt, (o, (o, h)))) again
turn_kept flag c b t k j e o h again = flag_kept t k j e h
turn_kept flags_left c b t k j e o h again =
    by_else (on_flag t (flags_left ∷ k)) _ j e (λ is. flag_kept t (flags_left ∷ k) j is (o, h)) again
turn_kept item c b t k j e o h again = item_kept t k j e o h
turn_kept items_left c b t k j e o h again = by_if (is_sign s.Comma t) _ _ j e
    (λ is. to (item ∷ items_left ∷ k) j is (listed (items_left ∷ k) o, (o, h))) again
turn_kept cast_after c b t k j e o h again = cast_kept t k o.0 j _ e o.1 (raised false k h) again
turn_kept (optional s) c b t k j e o h again = by_if (is_sign s t) _ _ j e again
    (λ is. expression_kept t k j is (before_sign k o.1.0 s o.1.1 o.0) (raised false k h))
turn_kept (optional_effect s) c b t k j e o h again = by_if (is_sign s t) _ _ j e again
    (λ is. expression_kept t (need ∷ k) j is (before_sign k o.1.0 s o.1.1 o.0) ((refl, (s, o.1.0, o.1.1)), h))
turn_kept loop c b t k j e o h again =
    by_if (is_name t) _ _ j e (λ is. condition_kept t k j is o h) (λ is. nothing j is)
turn_kept returned c b t k j e o h again = by_if (is_sign s.Semicolon t) _ _ j e (λ is. to k j is h)
    (λ is. expression_kept t (token s.Semicolon ∷ k) j is refl (tt, h))
turn_kept statement c b t k j e o h again = statement_kept t k j e o h
turn_kept statements_left c b t k j e o h again = by_else (on_statement t (statements_left ∷ k)) _ j e
    (λ is. statement_kept t (statements_left ∷ k) j is o (o, h)) again
turn_kept else_left c b t k j e o h again =
    by_if (is_word w.Else t) _ _ j e (λ is. to (statement ∷ k) j is (o, h)) again
turn_kept cases_left c b t k j e o h again =
    by_else (on_value t (upper_left ∷ ranges_left ∷ token s.Colon ∷ body_left ∷ cases_left ∷ k)) _ j e
    (λ is. value_kept t (upper_left ∷ ranges_left ∷ token s.Colon ∷ body_left ∷ cases_left ∷ k) j is
    (refl, (refl, (tt, ((k, refl), (o, h)))))) again
turn_kept otherwise_left c b t k j e o h again = by_if (is_word w.Default t) _ _ j e
    (λ is. to (token s.Colon ∷ statements_left ∷ k) j is (tt, (o, h))) again
turn_kept body_left c b t k j e o h again = by_else (in_case t (on_statement t (body_left ∷ k))) _ j e
    (λ is. in_case_kept t k o.0 j is o.1 h) again
turn_kept (case_after n) c b t k j e o h again =
    case_kept t (less n k) o.0.0 j _ e o.0.1 (over_cases (less n k) o.0.0 o.0.1 (less_fits n false k h)) again
turn_kept minus_after c b t k j e o h again = minus_kept t b k o.0 j e o.1 h again
turn_kept names_left c b t k j e o h again =
    by_if (is_name t) _ _ j e (λ is. to (names_left ∷ k) j is (o, h)) again
turn_kept values_left c b t k j e o h again =
    by_else (on_value t (values_left ∷ k)) _ j e (λ is. value_kept t (values_left ∷ k) j is (o, h)) again
turn_kept value_left c b t k j e o h again = by_else (on_value t k) _ j e (λ is. value_kept t k j is h) again
turn_kept initial_left c b t k j e o h again =
    by_if (is_sign s.Assign t) _ _ j e (λ is. to (value ∷ k) j is (tt, h)) again
turn_kept array_kind c b t k j e o h again = kind_kept t k j e h
turn_kept object_heading c b t k j e o h again = object_kept t k j e o h
turn_kept arrows_left c b t k j e o h again =
    by_if (is_sign s.Arrow t) _ _ j e (λ is. to (arrows_left ∷ k) j is (o, h)) again
turn_kept short_left c b t k j e o h again = by_else (on_text t k) _ j e (λ is. text_kept t k j is h) again
turn_kept parent_left c b t k j e o h again = by_if (is_name t) _ _ j e (λ is. to k j is h) again
turn_kept properties_after c b t k j e o h again = by_if (is_word w.With t) _ _ j e
    (λ is. to (any_name ∷ value ∷ values_left ∷ props_left ∷ k) j is (tt, (tt, (o, (o, h)))))
    (λ is. by_if (is_sign s.Comma t) _ _ j is (λ has. to (with_or_has ∷ k) j has (o, h)) again)
turn_kept attributes_left c b t k j e o h again = by_if (is_word w.Has t) _ _ j e
    (λ is. to (any_name ∷ names_left ∷ k) j is (tt, (o, h)))
    (λ is. by_if (is_sign s.Comma t) _ _ j is
    (λ has. to (word w.Has ∷ any_name ∷ names_left ∷ k) j has (tt, (tt, (o, h)))) again)
turn_kept with_or_has c b t k j e o h again = by_if (is_word w.With t) _ _ j e
    (λ is. to (any_name ∷ value ∷ values_left ∷ props_left ∷ k) j is (tt, (tt, (o, (o, h)))))
    (λ is. by_if (is_word w.Has t) _ _ j is again (λ has. nothing j has))
turn_kept property_or_has c b t k j e o h again = by_if (is_name t) _ _ j e
    (λ is. to (value ∷ values_left ∷ props_left ∷ k) j is (tt, (o, (o, h))))
    (λ is. by_if (is_word w.Has t) _ _ j is again (λ has. nothing j has))
turn_kept props_left c b t k j e o h again = by_if (is_sign s.Comma t) _ _ j e
    (λ is. to (property_or_has ∷ k) j is (o, h)) again
turn_kept texts_left c b t k j e o h again =
    by_else (on_text t (texts_left ∷ k)) _ j e (λ is. text_kept t (texts_left ∷ k) j is (o, h)) again
turn_kept entries_left c b t k j e o h again = entries_kept t (entries_left ∷ k) j _ e (o, h) again

pub kept : (c b : Bool) (k j : Stack) (t : Lexeme) → shift b k t ≡ Some j → Fits c k → Fits false j
unfolding Fits shift
kept c b [] j t e h = absurd cc
kept c b (f ∷ k) j t e h =
    turn_kept f c b t k j e h.0 h.1 (λ is. kept (lends f) (effect f b) k j t is h.1)

pub file_fits : Fits false file
unfolding Fits
file_fits = (([], refl), (refl, tt))
