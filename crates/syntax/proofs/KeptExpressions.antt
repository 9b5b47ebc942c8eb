-- What expressions take leaves a stack under which all frames are in their places.
use Rattle.std.proofs.Common.{subst, ◌≡◌, ℕ, zero, suc, Bool, true, false, cond, [], ◌∷◌, Option, Some, None, refl}
use Rattle.std.proofs.Common.{sym}
use Rattle.syntax_lexer.specs.declared.token.Sign.TheVariants as s
use Rattle.syntax_lexer.specs.declared.token.Word.{Word}
use Rattle.syntax_lexer.specs.Token.{Lexeme, name, number, text, character, dictionary_word, reserved, sign, end}
use Rattle.syntax_trees.specs.Parse.{is_sign}
use Rattle.syntax_expressions.specs.Operators.{stepping, prefixes, relating_word}
use Rattle.syntax_expressions.specs.PartParse.{word_value}
use Rattle.syntax.proofs.Frames.{Frame, token, close}
use Rattle.syntax.proofs.Frames.{primary, unary, complement}
use Rattle.syntax.proofs.Frames.{negation, expression, name_after, array_after}
use Rattle.syntax.proofs.Frames.{properties_left, suffix_left, owned_left, scale_left, add_left}
use Rattle.syntax.proofs.Frames.{compare_left, logic_left, assign_left, arguments_left, set}
use Rattle.syntax.proofs.Frames.{need}
use Rattle.syntax.proofs.Frames.{cases_left}
use Rattle.syntax.proofs.Frames.{Stack, given}
use Rattle.syntax.proofs.Frames.{or_else, less, on_word, on_atom, on_primary, on_unary}
use Rattle.syntax.proofs.Frames.{on_unindexed}
use Rattle.syntax.proofs.Frames.{on_indexed, on_complement, on_product, on_sum, on_comparison}
use Rattle.syntax.proofs.Frames.{on_negation, on_condition, on_expression, on_arguments}
use Rattle.syntax.proofs.StackWords.{words, ends_expression, ends_operand, Ends}
use Rattle.syntax.proofs.StackWords.{Place, lends, Fits}

-- ---- stacks in parts

abbrev pub Fit : Stack → Type 0
Fit k = Fits false k

raised_place : (f : Frame) (c : Bool) (k : Stack) → Place c f k → Place true f k
raised_place need c k h = (refl, h.1)
raised_place _ c k h = h

pub raised : (c : Bool) (k : Stack) → Fits c k → Fits true k
unfolding Fits
raised c [] h = h
raised c (f ∷ k) h = (raised_place f c k h.0, h.1)

pub with_effect : (b : Bool) (k : Stack) → Fit k → Fits b k
with_effect true k h = raised false k h
with_effect false k h = h

pub less_fits : (n : ℕ) (c : Bool) (k : Stack) → Fits c k → Fits true (less n k)
unfolding Fits less
less_fits zero c k h = raised c k h
less_fits (suc n) c [] h = tt
less_fits (suc n) c (f ∷ k) h = less_fits n (lends f) k h.1

pub over_cases : (k j : Stack) → k ≡ cases_left ∷ j → Fits true k → Fit k
unfolding Fits
over_cases k j e h =
    let g : Fits true (cases_left ∷ j) = subst (λ i. Fits true i) e h in
    let f : Fits false (cases_left ∷ j) = g in
    subst (λ i. Fits false i) (sym e) f

-- ---- what comes of a turn

jump : {A : Type 0} (x y : A) → Some x ≡ Some y → x ≡ y
jump x y e = cc

pub to : (x j : Stack) → Some x ≡ Some j → Fit x → Fit j
to x j e h = subst (λ i. Fits false i) (jump x j e) h

pub by_if : (b : Bool) (x y : Option Stack) (j : Stack) → cond b x y ≡ Some j → (x ≡ Some j → Fit j) → (y ≡ Some j → Fit j)
    → Fit j
by_if true x y j e on off = on e
by_if false x y j e on off = off e

pub by_given : {A : Type 0} (o : Option A) (x y : Option Stack) (j : Stack) → given o x y ≡ Some j → (x ≡ Some j → Fit j)
    → (y ≡ Some j → Fit j) → Fit j
by_given (Some a) x y j e on off = on e
by_given None x y j e on off = off e

pub by_else : (x y : Option Stack) (j : Stack) → or_else x y ≡ Some j → (x ≡ Some j → Fit j) → (y ≡ Some j → Fit j) → Fit j
by_else (Some k) y j e on off = on e
by_else None y j e on off = off e

pub nothing : (j : Stack) → None ≡ Some j → Fit j
nothing j e = absurd cc

-- ---- expressions

word_kept : (w : Word) (k j : Stack) → on_word w k ≡ Some j → Ends ends_operand k → Fit k → Fit j
unfolding Fits words
word_kept w k j e o h = by_given (relating_word w) _ _ j e
    (λ is. to (token s.OpenParenthesis ∷ expression ∷ close ∷ set false ∷ k) j is (tt, (refl, (o, (tt, h)))))
    (λ is. by_given (word_value w) _ _ j is (λ has. to k j has h) (λ has. nothing j has))

atom_kept : (t : Lexeme) (k j : Stack) → on_atom t k ≡ Some j → Ends ends_operand k → Fit k → Fit j
unfolding Fits words
atom_kept (number n p) k j e o h = to k j e h
atom_kept (character c p) k j e o h = to k j e h
atom_kept (dictionary_word f p) k j e o h = to k j e h
atom_kept (reserved w p) k j e o h = word_kept w k j e o h
atom_kept (name n p) k j e o h = to (name_after ∷ k) j e (o, h)
atom_kept (sign s.OpenParenthesis p) k j e o h = to (expression ∷ close ∷ k) j e (refl, (o, h))
atom_kept _ k j e o h = absurd cc

pub primary_kept : (t : Lexeme) (k j : Stack) → on_primary t k ≡ Some j → Ends ends_operand k → Fit k → Fit j
unfolding Fits words
primary_kept t k j e o h = atom_kept t (properties_left ∷ k) j e o (o, h)

pub unary_kept : (t : Lexeme) (k j : Stack) → on_unary t k ≡ Some j → Ends ends_operand k → Fit k → Fit j
unfolding Fits words
unary_kept t k j e o h = by_if (is_sign s.Minus t) _ _ j e (λ is. to (unary ∷ set false ∷ k) j is (o, (tt, h)))
    (λ is. by_given (stepping t) _ _ j is (λ has. to (primary ∷ set true ∷ k) j has (o, (tt, raised false k h)))
    (λ has. primary_kept t (suffix_left ∷ k) j has o (o, h)))

unindexed_kept : (t : Lexeme) (k j : Stack) → on_unindexed t k ≡ Some j → Ends ends_operand k → Fit k → Fit j
unfolding Fits words
unindexed_kept t k j e o h = by_if (prefixes t) _ _ j e (λ is. unary_kept t k j is o h)
    (λ is. primary_kept t (owned_left ∷ k) j is o (o, h))

pub indexed_kept : (t : Lexeme) (k j : Stack) → on_indexed t k ≡ Some j → Ends ends_operand k → Fit k → Fit j
unfolding Fits words
indexed_kept (name n p) k j e o h =
    to (array_after ∷ properties_left ∷ owned_left ∷ k) j e ((k, refl), (o, (o, h)))
indexed_kept (number n p) k j e o h = unindexed_kept (number n p) k j e o h
indexed_kept (text b p) k j e o h = unindexed_kept (text b p) k j e o h
indexed_kept (character c p) k j e o h = unindexed_kept (character c p) k j e o h
indexed_kept (dictionary_word f p) k j e o h = unindexed_kept (dictionary_word f p) k j e o h
indexed_kept (reserved w p) k j e o h = unindexed_kept (reserved w p) k j e o h
indexed_kept (sign r p) k j e o h = unindexed_kept (sign r p) k j e o h
indexed_kept (end p) k j e o h = unindexed_kept (end p) k j e o h

pub complement_kept : (t : Lexeme) (k j : Stack) → on_complement t k ≡ Some j → Ends ends_operand k → Fit k → Fit j
unfolding Fits words
complement_kept t k j e o h = by_if (is_sign s.Tilde t) _ _ j e
    (λ is. to (complement ∷ set false ∷ k) j is (o, (tt, h))) (λ is. indexed_kept t k j is o h)

pub product_kept : (t : Lexeme) (k j : Stack) → on_product t k ≡ Some j → Ends ends_operand k → Fit k → Fit j
unfolding Fits words
product_kept t k j e o h = complement_kept t (scale_left ∷ k) j e o (o, h)

pub sum_kept : (t : Lexeme) (k j : Stack) → on_sum t k ≡ Some j → Ends ends_operand k → Fit k → Fit j
unfolding Fits words
sum_kept t k j e o h = product_kept t (add_left ∷ k) j e o (o, h)

pub comparison_kept : (t : Lexeme) (k j : Stack) → on_comparison t k ≡ Some j → Ends ends_operand k → Fit k → Fit j
unfolding Fits words
comparison_kept t k j e o h = sum_kept t (compare_left ∷ k) j e o (o, h)

pub negation_kept : (t : Lexeme) (k j : Stack) → on_negation t k ≡ Some j → Ends ends_operand k → Fit k → Fit j
unfolding Fits words
negation_kept t k j e o h = by_if (is_sign s.Not t) _ _ j e
    (λ is. to (negation ∷ set false ∷ k) j is (o, (tt, h))) (λ is. comparison_kept t k j is o h)

pub condition_kept : (t : Lexeme) (k j : Stack) → on_condition t k ≡ Some j → Ends ends_operand k → Fit k → Fit j
unfolding Fits words
condition_kept t k j e o h = negation_kept t (logic_left ∷ k) j e o (o, h)

pub expression_kept : (t : Lexeme) (k j : Stack) → on_expression t k ≡ Some j → Ends ends_expression k → Fits true k
    → Fit j
unfolding Fits words
expression_kept t k j e o h = condition_kept t (assign_left ∷ k) j e refl (o, h)

pub arguments_kept : (t : Lexeme) (k j : Stack) → on_arguments t k ≡ Some j → Fit k → Fit j
unfolding Fits words
arguments_kept t k j e h = by_if (is_sign s.CloseParenthesis t) _ _ j e (λ is. to k j is h)
    (λ is. expression_kept t (set false ∷ arguments_left ∷ token s.CloseParenthesis ∷ k) j is refl
    (tt, (refl, (tt, h))))
