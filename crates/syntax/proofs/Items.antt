-- The items of `print`.
use Rattle.std.proofs.Common.{ℕ, zero, suc, false, List, [], ◌∷◌, Ok}
use Rattle.std.proofs.Common.{refl, arith}
use Rattle.syntax_lexer.specs.declared.token.Position.{Position}
use Rattle.syntax_lexer.specs.declared.token.Sign.TheVariants as s
use Rattle.syntax_lexer.specs.declared.token.Word.TheVariants as w
use Rattle.syntax_lexer.specs.Token.{Lexeme, text, reserved, sign, position_of}
use Rattle.syntax_trees.specs.Tree.{ExpressionTree}
use Rattle.syntax_trees.specs.Parse.{◌>>=◌, tail, head, is_sign}
use Rattle.syntax_expressions.specs.Parse.{nested, expression}
use Rattle.syntax_statements.specs.PartTree.{PrintItemTree, number_item, character_item, object_item}
use Rattle.syntax_statements.specs.PartGrammar.{has_effect}
use Rattle.syntax_statements.specs.PartParse.{cast, value, item, items}
use Rattle.syntax.proofs.Frames.{Stack, token, set, items_left, less}
use Rattle.syntax.proofs.Machine.{shift, accepts, stop}
use Rattle.syntax.proofs.Frames as frame
use Rattle.syntax.proofs.After.{Follows, no_effect, follows_read, follows_deep, follows_as, follows_then}
use Rattle.syntax.proofs.After.{list_follows}
use Rattle.syntax.proofs.Expressions.{expression_follows}
use Rattle.syntax.proofs.After.{longer, past, set_goes}

number_follows : (d : ℕ) (k : Stack) (p : Position) (ts : List Lexeme)
    → Follows (stop false (frame.expression ∷ set false ∷ k) ts) no_effect k (tail ts)
    (expression (nested d) ts >>= λ x. Ok (number_item p x.0, x.1))
number_follows d k p ts = follows_then _ (expression_follows d false (set false ∷ k) ts)
    (λ e r h. follows_read (number_item p e) r (set_goes (has_effect e) false k r) (omega arith))

-- after `(char` and `(object`
cast_follows : (d : ℕ) (k : Stack) (make : Position → ExpressionTree → PrintItemTree) (t u : Lexeme) (m : List Lexeme)
    → Follows (stop false (token s.CloseParenthesis ∷ frame.expression ∷ set false ∷ k) m) no_effect k m
    (cast d make (t ∷ u ∷ m))
unfolding cast
cast_follows zero k make t u m = follows_deep
cast_follows (suc d) k make t u m = past s.CloseParenthesis false _ m _
    (λ r. follows_then _ (longer r (expression_follows (suc d) false (set false ∷ k) r))
    (λ e v h. follows_read (make (position_of (head r)) e) v (set_goes (has_effect e) false k v) (omega arith)))

pub item_follows : (d : ℕ) (k : Stack) (ts : List Lexeme)
    → Follows (stop false (frame.item ∷ k) ts) no_effect k (tail ts) (item d ts)
unfolding stop shift accepts less item value
item_follows d k [] = number_follows d k _ []
item_follows d k (text bytes p ∷ m) = follows_read _ m refl (omega arith)
item_follows d k (sign s.OpenParenthesis p ∷ []) = number_follows d k _ (sign s.OpenParenthesis p ∷ [])
item_follows d k (sign s.OpenParenthesis p ∷ reserved w.Char q ∷ m) = follows_as {us = m} refl (omega arith)
    (cast_follows d k character_item (sign s.OpenParenthesis p) (reserved w.Char q) m)
item_follows d k (sign s.OpenParenthesis p ∷ reserved w.Object q ∷ m) = follows_as {us = m} refl (omega arith)
    (cast_follows d k object_item (sign s.OpenParenthesis p) (reserved w.Object q) m)
item_follows d k (sign s.OpenParenthesis p ∷ t ∷ m) = number_follows d k _ (sign s.OpenParenthesis p ∷ t ∷ m)
item_follows d k (t ∷ m) = number_follows d k _ (t ∷ m)

pub items_follow : (d : ℕ) (k : Stack) (ts : List Lexeme)
    → Follows (stop false (frame.item ∷ items_left ∷ k) ts) no_effect k (tail ts) (items d ts)
unfolding shift accepts items
items_follow d k ts = list_follows (item d) (λ j. frame.item ∷ j) items_left (item_follows d) (is_sign s.Comma)
    (λ j t. refl) (λ j. refl) refl k ts
