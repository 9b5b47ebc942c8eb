-- What is read of a statement in which no other stands derives in the grammar, nested no deeper than was allowed.
use Rattle.std.proofs.Common.{◌≡◌, ◌&&◌, ℕ, zero, suc, ◌≤◌, true, false, List, [], ◌∷◌, length, refl, sym, ap, subst}
use Rattle.std.proofs.Common.{◌∙◌, arith}
use Rattle.syntax_lexer.specs.declared.token.Position.{Position}
use Rattle.syntax_lexer.specs.declared.token.Sign.TheVariants as s
use Rattle.syntax_lexer.specs.declared.token.Word.TheVariants as w
use Rattle.syntax_lexer.specs.Token.{Lexeme, name, text, reserved, sign, position_of}
use Rattle.syntax_trees.specs.Tree.{ExpressionTree}
use Rattle.syntax_trees.specs.Parse.{head, tail, is_sign, is_word, expect, expect_word, repeated}
use Rattle.syntax_expressions.specs.Grammar.{IsE}
use Rattle.syntax_expressions.proofs.Judged.{Judged, judged_read, judged_grammar, judged_deep, judged_then}
use Rattle.syntax_expressions.proofs.Judged.{judged_after, judged_by}
use Rattle.syntax_expressions.proofs.Tokens.{at_sign, at_word, is_that_sign, expect_ok, expect_not_deep}
use Rattle.syntax_expressions.proofs.Tokens.{expect_word_ok, expect_word_not_deep}
use Rattle.syntax_expressions.proofs.Repeated.{list_judged}
use Rattle.syntax_expressions.proofs.Short.{short_E}
use Rattle.syntax_expressions.proofs.Sound.{judged_E}
use Rattle.syntax_expressions.proofs.NamesRead.{name_judged}
use Rattle.syntax_statements.specs.PartTree.{PrintItemTree, text_item, character_item, number_item, object_item}
use Rattle.syntax_statements.specs.PartGrammar.{has_effect, IsItem, item_text, item_character, item_number, IsItems}
use Rattle.syntax_statements.specs.PartGrammar.{items_last, items_comma, item_nesting, items_nesting, item_object}
use Rattle.syntax_statements.specs.PartGrammar.{IsFlag, flag_given, flag_taken, IsFlags, flags_none, flags_next}
use Rattle.syntax_statements.specs.PartGrammar.{IsGiven, given_first}
use Rattle.syntax_statements.specs.PartNesting.{DeepItem, deep_item_parenthesis, deep_item_character, deep_item_number}
use Rattle.syntax_statements.specs.PartNesting.{DeepItems, deep_items_first, deep_items_next}
use Rattle.syntax_statements.specs.PartNesting.{deep_item_object_parenthesis, deep_item_object}
use Rattle.syntax_statements.specs.PartParse.{flag, flags, begins_flag, cast, value, item, items}
use Rattle.syntax_statements.specs.Tree.{StatementTree, return_alone, return_value, read_line, effect, give, move}
use Rattle.syntax_statements.specs.Tree.{remove}
use Rattle.syntax_statements.specs.Grammar.{IsS, s_return, s_return_value, s_read, s_effect, statement_nesting, s_give}
use Rattle.syntax_statements.specs.Grammar.{s_move, s_remove}
use Rattle.syntax_statements.specs.Nesting.{DeepS, deep_s_return, deep_s_effect, deep_s_give, deep_s_move}
use Rattle.syntax_statements.specs.Nesting.{deep_s_move_to, deep_s_remove}
use Rattle.syntax_statements.specs.Parse.{given, moved, removed, ended, line_read, printed, returned, alone}
use Rattle.syntax_statements.proofs.SoundRows.{both, repeated_judged}

-- ---- statements without statements inside them

pub ended_judged : {P : StatementTree → List Lexeme → Type 0} {C : List Lexeme → Type 0} (x : StatementTree)
    (ts : List Lexeme)
    → ((p : Position) (r : List Lexeme) → ts ≡ sign s.Semicolon p ∷ r → P x r) → Judged P C (ended x ts)
unfolding ended
ended_judged x ts make =
    judged_after (expect s.Semicolon ts) _
    (λ r e. judged_read x r (make (position_of (head ts)) r (expect_ok s.Semicolon ts r e)))
    (λ n e. absurd (expect_not_deep s.Semicolon ts n e))

from_number : (ts : List Lexeme) (e : ExpressionTree) (r : List Lexeme) → IsE ts e r
    → IsItem ts (number_item (position_of (head ts)) e) r
from_number [] e r h = absurd (omega (arith, short_E h))
from_number (t ∷ m) e r h = item_number h

from_effect : (ts : List Lexeme) (e : ExpressionTree) (q : Position) (r : List Lexeme)
    → IsE ts e (sign s.Semicolon q ∷ r) → has_effect e ≡ true → IsS ts (effect (position_of (head ts)) e) r
from_effect [] e q r h f = absurd (omega (arith, short_E h))
from_effect (t ∷ m) e q r h f = s_effect h f

from_character : (p q o : Position) (ts : List Lexeme) (e : ExpressionTree) (r : List Lexeme) → IsE ts e r
    → IsItem (sign s.OpenParenthesis p ∷ reserved w.Char q ∷ sign s.CloseParenthesis o ∷ ts)
    (character_item (position_of (head ts)) e) r
from_character p q o [] e r h = absurd (omega (arith, short_E h))
from_character p q o (t ∷ m) e r h = item_character h

character_judged : (d : ℕ) (p q : Position) (m : List Lexeme)
    → Judged (λ i r. IsItem (sign s.OpenParenthesis p ∷ reserved w.Char q ∷ m) i r × (item_nesting i ≤ d))
    (DeepItem (suc d) (sign s.OpenParenthesis p ∷ reserved w.Char q ∷ m))
    (cast d character_item (sign s.OpenParenthesis p ∷ reserved w.Char q ∷ m))
unfolding cast
character_judged zero p q m = judged_deep (record { from = _; is = deep_item_parenthesis; left = refl })
character_judged (suc d) p q m =
    judged_after (expect s.CloseParenthesis m) _
    (λ r e.
    let o = position_of (head m) in
    let at = expect_ok s.CloseParenthesis m r e in
    judged_then _ (judged_E (suc d) r)
    (λ a u h. judged_read _ u (
      subst (λ v. IsItem (sign s.OpenParenthesis p ∷ reserved w.Char q ∷ v)
          (character_item (position_of (head r)) a) u) (sym at) (from_character p q o r a u h.0),
      omega (arith, h.1),
    ))
    (λ u x. subst (λ v. DeepItem (suc (suc d)) (sign s.OpenParenthesis p ∷ reserved w.Char q ∷ v) u) (sym at)
    (deep_item_character x)))
    (λ n e. absurd (expect_not_deep s.CloseParenthesis m n e))

from_object : (p q o : Position) (ts : List Lexeme) (e : ExpressionTree) (r : List Lexeme) → IsE ts e r
    → IsItem (sign s.OpenParenthesis p ∷ reserved w.Object q ∷ sign s.CloseParenthesis o ∷ ts)
    (object_item (position_of (head ts)) e) r
from_object p q o [] e r h = absurd (omega (arith, short_E h))
from_object p q o (t ∷ m) e r h = item_object h

object_judged : (d : ℕ) (p q : Position) (m : List Lexeme)
    → Judged (λ i r. IsItem (sign s.OpenParenthesis p ∷ reserved w.Object q ∷ m) i r × (item_nesting i ≤ d))
    (DeepItem (suc d) (sign s.OpenParenthesis p ∷ reserved w.Object q ∷ m))
    (cast d object_item (sign s.OpenParenthesis p ∷ reserved w.Object q ∷ m))
unfolding cast
object_judged zero p q m = judged_deep (record { from = _; is = deep_item_object_parenthesis; left = refl })
object_judged (suc d) p q m =
    judged_after (expect s.CloseParenthesis m) _
    (λ r e.
    let o = position_of (head m) in
    let at = expect_ok s.CloseParenthesis m r e in
    judged_then _ (judged_E (suc d) r)
    (λ a u h. judged_read _ u (
      subst (λ v. IsItem (sign s.OpenParenthesis p ∷ reserved w.Object q ∷ v)
          (object_item (position_of (head r)) a) u) (sym at) (from_object p q o r a u h.0),
      omega (arith, h.1),
    ))
    (λ u x. subst (λ v. DeepItem (suc (suc d)) (sign s.OpenParenthesis p ∷ reserved w.Object q ∷ v) u) (sym at)
    (deep_item_object x)))
    (λ n e. absurd (expect_not_deep s.CloseParenthesis m n e))

value_judged : (d : ℕ) (ts : List Lexeme) → Judged (λ i r. IsItem ts i r × (item_nesting i ≤ d))
    (DeepItem (suc d) ts) (value d ts)
unfolding value
value_judged d ts =
    judged_by (is_sign s.OpenParenthesis (head ts) && is_word w.Char (head (tail ts))) _ _
    (λ e.
    let b = both (is_sign s.OpenParenthesis (head ts)) (is_word w.Char (head (tail ts))) e in
    let at = at_sign s.OpenParenthesis ts b.0 ∙ ap (λ u. sign s.OpenParenthesis (position_of (head ts)) ∷ u)
    (at_word w.Char (tail ts) b.1) in
    subst (λ us. Judged (λ i r. IsItem us i r × (item_nesting i ≤ d)) (DeepItem (suc d) us) (cast d character_item us))
    (sym at) (character_judged d (position_of (head ts)) (position_of (head (tail ts))) (tail (tail ts))))
    (λ c. judged_by (is_sign s.OpenParenthesis (head ts) && is_word w.Object (head (tail ts))) _ _
    (λ e.
    let b = both (is_sign s.OpenParenthesis (head ts)) (is_word w.Object (head (tail ts))) e in
    let at = at_sign s.OpenParenthesis ts b.0 ∙ ap (λ u. sign s.OpenParenthesis (position_of (head ts)) ∷ u)
    (at_word w.Object (tail ts) b.1) in
    subst (λ us. Judged (λ i r. IsItem us i r × (item_nesting i ≤ d)) (DeepItem (suc d) us) (cast d object_item us))
    (sym at) (object_judged d (position_of (head ts)) (position_of (head (tail ts))) (tail (tail ts))))
    (λ e. judged_then _ (judged_E d ts) (λ a r h. judged_read _ r (from_number ts a r h.0, h.1))
    (λ v x. deep_item_number x)))

item_judged : (d : ℕ) (ts : List Lexeme) → Judged (λ i r. IsItem ts i r × (item_nesting i ≤ d)) (DeepItem (suc d) ts)
    (item d ts)
unfolding item
item_judged d (text bytes p ∷ ts) = judged_read (text_item bytes) ts (item_text, omega arith)
item_judged d ts = value_judged d ts

items_judged : (d : ℕ) (ts : List Lexeme) → Judged (λ is r. IsItems ts is r × (items_nesting is ≤ d))
    (DeepItems (suc d) ts) (items d ts)
unfolding items
items_judged d ts =
    list_judged (is_sign s.Comma) (item d) (λ us i r. IsItem us i r × (item_nesting i ≤ d))
    (λ us is r. IsItems us is r × (items_nesting is ≤ d)) (DeepItem (suc d)) (DeepItems (suc d))
    refl
    (λ us i r h. (items_last h.0, omega (arith, h.1)))
    (λ us i t m is r h e l.
    (items_comma (subst (λ x. IsItem us i (x ∷ m)) (is_that_sign s.Comma t e) h.0) l.0, omega (arith, h.1, l.1)))
    (λ us v x. deep_items_first x)
    (λ us i t m v h e x. deep_items_next (subst (λ y. IsItem us i (y ∷ m)) (is_that_sign s.Comma t e) h.0) x)
    (item_judged d) ts

pub printed_judged : (d : ℕ) (make : List PrintItemTree → StatementTree) (t : Lexeme) (ts : List Lexeme)
    → ((is : List PrintItemTree) (q : Position) (r : List Lexeme) → IsItems ts is (sign s.Semicolon q ∷ r)
    → IsS (t ∷ ts) (make is) r)
    → ((is : List PrintItemTree) → statement_nesting (make is) ≡ items_nesting is)
    → ((v : List Lexeme) → DeepItems (suc d) ts v → DeepS (suc d) (t ∷ ts) v)
    → Judged (λ x r. IsS (t ∷ ts) x r × (statement_nesting x ≤ d)) (DeepS (suc d) (t ∷ ts)) (printed d make ts)
unfolding printed
printed_judged d make t ts build same up =
    judged_then _ (items_judged d ts)
    (λ is r h. ended_judged (make is) r
    (λ p u e. (build is p u (subst (λ v. IsItems ts is v) e h.0), omega (arith, h.1, same is))))
    up

pub returned_judged : (d : ℕ) (p : Position) (ts : List Lexeme)
    → Judged (λ x r. IsS (reserved w.Return p ∷ ts) x r × (statement_nesting x ≤ d))
    (DeepS (suc d) (reserved w.Return p ∷ ts)) (returned d p ts)
unfolding returned
returned_judged d p ts =
    judged_by (is_sign s.Semicolon (head ts)) _ _
    (λ e. judged_read return_alone (tail ts) (
      subst (λ u. IsS (reserved w.Return p ∷ u) return_alone (tail ts)) (sym (at_sign s.Semicolon ts e)) s_return,
      omega arith,
    ))
    (λ e. judged_then _ (judged_E d ts)
    (λ a r h. ended_judged (return_value p a) r (λ q u x. (s_return_value (subst (λ v. IsE ts a v) x h.0), h.1)))
    (λ v x. deep_s_return x))

pub read_judged : (d : ℕ) (p : Position) (ts : List Lexeme)
    → Judged (λ x r. IsS (reserved w.Read p ∷ ts) x r × (statement_nesting x ≤ d))
    (DeepS (suc d) (reserved w.Read p ∷ ts)) (line_read ts)
unfolding line_read
read_judged d p ts =
    judged_then _ (name_judged ts)
    (λ a m h. judged_then _ (name_judged m)
    (λ b u g. ended_judged (read_line a b) u
    (λ j r e.
    let at = h ∙ ap (λ us. name a.text a.position ∷ us) (g ∙ ap (λ us. name b.text b.position ∷ us) e) in
    (subst (λ us. IsS (reserved w.Read p ∷ us) (read_line a b) r) (sym at) s_read, omega arith)))
    (λ v x. absurd x))
    (λ v x. absurd x)

flag_judged : (ts : List Lexeme) → Judged (IsFlag ts) (λ v. ⊥) (flag ts)
unfolding flag
flag_judged ts =
    judged_by (is_sign s.Tilde (head ts)) _ _
    (λ e. judged_then _ (name_judged (tail ts))
    (λ n r h.
    let at = at_sign s.Tilde ts e ∙ ap (λ us. sign s.Tilde (position_of (head ts)) ∷ us) h in
    judged_read (false, n) r (subst (λ us. IsFlag us (false, n) r) (sym at) flag_taken))
    (λ v x. x))
    (λ e. judged_then _ (name_judged ts)
    (λ n r h. judged_read (true, n) r (subst (λ us. IsFlag us (true, n) r) (sym h) flag_given))
    (λ v x. x))

more_flags_judged : (n : ℕ) (ts : List Lexeme) → Judged (IsFlags ts) (λ v. ⊥) (repeated begins_flag flag n ts)
more_flags_judged n ts =
    repeated_judged begins_flag flag IsFlag IsFlags (λ us v. ⊥) (λ us v. ⊥)
    (λ r. flags_none)
    (λ us x m xs r q l. flags_next q l)
    (λ us v e x. x)
    (λ us x m v q z. z)
    flag_judged n ts

flags_judged : (ts : List Lexeme) → Judged (IsGiven ts) (λ v. ⊥) (flags ts)
unfolding flags
flags_judged ts =
    judged_then _ (flag_judged ts)
    (λ x m h. judged_then _ (more_flags_judged (length m) m) (λ xs r g. judged_read (x ∷ xs) r (given_first h g))
    (λ v z. z))
    (λ v z. z)

pub given_judged : (d : ℕ) (p : Position) (ts : List Lexeme)
    → Judged (λ x r. IsS (reserved w.Give p ∷ ts) x r × (statement_nesting x ≤ d))
    (DeepS (suc d) (reserved w.Give p ∷ ts)) (given d p ts)
unfolding given
given_judged d p ts =
    judged_then _ (judged_E d ts)
    (λ e m h. judged_then _ (flags_judged m)
    (λ xs r g. ended_judged (give p e xs) r (λ q u x. (s_give h.0 (subst (λ v. IsGiven m xs v) x g), h.1)))
    (λ v z. absurd z))
    (λ v x. deep_s_give x)

pub moved_judged : (d : ℕ) (p : Position) (ts : List Lexeme)
    → Judged (λ x r. IsS (reserved w.Move p ∷ ts) x r × (statement_nesting x ≤ d))
    (DeepS (suc d) (reserved w.Move p ∷ ts)) (moved d p ts)
unfolding moved
moved_judged d p ts =
    judged_then _ (judged_E d ts)
    (λ a u h. judged_after (expect_word w.To u) _
    (λ m e.
    let object = subst (λ v. IsE ts a v) (expect_word_ok w.To u m e) h.0 in
    judged_then _ (judged_E d m)
    (λ b r g. ended_judged (move p a b) r
    (λ q v x. (s_move object (subst (λ y. IsE m b y) x g.0), omega (arith, h.1, g.1))))
    (λ v x. deep_s_move_to object x))
    (λ n e. absurd (expect_word_not_deep w.To u n e)))
    (λ v x. deep_s_move x)

pub removed_judged : (d : ℕ) (p : Position) (ts : List Lexeme)
    → Judged (λ x r. IsS (reserved w.Remove p ∷ ts) x r × (statement_nesting x ≤ d))
    (DeepS (suc d) (reserved w.Remove p ∷ ts)) (removed d p ts)
unfolding removed
removed_judged d p ts =
    judged_then _ (judged_E d ts)
    (λ e r h. ended_judged (remove p e) r (λ q u x. (s_remove (subst (λ v. IsE ts e v) x h.0), h.1)))
    (λ v x. deep_s_remove x)

pub alone_judged : (d : ℕ) (ts : List Lexeme)
    → Judged (λ x r. IsS ts x r × (statement_nesting x ≤ d)) (DeepS (suc d) ts)
    (alone d ts)
unfolding alone
alone_judged d ts =
    judged_then _ (judged_E d ts)
    (λ a r h. judged_by (has_effect a) _ _
    (λ f. ended_judged (effect (position_of (head ts)) a) r
    (λ q u x. (from_effect ts a q u (subst (λ v. IsE ts a v) x h.0) f, h.1)))
    (λ f. judged_grammar))
    (λ v x. deep_s_effect x)
