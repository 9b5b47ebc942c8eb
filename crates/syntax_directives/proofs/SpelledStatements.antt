-- What the tokens of a statement weigh, as its tree does.
use Rattle.std.proofs.Common.{◌≡◌, ℕ, ◌≤◌, ◌+◌, ◌*◌, List, [], ◌∷◌, length, Option, refl, arith}
use Rattle.syntax_lexer.specs.declared.token.Position.{Position}
use Rattle.syntax_lexer.specs.declared.token.Sign.TheVariants as s
use Rattle.syntax_lexer.specs.declared.token.Word.TheVariants as w
use Rattle.syntax_lexer.specs.Token.{Lexeme, name, number, text, character, dictionary_word, reserved, sign}
use Rattle.syntax_trees.specs.Tree.{NameTree, ExpressionTree}
use Rattle.syntax_expressions.specs.Grammar.{IsE}
use Rattle.syntax_statements.specs.PartTree.{LiteralTree, RangeTree, FlagTree, PrintItemTree, LoopTree, over_all}
use Rattle.syntax_statements.specs.PartTree.{over_in, over_where}
use Rattle.syntax_statements.specs.PartGrammar.{IsK, k_number, k_negative, k_character, k_word, k_true, k_false}
use Rattle.syntax_statements.specs.PartGrammar.{k_nothing, k_name, IsRange, range_alone, range_to, IsRanges}
use Rattle.syntax_statements.specs.PartGrammar.{ranges_last, ranges_comma, IsOptional, optional_none, optional_some}
use Rattle.syntax_statements.specs.PartGrammar.{IsLoop, loop_all, loop_in, loop_where, IsItem, item_text}
use Rattle.syntax_statements.specs.PartGrammar.{item_character, item_object, item_number, IsItems, items_last}
use Rattle.syntax_statements.specs.PartGrammar.{items_comma, IsFlag, flag_given, flag_taken, IsFlags, flags_none}
use Rattle.syntax_statements.specs.PartGrammar.{flags_next, IsGiven, given_first}
use Rattle.syntax_statements.specs.Tree.{StatementTree, StatementTrees, CaseTrees, loop_over}
use Rattle.syntax_statements.specs.Grammar.{s_objectloop, IsS, s_empty, s_block, s_text, s_print, s_print_ret}
use Rattle.syntax_statements.specs.Grammar.{s_new_line, s_if, s_if_else, s_while, s_do, s_for, s_switch, s_break}
use Rattle.syntax_statements.specs.Grammar.{s_continue, s_return, s_return_value, s_rtrue, s_rfalse, s_quit, s_read}
use Rattle.syntax_statements.specs.Grammar.{s_give, s_move, s_remove, s_effect, IsSs, ss_stop, ss_next, IsCases}
use Rattle.syntax_statements.specs.Grammar.{cases_none, cases_default, cases_next}
use Rattle.syntax_directives.specs.Grammar.{token_weight, weight_of, IsNames, names_stop, names_next}
use Rattle.syntax_directives.specs.Weight.{expression_weight, item_weight, item_weights, range_weight, range_weights}
use Rattle.syntax_directives.specs.Weight.{optional_weight, statement_weight, statement_weights, case_weights}
use Rattle.syntax_directives.specs.Weight.{upper_values, range_values, statement_values, statements_values, case_values}
use Rattle.syntax_directives.proofs.Spelled.{Spelled, spelled_none, after, joined, weighing, SpelledAbout}
use Rattle.syntax_directives.proofs.Spelled.{about, after_about, joined_about, weighing_about, weighs_about}
use Rattle.syntax_directives.proofs.SpelledExpressions.{spelled_E, spelled_E1, spelled_E3}

-- ---- what `print` prints

pub spelled_Item : {ts r : List Lexeme} {i : PrintItemTree} → IsItem ts i r → Spelled (item_weight i) ts r
spelled_Item (item_text {r = r} {p = p} {bytes = bytes}) = weighing (after (text bytes p) (spelled_none r))
    (omega arith)
spelled_Item (item_character {p = p} {q = q} {o = o} a) = weighing
    (after (sign s.OpenParenthesis p)
    (after (reserved w.Char q) (after (sign s.CloseParenthesis o) (spelled_E a)))) (omega arith)
spelled_Item (item_object {p = p} {q = q} {o = o} a) = weighing
    (after (sign s.OpenParenthesis p)
    (after (reserved w.Object q) (after (sign s.CloseParenthesis o) (spelled_E a)))) (omega arith)
spelled_Item (item_number a) = spelled_E a

-- with the word or the comma before the first item
spelled_Items : {ts r : List Lexeme} {is : List PrintItemTree} (t : Lexeme) → token_weight t ≡ 32 → IsItems ts is r
    → Spelled (item_weights is) (t ∷ ts) r
spelled_Items t h (items_last a) = weighing (after t (spelled_Item a)) (omega (arith, h))
spelled_Items t h (items_comma {p = p} a b) = weighing
    (after t (joined (spelled_Item a) (spelled_Items (sign s.Comma p) refl b))) (omega (arith, h))

-- a word and a condition in parentheses
opened : {m k : List Lexeme} {e : ExpressionTree} (t : Lexeme) (q o : Position) → token_weight t ≡ 32
    → IsE m e (sign s.CloseParenthesis o ∷ k)
    → SpelledAbout (96 + expression_weight e) 0 (t ∷ sign s.OpenParenthesis q ∷ m) k
opened {k = k} t q o h a = about
    (after t
    (after (sign s.OpenParenthesis q)
    (joined (spelled_E a) (after (sign s.CloseParenthesis o) (spelled_none k))))) (omega (arith, h))

-- ---- what begins a case

spelled_K : {ts r : List Lexeme} {k : LiteralTree} → IsK ts k r → SpelledAbout 32 1 ts r
spelled_K (k_number {r = r} {p = p} {n = n}) = about (after (number n p) (spelled_none r)) refl
spelled_K (k_negative {r = r} {p = p} {q = q} {n = n}) = record {
  front = sign s.Minus p ∷ number n q ∷ [];
  at = refl;
  signs = 1;
  few = omega arith;
  weight = refl;
}
spelled_K (k_character {r = r} {p = p} {c = c}) = about (after (character c p) (spelled_none r)) refl
spelled_K (k_word {r = r} {p = p} {s = f}) = about (after (dictionary_word f p) (spelled_none r)) refl
spelled_K (k_true {r = r} {p = p}) = about (after (reserved w.True p) (spelled_none r)) refl
spelled_K (k_false {r = r} {p = p}) = about (after (reserved w.False p) (spelled_none r)) refl
spelled_K (k_nothing {r = r} {p = p}) = about (after (reserved w.Nothing p) (spelled_none r)) refl
spelled_K (k_name {r = r} {p = p} {n = n}) = about (after (name n p) (spelled_none r)) refl

spelled_Range : {ts r : List Lexeme} {g : RangeTree} → IsRange ts g r
    → SpelledAbout (range_weight g) (1 + upper_values g.high) ts r
spelled_Range (range_alone a) = weighing_about (spelled_K a) (omega arith) (omega arith)
spelled_Range (range_to {p = p} a b) = weighing_about
    (joined_about (spelled_K a) (after_about (reserved w.To p) (spelled_K b))) (omega arith) (omega arith)

-- with the token after them
pub spelled_Labels : {ts r : List Lexeme} {gs : List RangeTree} {p : Position} → IsRanges ts gs (sign s.Colon p ∷ r)
    → SpelledAbout (range_weights gs) (range_values gs) ts r
spelled_Labels {r = r} {p = p} (ranges_last a) = weighing_about
    (joined_about (spelled_Range a) (about {n = 0} (after (sign s.Colon p) (spelled_none r)) refl)) (omega arith)
    (omega arith)
spelled_Labels (ranges_comma {p = p} a b) = weighing_about
    (joined_about (spelled_Range a) (after_about (sign s.Comma p) (spelled_Labels b))) (omega arith) (omega arith)

pub spelled_Optional : {ts r : List Lexeme} {e : Option ExpressionTree} → IsOptional ts e r
    → Spelled (optional_weight e) ts r
spelled_Optional {ts} optional_none = spelled_none ts
spelled_Optional (optional_some a) = spelled_E a

-- ---- what an `objectloop` goes over

abbrev loop_weight : LoopTree → ℕ
loop_weight (over_all n) = 32
loop_weight (over_in n e) = 64 + expression_weight e
loop_weight (over_where n e) = expression_weight e

loop_weighs : (p : Position) (l : LoopTree) (x : StatementTree)
    → statement_weight (loop_over p l x) ≡ 96 + loop_weight l + statement_weight x
loop_weighs p (over_all n) x = refl
loop_weighs p (over_in n e) x = omega arith
loop_weighs p (over_where n e) x = refl

loop_values : (p : Position) (l : LoopTree) (x : StatementTree)
    → statement_values (loop_over p l x) ≡ statement_values x
loop_values p (over_all n) x = refl
loop_values p (over_in n e) x = refl
loop_values p (over_where n e) x = refl

pub spelled_Loop : {ts r : List Lexeme} {l : LoopTree} → IsLoop ts l r → Spelled (loop_weight l) ts r
spelled_Loop (loop_all {r = r} {p = p} {n = n}) = after (name n p) (spelled_none r)
spelled_Loop (loop_in {p = p} {q = q} {n = n} a) = weighing
    (after (name n p) (after (reserved w.In q) (spelled_E3 a))) (omega arith)
spelled_Loop (loop_where a f) = spelled_E1 a

-- ---- the attributes of `give`

spelled_Flag : {ts r : List Lexeme} {x : FlagTree} → IsFlag ts x r → SpelledAbout 32 1 ts r
spelled_Flag (flag_given {r = r} {p = p} {n = n}) = about (after (name n p) (spelled_none r)) refl
spelled_Flag (flag_taken {r = r} {p = p} {q = q} {n = n}) = record {
  front = sign s.Tilde q ∷ name n p ∷ [];
  at = refl;
  signs = 1;
  few = omega arith;
  weight = refl;
}

spelled_Flags : {ts r : List Lexeme} {xs : List FlagTree} → IsFlags ts xs r
    → SpelledAbout (32 * length xs) (length xs) ts r
spelled_Flags {ts} flags_none = about (spelled_none ts) refl
spelled_Flags (flags_next a b) = weighing_about (joined_about (spelled_Flag a) (spelled_Flags b)) (omega arith)
    (omega arith)

spelled_Given : {ts r : List Lexeme} {xs : List FlagTree} → IsGiven ts xs r
    → SpelledAbout (32 * length xs) (length xs) ts r
spelled_Given (given_first a b) = weighing_about (joined_about (spelled_Flag a) (spelled_Flags b)) (omega arith)
    (omega arith)

-- ---- statements

-- two tokens
pair_about : {w n : ℕ} (t u : Lexeme) (r : List Lexeme) → token_weight t + token_weight u ≡ w
    → SpelledAbout w n (t ∷ u ∷ r) r
pair_about t u r e = about (after t (after u (spelled_none r))) (omega (arith, e))

mutual
  pub spelled_S : {ts r : List Lexeme} {x : StatementTree} → IsS ts x r
      → SpelledAbout (statement_weight x) (statement_values x) ts r
  spelled_S (s_empty {r = r} {p = p}) = about (after (sign s.Semicolon p) (spelled_none r)) refl
  spelled_S (s_block {r = r} {p = p} {q = q} a) = weighing_about
      (after_about (sign s.OpenBrace p)
      (joined_about (spelled_Ss a) (about {n = 0} (after (sign s.CloseBrace q) (spelled_none r)) refl)))
      (omega arith) (omega arith)
  spelled_S (s_text {r = r} {p = p} {q = q} {bytes = bytes}) = pair_about (text bytes p) (sign s.Semicolon q) r
      (omega arith)
  spelled_S (s_print {r = r} {p = p} {q = q} a) = about
      (joined (spelled_Items (reserved w.Print p) refl a) (after (sign s.Semicolon q) (spelled_none r)))
      (omega arith)
  spelled_S (s_print_ret {r = r} {p = p} {q = q} a) = about
      (joined (spelled_Items (reserved w.PrintRet p) refl a) (after (sign s.Semicolon q) (spelled_none r)))
      (omega arith)
  spelled_S (s_new_line {r = r} {p = p} {q = q}) = pair_about (reserved w.NewLine p) (sign s.Semicolon q) r refl
  spelled_S (s_if {p = p} {q = q} {o = o} c a e) = weighing_about
      (joined_about (opened (reserved w.If p) q o refl c) (spelled_S a)) (omega arith) (omega arith)
  spelled_S (s_if_else {p = p} {q = q} {o = o} {e = e} c a b) = weighing_about
      (joined_about (opened (reserved w.If p) q o refl c)
      (joined_about (spelled_S a) (after_about (reserved w.Else e) (spelled_S b)))) (omega arith) (omega arith)
  spelled_S (s_while {p = p} {q = q} {o = o} c a) = weighing_about
      (joined_about (opened (reserved w.While p) q o refl c) (spelled_S a)) (omega arith) (omega arith)
  spelled_S (s_do {r = r} {p = p} {q = q} {o = o} {u = u} {j = j} a c) = weighing_about
      (after_about (reserved w.Do p)
      (joined_about (spelled_S a)
      (joined_about (opened (reserved w.Until u) q o refl c)
      (about {n = 0} (after (sign s.Semicolon j) (spelled_none r)) refl)))) (omega arith) (omega arith)
  spelled_S (s_for {p = p} {q = q} {o = o} {i = i} {j = j} a f b c g x) = weighing_about
      (after_about (reserved w.For p)
      (after_about (sign s.OpenParenthesis q)
      (joined_about (about {n = 0} (spelled_Optional a) refl)
      (after_about (sign s.Colon i)
      (joined_about (about {n = 0} (spelled_Optional b) refl)
      (after_about (sign s.Colon j)
      (joined_about (about {n = 0} (spelled_Optional c) refl)
      (after_about (sign s.CloseParenthesis o) (spelled_S x))))))))) (omega arith) (omega arith)
  spelled_S (s_objectloop {p = p} {q = q} {o = o} {l = l} {x = x} a b) = weighing_about
      (after_about (reserved w.Objectloop p)
      (after_about (sign s.OpenParenthesis q)
      (joined_about (about {n = 0} (spelled_Loop a) refl)
      (after_about (sign s.CloseParenthesis o) (spelled_S b))))) (omega (arith, loop_weighs p l x))
      (omega (arith, loop_values p l x))
  spelled_S (s_switch {r = r} {p = p} {q = q} {o = o} {i = i} {j = j} e a) = weighing_about
      (joined_about (opened (reserved w.Switch p) q o refl e)
      (after_about (sign s.OpenBrace i)
      (joined_about (spelled_Cases a) (about {n = 0} (after (sign s.CloseBrace j) (spelled_none r)) refl))))
      (omega arith) (omega arith)
  spelled_S (s_break {r = r} {p = p} {q = q}) = pair_about (reserved w.Break p) (sign s.Semicolon q) r refl
  spelled_S (s_continue {r = r} {p = p} {q = q}) = pair_about (reserved w.Continue p) (sign s.Semicolon q) r refl
  spelled_S (s_return {r = r} {p = p} {q = q}) = pair_about (reserved w.Return p) (sign s.Semicolon q) r refl
  spelled_S (s_return_value {r = r} {p = p} {q = q} c) = about
      (after (reserved w.Return p) (joined (spelled_E c) (after (sign s.Semicolon q) (spelled_none r))))
      (omega arith)
  spelled_S (s_rtrue {r = r} {p = p} {q = q}) = pair_about (reserved w.Rtrue p) (sign s.Semicolon q) r refl
  spelled_S (s_rfalse {r = r} {p = p} {q = q}) = pair_about (reserved w.Rfalse p) (sign s.Semicolon q) r refl
  spelled_S (s_quit {r = r} {p = p} {q = q}) = pair_about (reserved w.Quit p) (sign s.Semicolon q) r refl
  spelled_S (s_read {r = r} {p = p} {q = q} {o = o} {j = j} {a = a} {b = b}) = about
      (after (reserved w.Read p)
      (after (name a q) (after (name b o) (after (sign s.Semicolon j) (spelled_none r))))) refl
  spelled_S (s_give {r = r} {p = p} {q = q} c a) = weighing_about
      (after_about (reserved w.Give p)
      (joined_about (about {n = 0} (spelled_E c) refl)
      (joined_about (spelled_Given a) (about {n = 0} (after (sign s.Semicolon q) (spelled_none r)) refl))))
      (omega arith) (omega arith)
  spelled_S (s_move {r = r} {p = p} {q = q} {o = o} a b) = about
      (after (reserved w.Move p)
      (joined (spelled_E a)
      (after (reserved w.To o) (joined (spelled_E b) (after (sign s.Semicolon q) (spelled_none r))))))
      (omega arith)
  spelled_S (s_remove {r = r} {p = p} {q = q} c) = about
      (after (reserved w.Remove p) (joined (spelled_E c) (after (sign s.Semicolon q) (spelled_none r))))
      (omega arith)
  spelled_S (s_effect {r = r} {q = q} c f) = about
      (joined (spelled_E c) (after (sign s.Semicolon q) (spelled_none r))) (omega arith)

  pub spelled_Ss : {ts r : List Lexeme} {xs : StatementTrees} → IsSs ts xs r
      → SpelledAbout (statement_weights xs) (statements_values xs) ts r
  spelled_Ss {ts} ss_stop = about (spelled_none ts) refl
  spelled_Ss (ss_next a b) = joined_about (spelled_S a) (spelled_Ss b)

  spelled_Cases : {ts r : List Lexeme} {cs : CaseTrees} → IsCases ts cs r
      → SpelledAbout (case_weights cs) (case_values cs) ts r
  spelled_Cases {ts} cases_none = about (spelled_none ts) refl
  spelled_Cases (cases_default {p = p} {q = q} a) = weighing_about
      (after_about (reserved w.Default p) (after_about (sign s.Colon q) (spelled_Ss a))) (omega arith)
      (omega arith)
  spelled_Cases (cases_next g a b) = weighing_about
      (joined_about (spelled_Labels g) (joined_about (spelled_Ss a) (spelled_Cases b))) (omega arith) (omega arith)

pub spelled_Names : {ts r : List Lexeme} {ns : List NameTree} → IsNames ts ns r → Spelled (32 * length ns) ts r
spelled_Names {ts} names_stop = spelled_none ts
spelled_Names (names_next {p = p} {n = n} a) = weighing (after (name n p) (spelled_Names a)) (omega arith)

-- the weight of a derivation's tokens is that of its tree, and of a statement's at least that

pub weight_Ss : {ts r : List Lexeme} {xs : StatementTrees} → IsSs ts xs r
    → statement_weights xs + weight_of r ≤ weight_of ts
weight_Ss a = omega (arith, weighs_about (spelled_Ss a))
