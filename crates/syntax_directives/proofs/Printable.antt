-- Where the texts of tokens print, so do those of the trees that the tokens derive.
use Rattle.std.proofs.Common.{ℕ, List, [], ◌∷◌, ◌++◌, Option, subst}
use Rattle.std.specs.List.{All}
use Rattle.std.proofs.lemmas.List.Elements.{All-nil, All-cons, All-head, All-tail}
use Rattle.syntax_lexer.specs.declared.token.Position.{Position}
use Rattle.syntax_lexer.specs.Token.{Lexeme, text}
use Rattle.syntax_lexer.specs.Printable.{IsPrintable, HasPrintableText}
use Rattle.syntax_trees.specs.Tree.{NameTree, ExpressionTree}
use Rattle.syntax_statements.specs.PartTree.{LiteralTree, PrintItemTree, LoopTree, over_all, over_in, over_where}
use Rattle.syntax_statements.specs.PartGrammar.{IsK, k_number, k_negative, k_character, k_word, k_true, k_false}
use Rattle.syntax_statements.specs.PartGrammar.{k_nothing, k_name, IsOptional, optional_none, optional_some, IsItem}
use Rattle.syntax_statements.specs.PartGrammar.{item_text, item_character, item_object, item_number, IsItems}
use Rattle.syntax_statements.specs.PartGrammar.{items_last, items_comma}
use Rattle.syntax_statements.specs.Tree.{StatementTree, StatementTrees, CaseTrees, loop_over}
use Rattle.syntax_statements.specs.Grammar.{IsS, s_empty, s_block, s_text, s_print, s_print_ret, s_new_line, s_if}
use Rattle.syntax_statements.specs.Grammar.{s_if_else, s_while, s_do, s_for, s_switch, s_break, s_continue, s_return}
use Rattle.syntax_statements.specs.Grammar.{s_return_value, s_rtrue, s_rfalse, s_quit, s_read, s_give, s_move, s_remove}
use Rattle.syntax_statements.specs.Grammar.{s_objectloop, s_effect, IsSs, ss_stop, ss_next, IsCases, cases_none}
use Rattle.syntax_statements.specs.Grammar.{cases_default, cases_next}
use Rattle.syntax_directives.specs.Tree.{ValueTree, TextTree, PropertyTree, HeadTree, DirectiveTree}
use Rattle.syntax_directives.specs.Grammar.{IsNames, IsValue, v_value, IsValues, values_stop, values_next, IsArrows}
use Rattle.syntax_directives.specs.Grammar.{arrows_stop, arrows_next, short_none, short_text, IsHead, IsShortName}
use Rattle.syntax_directives.specs.Grammar.{head_arrows, head_parent, IsProp, prop_values, IsProps, props_last}
use Rattle.syntax_directives.specs.Grammar.{props_comma, IsComma, comma_none, comma_one, IsProperties, properties_none}
use Rattle.syntax_directives.specs.Grammar.{properties_with, IsAttributes, attributes_none, attributes_has, IsDirective}
use Rattle.syntax_directives.specs.Grammar.{d_global, d_global_value, d_constant, d_array, d_attribute, d_property}
use Rattle.syntax_directives.specs.Grammar.{d_property_value, d_object, d_routine, IsTexts, texts_stop, texts_next}
use Rattle.syntax_directives.specs.Printable.{IsPrintableItem, IsPrintableStatement, ArePrintableStatements}
use Rattle.syntax_directives.specs.Printable.{ArePrintableCases, IsPrintableText, IsPrintableName, IsPrintableDirective}
use Rattle.syntax_directives.proofs.Spelled.{Spelled, SpelledAbout}
use Rattle.syntax_directives.proofs.SpelledExpressions.{spelled_E}
use Rattle.syntax_directives.proofs.SpelledStatements.{spelled_Item, spelled_Labels, spelled_S, spelled_Ss}
use Rattle.syntax_directives.proofs.SpelledStatements.{spelled_Names, spelled_Loop}

-- the texts of tokens print
pub record Prints (ts : List Lexeme) : Type 0 where
  pub all : All HasPrintableText ts

pub after : {t : Lexeme} {ts : List Lexeme} → Prints (t ∷ ts) → Prints ts
after {t} {ts} h = record { all = All-tail HasPrintableText t ts h.all }

after_front : (front r : List Lexeme) → Prints (front ++ r) → Prints r
after_front [] r h = h
after_front (t ∷ front) r h = after_front front r (after h)

-- those after a part
rest : {w : ℕ} {ts r : List Lexeme} → Spelled w ts r → Prints ts → Prints r
rest {r = r} a h = after_front a.front r (subst Prints a.at h)

rest_about : {w n : ℕ} {ts r : List Lexeme} → SpelledAbout w n ts r → Prints ts → Prints r
rest_about {r = r} a h = after_front a.front r (subst Prints a.at h)

rest_optional : {ts r : List Lexeme} {e : Option ExpressionTree} → IsOptional ts e r → Prints ts → Prints r
rest_optional optional_none h = h
rest_optional (optional_some a) h = rest (spelled_E a) h

printed : {bytes : List ℕ} {p : Position} {ts : List Lexeme} → Prints (text bytes p ∷ ts) → All IsPrintable bytes
printed {bytes} {p} {ts} h = All-head HasPrintableText (text bytes p) ts h.all

item_prints : {ts r : List Lexeme} {i : PrintItemTree} → IsItem ts i r → Prints ts → IsPrintableItem i
item_prints item_text h = printed h
item_prints (item_character a) h = tt
item_prints (item_object a) h = tt
item_prints (item_number a) h = tt

items_print : {ts r : List Lexeme} {is : List PrintItemTree} → IsItems ts is r → Prints ts → All IsPrintableItem is
items_print (items_last {i = i} a) h = All-cons IsPrintableItem i [] (item_prints a h) (All-nil IsPrintableItem)
items_print (items_comma {i = i} {is = is} a b) h = All-cons IsPrintableItem i is (item_prints a h)
    (items_print b (after (rest (spelled_Item a) h)))

loop_prints : (p : Position) (l : LoopTree) (x : StatementTree) → IsPrintableStatement x
    → IsPrintableStatement (loop_over p l x)
loop_prints p (over_all n) x h = h
loop_prints p (over_in n e) x h = h
loop_prints p (over_where n e) x h = h

mutual
  statement_prints : {ts r : List Lexeme} {x : StatementTree} → IsS ts x r → Prints ts → IsPrintableStatement x
  statement_prints s_empty h = tt
  statement_prints (s_block a) h = statements_print a (after h)
  statement_prints s_text h = printed h
  statement_prints (s_print a) h = items_print a (after h)
  statement_prints (s_print_ret a) h = items_print a (after h)
  statement_prints s_new_line h = tt
  statement_prints (s_if c a e) h = statement_prints a (after (rest (spelled_E c) (after (after h))))
  statement_prints (s_if_else c a b) h =
      let first = after (rest (spelled_E c) (after (after h))) in
      (statement_prints a first, statement_prints b (after (rest_about (spelled_S a) first)))
  statement_prints (s_while c a) h = statement_prints a (after (rest (spelled_E c) (after (after h))))
  statement_prints (s_do a c) h = statement_prints a (after h)
  statement_prints (s_for a f b c g x) h =
      let head = after (after h) in
      statement_prints x (after (rest_optional c (after (rest_optional b (after (rest_optional a head))))))
  statement_prints (s_objectloop {p = p} {l = l} {x = x} a b) h = loop_prints p l x
      (statement_prints b (after (rest (spelled_Loop a) (after (after h)))))
  statement_prints (s_switch e a) h = cases_print a (after (after (rest (spelled_E e) (after (after h)))))
  statement_prints s_break h = tt
  statement_prints s_continue h = tt
  statement_prints s_return h = tt
  statement_prints (s_return_value c) h = tt
  statement_prints s_rtrue h = tt
  statement_prints s_rfalse h = tt
  statement_prints s_quit h = tt
  statement_prints s_read h = tt
  statement_prints (s_give c a) h = tt
  statement_prints (s_move a b) h = tt
  statement_prints (s_remove c) h = tt
  statement_prints (s_effect c f) h = tt

  statements_print : {ts r : List Lexeme} {xs : StatementTrees} → IsSs ts xs r → Prints ts → ArePrintableStatements xs
  statements_print ss_stop h = tt
  statements_print (ss_next a b) h = (statement_prints a h, statements_print b (rest_about (spelled_S a) h))

  cases_print : {ts r : List Lexeme} {cs : CaseTrees} → IsCases ts cs r → Prints ts → ArePrintableCases cs
  cases_print cases_none h = tt
  cases_print (cases_default a) h = statements_print a (after (after h))
  cases_print (cases_next g a b) h =
      let body = rest_about (spelled_Labels g) h in
      (statements_print a body, cases_print b (rest_about (spelled_Ss a) body))

after_value : {ts r : List Lexeme} {k : LiteralTree} → IsK ts k r → Prints ts → Prints r
after_value k_number h = after h
after_value k_negative h = after (after h)
after_value k_character h = after h
after_value k_word h = after h
after_value k_true h = after h
after_value k_false h = after h
after_value k_nothing h = after h
after_value k_name h = after h

after_placed : {ts r : List Lexeme} {v : ValueTree} → IsValue ts v r → Prints ts → Prints r
after_placed (v_value a) h = after_value a h

after_values : {ts r : List Lexeme} {vs : List ValueTree} → IsValues ts vs r → Prints ts → Prints r
after_values values_stop h = h
after_values (values_next a b) h = after_values b (after_placed a h)

-- ---- objects

after_arrows : {ts r : List Lexeme} {ps : List Position} → IsArrows ts ps r → Prints ts → Prints r
after_arrows arrows_stop h = h
after_arrows (arrows_next a) h = after_arrows a (after h)

after_short : {ts r : List Lexeme} {x : Option TextTree} → IsShortName ts x r → Prints ts → Prints r
after_short short_none h = h
after_short short_text h = after h

after_head : {ts r : List Lexeme} {x : HeadTree} → IsHead ts x r → Prints ts → Prints r
after_head (head_arrows a b) h = after_short b (after (after_arrows a h))
after_head (head_parent b) h = after (after_short b (after h))

after_prop : {ts r : List Lexeme} {x : PropertyTree} → IsProp ts x r → Prints ts → Prints r
after_prop (prop_values a lt) h = after_values a (after h)

after_props : {ts r : List Lexeme} {xs : List PropertyTree} → IsProps ts xs r → Prints ts → Prints r
after_props (props_last a) h = after_prop a h
after_props (props_comma a b) h = after_props b (after (after_prop a h))

after_comma : {ts r : List Lexeme} → IsComma ts r → Prints ts → Prints r
after_comma comma_none h = h
after_comma comma_one h = after h

after_properties : {ts r : List Lexeme} {xs : List PropertyTree} → IsProperties ts xs r → Prints ts → Prints r
after_properties properties_none h = h
after_properties (properties_with c a) h = after_props a (after (after_comma c h))

after_names : {ts r : List Lexeme} {ns : List NameTree} → IsNames ts ns r → Prints ts → Prints r
after_names a h = rest (spelled_Names a) h

after_attributes : {ts r : List Lexeme} {ns : List NameTree} → IsAttributes ts ns r → Prints ts → Prints r
after_attributes attributes_none h = h
after_attributes (attributes_has c a lt) h = after_names a (after (after_comma c h))

short_prints : {ts r : List Lexeme} {x : Option TextTree} → IsShortName ts x r → Prints ts → IsPrintableName x
short_prints short_none h = tt
short_prints short_text h = printed h

head_prints : {ts r : List Lexeme} {x : HeadTree} → IsHead ts x r → Prints ts → IsPrintableName x.short
head_prints (head_arrows a b) h = short_prints b (after (after_arrows a h))
head_prints (head_parent b) h = short_prints b (after h)

-- ---- directives

pub directive_prints : {ts r : List Lexeme} {d : DirectiveTree} → IsDirective ts d r → Prints ts
    → IsPrintableDirective d
directive_prints d_global h = tt
directive_prints (d_global_value a) h = tt
directive_prints (d_constant a) h = tt
directive_prints (d_array o a lt) h = tt
directive_prints d_attribute h = tt
directive_prints d_property h = tt
directive_prints (d_property_value a) h = tt
directive_prints (d_object x a b) h = head_prints x (after h)
directive_prints (d_routine a b) h = statements_print b (after (after_names a (after (after h))))

pub after_directive : {ts r : List Lexeme} {d : DirectiveTree} → IsDirective ts d r → Prints ts → Prints r
after_directive d_global h = after (after (after h))
after_directive (d_global_value a) h = after (after_value a (after (after (after h))))
after_directive (d_constant a) h = after (after_value a (after (after (after h))))
after_directive (d_array o a lt) h = after (after_values a (after (after (after h))))
after_directive d_attribute h = after (after (after h))
after_directive d_property h = after (after (after h))
after_directive (d_property_value a) h = after (after_value a (after (after h)))
after_directive (d_object x a b) h = after (after_attributes b (after_properties a (after_head x (after h))))
after_directive (d_routine a b) h = after
    (after (rest_about (spelled_Ss b) (after (after_names a (after (after h))))))

-- ---- texts

pub texts_print : {ts r : List Lexeme} {xs : List TextTree} → IsTexts ts xs r → Prints ts → All IsPrintableText xs
texts_print texts_stop h = All-nil IsPrintableText
texts_print (texts_next {p = p} {bytes = bytes} {xs = xs} a) h = All-cons IsPrintableText
    (record { bytes = bytes; position = p }) xs (printed h) (texts_print a (after h))

pub after_texts : {ts r : List Lexeme} {xs : List TextTree} → IsTexts ts xs r → Prints ts → Prints r
after_texts texts_stop h = h
after_texts (texts_next a) h = after_texts a (after h)
