-- What entries leave is what their tokens end with. So where the end of a source stands at the end of its tokens alone,
-- nothing is left after it.
use Rattle.std.proofs.Common.{◌≡◌, List, [], ◌∷◌, ◌++◌, refl, subst}
use Rattle.std.specs.Prelude.{Option}
use Rattle.syntax_lexer.specs.declared.token.Position.{Position}
use Rattle.syntax_lexer.specs.Token.{Lexeme, end}
use Rattle.syntax_lexer.specs.Tokens.{EndsOnce}
use Rattle.syntax_statements.specs.PartTree.{LiteralTree}
use Rattle.syntax_statements.specs.PartGrammar.{IsK, k_number, k_negative, k_character, k_word, k_true, k_false}
use Rattle.syntax_statements.specs.PartGrammar.{k_nothing, k_name}
use Rattle.syntax_directives.specs.Answers.{EndsWith}
use Rattle.syntax_directives.specs.Tree.{ValueTree, TextTree, PropertyTree, HeadTree, DirectiveTree}
use Rattle.syntax_directives.specs.Grammar.{IsValue, v_value, IsValues, values_stop, values_next, IsArrows, arrows_stop}
use Rattle.syntax_directives.specs.Grammar.{arrows_next, IsShortName, short_none, short_text, IsHead, head_arrows}
use Rattle.syntax_directives.specs.Grammar.{head_parent, IsProp, prop_values, IsProps, props_last, props_comma, IsComma}
use Rattle.syntax_directives.specs.Grammar.{comma_none, comma_one, IsProperties, properties_none, properties_with}
use Rattle.syntax_directives.specs.Grammar.{IsAttributes, attributes_none, attributes_has, IsDirective, d_global}
use Rattle.syntax_directives.specs.Grammar.{d_global_value, d_constant, d_array, d_attribute, d_property}
use Rattle.syntax_directives.specs.Grammar.{d_property_value, d_object, d_routine, IsTexts, texts_stop, texts_next}
use Rattle.syntax_trees.specs.Tree.{NameTree}
use Rattle.syntax_directives.proofs.Ends.{after, further_on, past_names, after_statements}
use Rattle.syntax.specs.Tree.{EntryTree}
use Rattle.syntax.specs.Grammar.{IsEntry, e_directive, e_abbreviate, IsEntries, entries_stop, entries_next}

none : (r : List Lexeme) → EndsWith r r
none r = ([], refl)

one : (t : Lexeme) (r : List Lexeme) → EndsWith (t ∷ r) r
one t r = (t ∷ [], refl)

two : (t u : Lexeme) (r : List Lexeme) → EndsWith (t ∷ u ∷ r) r
two t u r = (t ∷ u ∷ [], refl)

three : (t u v : Lexeme) (r : List Lexeme) → EndsWith (t ∷ u ∷ v ∷ r) r
three t u v r = (t ∷ u ∷ v ∷ [], refl)

ends_K : {ts r : List Lexeme} {k : LiteralTree} → IsK ts k r → EndsWith ts r
ends_K k_number = one _ _
ends_K k_negative = two _ _ _
ends_K k_character = one _ _
ends_K k_word = one _ _
ends_K k_true = one _ _
ends_K k_false = one _ _
ends_K k_nothing = one _ _
ends_K k_name = one _ _

ends_Value : {ts r : List Lexeme} {v : ValueTree} → IsValue ts v r → EndsWith ts r
ends_Value (v_value a) = ends_K a

ends_Values : {ts r : List Lexeme} {vs : List ValueTree} → IsValues ts vs r → EndsWith ts r
ends_Values values_stop = none _
ends_Values (values_next a b) = further_on _ _ _ (ends_Value a) (ends_Values b)

ends_Arrows : {ts r : List Lexeme} {ps : List Position} → IsArrows ts ps r → EndsWith ts r
ends_Arrows arrows_stop = none _
ends_Arrows (arrows_next a) = after _ _ _ (ends_Arrows a)

ends_Short : {ts r : List Lexeme} {x : Option TextTree} → IsShortName ts x r → EndsWith ts r
ends_Short short_none = none _
ends_Short short_text = one _ _

ends_Head : {ts r : List Lexeme} {h : HeadTree} → IsHead ts h r → EndsWith ts r
ends_Head (head_arrows a b) = further_on _ _ _ (ends_Arrows a) (after _ _ _ (ends_Short b))
ends_Head (head_parent a) = after _ _ _ (further_on _ _ _ (ends_Short a) (one _ _))

ends_Prop : {ts r : List Lexeme} {x : PropertyTree} → IsProp ts x r → EndsWith ts r
ends_Prop (prop_values a lt) = after _ _ _ (ends_Values a)

ends_Props : {ts r : List Lexeme} {xs : List PropertyTree} → IsProps ts xs r → EndsWith ts r
ends_Props (props_last a) = ends_Prop a
ends_Props (props_comma a b) = further_on _ _ _ (ends_Prop a) (after _ _ _ (ends_Props b))

ends_Comma : {ts r : List Lexeme} → IsComma ts r → EndsWith ts r
ends_Comma comma_none = none _
ends_Comma comma_one = one _ _

ends_Properties : {ts r : List Lexeme} {xs : List PropertyTree} → IsProperties ts xs r → EndsWith ts r
ends_Properties properties_none = none _
ends_Properties (properties_with a b) = further_on _ _ _ (ends_Comma a) (after _ _ _ (ends_Props b))

ends_Attributes : {ts r : List Lexeme} {ns : List NameTree} → IsAttributes ts ns r → EndsWith ts r
ends_Attributes attributes_none = none _
ends_Attributes (attributes_has a b lt) = further_on _ _ _ (ends_Comma a) (after _ _ _ (past_names b))

ends_Directive : {ts r : List Lexeme} {x : DirectiveTree} → IsDirective ts x r → EndsWith ts r
ends_Directive d_global = three _ _ _ _
ends_Directive (d_global_value a) = further_on _ _ _ (three _ _ _ _) (further_on _ _ _ (ends_K a) (one _ _))
ends_Directive (d_constant a) = further_on _ _ _ (three _ _ _ _) (further_on _ _ _ (ends_K a) (one _ _))
ends_Directive (d_array o a lt) = further_on _ _ _ (three _ _ _ _) (further_on _ _ _ (ends_Values a) (one _ _))
ends_Directive d_attribute = three _ _ _ _
ends_Directive d_property = three _ _ _ _
ends_Directive (d_property_value a) = further_on _ _ _ (two _ _ _) (further_on _ _ _ (ends_K a) (one _ _))
ends_Directive (d_object h a b) = after _ _ _
    (further_on _ _ _ (ends_Head h)
    (further_on _ _ _ (ends_Properties a) (further_on _ _ _ (ends_Attributes b) (one _ _))))
ends_Directive (d_routine a b) = further_on _ _ _ (two _ _ _)
    (further_on _ _ _ (past_names a) (after _ _ _ (further_on _ _ _ (after_statements b) (two _ _ _))))

ends_Texts : {ts r : List Lexeme} {xs : List TextTree} → IsTexts ts xs r → EndsWith ts r
ends_Texts texts_stop = none _
ends_Texts (texts_next a) = after _ _ _ (ends_Texts a)

pub ends_Entry : {ts r : List Lexeme} {e : EntryTree} → IsEntry ts e r → EndsWith ts r
ends_Entry (e_directive a) = ends_Directive a
ends_Entry (e_abbreviate a lt) = after _ _ _ (further_on _ _ _ (ends_Texts a) (one _ _))

pub ends_Entries : {ts r : List Lexeme} {es : List EntryTree} → IsEntries ts es r → EndsWith ts r
ends_Entries entries_stop = none _
ends_Entries (entries_next a b) = further_on _ _ _ (ends_Entry a) (ends_Entries b)

-- ---- the end

some_left : (front : List Lexeme) (t : Lexeme) (r : List Lexeme) → front ++ t ∷ r ≡ [] → ⊥
some_left [] t r e = absurd cc
some_left (u ∷ front) t r e = absurd cc

once_left : (front : List Lexeme) (t : Lexeme) (r : List Lexeme) → EndsOnce (front ++ t ∷ r) → EndsOnce (t ∷ r)
once_left [] t r h = h
once_left (end p ∷ front) t r h = absurd (some_left front t r h)
once_left (_ ∷ front) t r h = once_left front t r h

-- after an end that entries leave stands nothing
pub end_alone_left : {ts r : List Lexeme} {es : List EntryTree} {p : Position} → EndsOnce ts
    → IsEntries ts es (end p ∷ r) → r ≡ []
end_alone_left {r = r} {p = p} h a =
    let b = ends_Entries a in
    once_left b.0 (end p) r (subst EndsOnce b.1 h)
