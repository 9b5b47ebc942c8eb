-- What is read of an object derives in the grammar, and takes tokens.
use Rattle.std.proofs.Common.{◌≡◌, ℕ, zero, suc, ◌<◌, ◌≤◌, Bool, true, false, cond, List, [], ◌∷◌, length, Option, Some}
use Rattle.std.proofs.Common.{None, refl, sym, subst, arith}
use Rattle.syntax_lexer.specs.declared.token.Position.{Position}
use Rattle.syntax_lexer.specs.declared.token.Sign.TheVariants as s
use Rattle.syntax_lexer.specs.declared.token.Word.TheVariants as w
use Rattle.syntax_lexer.specs.Token.{Lexeme, name, text, reserved, sign, position_of}
use Rattle.syntax_trees.specs.Tree.{NameTree}
use Rattle.syntax_trees.specs.Parse.{head, tail, is_sign, is_word, expect, as_long}
use Rattle.syntax_expressions.proofs.Judged.{Judged, judged_read, judged_grammar, judged_then, judged_after}
use Rattle.syntax_expressions.proofs.Judged.{judged_by, judged_as}
use Rattle.syntax_expressions.proofs.Tokens.{at_sign, at_word, expect_ok, expect_not_deep}
use Rattle.syntax_expressions.proofs.NamesRead.{name_judged}
use Rattle.syntax_statements.proofs.SoundRows.{repeated_judged}
use Rattle.syntax_directives.specs.Tree.{TextTree, PropertyTree, HeadTree, object}
use Rattle.syntax_directives.specs.Grammar.{IsArrows, arrows_stop, arrows_next, short_none, short_text, IsHead}
use Rattle.syntax_directives.specs.Grammar.{IsShortName, head_arrows, head_parent, IsProp, prop_values, IsProps}
use Rattle.syntax_directives.specs.Grammar.{props_last, props_comma, IsComma, comma_none, comma_one, IsProperties}
use Rattle.syntax_directives.specs.Grammar.{properties_none, properties_with, IsAttributes, attributes_none}
use Rattle.syntax_directives.specs.Grammar.{attributes_has, IsDirective, d_object}
use Rattle.syntax_directives.specs.Parse.{arrow, arrows, short, parent, object_heading, past_comma, prop}
use Rattle.syntax_directives.specs.Parse.{lists_further, next_prop, props, properties, attributes, object_after}
use Rattle.syntax_directives.proofs.Lists.{some_names_judged, short_Names, values_judged, short_Values}

-- ---- what is read derives

arrow_judged : (ts : List Lexeme) → Judged (λ p r. ts ≡ sign s.Arrow p ∷ r) (λ i. ⊥) (arrow ts)
unfolding arrow
arrow_judged ts =
    judged_after (expect s.Arrow ts) _
    (λ r e. judged_read (position_of (head ts)) r (expect_ok s.Arrow ts r e))
    (λ i e. absurd (expect_not_deep s.Arrow ts i e))

arrows_judged : (ts : List Lexeme) → Judged (λ ps r. IsArrows ts ps r) (λ i. ⊥) (arrows ts)
unfolding arrows
arrows_judged ts =
    repeated_judged (is_sign s.Arrow) arrow (λ us p r. us ≡ sign s.Arrow p ∷ r) (λ us ps r. IsArrows us ps r) (λ us i. ⊥)
    (λ us i. ⊥)
    (λ r. arrows_stop)
    (λ us p m ps r q l. subst (λ v. IsArrows v (p ∷ ps) r) (sym q) (arrows_next l))
    (λ us i e x. x)
    (λ us p m i q x. x)
    arrow_judged (length ts) ts

short_judged : (ts : List Lexeme) → Judged (λ x r. IsShortName ts x r) (λ i. ⊥) (short ts)
unfolding short
short_judged (text bytes p ∷ ts) = judged_read _ ts short_text
short_judged ts = judged_read None ts short_none

-- a parent, named only where no arrow stands
data IsParent : List Position → List Lexeme → Option NameTree → List Lexeme → Type 0 where
  parent_none : {ps : List Position} {r : List Lexeme} → IsParent ps r None r
  parent_named : {r : List Lexeme} {p : Position} {n : List ℕ}
      → IsParent [] (name n p ∷ r) (Some (record { text = n; position = p })) r

parent_judged : (ps : List Position) (ts : List Lexeme) → Judged (λ x r. IsParent ps ts x r) (λ i. ⊥) (parent ps ts)
unfolding parent
parent_judged [] (name n p ∷ ts) = judged_read _ ts parent_named
parent_judged [] ts = judged_read None ts parent_none
parent_judged (p ∷ ps) ts = judged_read None ts parent_none

head_made : {ts m k r : List Lexeme} {ps : List Position} {n : NameTree} {x : Option TextTree} {o : Option NameTree}
    → IsArrows ts ps (name n.text n.position ∷ m) → IsShortName m x k → IsParent ps k o r
    → IsHead ts (record { arrows = ps; name = n; short = x; parent = o }) r
head_made a b parent_none = head_arrows a b
head_made arrows_stop b parent_named = head_parent b

heading_judged : (ts : List Lexeme) → Judged (λ h r. IsHead ts h r) (λ i. ⊥) (object_heading ts)
unfolding object_heading
heading_judged ts =
    judged_then _ (arrows_judged ts)
    (λ ps a l. judged_then _ (name_judged a)
    (λ n b q. judged_then _ (short_judged b)
    (λ x c h. judged_then _ (parent_judged ps c)
    (λ o r g. judged_read _ r (head_made (subst (λ v. IsArrows ts ps v) q l) h g))
    (λ i x. x))
    (λ i x. x))
    (λ i x. x))
    (λ i x. x)

comma_judged : (ts : List Lexeme) → IsComma ts (past_comma ts)
unfolding past_comma
comma_judged ts = go (is_sign s.Comma (head ts)) refl
  where
    go : (b : Bool) → is_sign s.Comma (head ts) ≡ b → IsComma ts (cond b (tail ts) ts)
    go true e = subst (λ us. IsComma us (tail ts)) (sym (at_sign s.Comma ts e)) comma_one
    go false e = comma_none

prop_judged : (ts : List Lexeme) → Judged (λ x r. IsProp ts x r) (λ i. ⊥) (prop ts)
unfolding prop
prop_judged ts =
    judged_then _ (name_judged ts)
    (λ n m q. judged_then _ (values_judged m)
    (λ vs r l. judged_read _ r
    (subst (λ us. IsProp us (record { name = n; values = vs }) r) (sym q) (prop_values l.0 l.1)))
    (λ i x. x))
    (λ i x. x)

-- a property after a comma
record IsNext (ts : List Lexeme) (x : PropertyTree) (r : List Lexeme) : Type 0 where
  place : Position
  from : List Lexeme
  at : ts ≡ sign s.Comma place ∷ from
  is : IsProp from x r

next_judged : (ts : List Lexeme) → Judged (λ x r. IsNext ts x r) (λ i. ⊥) (next_prop ts)
unfolding next_prop
next_judged ts =
    judged_after (expect s.Comma ts) _
    (λ m e. judged_as (prop_judged m)
    (λ x r a. record { place = position_of (head ts); from = m; at = expect_ok s.Comma ts m e; is = a }) (λ i x. x))
    (λ i e. absurd (expect_not_deep s.Comma ts i e))

others_judged : (n : ℕ) (us ts : List Lexeme) (x : PropertyTree) → IsProp us x ts
    → Judged (λ xs r. IsProps us (x ∷ xs) r) (λ i. ⊥) (as_long lists_further next_prop n ts)
unfolding as_long
others_judged zero us ts x a = judged_read [] ts (props_last a)
others_judged (suc n) us ts x a =
    judged_by (lists_further ts) _ _
    (λ e. judged_then _ (next_judged ts)
    (λ y m h. judged_then _ (others_judged n h.from m y h.is)
    (λ ys r l. judged_read (y ∷ ys) r (props_comma (subst (λ v. IsProp us x v) h.at a) l))
    (λ i x. x))
    (λ i x. x))
    (λ e. judged_read [] ts (props_last a))

props_judged : (ts : List Lexeme) → Judged (λ xs r. IsProps ts xs r) (λ i. ⊥) (props ts)
unfolding props
props_judged ts =
    judged_then _ (prop_judged ts)
    (λ x m a. judged_then _ (others_judged (length m) ts m x a) (λ xs r l. judged_read (x ∷ xs) r l) (λ i x. x))
    (λ i x. x)

properties_judged : (ts : List Lexeme) → Judged (λ xs r. IsProperties ts xs r) (λ i. ⊥) (properties ts)
unfolding properties
properties_judged ts =
    judged_by (is_word w.With (head (past_comma ts))) _ _
    (λ e. judged_as (props_judged (tail (past_comma ts)))
    (λ xs r l. properties_with (subst (λ v. IsComma ts v) (at_word w.With (past_comma ts) e) (comma_judged ts)) l)
    (λ i x. x))
    (λ e. judged_read [] ts properties_none)

attributes_judged : (ts : List Lexeme) → Judged (λ ns r. IsAttributes ts ns r) (λ i. ⊥) (attributes ts)
unfolding attributes
attributes_judged ts =
    judged_by (is_word w.Has (head (past_comma ts))) _ _
    (λ e. judged_as (some_names_judged (tail (past_comma ts)))
    (λ ns r l. attributes_has
    (subst (λ v. IsComma ts v) (at_word w.Has (past_comma ts) e) (comma_judged ts)) l.0 l.1)
    (λ i x. x))
    (λ e. judged_by (is_sign s.Comma (head ts)) _ _ (λ f. judged_grammar) (λ f. judged_read [] ts attributes_none))

pub object_judged : (p : Position) (ts : List Lexeme)
    → Judged (λ o r. IsDirective (reserved w.Object p ∷ ts) (object o) r) (λ i. ⊥) (object_after ts)
unfolding object_after
object_judged p ts =
    judged_then _ (heading_judged ts)
    (λ h a e. judged_then _ (properties_judged a)
    (λ xs b f. judged_then _ (attributes_judged b)
    (λ ns c g. judged_after (expect s.Semicolon c) _
    (λ r k. judged_read _ r (d_object e f (subst (λ v. IsAttributes b ns v) (expect_ok s.Semicolon c r k) g)))
    (λ i k. absurd (expect_not_deep s.Semicolon c i k)))
    (λ i x. x))
    (λ i x. x))
    (λ i x. x)

-- ---- each derivation takes a token

short_Arrows : {ts r : List Lexeme} {ps : List Position} → IsArrows ts ps r → length r ≤ length ts
short_Arrows arrows_stop = omega arith
short_Arrows (arrows_next a) = omega (arith, short_Arrows a)

short_Short : {ts r : List Lexeme} {x : Option TextTree} → IsShortName ts x r → length r ≤ length ts
short_Short short_none = omega arith
short_Short short_text = omega arith

pub short_Head : {ts r : List Lexeme} {h : HeadTree} → IsHead ts h r → length r < length ts
short_Head (head_arrows a b) = omega (arith, short_Arrows a, short_Short b)
short_Head (head_parent b) = omega (arith, short_Short b)

pub short_Prop : {ts r : List Lexeme} {x : PropertyTree} → IsProp ts x r → length r < length ts
short_Prop (prop_values a lt) = omega (arith, short_Values a)

short_Props : {ts r : List Lexeme} {xs : List PropertyTree} → IsProps ts xs r → length r < length ts
short_Props (props_last a) = short_Prop a
short_Props (props_comma a b) = omega (arith, short_Prop a, short_Props b)

short_Comma : {ts r : List Lexeme} → IsComma ts r → length r ≤ length ts
short_Comma comma_none = omega arith
short_Comma comma_one = omega arith

pub short_Properties : {ts r : List Lexeme} {xs : List PropertyTree} → IsProperties ts xs r → length r ≤ length ts
short_Properties properties_none = omega arith
short_Properties (properties_with c a) = omega (arith, short_Comma c, short_Props a)

pub short_Attributes : {ts r : List Lexeme} {ns : List NameTree} → IsAttributes ts ns r → length r ≤ length ts
short_Attributes attributes_none = omega arith
short_Attributes (attributes_has c a lt) = omega (arith, short_Comma c, short_Names a)
