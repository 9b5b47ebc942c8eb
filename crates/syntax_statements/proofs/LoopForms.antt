-- Which expressions in the parentheses of an `objectloop` are a name alone, which a name and `in`, and what each tells.
use Rattle.std.proofs.Common.{◌≡◌, max, false, List, ◌∷◌, Some, None, refl, ap, subst, ◌∙◌, arith}
use Rattle.syntax_lexer.specs.declared.token.Position.{Position}
use Rattle.syntax_lexer.specs.declared.token.Word.TheVariants as w
use Rattle.syntax_lexer.specs.Token.{Lexeme, name, reserved, position_of}
use Rattle.syntax_trees.specs.declared.tree.Containment.{Containment}
use Rattle.syntax_trees.specs.declared.tree.Containment.TheVariants as containment
use Rattle.syntax_trees.specs.Tree as tree
use Rattle.syntax_trees.specs.Tree.{NameTree, ExpressionTree, contained}
use Rattle.syntax_expressions.specs.Operators.{containing}
use Rattle.syntax_expressions.specs.Grammar.{IsE1, e1_plain, e1_logical, n1_plain, n1_not, IsE2, e2_plain, e2_compare}
use Rattle.syntax_expressions.specs.Grammar.{e2_equal, e2_contained, e2_tested, IsE3, e3_plain, e3_add, e4_plain}
use Rattle.syntax_expressions.specs.Grammar.{e4_scale, IsN4, n4_plain, n4_complement, e5_plain, e5_index, e5_entry, IsU}
use Rattle.syntax_expressions.specs.Grammar.{u_plain, u_minus, u_before, u_after, u_length, IsP, p_property, p_number}
use Rattle.syntax_expressions.specs.Grammar.{p_character, p_word, p_true, p_false, p_nothing, p_name, p_call}
use Rattle.syntax_expressions.specs.Grammar.{p_call_with, p_relative, p_parenthesised, nesting}
use Rattle.syntax_statements.specs.PartTree.{over_where}
use Rattle.syntax_statements.specs.PartGrammar.{tells_objects}
use Rattle.syntax_statements.specs.PartParse.{name_alone, member, holder, loop_of}

-- ---- which expressions are a name alone

abbrev At : NameTree → List Lexeme → List Lexeme → Type 0
At x ts r = ts ≡ name x.text x.position ∷ r

that_name : (x y : NameTree) (r : List Lexeme) → name_alone (tree.named y) ≡ Some x
    → At x (name y.text y.position ∷ r) r
that_name x y r h = let same : y ≡ x = cc in ap (λ (z : NameTree). name z.text z.position ∷ r) same

alone_P : {ts r : List Lexeme} {e : ExpressionTree} (x : NameTree) → IsP ts e r → name_alone e ≡ Some x → At x ts r
alone_P x (p_property a) h = absurd cc
alone_P x p_number h = absurd cc
alone_P x p_character h = absurd cc
alone_P x p_word h = absurd cc
alone_P x p_true h = absurd cc
alone_P x p_false h = absurd cc
alone_P x p_nothing h = absurd cc
alone_P x (p_name {r = r} {p = p} {n = n}) h = that_name x (record { text = n; position = p }) r h
alone_P x p_call h = absurd cc
alone_P x (p_call_with a) h = absurd cc
alone_P x (p_relative o a) h = absurd cc
alone_P x (p_parenthesised a) h = absurd cc

alone_U : {ts r : List Lexeme} {e : ExpressionTree} (x : NameTree) → IsU ts e r → name_alone e ≡ Some x → At x ts r
alone_U x (u_plain a) h = alone_P x a h
alone_U x (u_minus a) h = absurd cc
alone_U x (u_before o a) h = absurd cc
alone_U x (u_after a o) h = absurd cc
alone_U x (u_length a) h = absurd cc

alone_N4 : {ts r : List Lexeme} {e : ExpressionTree} (x : NameTree) → IsN4 ts e r → name_alone e ≡ Some x → At x ts r
alone_N4 x (n4_plain (e5_plain a)) h = alone_U x a h
alone_N4 x (n4_plain (e5_index o a)) h = absurd cc
alone_N4 x (n4_plain (e5_entry a b)) h = absurd cc
alone_N4 x (n4_complement a) h = absurd cc

alone_E3 : {ts r : List Lexeme} {e : ExpressionTree} (x : NameTree) → IsE3 ts e r → name_alone e ≡ Some x → At x ts r
alone_E3 x (e3_plain (e4_plain a)) h = alone_N4 x a h
alone_E3 x (e3_plain (e4_scale a o b)) h = absurd cc
alone_E3 x (e3_add a o b) h = absurd cc

alone_E2 : {ts r : List Lexeme} {e : ExpressionTree} (x : NameTree) → IsE2 ts e r → name_alone e ≡ Some x → At x ts r
alone_E2 x (e2_plain a) h = alone_E3 x a h
alone_E2 x (e2_compare a o b) h = absurd cc
alone_E2 x (e2_equal a o b) h = absurd cc
alone_E2 x (e2_contained a o b) h = absurd cc
alone_E2 x (e2_tested a o) h = absurd cc

pub alone_E1 : {ts r : List Lexeme} {e : ExpressionTree} (x : NameTree) → IsE1 ts e r → name_alone e ≡ Some x
    → At x ts r
alone_E1 x (e1_plain (n1_plain a)) h = alone_E2 x a h
alone_E1 x (e1_plain (n1_not a)) h = absurd cc
alone_E1 x (e1_logical a o b) h = absurd cc

-- ---- which are a name and `in`

held_P : {ts r : List Lexeme} {e : ExpressionTree} → IsP ts e r → holder e ≡ None
held_P (p_property a) = refl
held_P p_number = refl
held_P p_character = refl
held_P p_word = refl
held_P p_true = refl
held_P p_false = refl
held_P p_nothing = refl
held_P p_name = refl
held_P p_call = refl
held_P (p_call_with a) = refl
held_P (p_relative o a) = refl
held_P (p_parenthesised a) = refl

held_U : {ts r : List Lexeme} {e : ExpressionTree} → IsU ts e r → holder e ≡ None
held_U (u_plain a) = held_P a
held_U (u_minus a) = refl
held_U (u_before o a) = refl
held_U (u_after a o) = refl
held_U (u_length a) = refl

held_E3 : {ts r : List Lexeme} {e : ExpressionTree} → IsE3 ts e r → holder e ≡ None
held_E3 (e3_plain (e4_plain (n4_plain (e5_plain a)))) = held_U a
held_E3 (e3_plain (e4_plain (n4_plain (e5_index o a)))) = refl
held_E3 (e3_plain (e4_plain (n4_plain (e5_entry a b)))) = refl
held_E3 (e3_plain (e4_plain (n4_complement a))) = refl
held_E3 (e3_plain (e4_scale a o b)) = refl
held_E3 (e3_add a o b) = refl

-- x stands in b: those tokens, up to r
pub record IsMember (ts : List Lexeme) (x : NameTree) (b : ExpressionTree) (r : List Lexeme) : Type 0 where
  pub joins : Position
  pub from : List Lexeme
  pub at : ts ≡ name x.text x.position ∷ reserved w.In joins ∷ from
  pub derives : IsE3 from b r

is_in : (t : Lexeme) → containing t ≡ Some containment.In → t ≡ reserved w.In (position_of t)
is_in (reserved w.In p) e = refl
is_in (reserved w.Notin p) e = absurd cc
is_in (reserved _ p) e = absurd cc
is_in _ e = absurd cc

member_contained : {ts m r : List Lexeme} {t : Lexeme} {a b c : ExpressionTree} (x : NameTree) (op : Containment)
    → IsE3 ts a (t ∷ m) → containing t ≡ Some op → IsE3 m b r → member (contained op a b) ≡ Some x
    → holder (contained op a b) ≡ Some c → IsMember ts x c r
member_contained {ts} {m} {r} {t} {b = b} {c = c} x containment.In a o d h g =
    let same : b ≡ c = cc in
    subst (λ z. IsMember ts x z r) same (record {
      joins = position_of t;
      from = m;
      at = alone_E3 x a h ∙ ap (λ u. name x.text x.position ∷ u ∷ m) (is_in t o);
      derives = d;
    })
member_contained x containment.NotIn a o d h g = absurd cc

pub member_E1 : {ts r : List Lexeme} {e b : ExpressionTree} (x : NameTree) → IsE1 ts e r → member e ≡ Some x
    → holder e ≡ Some b → IsMember ts x b r
member_E1 x (e1_plain (n1_plain (e2_plain a))) h g = let no = held_E3 a in absurd cc
member_E1 x (e1_plain (n1_plain (e2_compare a o d))) h g = absurd cc
member_E1 x (e1_plain (n1_plain (e2_equal a o d))) h g = absurd cc
member_E1 x (e1_plain (n1_plain (e2_contained {op = op} a o d))) h g = member_contained x op a o d h g
member_E1 x (e1_plain (n1_plain (e2_tested a o))) h g = absurd cc
member_E1 x (e1_plain (n1_not a)) h g = absurd cc
member_E1 x (e1_logical a o d) h g = absurd cc

-- ---- what such an expression tells

-- a member stands in something
pub held_member : (e : ExpressionTree) (x : NameTree) → member e ≡ Some x → holder e ≡ None → ⊥
held_member (contained op a b) x h g = absurd cc
held_member _ x h g = absurd cc

pub alone_nesting : (e : ExpressionTree) (x : NameTree) → name_alone e ≡ Some x → nesting e ≡ 0
alone_nesting (tree.named n) x h = refl
alone_nesting _ x h = absurd cc

pub member_nesting : (e b : ExpressionTree) (x : NameTree) → member e ≡ Some x → holder e ≡ Some b
    → nesting e ≡ nesting b
member_nesting (contained containment.In a c) b x h g =
    let same : c ≡ b = cc in
    subst (λ z. max (nesting a) (nesting c) ≡ nesting z) same (omega (arith, alone_nesting a x h))
member_nesting (contained containment.NotIn a c) b x h g = absurd cc
member_nesting _ b x h g = absurd cc

pub tells_none : (e : ExpressionTree) → name_alone e ≡ None → member e ≡ None → tells_objects e ≡ false
tells_none (tree.named n) h g = absurd cc
tells_none (contained containment.In (tree.named n) b) h g = absurd cc
tells_none _ h g = refl

pub tells_where : (x : NameTree) (e : ExpressionTree) → tells_objects e ≡ false → loop_of x e ≡ over_where x e
tells_where x (tree.named n) h = absurd cc
tells_where x (contained containment.In (tree.named n) b) h = absurd cc
tells_where x _ h = refl
