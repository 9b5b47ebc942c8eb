-- What is read derives in the grammar and is nested no deeper than was allowed; and where the fault is that a token
-- stands too deep, one does.
use Rattle.std.proofs.Common.{◌≡◌, ℕ, suc, ◌-◌, ◌≤◌, List, [], ◌∷◌, Option, Some, None, refl, sym, ap, subst, ◌∙◌}
use Rattle.std.proofs.Common.{arith}
use Rattle.syntax_lexer.specs.declared.token.Position.{Position}
use Rattle.syntax_lexer.specs.declared.token.Sign.TheVariants as s
use Rattle.syntax_lexer.specs.declared.token.Word.{Word}
use Rattle.syntax_lexer.specs.declared.token.Word.TheVariants as w
use Rattle.syntax_lexer.specs.Token.{Lexeme, name, reserved, sign, position_of}
use Rattle.syntax_trees.specs.Parse.{head, tail, is_sign, expect}
use Rattle.syntax_expressions.proofs.Judged.{Judged, judged_read, judged_grammar, judged_then, judged_after}
use Rattle.syntax_expressions.proofs.Judged.{judged_by}
use Rattle.syntax_expressions.proofs.Tokens.{at_sign, expect_ok, expect_not_deep}
use Rattle.syntax_expressions.proofs.NamesRead.{name_judged}
use Rattle.syntax_statements.specs.PartGrammar.{IsK}
use Rattle.syntax_statements.specs.PartParse.{begins_value}
use Rattle.syntax_statements.specs.Views.{trees_of}
use Rattle.syntax_statements.specs.Grammar.{IsSs, body_nesting}
use Rattle.syntax_statements.proofs.KnownValues.{known_judged}
use Rattle.syntax_statements.proofs.Sound.{judged_Ss}
use Rattle.syntax_directives.specs.declared.tree.ArrayKind.{ArrayKind}
use Rattle.syntax_directives.specs.Tree.{DirectiveTree, global, constant, array, attribute, property, object, routine}
use Rattle.syntax_directives.specs.Grammar.{weight_of, IsNames, IsValues, kind_of, IsDirective, d_global}
use Rattle.syntax_directives.specs.Grammar.{d_global_value, d_constant, d_array, d_attribute, d_property}
use Rattle.syntax_directives.specs.Grammar.{d_property_value, d_routine, directive_nesting}
use Rattle.syntax_directives.specs.Nesting.{DeepDirective, deep_d_routine}
use Rattle.syntax_directives.specs.Parse.{kind_on, kind, array_after, ended, global_after, constant_after}
use Rattle.syntax_directives.specs.Parse.{attribute_after, property_after, directive_of, routine_at, directive}
use Rattle.syntax_directives.proofs.Lists.{names_judged, values_judged}
use Rattle.syntax_directives.proofs.ObjectsRead.{object_judged}

-- ---- arrays

kind_judged : (ts : List Lexeme) → Judged
    (λ k r. (ts ≡ head ts ∷ r) × (kind_of (head ts) ≡ Some k)) (λ i. ⊥) (kind ts)
unfolding kind
kind_judged [] = judged_grammar
kind_judged (t ∷ ts) = go (kind_of t) refl
  where
    go : (o : Option ArrayKind) → kind_of t ≡ o
        → Judged (λ k r. (t ∷ ts ≡ t ∷ r) × (kind_of t ≡ Some k)) (λ i. ⊥) (kind_on (t ∷ ts) o)
    go None o = judged_grammar
    go (Some k) o = judged_read k ts (refl, o)

-- ---- directives

ended_judged : {P : DirectiveTree → List Lexeme → Type 0} {C : List Lexeme → Type 0} (x : DirectiveTree) (ts : List Lexeme)
    → ((p : Position) (r : List Lexeme) → ts ≡ sign s.Semicolon p ∷ r → P x r) → Judged P C (ended x ts)
unfolding ended
ended_judged x ts make =
    judged_after (expect s.Semicolon ts) _
    (λ r e. judged_read x r (make (position_of (head ts)) r (expect_ok s.Semicolon ts r e)))
    (λ i e. absurd (expect_not_deep s.Semicolon ts i e))

module _ (d : ℕ) where
  global_judged : (p : Position) (ts : List Lexeme)
      → Judged (λ x r. IsDirective (reserved w.Global p ∷ ts) x r × (directive_nesting x ≤ d))
      (DeepDirective (suc d) (reserved w.Global p ∷ ts)) (global_after ts)
  unfolding global_after
  global_judged p ts =
      judged_then _ (name_judged ts)
      (λ n r q. judged_by (is_sign s.Assign (head r)) _ _
      (λ e.
      let at = q ∙ ap (λ u. name n.text n.position ∷ u) (at_sign s.Assign r e) in
      judged_then _ (known_judged (tail r))
      (λ k u h. ended_judged (global n (Some k)) u
      (λ l v x. (
        subst (λ us. IsDirective (reserved w.Global p ∷ us) (global n (Some k)) v) (sym at)
            (d_global_value (subst (λ y. IsK (tail r) k y) x h)),
        omega arith,
      )))
      (λ i x. absurd x))
      (λ e. ended_judged (global n None) r
      (λ l v x. (
        subst (λ us. IsDirective (reserved w.Global p ∷ us) (global n None) v)
            (sym (q ∙ ap (λ u. name n.text n.position ∷ u) x)) d_global,
        omega arith,
      ))))
      (λ i x. absurd x)

  constant_judged : (p : Position) (ts : List Lexeme)
      → Judged (λ x r. IsDirective (reserved w.Constant p ∷ ts) x r × (directive_nesting x ≤ d))
      (DeepDirective (suc d) (reserved w.Constant p ∷ ts)) (constant_after ts)
  unfolding constant_after
  constant_judged p ts =
      judged_then _ (name_judged ts)
      (λ n r q. judged_after (expect s.Assign r) _
      (λ m e.
      let at = q ∙ ap (λ u. name n.text n.position ∷ u) (expect_ok s.Assign r m e) in
      judged_then _ (known_judged m)
      (λ k u h. ended_judged (constant n k) u
      (λ l v x. (
        subst (λ us. IsDirective (reserved w.Constant p ∷ us) (constant n k) v) (sym at)
            (d_constant (subst (λ y. IsK m k y) x h)),
        omega arith,
      )))
      (λ i x. absurd x))
      (λ i e. absurd (expect_not_deep s.Assign r i e)))
      (λ i x. absurd x)

  array_judged : (p : Position) (ts : List Lexeme)
      → Judged (λ x r. IsDirective (reserved w.Array p ∷ ts) (array x) r × (directive_nesting (array x) ≤ d))
      (DeepDirective (suc d) (reserved w.Array p ∷ ts)) (array_after ts)
  unfolding array_after
  array_judged p ts =
      judged_then _ (name_judged ts)
      (λ n a q. judged_then _ (kind_judged a)
      (λ k b o. judged_then _ (values_judged b)
      (λ vs c l. judged_after (expect s.Semicolon c) _
      (λ r e.
      let at = q ∙ ap (λ u. name n.text n.position ∷ u) o.0 in
      judged_read _ r (
        subst (λ us. IsDirective (reserved w.Array p ∷ us) (array (record { name = n; kind = k; values = vs })) r)
            (sym at) (d_array o.1 (subst (λ v. IsValues b vs v) (expect_ok s.Semicolon c r e) l.0) l.1),
        omega arith,
      ))
      (λ i e. absurd (expect_not_deep s.Semicolon c i e)))
      (λ i x. absurd x))
      (λ i x. absurd x))
      (λ i x. absurd x)

  attribute_judged : (p : Position) (ts : List Lexeme)
      → Judged (λ x r. IsDirective (reserved w.Attribute p ∷ ts) x r × (directive_nesting x ≤ d))
      (DeepDirective (suc d) (reserved w.Attribute p ∷ ts)) (attribute_after ts)
  unfolding attribute_after
  attribute_judged p ts =
      judged_then _ (name_judged ts)
      (λ n r q. ended_judged (attribute n) r
      (λ l v x. (
        subst (λ us. IsDirective (reserved w.Attribute p ∷ us) (attribute n) v)
            (sym (q ∙ ap (λ u. name n.text n.position ∷ u) x)) d_attribute,
        omega arith,
      )))
      (λ i x. absurd x)

  property_judged : (p : Position) (ts : List Lexeme)
      → Judged (λ x r. IsDirective (reserved w.Property p ∷ ts) x r × (directive_nesting x ≤ d))
      (DeepDirective (suc d) (reserved w.Property p ∷ ts)) (property_after ts)
  unfolding property_after
  property_judged p ts =
      judged_then _ (name_judged ts)
      (λ n r q. judged_by (begins_value (head r)) _ _
      (λ e. judged_then _ (known_judged r)
      (λ k u h. ended_judged (property n (Some k)) u
      (λ l v x. (
        subst (λ us. IsDirective (reserved w.Property p ∷ us) (property n (Some k)) v) (sym q)
            (d_property_value (subst (λ y. IsK r k y) x h)),
        omega arith,
      )))
      (λ i x. absurd x))
      (λ e. ended_judged (property n None) r
      (λ l v x. (
        subst (λ us. IsDirective (reserved w.Property p ∷ us) (property n None) v)
            (sym (q ∙ ap (λ u. name n.text n.position ∷ u) x)) d_property,
        omega arith,
      ))))
      (λ i x. absurd x)

  routine_judged : (p : Position) (ts : List Lexeme)
      → Judged (λ x r. IsDirective (sign s.OpenBracket p ∷ ts) (routine x) r × (body_nesting x.body ≤ d))
      (DeepDirective (suc d) (sign s.OpenBracket p ∷ ts)) (routine_at d (sign s.OpenBracket p ∷ ts))
  unfolding routine_at
  routine_judged p ts =
      judged_then _ (name_judged ts)
      (λ n a q. judged_then _ (names_judged a)
      (λ ns b l. judged_after (expect s.Semicolon b) _
      (λ m e.
      let locals = subst (λ v. IsNames a ns v) (expect_ok s.Semicolon b m e) l in
      judged_then _ (judged_Ss d m)
      (λ xs c h. judged_after (expect s.CloseBracket c) _
      (λ u f. judged_after (expect s.Semicolon u) _
      (λ r g.
      let closed = expect_ok s.CloseBracket c u f
      ∙ ap (λ v. sign s.CloseBracket (position_of (head c)) ∷ v) (expect_ok s.Semicolon u r g) in
      judged_read _ r (
        subst (λ us. IsDirective (sign s.OpenBracket p ∷ us)
            (routine
            (record {
              name = n;
              locals = ns;
              body = trees_of xs;
              weight = weight_of (sign s.OpenBracket p ∷ us) - weight_of r;
            })) r) (sym q)
            (d_routine locals (subst (λ v. IsSs m (trees_of xs) v) closed h.0)),
        h.1,
      ))
      (λ i g. absurd (expect_not_deep s.Semicolon u i g)))
      (λ i f. absurd (expect_not_deep s.CloseBracket c i f)))
      (λ y x. subst (λ us. DeepDirective (suc d) (sign s.OpenBracket p ∷ us) y) (sym q) (deep_d_routine locals x)))
      (λ i e. absurd (expect_not_deep s.Semicolon b i e)))
      (λ i x. absurd x))
      (λ i x. absurd x)

  worded_judged : (word : Word) (p : Position) (ts : List Lexeme)
      → Judged (λ x r. IsDirective (reserved word p ∷ ts) x r × (directive_nesting x ≤ d))
      (DeepDirective (suc d) (reserved word p ∷ ts)) (directive_of word (reserved word p ∷ ts))
  unfolding directive_of
  worded_judged w.Global p ts = global_judged p ts
  worded_judged w.Constant p ts = constant_judged p ts
  worded_judged w.Array p ts = judged_then _ (array_judged p ts) (λ x r h. judged_read (array x) r h) (λ i x. x)
  worded_judged w.Attribute p ts = attribute_judged p ts
  worded_judged w.Property p ts = property_judged p ts
  worded_judged w.Object p ts = judged_then _ (object_judged p ts)
      (λ x r h. judged_read (object x) r (h, omega arith)) (λ i x. absurd x)
  worded_judged _ p ts = judged_grammar

  pub directive_judged : (ts : List Lexeme) → Judged (λ x r. IsDirective ts x r × (directive_nesting x ≤ d))
      (DeepDirective (suc d) ts) (directive d ts)
  unfolding directive
  directive_judged (reserved word p ∷ ts) = worded_judged word p ts
  directive_judged (sign s.OpenBracket p ∷ ts) = judged_then _ (routine_judged p ts)
      (λ x r h. judged_read (routine x) r h) (λ i x. x)
  directive_judged _ = judged_grammar
