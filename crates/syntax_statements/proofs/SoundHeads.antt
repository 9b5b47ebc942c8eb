-- What is read in the parentheses of a `for`, of an `objectloop` and of a condition derives in the grammar.
use Rattle.std.proofs.Common.{◌≡◌, ℕ, zero, suc, ◌<◌, ◌≤◌, max, true, List, [], ◌∷◌, Some, None, refl, sym, subst}
use Rattle.std.proofs.Common.{inr, arith, length}
use Rattle.syntax_lexer.specs.declared.token.Position.{Position}
use Rattle.syntax_lexer.specs.declared.token.Sign.{Sign}
use Rattle.syntax_lexer.specs.declared.token.Sign.TheVariants as s
use Rattle.syntax_lexer.specs.declared.token.Word.TheVariants as w
use Rattle.syntax_lexer.specs.Token.{Lexeme, reserved, sign, position_of}
use Rattle.syntax_trees.specs.Tree.{ExpressionTree}
use Rattle.syntax_trees.specs.Parse.{head, tail, is_sign, expect}
use Rattle.syntax_expressions.specs.Grammar.{IsE, nesting}
use Rattle.syntax_expressions.specs.Nesting.{DeepE}
use Rattle.syntax_expressions.proofs.Judged.{Judged, judged_read, judged_grammar, judged_deep, judged_then}
use Rattle.syntax_expressions.proofs.Judged.{judged_after, judged_by, judged_as}
use Rattle.syntax_expressions.proofs.Tokens.{expect_ok, expect_not_deep}
use Rattle.syntax_expressions.proofs.SoundOperands.{Within}
use Rattle.syntax_expressions.proofs.Sound.{judged_E, judged_whole, no_more}
use Rattle.syntax_statements.specs.PartViews.{HeadingTree}
use Rattle.syntax_statements.specs.PartGrammar.{effect_or_none, IsOptional, optional_none, optional_some}
use Rattle.syntax_statements.specs.PartGrammar.{optional_nesting}
use Rattle.syntax_statements.specs.PartNesting.{DeepHeading, deep_heading_before, deep_heading_test}
use Rattle.syntax_statements.specs.PartNesting.{deep_heading_after}
use Rattle.syntax_statements.specs.PartParse.{enclosed_condition, optional, optional_effect, heading, heading_in}
use Rattle.syntax_statements.specs.PartParse.{enclosed_heading}
use Rattle.syntax_statements.specs.Grammar.{else_follows}
use Rattle.syntax_statements.specs.Nesting.{DeepS, deep_s_objectloop_head}
use Rattle.syntax_statements.proofs.LoopHeads.{DeepLoop}

-- ---- the parts of a `for`

optional_judged : (d : ℕ) (z : Sign) (ts : List Lexeme)
    → Judged (λ e r. IsOptional ts e r × (optional_nesting e ≤ d)) (DeepE (suc d) ts) (optional d z ts)
unfolding optional
optional_judged d z ts =
    judged_by (is_sign z (head ts)) _ _
    (λ e. judged_read None ts (optional_none, omega arith))
    (λ e. judged_then _ (judged_E d ts) (λ a r h. judged_read (Some a) r (optional_some h.0, h.1)) (λ v x. x))

effect_judged : (d : ℕ) (z : Sign) (ts : List Lexeme)
    → Judged (λ e r. IsOptional ts e r × (effect_or_none e ≡ true) × (optional_nesting e ≤ d)) (DeepE (suc d) ts)
    (optional_effect d z ts)
unfolding optional_effect
effect_judged d z ts =
    judged_then _ (optional_judged d z ts)
    (λ e r h. judged_by (effect_or_none e) _ _ (λ f. judged_read e r (h.0, f, h.1)) (λ f. judged_grammar))
    (λ v x. x)

abbrev pub heading_nesting : HeadingTree → ℕ
heading_nesting h = max (optional_nesting h.before) (max (optional_nesting h.test) (optional_nesting h.after))

pub record IsHeading (ts : List Lexeme) (h : HeadingTree) (r : List Lexeme) : Type 0 where
  pub first : Position
  pub second : Position
  pub closes : Position
  pub from_test : List Lexeme
  pub from_after : List Lexeme
  pub before : IsOptional ts h.before (sign s.Colon first ∷ from_test)
  pub before_effect : effect_or_none h.before ≡ true
  pub test : IsOptional from_test h.test (sign s.Colon second ∷ from_after)
  pub after : IsOptional from_after h.after (sign s.CloseParenthesis closes ∷ r)
  pub after_effect : effect_or_none h.after ≡ true

heading_judged : (d : ℕ) (ts : List Lexeme) → Judged (λ h r. IsHeading ts h r × (heading_nesting h ≤ d))
    (DeepHeading (suc d) ts) (heading d ts)
unfolding heading
heading_judged d ts =
    judged_then _ (effect_judged d s.Colon ts)
    (λ a u h. judged_after (expect s.Colon u) _
    (λ k e.
    let before = subst (λ v. IsOptional ts a v) (expect_ok s.Colon u k e) h.0 in
    judged_then _ (optional_judged d s.Colon k)
    (λ b v g. judged_after (expect s.Colon v) _
    (λ l f.
    let test = subst (λ x. IsOptional k b x) (expect_ok s.Colon v l f) g.0 in
    judged_then _ (effect_judged d s.CloseParenthesis l)
    (λ c x i. judged_after (expect s.CloseParenthesis x) _
    (λ r j. judged_read (record { before = a; test = b; after = c }) r (
      record {
        first = position_of (head u);
        second = position_of (head v);
        closes = position_of (head x);
        from_test = k;
        from_after = l;
        before = before;
        before_effect = h.1;
        test = test;
        after = subst (λ y. IsOptional l c y) (expect_ok s.CloseParenthesis x r j) i.0;
        after_effect = i.1;
      },
      omega (arith, h.2, g.1, i.2),
    ))
    (λ n j. absurd (expect_not_deep s.CloseParenthesis x n j)))
    (λ w z. deep_heading_after before h.1 test z))
    (λ n f. absurd (expect_not_deep s.Colon v n f)))
    (λ w z. deep_heading_test before h.1 z))
    (λ n e. absurd (expect_not_deep s.Colon u n e)))
    (λ w z. deep_heading_before z)

pub record IsEnclosed (d : ℕ) (ts : List Lexeme) (h : HeadingTree) (r : List Lexeme) : Type 0 where
  pub opens : Position
  pub from : List Lexeme
  pub at : ts ≡ sign s.OpenParenthesis opens ∷ from
  pub parts : IsHeading from h r
  pub within : heading_nesting h < d

pub record DeepEnclosed (d : ℕ) (ts u : List Lexeme) : Type 0 where
  pub opens : Position
  pub from : List Lexeme
  pub at : ts ≡ sign s.OpenParenthesis opens ∷ from
  pub deep : Within d DeepHeading ts from u

heading_in_judged : (d : ℕ) (o ts : List Lexeme) → Judged (λ h r. IsHeading ts h r × (heading_nesting h < d))
    (Within d DeepHeading o ts) (heading_in d (length o) ts)
heading_in_judged zero o ts = judged_deep (no_more DeepHeading o ts)
heading_in_judged (suc d) o ts = judged_as (heading_judged d ts) (λ h r q. (q.0, omega (arith, q.1))) (λ v x. inr x)

pub enclosed_judged : (d : ℕ) (ts : List Lexeme) → Judged (IsEnclosed d ts) (DeepEnclosed d ts) (enclosed_heading d ts)
unfolding enclosed_heading
enclosed_judged d ts =
    judged_after (expect s.OpenParenthesis ts) _
    (λ m e. judged_as (heading_in_judged d ts m)
    (λ h r q. record {
      opens = position_of (head ts);
      from = m;
      at = expect_ok s.OpenParenthesis ts m e;
      parts = q.0;
      within = q.1;
    })
    (λ v x. record { opens = position_of (head ts); from = m; at = expect_ok s.OpenParenthesis ts m e; deep = x }))
    (λ n e. absurd (expect_not_deep s.OpenParenthesis ts n e))

-- ---- what an `objectloop` goes over

pub loop_deep : (p q : Position) (n : ℕ) (ts u : List Lexeme) → DeepLoop n ts u
    → DeepS (suc n) (reserved w.Objectloop p ∷ sign s.OpenParenthesis q ∷ ts) u
loop_deep p q n ts u h =
    subst (λ us. DeepS (suc n) (reserved w.Objectloop p ∷ sign s.OpenParenthesis q ∷ us) u) (sym h.at)
    (deep_s_objectloop_head h.deep)

-- ---- conditions

pub record IsCondition (d : ℕ) (ts : List Lexeme) (c : ExpressionTree) (r : List Lexeme) : Type 0 where
  pub opens : Position
  pub closes : Position
  pub from : List Lexeme
  pub at : ts ≡ sign s.OpenParenthesis opens ∷ from
  pub derives : IsE from c (sign s.CloseParenthesis closes ∷ r)
  pub within : nesting c < d

pub record DeepCondition (d : ℕ) (ts u : List Lexeme) : Type 0 where
  pub opens : Position
  pub from : List Lexeme
  pub at : ts ≡ sign s.OpenParenthesis opens ∷ from
  pub deep : Within d DeepE ts from u

pub condition_judged : (d : ℕ) (ts : List Lexeme) → Judged (IsCondition d ts) (DeepCondition d ts)
    (enclosed_condition d ts)
unfolding enclosed_condition
condition_judged d ts =
    judged_after (expect s.OpenParenthesis ts) _
    (λ m e. judged_then _ (judged_whole d ts m)
    (λ c r h. judged_after (expect s.CloseParenthesis r) _
    (λ u f. judged_read c u
    (record {
      opens = position_of (head ts);
      closes = position_of (head r);
      from = m;
      at = expect_ok s.OpenParenthesis ts m e;
      derives = subst (λ v. IsE m c v) (expect_ok s.CloseParenthesis r u f) h.0;
      within = h.1;
    }))
    (λ n f. absurd (expect_not_deep s.CloseParenthesis r n f)))
    (λ v x. record { opens = position_of (head ts); from = m; at = expect_ok s.OpenParenthesis ts m e; deep = x }))
    (λ n e. absurd (expect_not_deep s.OpenParenthesis ts n e))

pub at_else : (ts : List Lexeme) → else_follows ts ≡ true → ts ≡ reserved w.Else (position_of (head ts)) ∷ tail ts
at_else [] e = absurd cc
at_else (reserved w.Else p ∷ ts) e = refl
at_else (t ∷ ts) e = absurd cc
