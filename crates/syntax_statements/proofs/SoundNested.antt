-- What is read of a statement in which others stand derives in the grammar, where what is read of those does.
use Rattle.std.proofs.Common.{◌≡◌, ℕ, suc, ◌-◌, ◌<◌, ◌≤◌, ◌⊎◌, true, List, [], ◌∷◌, length, Option, Some, None, sym, ap}
use Rattle.std.proofs.Common.{subst, ◌∙◌, inl, inr, arith}
use Rattle.syntax_lexer.specs.declared.token.Position.{Position}
use Rattle.syntax_lexer.specs.declared.token.Sign.TheVariants as s
use Rattle.syntax_lexer.specs.declared.token.Word.TheVariants as w
use Rattle.syntax_lexer.specs.Token.{Lexeme, reserved, sign, position_of}
use Rattle.syntax_trees.specs.Parse.{head, tail, is_word, expect, expect_word}
use Rattle.syntax_expressions.specs.Grammar.{IsE}
use Rattle.syntax_expressions.specs.Nesting.{DeepE}
use Rattle.syntax_expressions.proofs.Judged.{Judged, judged_read, judged_grammar, judged_then, judged_after}
use Rattle.syntax_expressions.proofs.Judged.{judged_by, judged_as}
use Rattle.syntax_expressions.proofs.Tokens.{at_word, expect_ok, expect_not_deep, expect_word_ok}
use Rattle.syntax_expressions.proofs.Tokens.{expect_word_not_deep}
use Rattle.syntax_expressions.proofs.SoundOperands.{Within, deeper}
use Rattle.syntax_statements.specs.PartGrammar.{IsRanges}
use Rattle.syntax_statements.specs.PartNesting.{DeepHeading}
use Rattle.syntax_statements.specs.PartParse.{begins_value}
use Rattle.syntax_statements.specs.Tree.{StatementTree, block, if_then, if_else, while_do, do_until, for_loop}
use Rattle.syntax_statements.specs.Tree.{switch_on, default_case, loop_over}
use Rattle.syntax_statements.specs.Views.{CaseTree, trees_of, cases_of}
use Rattle.syntax_statements.specs.Grammar.{else_follows, IsS, s_block, s_if, s_if_else, s_while, s_do, s_for, s_switch}
use Rattle.syntax_statements.specs.Grammar.{IsSs, IsCases, cases_none, cases_default, cases_next, statement_nesting}
use Rattle.syntax_statements.specs.Grammar.{inside_nesting, cases_nesting, s_objectloop}
use Rattle.syntax_statements.specs.Nesting.{begins_statement, DeepS, deep_s_brace, deep_s_block, deep_s_if}
use Rattle.syntax_statements.specs.Nesting.{deep_s_if_condition, deep_s_if_then, deep_s_if_else, deep_s_while}
use Rattle.syntax_statements.specs.Nesting.{deep_s_while_condition, deep_s_while_do, deep_s_do_begins, deep_s_do}
use Rattle.syntax_statements.specs.Nesting.{deep_s_until, deep_s_until_condition, deep_s_for, deep_s_for_parts}
use Rattle.syntax_statements.specs.Nesting.{deep_s_for_body, deep_s_switch, deep_s_switch_value}
use Rattle.syntax_statements.specs.Nesting.{deep_s_switch_cases, DeepInside, DeepCases, deep_cases_first}
use Rattle.syntax_statements.specs.Nesting.{deep_cases_next, deep_cases_default, DeepInCase, deep_s_objectloop}
use Rattle.syntax_statements.specs.Nesting.{deep_s_objectloop_body}
use Rattle.syntax_statements.specs.Parse.{traversal, choice, repetition, do_body, until, iteration, one_case, cases}
use Rattle.syntax_statements.specs.Parse.{otherwise, selection, braced, inside, braces, bodies}
use Rattle.syntax_statements.proofs.KnownValues.{ranges_judged}
use Rattle.syntax_statements.proofs.LoopHeads.{DeepLoop, nests_over, enclosed_loop_judged}
use Rattle.syntax_statements.proofs.SoundRows.{after, repeated_judged}
use Rattle.syntax_statements.proofs.SoundSimple.{ended_judged}
use Rattle.syntax_statements.proofs.SoundHeads.{enclosed_judged, loop_deep, condition_judged, at_else}

-- ---- one nesting further in

pub record Inner (d : ℕ) : Type 0 where
  pub in_statement : (ts : List Lexeme) → Judged (λ x r. IsS ts x r × (statement_nesting x < d))
      (Within d DeepS ts ts) (inside d ts)
  pub in_block : (o ts : List Lexeme) → Judged (λ xs r. IsSs ts (trees_of xs) r × (inside_nesting (trees_of xs) < d))
      (Within d DeepInside o ts) (braces d (length o) ts)
  pub in_case : (ts : List Lexeme) → Judged (λ xs r. IsSs ts (trees_of xs) r × (inside_nesting (trees_of xs) < d))
      (Within d DeepInCase ts ts) (bodies d ts)

-- the cases cs from ts on, up to r: with those that follow they are cases
record AreCases (d : ℕ) (ts : List Lexeme) (cs : List CaseTree) (r : List Lexeme) : Type 0 where
  goes_on : (other : Option (List StatementTree)) (v : List Lexeme) → IsCases r (cases_of [] other) v
      → IsCases ts (cases_of cs other) v
  within : (other : Option (List StatementTree)) → cases_nesting (cases_of [] other) ≤ d - 1
      → cases_nesting (cases_of cs other) ≤ d - 1
  deep : (u : List Lexeme) → DeepCases d r u → DeepCases d ts u

record IsCase (d : ℕ) (ts : List Lexeme) (c : CaseTree) (r : List Lexeme) : Type 0 where
  colon : Position
  from : List Lexeme
  ranges_are : IsRanges ts c.0 (sign s.Colon colon ∷ from)
  body_is : IsSs from c.1 r
  within : inside_nesting c.1 < d

module _ (d : ℕ) (inner : Inner d) where
  do_begun : (p : Position) (ts u : List Lexeme) → begins_statement (head ts) ≡ true → Within d DeepS ts ts u
      → DeepS (suc d) (reserved w.Do p ∷ ts) u
  unfolding begins_statement
  do_begun p [] u e z = absurd cc
  do_begun p (t ∷ ts) u e z = deeper (λ n. DeepS n (t ∷ ts)) (λ n. DeepS n (reserved w.Do p ∷ t ∷ ts)) d (t ∷ ts) u
      (deep_s_do_begins e) (λ n x. deep_s_do x) z

  entered_judged : (p : Position) (ts : List Lexeme) → Judged (λ x r. IsS ts x r × (statement_nesting x < d))
      (DeepS (suc d) (reserved w.Do p ∷ ts)) (do_body (inside d) ts)
  unfolding do_body
  entered_judged p ts = judged_by (begins_statement (head ts)) _ _
      (λ e. judged_as (inner.in_statement ts) (λ a r h. h) (λ u z. do_begun p ts u e z)) (λ e. judged_grammar)

  pub until_judged : (p : Position) (ts : List Lexeme)
      → Judged (λ x r. IsS (reserved w.Do p ∷ ts) x r × (statement_nesting x ≤ d))
      (DeepS (suc d) (reserved w.Do p ∷ ts)) (until d (inside d) p ts)
  unfolding until
  until_judged p ts =
      judged_then _ (entered_judged p ts)
      (λ x u g. judged_after (expect_word w.Until u) _
      (λ v e. judged_then _ (condition_judged d v)
      (λ c r h.
      let body = subst (λ us. IsS ts x us)
      (expect_word_ok w.Until u v e ∙ ap (λ us. reserved w.Until (position_of (head u)) ∷ us) h.at) g.0 in
      ended_judged (do_until p x c) r
      (λ q o z. (
        s_do body (subst (λ us. IsE h.from c (sign s.CloseParenthesis h.closes ∷ us)) z h.derives),
        omega (arith, h.within, g.1),
      )))
      (λ far h.
      let body = subst (λ us. IsS ts x us)
      (expect_word_ok w.Until u v e ∙ ap (λ us. reserved w.Until (position_of (head u)) ∷ us) h.at) g.0 in
      deeper (λ n. DeepE n h.from) (λ n. DeepS n (reserved w.Do p ∷ ts)) d v far
      (subst (λ us. DeepS 1 (reserved w.Do p ∷ ts) us) (sym h.at) (deep_s_until body))
      (λ n y. deep_s_until_condition body y) h.deep))
      (λ n e. absurd (expect_word_not_deep w.Until u n e)))
      (λ v z. z)

  pub iteration_judged : (p : Position) (ts : List Lexeme)
      → Judged (λ x r. IsS (reserved w.For p ∷ ts) x r × (statement_nesting x ≤ d))
      (DeepS (suc d) (reserved w.For p ∷ ts)) (iteration d (inside d) p ts)
  unfolding iteration
  iteration_judged p ts =
      judged_then _ (enclosed_judged d ts)
      (λ h r q.
      let parts = q.parts in
      judged_then _ (inner.in_statement r)
      (λ x u g. judged_read _ u (
        subst (λ us. IsS (reserved w.For p ∷ us) (for_loop p h.before h.test h.after x) u) (sym q.at)
            (s_for parts.before parts.before_effect parts.test parts.after parts.after_effect g.0),
        omega (arith, q.within, g.1),
      ))
      (λ far z. subst (λ us. DeepS (suc d) (reserved w.For p ∷ us) far) (sym q.at)
      (after (λ n. DeepS n r) (λ n. DeepS n (reserved w.For p ∷ sign s.OpenParenthesis q.opens ∷ q.from)) d r far
      (omega (arith, q.within))
      (λ n x. deep_s_for_body parts.before parts.before_effect parts.test parts.after parts.after_effect x) z)))
      (λ far h. deeper (λ n. DeepHeading n h.from) (λ n. DeepS n (reserved w.For p ∷ ts)) d ts far
      (subst (λ us. DeepS 1 (reserved w.For p ∷ us) us) (sym h.at) deep_s_for)
      (λ n x. subst (λ us. DeepS (suc n) (reserved w.For p ∷ us) far) (sym h.at) (deep_s_for_parts x)) h.deep)

  pub traversal_judged : (p : Position) (ts : List Lexeme)
      → Judged (λ x r. IsS (reserved w.Objectloop p ∷ ts) x r × (statement_nesting x ≤ d))
      (DeepS (suc d) (reserved w.Objectloop p ∷ ts)) (traversal d (inside d) p ts)
  unfolding traversal
  traversal_judged p ts =
      judged_then _ (enclosed_loop_judged d ts)
      (λ l r q. judged_then _ (inner.in_statement r)
      (λ x u g. judged_read (loop_over p l x) u (
        subst (λ us. IsS (reserved w.Objectloop p ∷ us) (loop_over p l x) u) (sym q.at)
            (s_objectloop q.derives g.0),
        omega (arith, q.within, g.1, nests_over p l x),
      ))
      (λ far z. subst (λ us. DeepS (suc d) (reserved w.Objectloop p ∷ us) far) (sym q.at)
      (after (λ n. DeepS n r)
      (λ n. DeepS n (reserved w.Objectloop p ∷ sign s.OpenParenthesis q.opens ∷ q.from)) d r far
      (omega (arith, q.within)) (λ n x. deep_s_objectloop_body q.derives x) z)))
      (λ far h. deeper (λ n. DeepLoop n h.from) (λ n. DeepS n (reserved w.Objectloop p ∷ ts)) d ts far
      (subst (λ us. DeepS 1 (reserved w.Objectloop p ∷ us) us) (sym h.at) deep_s_objectloop)
      (λ n x. subst (λ us. DeepS (suc n) (reserved w.Objectloop p ∷ us) far) (sym h.at)
      (loop_deep p h.opens n h.from far x)) h.deep)

  -- ---- cases

  one_case_judged : (ts : List Lexeme) → Judged (IsCase d ts) (λ u. (d ≡ 0) ⊎ DeepCases d ts u)
      (one_case (bodies d) ts)
  unfolding one_case
  one_case_judged ts =
      judged_then _ (ranges_judged ts)
      (λ gs u h. judged_after (expect s.Colon u) _
      (λ m e.
      let labelled = subst (λ v. IsRanges ts gs v) (expect_ok s.Colon u m e) h in
      judged_then _ (inner.in_case m)
      (λ xs r g. judged_read (gs, trees_of xs) r
      (record { colon = position_of (head u); from = m; ranges_are = labelled; body_is = g.0; within = g.1 }))
      (λ far z. elim z [ inl n ↦ inl n.0 | inr x ↦ inr (deep_cases_first labelled x) ]))
      (λ n e. absurd (expect_not_deep s.Colon u n e)))
      (λ v x. absurd x)

  cases_judged : (ts : List Lexeme) → Judged (AreCases d ts) (λ u. (d ≡ 0) ⊎ DeepCases d ts u)
      (cases (bodies d) ts)
  unfolding cases
  cases_judged ts =
      repeated_judged begins_value (one_case (bodies d)) (IsCase d) (AreCases d)
      (λ us v. (d ≡ 0) ⊎ DeepCases d us v) (λ us v. (d ≡ 0) ⊎ DeepCases d us v)
      (λ r. record { goes_on = λ other v h. h; within = λ other h. h; deep = λ far x. x })
      (λ us c m cs r q l. record {
        goes_on = λ other v h. cases_next q.ranges_are q.body_is (l.goes_on other v h);
        within = λ other h. omega (arith, q.within, l.within other h);
        deep = λ far x. deep_cases_next q.ranges_are q.body_is (l.deep far x);
      })
      (λ us v e x. x)
      (λ us c m v q z. elim z [ inl n ↦ inl n | inr x ↦ inr (deep_cases_next q.ranges_are q.body_is x) ])
      one_case_judged (length ts) ts

  otherwise_judged : (ts : List Lexeme)
      → Judged (λ o r. IsCases ts (cases_of [] o) r × (cases_nesting (cases_of [] o) ≤ d - 1))
      (λ u. (d ≡ 0) ⊎ DeepCases d ts u) (otherwise (braces d) ts)
  unfolding otherwise
  otherwise_judged ts =
      judged_by (is_word w.Default (head ts)) _ _
      (λ e. judged_after (expect s.Colon (tail ts)) _
      (λ m f.
      let at = at_word w.Default ts e
      ∙ ap (λ us. reserved w.Default (position_of (head ts)) ∷ us) (expect_ok s.Colon (tail ts) m f) in
      judged_then _ (inner.in_block (tail ts) m)
      (λ xs r g. judged_read (Some xs) r (
        subst (λ us. IsCases us (default_case (trees_of xs)) r) (sym at) (cases_default g.0),
        omega (arith, g.1),
      ))
      (λ far z. elim z
      [ inl n ↦ inl n.0 | inr x ↦ inr (subst (λ us. DeepCases d us far) (sym at) (deep_cases_default x)) ]))
      (λ n f. absurd (expect_not_deep s.Colon (tail ts) n f)))
      (λ e. judged_read None ts (cases_none, omega arith))

  pub selection_judged : (p : Position) (ts : List Lexeme)
      → Judged (λ x r. IsS (reserved w.Switch p ∷ ts) x r × (statement_nesting x ≤ d))
      (DeepS (suc d) (reserved w.Switch p ∷ ts)) (selection d (braces d) (bodies d) p ts)
  unfolding selection
  selection_judged p ts =
      judged_then _ (condition_judged d ts)
      (λ a u h. judged_after (expect s.OpenBrace u) _
      (λ m e.
      let value = subst (λ us. IsE h.from a (sign s.CloseParenthesis h.closes ∷ us)) (expect_ok s.OpenBrace u m e)
      h.derives in
      let up : (far : List Lexeme) → (d ≡ 0) ⊎ DeepCases d m far
      → DeepS (suc d) (reserved w.Switch p ∷ ts) far = λ far z.
      subst (λ us. DeepS (suc d) (reserved w.Switch p ∷ us) far) (sym h.at)
      (elim z [ inl n ↦ absurd (omega (arith, h.within, n)) | inr x ↦ deep_s_switch_cases value x ]) in
      judged_then _ (cases_judged m)
      (λ cs v l. judged_then _ (otherwise_judged v)
      (λ o y g. judged_after (expect s.CloseBrace y) _
      (λ r f. judged_read (switch_on p a (cases_of cs o)) r (
        subst (λ us. IsS (reserved w.Switch p ∷ us) (switch_on p a (cases_of cs o)) r) (sym h.at)
            (s_switch value
            (subst (λ us. IsCases m (cases_of cs o) us) (expect_ok s.CloseBrace y r f) (l.goes_on o y g.0))),
        omega (arith, h.within, l.within o g.1),
      ))
      (λ n f. absurd (expect_not_deep s.CloseBrace y n f)))
      (λ far z. up far (elim z [ inl n ↦ inl n | inr x ↦ inr (l.deep far x) ])))
      up)
      (λ n e. absurd (expect_not_deep s.OpenBrace u n e)))
      (λ far h. deeper (λ n. DeepE n h.from) (λ n. DeepS n (reserved w.Switch p ∷ ts)) d ts far
      (subst (λ us. DeepS 1 (reserved w.Switch p ∷ us) us) (sym h.at) deep_s_switch)
      (λ n x. subst (λ us. DeepS (suc n) (reserved w.Switch p ∷ us) far) (sym h.at) (deep_s_switch_value x)) h.deep)

  pub choice_judged : (p : Position) (ts : List Lexeme)
      → Judged (λ x r. IsS (reserved w.If p ∷ ts) x r × (statement_nesting x ≤ d))
      (DeepS (suc d) (reserved w.If p ∷ ts)) (choice d (inside d) p ts)
  unfolding choice
  choice_judged p ts =
      judged_then _ (condition_judged d ts)
      (λ c r h. judged_then _ (inner.in_statement r)
      (λ x u g. judged_by (else_follows u) _ _
      (λ e.
      let at = subst (λ v. IsS r x v) (at_else u e) g.0 in
      judged_then _ (inner.in_statement (tail u))
      (λ y v k. judged_read _ v (
        subst (λ us. IsS (reserved w.If p ∷ us) (if_else p c x y) v) (sym h.at) (s_if_else h.derives at k.0),
        omega (arith, h.within, g.1, k.1),
      ))
      (λ far z. subst (λ us. DeepS (suc d) (reserved w.If p ∷ us) far) (sym h.at)
      (after (λ n. DeepS n (tail u)) (λ n. DeepS n (reserved w.If p ∷ sign s.OpenParenthesis h.opens ∷ h.from)) d
      (tail u) far (omega (arith, h.within)) (λ n y. deep_s_if_else h.derives at y) z)))
      (λ e. judged_read _ u (
        subst (λ us. IsS (reserved w.If p ∷ us) (if_then p c x) u) (sym h.at) (s_if h.derives g.0 e),
        omega
            (arith, h.within, g.1),
      )))
      (λ far z. subst (λ us. DeepS (suc d) (reserved w.If p ∷ us) far) (sym h.at)
      (after (λ n. DeepS n r) (λ n. DeepS n (reserved w.If p ∷ sign s.OpenParenthesis h.opens ∷ h.from)) d r far
      (omega (arith, h.within)) (λ n x. deep_s_if_then h.derives x) z)))
      (λ far h. deeper (λ n. DeepE n h.from) (λ n. DeepS n (reserved w.If p ∷ ts)) d ts far
      (subst (λ us. DeepS 1 (reserved w.If p ∷ us) us) (sym h.at) deep_s_if)
      (λ n x. subst (λ us. DeepS (suc n) (reserved w.If p ∷ us) far) (sym h.at) (deep_s_if_condition x)) h.deep)

  pub repetition_judged : (p : Position) (ts : List Lexeme)
      → Judged (λ x r. IsS (reserved w.While p ∷ ts) x r × (statement_nesting x ≤ d))
      (DeepS (suc d) (reserved w.While p ∷ ts)) (repetition d (inside d) p ts)
  unfolding repetition
  repetition_judged p ts =
      judged_then _ (condition_judged d ts)
      (λ c r h. judged_then _ (inner.in_statement r)
      (λ x u g. judged_read _ u (
        subst (λ us. IsS (reserved w.While p ∷ us) (while_do p c x) u) (sym h.at) (s_while h.derives g.0),
        omega
            (arith, h.within, g.1),
      ))
      (λ far z. subst (λ us. DeepS (suc d) (reserved w.While p ∷ us) far) (sym h.at)
      (after (λ n. DeepS n r) (λ n. DeepS n (reserved w.While p ∷ sign s.OpenParenthesis h.opens ∷ h.from)) d r far
      (omega (arith, h.within)) (λ n x. deep_s_while_do h.derives x) z)))
      (λ far h. deeper (λ n. DeepE n h.from) (λ n. DeepS n (reserved w.While p ∷ ts)) d ts far
      (subst (λ us. DeepS 1 (reserved w.While p ∷ us) us) (sym h.at) deep_s_while)
      (λ n x. subst (λ us. DeepS (suc n) (reserved w.While p ∷ us) far) (sym h.at) (deep_s_while_condition x)) h.deep)

  pub braced_judged : (p : Position) (ts : List Lexeme)
      → Judged (λ x r. IsS (sign s.OpenBrace p ∷ ts) x r × (statement_nesting x ≤ d))
      (DeepS (suc d) (sign s.OpenBrace p ∷ ts)) (braced (braces d) (suc (length ts)) ts)
  unfolding braced
  braced_judged p ts =
      judged_then _ (inner.in_block (sign s.OpenBrace p ∷ ts) ts)
      (λ xs r h. judged_after (expect s.CloseBrace r) _
      (λ u e. judged_read (block (trees_of xs)) u
      (s_block (subst (λ v. IsSs ts (trees_of xs) v) (expect_ok s.CloseBrace r u e) h.0), omega (arith, h.1)))
      (λ n e. absurd (expect_not_deep s.CloseBrace r n e)))
      (λ far z. deeper (λ n. DeepInside n ts) (λ n. DeepS n (sign s.OpenBrace p ∷ ts)) d (sign s.OpenBrace p ∷ ts) far
      deep_s_brace (λ n x. deep_s_block x) z)
