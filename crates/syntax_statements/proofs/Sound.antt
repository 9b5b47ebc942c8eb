-- What is read derives in the grammar and is nested no deeper than was allowed; and where the fault is that a token
-- stands too deep, one does.
use Rattle.std.proofs.Common.{◌≡◌, ℕ, zero, suc, ◌<◌, ◌≤◌, true, List, [], ◌∷◌, length, refl, sym, subst, inr}
use Rattle.std.proofs.Common.{arith}
use Rattle.syntax_lexer.specs.declared.token.Sign.TheVariants as s
use Rattle.syntax_lexer.specs.declared.token.Word.TheVariants as w
use Rattle.syntax_lexer.specs.Token.{Lexeme, text, reserved, sign}
use Rattle.syntax_trees.specs.Parse.{head, as_long, repeated}
use Rattle.syntax_expressions.proofs.Judged.{Judged, judged_read, judged_deep, judged_as}
use Rattle.syntax_expressions.proofs.SoundOperands.{Within, deeper}
use Rattle.syntax_expressions.proofs.Sound.{no_more}
use Rattle.syntax_statements.specs.Tree.{empty, text_alone, print, print_return, new_line, break_at, continue_at}
use Rattle.syntax_statements.specs.Tree.{return_true, return_false, quit}
use Rattle.syntax_statements.specs.Views.{trees_of}
use Rattle.syntax_statements.specs.Grammar.{IsS, s_empty, s_text, s_print, s_print_ret, s_new_line, s_break, s_continue}
use Rattle.syntax_statements.specs.Grammar.{s_rtrue, s_rfalse, s_quit, IsSs, ss_stop, ss_next, statement_nesting}
use Rattle.syntax_statements.specs.Grammar.{inside_nesting, body_nesting}
use Rattle.syntax_statements.specs.Nesting.{begins_statement, begins_in_case, DeepS, deep_s_print, deep_s_print_ret}
use Rattle.syntax_statements.specs.Nesting.{DeepInside, deep_inside_begins, deep_inside_first, deep_inside_next}
use Rattle.syntax_statements.specs.Nesting.{DeepInCase, deep_in_case_begins, deep_in_case_first, deep_in_case_next}
use Rattle.syntax_statements.specs.Nesting.{DeepSs, deep_ss_first, deep_ss_next}
use Rattle.syntax_statements.specs.Parse.{statement_over, inside, braces, bodies, statement, statements}
use Rattle.syntax_statements.proofs.SoundRows.{as_long_judged, repeated_judged}
use Rattle.syntax_statements.proofs.SoundSimple.{ended_judged, printed_judged, returned_judged, read_judged}
use Rattle.syntax_statements.proofs.SoundSimple.{given_judged, moved_judged, removed_judged, alone_judged}
use Rattle.syntax_statements.proofs.SoundNested.{Inner, until_judged, iteration_judged, traversal_judged}
use Rattle.syntax_statements.proofs.SoundNested.{selection_judged, choice_judged, repetition_judged, braced_judged}

module _ (d : ℕ) (inner : Inner d) where
  over_judged : (ts : List Lexeme) → Judged (λ x r. IsS ts x r × (statement_nesting x ≤ d)) (DeepS (suc d) ts)
      (statement_over d (inside d) (braces d) (bodies d) ts)
  unfolding statement_over
  over_judged (sign s.Semicolon p ∷ ts) = judged_read empty ts (s_empty, omega arith)
  over_judged (sign s.OpenBrace p ∷ ts) = braced_judged d inner p ts
  over_judged (text bytes p ∷ ts) = ended_judged (text_alone bytes) ts
      (λ q r e. (subst (λ u. IsS (text bytes p ∷ u) (text_alone bytes) r) (sym e) s_text, omega arith))
  over_judged (reserved w.Print p ∷ ts) = printed_judged d print (reserved w.Print p) ts (λ is q r h. s_print h)
      (λ is. refl) (λ v x. deep_s_print x)
  over_judged (reserved w.PrintRet p ∷ ts) = printed_judged d print_return (reserved w.PrintRet p) ts
      (λ is q r h. s_print_ret h) (λ is. refl) (λ v x. deep_s_print_ret x)
  over_judged (reserved w.NewLine p ∷ ts) = ended_judged new_line ts
      (λ q r e. (subst (λ u. IsS (reserved w.NewLine p ∷ u) new_line r) (sym e) s_new_line, omega arith))
  over_judged (reserved w.If p ∷ ts) = choice_judged d inner p ts
  over_judged (reserved w.While p ∷ ts) = repetition_judged d inner p ts
  over_judged (reserved w.Do p ∷ ts) = until_judged d inner p ts
  over_judged (reserved w.For p ∷ ts) = iteration_judged d inner p ts
  over_judged (reserved w.Objectloop p ∷ ts) = traversal_judged d inner p ts
  over_judged (reserved w.Switch p ∷ ts) = selection_judged d inner p ts
  over_judged (reserved w.Break p ∷ ts) = ended_judged (break_at p) ts
      (λ q r e. (subst (λ u. IsS (reserved w.Break p ∷ u) (break_at p) r) (sym e) s_break, omega arith))
  over_judged (reserved w.Continue p ∷ ts) = ended_judged (continue_at p) ts
      (λ q r e. (subst (λ u. IsS (reserved w.Continue p ∷ u) (continue_at p) r) (sym e) s_continue, omega arith))
  over_judged (reserved w.Return p ∷ ts) = returned_judged d p ts
  over_judged (reserved w.Rtrue p ∷ ts) = ended_judged return_true ts
      (λ q r e. (subst (λ u. IsS (reserved w.Rtrue p ∷ u) return_true r) (sym e) s_rtrue, omega arith))
  over_judged (reserved w.Rfalse p ∷ ts) = ended_judged return_false ts
      (λ q r e. (subst (λ u. IsS (reserved w.Rfalse p ∷ u) return_false r) (sym e) s_rfalse, omega arith))
  over_judged (reserved w.Quit p ∷ ts) = ended_judged quit ts
      (λ q r e. (subst (λ u. IsS (reserved w.Quit p ∷ u) quit r) (sym e) s_quit, omega arith))
  over_judged (reserved w.Read p ∷ ts) = read_judged d p ts
  over_judged (reserved w.Give p ∷ ts) = given_judged d p ts
  over_judged (reserved w.Move p ∷ ts) = moved_judged d p ts
  over_judged (reserved w.Remove p ∷ ts) = removed_judged d p ts
  over_judged ts = alone_judged d ts

  -- the statement that begins is too deep, or something in it is
  begun : (ts u : List Lexeme) → begins_statement (head ts) ≡ true → Within d DeepS ts ts u
      → DeepInside (suc d) ts u
  unfolding begins_statement
  begun [] u e z = absurd cc
  begun (t ∷ ts) u e z = deeper (λ n. DeepS n (t ∷ ts)) (λ n. DeepInside n (t ∷ ts)) d (t ∷ ts) u (deep_inside_begins e)
      (λ n x. deep_inside_first x) z

  block_judged : (n : ℕ) (ts : List Lexeme) → Judged
      (λ xs r. IsSs ts (trees_of xs) r × (inside_nesting (trees_of xs) ≤ d)) (DeepInside (suc d) ts)
      (repeated begins_statement (inside d) n ts)
  block_judged n ts =
      repeated_judged begins_statement (inside d) (λ us x r. IsS us x r × (statement_nesting x < d))
      (λ us xs r. IsSs us (trees_of xs) r × (inside_nesting (trees_of xs) ≤ d)) (λ us v. Within d DeepS us us v)
      (DeepInside (suc d))
      (λ r. (ss_stop, omega arith))
      (λ us x m xs r q l. (ss_next q.0 l.0, omega (arith, q.1, l.1)))
      begun
      (λ us x m v q z. deep_inside_next q.0 z)
      inner.in_statement n ts

  case_begun : (ts u : List Lexeme) → begins_in_case ts ≡ true → Within d DeepS ts ts u → DeepInCase (suc d) ts u
  case_begun ts u e z = deeper (λ n. DeepS n ts) (λ n. DeepInCase n ts) d ts u (deep_in_case_begins e)
      (λ n x. deep_in_case_first e x) z

  bodies_judged : (n : ℕ) (ts : List Lexeme) → Judged
      (λ xs r. IsSs ts (trees_of xs) r × (inside_nesting (trees_of xs) ≤ d)) (DeepInCase (suc d) ts)
      (as_long begins_in_case (inside d) n ts)
  bodies_judged n ts =
      as_long_judged begins_in_case (inside d) (λ us x r. IsS us x r × (statement_nesting x < d))
      (λ us xs r. IsSs us (trees_of xs) r × (inside_nesting (trees_of xs) ≤ d)) (λ us v. Within d DeepS us us v)
      (DeepInCase (suc d))
      (λ r. (ss_stop, omega arith))
      (λ us x m xs r q l. (ss_next q.0 l.0, omega (arith, q.1, l.1)))
      case_begun
      (λ us x m v q z. deep_in_case_next q.0 z)
      inner.in_statement n ts

inner_judged : (d : ℕ) → Inner d
unfolding inside braces bodies
inner_judged zero = record {
  in_statement = λ ts. judged_deep (no_more DeepS ts ts);
  in_block = λ o ts. judged_deep (no_more DeepInside o ts);
  in_case = λ ts. judged_deep (no_more DeepInCase ts ts);
}
inner_judged (suc d) = record {
  in_statement = λ ts. judged_as (over_judged d (inner_judged d) ts) (λ a r h. (h.0, omega (arith, h.1)))
      (λ v h. inr h);
  in_block = λ o ts. judged_as (block_judged d (inner_judged d) (length ts) ts) (λ a r h. (h.0, omega (arith, h.1)))
      (λ v h. inr h);
  in_case = λ ts. judged_as (bodies_judged d (inner_judged d) (length ts) ts) (λ a r h. (h.0, omega (arith, h.1)))
      (λ v h. inr h);
}

-- a statement
pub judged_S : (d : ℕ) (ts : List Lexeme) → Judged (λ x r. IsS ts x r × (statement_nesting x ≤ d)) (DeepS (suc d) ts)
    (statement d ts)
unfolding statement
judged_S d ts = over_judged d (inner_judged d) ts

-- statements directly in a routine
pub judged_Ss : (d : ℕ) (ts : List Lexeme) → Judged
    (λ xs r. IsSs ts (trees_of xs) r × (body_nesting (trees_of xs) ≤ d)) (DeepSs (suc d) ts) (statements d ts)
unfolding statements
judged_Ss d ts =
    repeated_judged begins_statement (statement d) (λ us x r. IsS us x r × (statement_nesting x ≤ d))
    (λ us xs r. IsSs us (trees_of xs) r × (body_nesting (trees_of xs) ≤ d)) (DeepS (suc d)) (DeepSs (suc d))
    (λ r. (ss_stop, omega arith))
    (λ us x m xs r q l. (ss_next q.0 l.0, omega (arith, q.1, l.1)))
    (λ us v e x. deep_ss_first x)
    (λ us x m v q z. deep_ss_next q.0 z)
    (judged_S d) (length ts) ts
