-- The statements of a block, of `default` and of a case, and the cases of a `switch`, over a statement inside them.
use Rattle.std.proofs.Common.{◌≡◌, ℕ, ◌≤◌, false, cond, List, [], ◌∷◌, length, Some, refl, ◌∙◌, arith}
use Rattle.syntax_lexer.specs.declared.token.Sign.TheVariants as s
use Rattle.syntax_lexer.specs.declared.token.Word.TheVariants as w
use Rattle.syntax_lexer.specs.Token.{Lexeme, name, reserved, sign}
use Rattle.syntax_trees.specs.Parse.{Parse, tail, head, as_long, repeated}
use Rattle.syntax_statements.specs.PartParse.{begins_value}
use Rattle.syntax_statements.specs.Tree.{StatementTree}
use Rattle.syntax_statements.specs.Views.{trees_of}
use Rattle.syntax_statements.specs.Nesting.{begins_statement, begins_in_case}
use Rattle.syntax_statements.specs.Parse.{one_case, cases}
use Rattle.syntax.proofs.Frames.{Stack, token, value, upper_left, ranges_left, statement}
use Rattle.syntax.proofs.Frames.{statements_left, cases_left, body_left}
use Rattle.syntax.proofs.Machine.{shift}
use Rattle.syntax.proofs.Machine.{accepts, stop}
use Rattle.syntax.proofs.After.{Follows, no_effect, follows_read, follows_then, past, as_long_follow}
use Rattle.syntax.proofs.After.{repeated_follow}
use Rattle.syntax.proofs.Either.{splits}
use Rattle.syntax.proofs.Values.{ranges_follow}

-- a statement more, or what follows
more : (k : Stack) (ts : List Lexeme) → stop false (statements_left ∷ k) ts
    ≡ cond (begins_statement (head ts)) (stop false (statement ∷ statements_left ∷ k) ts) (stop false k ts)
unfolding stop shift accepts begins_statement
more k [] = refl
more k (reserved w.True p ∷ m) = refl
more k (sign s.Minus p ∷ m) = refl
more k (name n p ∷ m) = refl
more k _ = refl

-- what begins no statement is not taken as one
unfit_alone : (k : Stack) (ts : List Lexeme) → stop false (statement ∷ k) ts
    ≡ cond (begins_statement (head ts)) (stop false (statement ∷ k) ts) (Some (length ts))
unfolding stop shift accepts begins_statement
unfit_alone k [] = refl
unfit_alone k (reserved w.True p ∷ m) = refl
unfit_alone k (sign s.Minus p ∷ m) = refl
unfit_alone k (name n p ∷ m) = refl
unfit_alone k _ = refl

pub no_statement : (k : Stack) (ts : List Lexeme) → begins_statement (head ts) ≡ false
    → stop false (statement ∷ k) ts ≡ Some (length ts)
no_statement k ts e = unfit_alone k ts ∙ rw e refl

never : begins_statement (head []) ≡ false
unfolding begins_statement
never = refl

never_in_case : begins_in_case [] ≡ false
unfolding begins_statement
never_in_case = refl

module _ (inside : Parse StatementTree) (reads : (k : Stack) (ts : List Lexeme)
    → Follows (stop false (statement ∷ k) ts) no_effect k (tail ts) (inside ts)) where
  pub statements_go : (n : ℕ) (k : Stack) (ts : List Lexeme) → length ts ≤ n
      → Follows (stop false (statements_left ∷ k) ts) no_effect k ts (repeated begins_statement inside n ts)
  statements_go n k ts le = repeated_follow inside begins_statement (statement ∷ statements_left ∷ k)
      (statements_left ∷ k) k (λ us. reads (statements_left ∷ k) us) (more k) never n ts le

  pub body_goes : (n : ℕ) (k : Stack) (ts : List Lexeme) → length ts ≤ n
      → Follows (stop false (body_left ∷ cases_left ∷ k) ts) no_effect (cases_left ∷ k) ts
      (as_long begins_in_case inside n ts)
  body_goes n k ts le = as_long_follow inside begins_in_case (statement ∷ body_left ∷ cases_left ∷ k)
      (body_left ∷ cases_left ∷ k) (cases_left ∷ k) (λ us. reads (body_left ∷ cases_left ∷ k) us) (splits k)
      never_in_case n ts le

-- ---- cases

-- the ranges of a case and its colon, over its statements and the cases after it
abbrev case_begun : Stack → Stack
case_begun k = value ∷ upper_left ∷ ranges_left ∷ token s.Colon ∷ body_left ∷ cases_left ∷ k

-- a case more, or what follows
more_cases : (k : Stack) (ts : List Lexeme) → stop false (cases_left ∷ k) ts
    ≡ cond (begins_value (head ts)) (stop false (case_begun k) ts) (stop false k ts)
unfolding stop shift accepts
more_cases k [] = refl
more_cases k (reserved w.True p ∷ m) = refl
more_cases k (reserved w.False p ∷ m) = refl
more_cases k (reserved w.Nothing p ∷ m) = refl
more_cases k (sign s.Minus p ∷ m) = refl
more_cases k (name n p ∷ m) = refl
more_cases k _ = refl

module _ (bodies : Parse (List StatementTree)) (reads : (k : Stack) (ts : List Lexeme)
    → Follows (stop false (body_left ∷ cases_left ∷ k) ts) no_effect (cases_left ∷ k) ts (bodies ts)) where
  case_follows : (k : Stack) (ts : List Lexeme)
      → Follows (stop false (case_begun k) ts) no_effect (cases_left ∷ k) (tail ts) (one_case bodies ts)
  unfolding one_case
  case_follows k ts = follows_then _ (ranges_follow (token s.Colon ∷ body_left ∷ cases_left ∷ k) ts)
      (λ gs r h. past s.Colon false _ r _
      (λ u. follows_then _ (reads k u)
      (λ xs v g. follows_read (gs, trees_of xs) v refl (omega arith))))

  pub cases_follow : (k : Stack) (ts : List Lexeme)
      → Follows (stop false (cases_left ∷ k) ts) no_effect k ts (cases bodies ts)
  unfolding cases
  cases_follow k ts = repeated_follow (one_case bodies) begins_value (case_begun k) (cases_left ∷ k) k (case_follows k)
      (more_cases k) refl (length ts) ts (omega arith)
