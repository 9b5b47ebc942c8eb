-- Words of proofs: statements, read from left to right: functions from a list of tokens to a tree and the tokens
-- after it.
use Rattle.std.specs.Prelude.{if◌then◌else◌, ℕ, zero, suc, List, length, Option, Some, None, Result, Ok, Err}
use Rattle.syntax_lexer.specs.declared.token.Position.{Position}
use Rattle.syntax_lexer.specs.declared.token.Sign.{Sign}
use Rattle.syntax_lexer.specs.declared.token.Sign.TheVariants as s
use Rattle.syntax_lexer.specs.declared.token.Word.TheVariants as w
use Rattle.syntax_lexer.specs.Token.{Lexeme, text, reserved, sign, position_of}
use Rattle.syntax_trees.specs.Tree.{ExpressionTree}
use Rattle.syntax_trees.specs.Stop.{Stop, unfit, deep}
use Rattle.syntax_trees.specs.Parse.{Parse, ◌>>=◌, head, tail, is_sign, is_word, expect, expect_word, as_long}
use Rattle.syntax_trees.specs.Parse.{repeated}
use Rattle.syntax_expressions.specs.PartParse.{expect_name}
use Rattle.syntax_expressions.specs.Parse.{nested, expression}
use Rattle.syntax_statements.specs.PartParse.{flags, begins_value, ranges, items, enclosed_condition, enclosed_heading}
use Rattle.syntax_statements.specs.PartParse.{enclosed_loop}
use Rattle.syntax_statements.specs.PartTree.{PrintItemTree}
use Rattle.syntax_statements.specs.PartGrammar.{has_effect}
use Rattle.syntax_statements.specs.Tree.{StatementTree, empty, block, text_alone, print, print_return, new_line}
use Rattle.syntax_statements.specs.Tree.{if_then, if_else, while_do, do_until, for_loop, switch_on, break_at}
use Rattle.syntax_statements.specs.Tree.{continue_at, return_alone, return_value, return_true, return_false, quit}
use Rattle.syntax_statements.specs.Tree.{read_line, effect, give, move, remove, loop_over}
use Rattle.syntax_statements.specs.Views.{CaseTree, trees_of, cases_of}
use Rattle.syntax_statements.specs.Grammar.{else_follows}
use Rattle.syntax_statements.specs.Nesting.{begins_statement, begins_in_case}

-- a statement that is complete but for its `;`
unfoldable pub ended : StatementTree → Parse StatementTree
ended x ts = expect s.Semicolon ts >>= λ r. Ok (x, r)

-- a statement, and the sign that ends it
abbrev pub closed_by : Sign → StatementTree → Parse StatementTree
closed_by mark x ts = expect mark ts >>= λ r. Ok (x, r)

-- the two names after `read`
unfoldable pub line_read : Parse StatementTree
line_read ts = do
  a ← expect_name ts
  b ← expect_name a.1
  ended (read_line a.0 b.0) b.1

-- the statements of a block, with its second brace
abbrev pub block_of : List StatementTree → Parse StatementTree
block_of xs ts = expect s.CloseBrace ts >>= λ r. Ok (block (trees_of xs), r)

-- a `switch` after its cases and the statements of `default`, with its second brace
abbrev pub switch_of : Position → ExpressionTree → List CaseTree → Option (List StatementTree) → Parse StatementTree
switch_of p e cs other ts = expect s.CloseBrace ts >>= λ r. Ok (switch_on p e (cases_of cs other), r)

-- where d nestings more may be opened
module _ (d : ℕ) where
  unfoldable pub printed : (List PrintItemTree → StatementTree) → Parse StatementTree
  printed make ts = items d ts >>= λ x. ended (make x.0) x.1

  unfoldable pub returned : Position → Parse StatementTree
  returned p ts =
      if is_sign s.Semicolon (head ts) then Ok (return_alone, tail ts)
      else (expression (nested d) ts >>= λ x. ended (return_value p x.0) x.1)

  unfoldable pub given : Position → Parse StatementTree
  given p ts = expression (nested d) ts >>= λ e. flags e.1 >>= λ xs. ended (give p e.0 xs.0) xs.1

  unfoldable pub moved : Position → Parse StatementTree
  moved p ts = do
    a ← expression (nested d) ts
    r ← expect_word w.To a.1
    b ← expression (nested d) r
    ended (move p a.0 b.0) b.1

  unfoldable pub removed : Position → Parse StatementTree
  removed p ts = expression (nested d) ts >>= λ e. ended (remove p e.0) e.1

  -- an expression, which must have an effect
  unfoldable pub alone : Parse StatementTree
  alone ts = do
    x ← expression (nested d) ts
    if has_effect x.0 then ended (effect (position_of (head ts)) x.0) x.1
        else Err (unfit (length x.1))

  -- a statement that no other stands in, but for `;` alone
  abbrev pub plain_on : Lexeme → List Lexeme → Result (StatementTree × List Lexeme) Stop
  plain_on (text bytes p) ts = ended (text_alone bytes) (tail ts)
  plain_on (reserved w.Print p) ts = printed print (tail ts)
  plain_on (reserved w.PrintRet p) ts = printed print_return (tail ts)
  plain_on (reserved w.NewLine p) ts = ended new_line (tail ts)
  plain_on (reserved w.Break p) ts = ended (break_at p) (tail ts)
  plain_on (reserved w.Continue p) ts = ended (continue_at p) (tail ts)
  plain_on (reserved w.Return p) ts = returned p (tail ts)
  plain_on (reserved w.Rtrue p) ts = ended return_true (tail ts)
  plain_on (reserved w.Rfalse p) ts = ended return_false (tail ts)
  plain_on (reserved w.Quit p) ts = ended quit (tail ts)
  plain_on (reserved w.Read p) ts = line_read (tail ts)
  plain_on (reserved w.Give p) ts = given p (tail ts)
  plain_on (reserved w.Move p) ts = moved p (tail ts)
  plain_on (reserved w.Remove p) ts = removed p (tail ts)
  plain_on _ ts = alone ts

-- the statement after `do`, over a statement one nesting further in
unfoldable pub do_body : Parse StatementTree → Parse StatementTree
do_body inside ts = if begins_statement (head ts) then inside ts else Err (unfit (length ts))

-- over the statements of a block or of `default`, with the number of tokens that are left from the brace or the
-- colon on
module _ (braces : ℕ → Parse (List StatementTree)) where
  unfoldable pub braced : ℕ → Parse StatementTree
  braced opening ts = do
    x ← braces opening ts
    r ← expect s.CloseBrace x.1
    Ok (block (trees_of x.0), r)

  unfoldable pub otherwise : Parse (Option (List StatementTree))
  otherwise ts =
      if is_word w.Default (head ts)
      then (expect s.Colon (tail ts) >>= λ m. braces (length (tail ts)) m
      >>= λ xs. Ok (Some xs.0, xs.1))
      else Ok (None, ts)

-- over the statements of a case
module _ (bodies : Parse (List StatementTree)) where
  unfoldable pub one_case : Parse CaseTree
  one_case ts = do
    gs ← ranges ts
    m ← expect s.Colon gs.1
    xs ← bodies m
    Ok ((gs.0, trees_of xs.0), xs.1)

  unfoldable pub cases : Parse (List CaseTree)
  cases ts = repeated begins_value one_case (length ts) ts

module _ (d : ℕ) where
  -- over a statement one nesting further in
  module _ (inside : Parse StatementTree) where
    unfoldable pub choice : Position → Parse StatementTree
    choice p ts = do
      c ← enclosed_condition d ts
      x ← inside c.1
      if else_follows x.1 then (inside (tail x.1) >>= λ y. Ok (if_else p c.0 x.0 y.0, y.1))
          else Ok (if_then p c.0 x.0, x.1)

    unfoldable pub repetition : Position → Parse StatementTree
    repetition p ts = do
      c ← enclosed_condition d ts
      x ← inside c.1
      Ok (while_do p c.0 x.0, x.1)

    unfoldable pub until : Position → Parse StatementTree
    until p ts = do
      x ← do_body inside ts
      u ← expect_word w.Until x.1
      c ← enclosed_condition d u
      ended (do_until p x.0 c.0) c.1

    unfoldable pub iteration : Position → Parse StatementTree
    iteration p ts = do
      h ← enclosed_heading d ts
      x ← inside h.1
      Ok (for_loop p h.0.before h.0.test h.0.after x.0, x.1)

    unfoldable pub traversal : Position → Parse StatementTree
    traversal p ts = do
      l ← enclosed_loop d ts
      x ← inside l.1
      Ok (loop_over p l.0 x.0, x.1)

  -- over the statements of a block or of `default`, and those of a case
  module _ (braces : ℕ → Parse (List StatementTree)) (bodies : Parse (List StatementTree)) where
    unfoldable pub selection : Position → Parse StatementTree
    selection p ts = do
      e ← enclosed_condition d ts
      m ← expect s.OpenBrace e.1
      cs ← cases bodies m
      o ← otherwise braces cs.1
      switch_of p e.0 cs.0 o.0 o.1

  -- over all of these
  module _ (inside : Parse StatementTree) (braces : ℕ → Parse (List StatementTree))
      (bodies : Parse (List StatementTree)) where
    abbrev pub statement_on : Lexeme → List Lexeme → Result (StatementTree × List Lexeme) Stop
    statement_on (sign s.Semicolon p) ts = Ok (empty, tail ts)
    statement_on (sign s.OpenBrace p) ts = braced braces (length ts) (tail ts)
    statement_on (reserved w.If p) ts = choice inside p (tail ts)
    statement_on (reserved w.While p) ts = repetition inside p (tail ts)
    statement_on (reserved w.Do p) ts = until inside p (tail ts)
    statement_on (reserved w.For p) ts = iteration inside p (tail ts)
    statement_on (reserved w.Objectloop p) ts = traversal inside p (tail ts)
    statement_on (reserved w.Switch p) ts = selection braces bodies p (tail ts)
    statement_on t ts = plain_on d t ts

    unfoldable pub statement_over : Parse StatementTree
    statement_over ts = statement_on (head ts) ts

unfoldable mutual
  -- a statement one nesting further in
  pub inside : ℕ → Parse StatementTree
  inside zero ts = Err (deep (length ts))
  inside (suc d) ts = statement_over d (inside d) (braces d) (bodies d) ts

  -- the statements of a block, after its brace, from which on so many tokens are left
  pub braces : ℕ → ℕ → Parse (List StatementTree)
  braces zero opening ts = Err (deep opening)
  braces (suc d) opening ts = repeated begins_statement (inside d) (length ts) ts

  -- the statements of a case, where d nestings more may be opened before the brace of its `switch`
  pub bodies : ℕ → Parse (List StatementTree)
  bodies zero ts = Err (deep (length ts))
  bodies (suc d) ts = as_long begins_in_case (inside d) (length ts) ts

unfoldable pub statement : ℕ → Parse StatementTree
statement d ts = statement_over d (inside d) (braces d) (bodies d) ts

-- statements, up to a token that begins none
unfoldable pub statements : ℕ → Parse (List StatementTree)
statements d ts = repeated begins_statement (statement d) (length ts) ts
