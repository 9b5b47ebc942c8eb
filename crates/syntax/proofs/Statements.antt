-- Statements.
use Rattle.std.proofs.Common.{◌≡◌, ℕ, zero, suc, Bool, true, false, cond, List, [], ◌∷◌, length, None}
use Rattle.std.proofs.Common.{Ok, Err, refl, arith}
use Rattle.std.specs.Prelude.{if◌then◌else◌}
use Rattle.syntax_lexer.specs.declared.token.Position.{Position}
use Rattle.syntax_lexer.specs.declared.token.Sign.TheVariants as s
use Rattle.syntax_lexer.specs.declared.token.Word.TheVariants as w
use Rattle.syntax_lexer.specs.Token.{Lexeme, name, text, reserved, sign}
use Rattle.syntax_trees.specs.Tree.{ExpressionTree}
use Rattle.syntax_trees.specs.Stop.{unfit}
use Rattle.syntax_trees.specs.Parse.{Parse, ◌>>=◌, tail, head, is_sign, is_word}
use Rattle.syntax_statements.specs.PartGrammar.{has_effect}
use Rattle.syntax_statements.specs.PartTree.{PrintItemTree}
use Rattle.syntax_statements.specs.Grammar.{else_follows}
use Rattle.syntax_statements.specs.Nesting.{begins_statement}
use Rattle.syntax_statements.specs.Tree.{StatementTree, if_then, if_else}
use Rattle.syntax_statements.specs.Tree.{print, print_return}
use Rattle.syntax_statements.specs.Parse.{ended, line_read, printed, returned, given, moved, removed, alone, do_body}
use Rattle.syntax_statements.specs.Parse.{braced}
use Rattle.syntax_statements.specs.Parse.{otherwise, choice, repetition, until, iteration, traversal, selection}
use Rattle.syntax_statements.specs.Parse.{statement_over, inside, braces, bodies, statement, statements}
use Rattle.syntax.proofs.Frames.{Stack, token, word, any_name, need, item, items_left, flag}
use Rattle.syntax.proofs.Frames.{flags_left}
use Rattle.syntax.proofs.Frames.{statements_left, else_left, cases_left, otherwise_left, body_left}
use Rattle.syntax.proofs.Machine.{shift, accepts, stop}
use Rattle.syntax.proofs.Frames as frame
use Rattle.syntax.proofs.After.{Follows, no_effect, onward, follows_read, follows_unfit, follows_deep}
use Rattle.syntax.proofs.After.{follows_as}
use Rattle.syntax.proofs.After.{follows_then, follows_by}
use Rattle.syntax.proofs.Expressions.{expression_follows, name_follows}
use Rattle.syntax.proofs.Rows.{flags_follow}
use Rattle.syntax.proofs.After.{longer, past, past_word}
use Rattle.syntax.proofs.Parts.{enclosed_follows, need_follows, enclosed_heading_follows}
use Rattle.syntax.proofs.Parts.{enclosed_loop_follows}
use Rattle.syntax.proofs.Items.{items_follow}
use Rattle.syntax.proofs.Bodies.{no_statement, statements_go, body_goes, cases_follow}

-- ---- statements that no other stands in

ended_follows : (x : StatementTree) (b : Bool) (k : Stack) (ts : List Lexeme)
    → Follows (stop b (token s.Semicolon ∷ k) ts) no_effect k ts (ended x ts)
unfolding ended
ended_follows x b k ts = past s.Semicolon b k ts _ (λ r. follows_read x r refl (omega arith))

line_follows : (k : Stack) (ts : List Lexeme)
    → Follows (stop false (any_name ∷ any_name ∷ token s.Semicolon ∷ k) ts) no_effect k ts (line_read ts)
unfolding line_read
line_follows k ts = longer ts (follows_then _ (name_follows false _ ts)
    (λ a r h. longer r (follows_then _ (name_follows false _ r) (λ b u g. ended_follows _ false k u))))

printed_follows : (d : ℕ) (make : List PrintItemTree → StatementTree) (k : Stack) (ts : List Lexeme)
    → Follows (stop false (item ∷ items_left ∷ token s.Semicolon ∷ k) ts) no_effect k ts (printed d make ts)
unfolding printed
printed_follows d make k ts = longer ts (follows_then _ (items_follow d _ ts) (λ x r h. ended_follows _ false k r))

given_follows : (d : ℕ) (p : Position) (k : Stack) (ts : List Lexeme)
    → Follows (stop false (frame.expression ∷ flag ∷ flags_left ∷ token s.Semicolon ∷ k) ts) no_effect k ts
    (given d p ts)
unfolding given
given_follows d p k ts = longer ts (follows_then _ (expression_follows d false _ ts)
    (λ e r h. longer r (follows_then _ (flags_follow (has_effect e) _ r) (λ xs u g. ended_follows _ false k u))))

moved_follows : (d : ℕ) (p : Position) (k : Stack) (ts : List Lexeme)
    → Follows (stop false (frame.expression ∷ word w.To ∷ frame.expression ∷ token s.Semicolon ∷ k) ts) no_effect k ts
    (moved d p ts)
unfolding moved
moved_follows d p k ts = longer ts (follows_then _ (expression_follows d false _ ts)
    (λ a r h. past_word w.To (has_effect a) _ r _
    (λ u. longer u (follows_then _ (expression_follows d false _ u)
    (λ b v g. ended_follows _ (has_effect b) k v)))))

removed_follows : (d : ℕ) (p : Position) (k : Stack) (ts : List Lexeme)
    → Follows (stop false (frame.expression ∷ token s.Semicolon ∷ k) ts) no_effect k ts (removed d p ts)
unfolding removed
removed_follows d p k ts = longer ts (follows_then _ (expression_follows d false _ ts)
    (λ e r h. ended_follows _ (has_effect e) k r))

returned_follows : (d : ℕ) (p : Position) (k : Stack) (ts : List Lexeme)
    → Follows (stop false (frame.returned ∷ k) ts) no_effect k ts (returned d p ts)
unfolding stop shift accepts returned
returned_follows d p k [] = follows_then _ (longer [] (expression_follows d false (token s.Semicolon ∷ k) []))
    (λ e r h. ended_follows _ (has_effect e) k r)
returned_follows d p k (t ∷ m) = follows_by (onward m) (is_sign s.Semicolon t) _ _
    (λ is. follows_read _ m refl (omega arith))
    (λ is. follows_then _ (longer (t ∷ m) (expression_follows d false (token s.Semicolon ∷ k) (t ∷ m)))
    (λ e r h. ended_follows _ (has_effect e) k r))

alone_follows : (d : ℕ) (k : Stack) (ts : List Lexeme)
    → Follows (stop false (frame.expression ∷ need ∷ token s.Semicolon ∷ k) ts) no_effect k (tail ts) (alone d ts)
unfolding alone
alone_follows d k ts = follows_then _ (expression_follows d false _ ts)
    (λ e r h. need_follows (has_effect e) s.Semicolon k r _ (ended_follows _ false k r))

-- ---- statements in which others stand

module _ (d : ℕ) (one : Parse StatementTree) (reads : (k : Stack) (ts : List Lexeme)
    → Follows (stop false (frame.statement ∷ k) ts) no_effect k (tail ts) (one ts)) where
  else_goes : (p : Position) (c : ExpressionTree) (x : StatementTree) (k : Stack)
      (ts : List Lexeme) → Follows (stop false (else_left ∷ k) ts) no_effect k ts
      (if else_follows ts then (one (tail ts) >>= λ y. Ok (if_else p c x y.0, y.1)) else Ok (if_then p c x, ts))
  unfolding stop shift accepts
  else_goes p c x k [] = follows_read _ [] refl (omega arith)
  else_goes p c x k (reserved w.Else q ∷ m) = follows_as {us = m} refl (omega arith)
      (longer m (follows_then _ (reads k m) (λ y r h. follows_read _ r refl (omega arith))))
  else_goes p c x k (name n q ∷ m) = follows_read _ _ refl (omega arith)
  else_goes p c x k _ = follows_read _ _ refl (omega arith)

  choice_follows : (p : Position) (k : Stack) (ts : List Lexeme)
      → Follows (stop false (frame.enclosed (frame.statement ∷ else_left ∷ k)) ts) no_effect k ts (choice d one p ts)
  unfolding choice
  choice_follows p k ts = longer ts (follows_then _ (enclosed_follows d false _ ts)
      (λ c r h. longer r (follows_then _ (reads (else_left ∷ k) r) (λ x u g. else_goes p c x k u))))

  repetition_follows : (p : Position) (k : Stack) (ts : List Lexeme)
      → Follows (stop false (frame.enclosed (frame.statement ∷ k)) ts) no_effect k ts (repetition d one p ts)
  unfolding repetition
  repetition_follows p k ts = longer ts (follows_then _ (enclosed_follows d false _ ts)
      (λ c r h. longer r (follows_then _ (reads k r) (λ x u g. follows_read _ u refl (omega arith)))))

  entered_follows : (k : Stack) (ts : List Lexeme)
      → Follows (stop false (frame.statement ∷ k) ts) no_effect k ts (do_body one ts)
  unfolding do_body
  entered_follows k ts = go (begins_statement (head ts)) refl
    where
      go : (b : Bool) → begins_statement (head ts) ≡ b → Follows (stop false (frame.statement ∷ k) ts) no_effect k ts
          (cond b (one ts) (Err (unfit (length ts))))
      go true e = longer ts (reads k ts)
      go false e = follows_unfit (no_statement k ts e)

  until_follows : (p : Position) (k : Stack) (ts : List Lexeme)
      → Follows (stop false (frame.statement ∷ word w.Until ∷ frame.enclosed (token s.Semicolon ∷ k)) ts) no_effect k ts
      (until d one p ts)
  unfolding until
  until_follows p k ts = follows_then _ (entered_follows _ ts)
      (λ x r h. past_word w.Until false _ r _
      (λ u. longer u (follows_then _ (enclosed_follows d false _ u) (λ c v g. ended_follows _ false k v))))

  iteration_follows : (p : Position) (k : Stack) (ts : List Lexeme)
      → Follows (stop false (token s.OpenParenthesis ∷ frame.heading (frame.statement ∷ k)) ts) no_effect k ts
      (iteration d one p ts)
  unfolding iteration
  iteration_follows p k ts = longer ts (follows_then _ (enclosed_heading_follows d false _ ts)
      (λ c r h. longer r (follows_then _ (reads k r) (λ x u g. follows_read _ u refl (omega arith)))))

  traversal_follows : (p : Position) (k : Stack) (ts : List Lexeme)
      → Follows (stop false (token s.OpenParenthesis ∷ frame.loop ∷ token s.CloseParenthesis ∷ frame.statement ∷ k) ts)
      no_effect k ts (traversal d one p ts)
  unfolding traversal
  traversal_follows p k ts = longer ts (follows_then _ (enclosed_loop_follows d false _ ts)
      (λ c r h. longer r (follows_then _ (reads k r) (λ x u g. follows_read _ u refl (omega arith)))))

-- ---- blocks and `switch`

module _ (block_read : ℕ → Parse (List StatementTree)) (reads : (opening : ℕ) (k : Stack) (ts : List Lexeme)
    → Follows (stop false (statements_left ∷ k) ts) no_effect k ts (block_read opening ts)) where
  braced_follows : (opening : ℕ) (k : Stack) (ts : List Lexeme)
      → Follows (stop false (statements_left ∷ token s.CloseBrace ∷ k) ts) no_effect k ts (braced block_read opening ts)
  unfolding braced
  braced_follows opening k ts = follows_then _ (reads opening _ ts)
      (λ xs r h. past s.CloseBrace false k r _ (λ u. follows_read _ u refl (omega arith)))

  otherwise_follows : (k : Stack) (ts : List Lexeme)
      → Follows (stop false (otherwise_left ∷ k) ts) no_effect k ts (otherwise block_read ts)
  unfolding stop shift accepts otherwise
  otherwise_follows k [] = follows_read None [] refl (omega arith)
  otherwise_follows k (t ∷ m) = follows_by (onward m) (is_word w.Default t) _ _
      (λ is. follows_as {us = m} refl (omega arith) (past s.Colon false _ m _
      (λ r. follows_then _ (reads _ k r) (λ xs u h. follows_read _ u refl (omega arith)))))
      (λ is. follows_read None (t ∷ m) refl (omega arith))

  module _ (d : ℕ) (body : Parse (List StatementTree)) (bodies_read : (k : Stack) (ts : List Lexeme)
      → Follows (stop false (body_left ∷ cases_left ∷ k) ts) no_effect (cases_left ∷ k) ts (body ts)) where
    selection_follows : (p : Position) (k : Stack) (ts : List Lexeme)
        → Follows
        (stop false (frame.enclosed (token s.OpenBrace ∷ cases_left ∷ otherwise_left ∷ token s.CloseBrace ∷ k)) ts)
        no_effect k ts (selection d block_read body p ts)
    unfolding selection
    selection_follows p k ts = longer ts (follows_then _ (enclosed_follows d false _ ts)
        (λ e r h. past s.OpenBrace false _ r _
        (λ m. follows_then _ (cases_follow body bodies_read _ m)
        (λ cs u g. follows_then _ (otherwise_follows _ u)
        (λ o v f. past s.CloseBrace false k v _ (λ y. follows_read _ y refl (omega arith)))))))

-- ---- all statements

-- what is read one nesting further in
record Inner (d : ℕ) : Type 0 where
  one : (k : Stack) (ts : List Lexeme)
      → Follows (stop false (frame.statement ∷ k) ts) no_effect k (tail ts) (inside d ts)
  block_of : (opening : ℕ) (k : Stack) (ts : List Lexeme)
      → Follows (stop false (statements_left ∷ k) ts) no_effect k ts (braces d opening ts)
  body_of : (k : Stack) (ts : List Lexeme)
      → Follows (stop false (body_left ∷ cases_left ∷ k) ts) no_effect (cases_left ∷ k) ts (bodies d ts)

over_follows : (d : ℕ) → Inner d → (k : Stack) (ts : List Lexeme)
    → Follows (stop false (frame.statement ∷ k) ts) no_effect k (tail ts)
    (statement_over d (inside d) (braces d) (bodies d) ts)
unfolding stop shift accepts statement_over
over_follows d h k [] = alone_follows d k []
over_follows d h k (text bytes p ∷ m) = ended_follows _ false k m
over_follows d h k (sign s.Semicolon p ∷ m) = follows_read _ m refl (omega arith)
over_follows d h k (sign s.OpenBrace p ∷ m) = braced_follows (braces d) h.block_of _ k m
over_follows d h k (reserved w.If p ∷ m) = choice_follows d (inside d) h.one p k m
over_follows d h k (reserved w.While p ∷ m) = repetition_follows d (inside d) h.one p k m
over_follows d h k (reserved w.Do p ∷ m) = until_follows d (inside d) h.one p k m
over_follows d h k (reserved w.For p ∷ m) = iteration_follows d (inside d) h.one p k m
over_follows d h k (reserved w.Objectloop p ∷ m) = traversal_follows d (inside d) h.one p k m
over_follows d h k (reserved w.Switch p ∷ m) =
    selection_follows (braces d) h.block_of d (bodies d) h.body_of p k m
over_follows d h k (reserved w.Print p ∷ m) = printed_follows d print k m
over_follows d h k (reserved w.PrintRet p ∷ m) = printed_follows d print_return k m
over_follows d h k (reserved w.NewLine p ∷ m) = ended_follows _ false k m
over_follows d h k (reserved w.Break p ∷ m) = ended_follows _ false k m
over_follows d h k (reserved w.Continue p ∷ m) = ended_follows _ false k m
over_follows d h k (reserved w.Return p ∷ m) = returned_follows d p k m
over_follows d h k (reserved w.Rtrue p ∷ m) = ended_follows _ false k m
over_follows d h k (reserved w.Rfalse p ∷ m) = ended_follows _ false k m
over_follows d h k (reserved w.Quit p ∷ m) = ended_follows _ false k m
over_follows d h k (reserved w.Read p ∷ m) = line_follows k m
over_follows d h k (reserved w.Give p ∷ m) = given_follows d p k m
over_follows d h k (reserved w.Move p ∷ m) = moved_follows d p k m
over_follows d h k (reserved w.Remove p ∷ m) = removed_follows d p k m
over_follows d h k (t ∷ m) = alone_follows d k (t ∷ m)

inner : (d : ℕ) → Inner d
unfolding inside braces bodies
inner zero = record {
  one = λ k ts. follows_deep;
  block_of = λ o k ts. follows_deep;
  body_of = λ k ts. follows_deep;
}
inner (suc d) = let h = inner d in record {
  one = over_follows d h;
  block_of = λ o k ts. statements_go (inside d) h.one (length ts) k ts (omega arith);
  body_of = λ k ts. body_goes (inside d) h.one (length ts) k ts (omega arith);
}

pub statement_follows : (d : ℕ) (k : Stack) (ts : List Lexeme)
    → Follows (stop false (frame.statement ∷ k) ts) no_effect k (tail ts) (statement d ts)
unfolding statement
statement_follows d k ts = over_follows d (inner d) k ts

pub statements_follow : (d : ℕ) (k : Stack) (ts : List Lexeme)
    → Follows (stop false (statements_left ∷ k) ts) no_effect k ts (statements d ts)
unfolding statements
statements_follow d k ts = statements_go (statement d) (statement_follows d) (length ts) k ts (omega arith)
