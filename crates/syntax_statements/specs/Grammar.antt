-- The grammar of statements: a relation between the tokens from a place on, the tree, and the tokens after it, with
-- one case for each alternative. An `else` belongs to the nearest `if`: an `if` without one stands only where no
-- `else` follows.
use Rattle.std.specs.Prelude.{◌≡◌, ℕ, suc, max, Bool, true, false, List, ◌∷◌, Option}
use Rattle.syntax_lexer.specs.declared.token.Position.{Position}
use Rattle.syntax_lexer.specs.declared.token.Sign.TheVariants as s
use Rattle.syntax_lexer.specs.declared.token.Word.TheVariants as w
use Rattle.syntax_lexer.specs.Token.{Lexeme, name, text, reserved, sign, position_of}
use Rattle.syntax_trees.specs.Tree.{ExpressionTree}
use Rattle.syntax_expressions.specs.Grammar.{IsE, nesting}
use Rattle.syntax_statements.specs.PartGrammar.{has_effect, IsRanges, IsOptional, effect_or_none, IsLoop, IsItems}
use Rattle.syntax_statements.specs.PartGrammar.{IsGiven, items_nesting, optional_nesting}
use Rattle.syntax_statements.specs.PartTree.{RangeTree, PrintItemTree, FlagTree, LoopTree}
use Rattle.syntax_statements.specs.Tree.{give, move, remove, each, each_in, each_where, loop_over, StatementTree}
use Rattle.syntax_statements.specs.Tree.{StatementTrees, CaseTrees, empty, block, text_alone, print, print_return}
use Rattle.syntax_statements.specs.Tree.{new_line, if_then, if_else, while_do, do_until, for_loop, switch_on, break_at}
use Rattle.syntax_statements.specs.Tree.{continue_at, return_alone, return_value, return_true, return_false, quit}
use Rattle.syntax_statements.specs.Tree.{read_line, effect, stop, next, no_case, default_case, case}

-- the first token of a list, where there is one, is `else`
abbrev pub else_follows : List Lexeme → Bool
else_follows (reserved w.Else p ∷ ts) = true
else_follows _ = false

mutual
  -- S = ";" | "{" {S} "}" | text ";" | ("print" | "print_ret") Item {"," Item} ";" | "new_line" ";"
  -- | "if" "(" E ")" S ["else" S] | "while" "(" E ")" S | "do" S "until" "(" E ")" ";"
  -- | "for" "(" [X] ":" [E] ":" [X] ")" S | "objectloop" "(" Loop ")" S
  -- | "switch" "(" E ")" "{" {Case} ["default" ":" {S}] "}"
  -- | "break" ";" | "continue" ";" | "return" [E] ";" | "rtrue" ";" | "rfalse" ";" | "quit" ";"
  -- | "give" E (["~"] name)+ ";" | "move" E "to" E ";" | "remove" E ";" | "read" name name ";" | X ";"
  pub data IsS : List Lexeme → StatementTree → List Lexeme → Type 0 where
    s_empty : {r : List Lexeme} {p : Position} → IsS (sign s.Semicolon p ∷ r) empty r
    s_block : {m r : List Lexeme} {p q : Position} {xs : StatementTrees} → IsSs m xs (sign s.CloseBrace q ∷ r)
        → IsS (sign s.OpenBrace p ∷ m) (block xs) r
    s_text : {r : List Lexeme} {p q : Position} {bytes : List ℕ}
        → IsS (text bytes p ∷ sign s.Semicolon q ∷ r) (text_alone bytes) r
    s_print : {m r : List Lexeme} {p q : Position} {is : List PrintItemTree} → IsItems m is (sign s.Semicolon q ∷ r)
        → IsS (reserved w.Print p ∷ m) (print is) r
    s_print_ret : {m r : List Lexeme} {p q : Position} {is : List PrintItemTree}
        → IsItems m is (sign s.Semicolon q ∷ r) → IsS (reserved w.PrintRet p ∷ m) (print_return is) r
    s_new_line : {r : List Lexeme} {p q : Position} → IsS (reserved w.NewLine p ∷ sign s.Semicolon q ∷ r) new_line r
    s_if : {m k r : List Lexeme} {p q o : Position} {c : ExpressionTree} {x : StatementTree}
        → IsE m c (sign s.CloseParenthesis o ∷ k) → IsS k x r → else_follows r ≡ false
        → IsS (reserved w.If p ∷ sign s.OpenParenthesis q ∷ m) (if_then p c x) r
    s_if_else : {m k l r : List Lexeme} {p q o e : Position} {c : ExpressionTree} {x y : StatementTree}
        → IsE m c (sign s.CloseParenthesis o ∷ k) → IsS k x (reserved w.Else e ∷ l) → IsS l y r
        → IsS (reserved w.If p ∷ sign s.OpenParenthesis q ∷ m) (if_else p c x y) r
    s_while : {m k r : List Lexeme} {p q o : Position} {c : ExpressionTree} {x : StatementTree}
        → IsE m c (sign s.CloseParenthesis o ∷ k) → IsS k x r
        → IsS (reserved w.While p ∷ sign s.OpenParenthesis q ∷ m) (while_do p c x) r
    s_do : {m k r : List Lexeme} {p q o u j : Position} {x : StatementTree} {c : ExpressionTree}
        → IsS m x (reserved w.Until u ∷ sign s.OpenParenthesis q ∷ k)
        → IsE k c (sign s.CloseParenthesis o ∷ sign s.Semicolon j ∷ r) → IsS (reserved w.Do p ∷ m) (do_until p x c) r
    s_for : {m k l n r : List Lexeme} {p q o i j : Position} {a b c : Option ExpressionTree} {x : StatementTree}
        → IsOptional m a (sign s.Colon i ∷ k) → effect_or_none a ≡ true → IsOptional k b (sign s.Colon j ∷ l)
        → IsOptional l c (sign s.CloseParenthesis o ∷ n) → effect_or_none c ≡ true → IsS n x r
        → IsS (reserved w.For p ∷ sign s.OpenParenthesis q ∷ m) (for_loop p a b c x) r
    s_objectloop : {m k r : List Lexeme} {p q o : Position} {l : LoopTree} {x : StatementTree}
        → IsLoop m l (sign s.CloseParenthesis o ∷ k) → IsS k x r
        → IsS (reserved w.Objectloop p ∷ sign s.OpenParenthesis q ∷ m) (loop_over p l x) r
    s_switch : {m k r : List Lexeme} {p q o i j : Position} {e : ExpressionTree} {cs : CaseTrees}
        → IsE m e (sign s.CloseParenthesis o ∷ sign s.OpenBrace i ∷ k) → IsCases k cs (sign s.CloseBrace j ∷ r)
        → IsS (reserved w.Switch p ∷ sign s.OpenParenthesis q ∷ m) (switch_on p e cs) r
    s_break : {r : List Lexeme} {p q : Position} → IsS (reserved w.Break p ∷ sign s.Semicolon q ∷ r) (break_at p) r
    s_continue : {r : List Lexeme} {p q : Position}
        → IsS (reserved w.Continue p ∷ sign s.Semicolon q ∷ r) (continue_at p) r
    s_return : {r : List Lexeme} {p q : Position} → IsS (reserved w.Return p ∷ sign s.Semicolon q ∷ r) return_alone r
    s_return_value : {m r : List Lexeme} {p q : Position} {e : ExpressionTree} → IsE m e (sign s.Semicolon q ∷ r)
        → IsS (reserved w.Return p ∷ m) (return_value p e) r
    s_rtrue : {r : List Lexeme} {p q : Position} → IsS (reserved w.Rtrue p ∷ sign s.Semicolon q ∷ r) return_true r
    s_rfalse : {r : List Lexeme} {p q : Position} → IsS (reserved w.Rfalse p ∷ sign s.Semicolon q ∷ r) return_false r
    s_quit : {r : List Lexeme} {p q : Position} → IsS (reserved w.Quit p ∷ sign s.Semicolon q ∷ r) quit r
    s_read : {r : List Lexeme} {p q o j : Position} {a b : List ℕ}
        → IsS (reserved w.Read p ∷ name a q ∷ name b o ∷ sign s.Semicolon j ∷ r)
        (read_line (record { text = a; position = q }) (record { text = b; position = o })) r
    s_give : {m k r : List Lexeme} {p q : Position} {e : ExpressionTree} {xs : List FlagTree} → IsE m e k
        → IsGiven k xs (sign s.Semicolon q ∷ r) → IsS (reserved w.Give p ∷ m) (give p e xs) r
    s_move : {m k r : List Lexeme} {p q o : Position} {a b : ExpressionTree} → IsE m a (reserved w.To o ∷ k)
        → IsE k b (sign s.Semicolon q ∷ r) → IsS (reserved w.Move p ∷ m) (move p a b) r
    s_remove : {m r : List Lexeme} {p q : Position} {e : ExpressionTree} → IsE m e (sign s.Semicolon q ∷ r)
        → IsS (reserved w.Remove p ∷ m) (remove p e) r
    s_effect : {m r : List Lexeme} {t : Lexeme} {q : Position} {e : ExpressionTree}
        → IsE (t ∷ m) e (sign s.Semicolon q ∷ r) → has_effect e ≡ true → IsS (t ∷ m) (effect (position_of t) e) r

  -- {S}
  pub data IsSs : List Lexeme → StatementTrees → List Lexeme → Type 0 where
    ss_stop : {r : List Lexeme} → IsSs r stop r
    ss_next : {ts m r : List Lexeme} {x : StatementTree} {xs : StatementTrees} → IsS ts x m → IsSs m xs r
        → IsSs ts (next x xs) r

  -- {Case} ["default" ":" {S}] and Case = Range {"," Range} ":" {S}
  pub data IsCases : List Lexeme → CaseTrees → List Lexeme → Type 0 where
    cases_none : {r : List Lexeme} → IsCases r no_case r
    cases_default : {m r : List Lexeme} {p q : Position} {xs : StatementTrees} → IsSs m xs r
        → IsCases (reserved w.Default p ∷ sign s.Colon q ∷ m) (default_case xs) r
    cases_next : {ts m k r : List Lexeme} {p : Position} {gs : List RangeTree} {xs : StatementTrees} {cs : CaseTrees}
        → IsRanges ts gs (sign s.Colon p ∷ m) → IsSs m xs k → IsCases k cs r → IsCases ts (case gs xs cs) r

-- How deep a tree is nested: a brace, a statement inside a statement, and the parenthesis of a condition, of the parts
-- of a `for`, of what an `objectloop` goes over, of `(char)` and of `(object)` count beside the nesting of expressions.
-- A statement directly in a routine does not count. A case stands where the brace of its `switch` leads.

abbrev mutual
  pub statement_nesting : StatementTree → ℕ
  statement_nesting (block xs) = suc (inside_nesting xs)
  statement_nesting (print is) = items_nesting is
  statement_nesting (print_return is) = items_nesting is
  statement_nesting (if_then p c x) = suc (max (nesting c) (statement_nesting x))
  statement_nesting (if_else p c x y) = suc (max (nesting c) (max (statement_nesting x) (statement_nesting y)))
  statement_nesting (while_do p c x) = suc (max (nesting c) (statement_nesting x))
  statement_nesting (do_until p x c) = suc (max (statement_nesting x) (nesting c))
  statement_nesting (for_loop p a b c x) = suc
      (max (max (optional_nesting a) (max (optional_nesting b) (optional_nesting c))) (statement_nesting x))
  statement_nesting (switch_on p e cs) = suc (max (nesting e) (cases_nesting cs))
  statement_nesting (return_value p e) = nesting e
  statement_nesting (give p e xs) = nesting e
  statement_nesting (move p a b) = max (nesting a) (nesting b)
  statement_nesting (remove p e) = nesting e
  statement_nesting (each n x) = suc (statement_nesting x)
  statement_nesting (each_in p n e x) = suc (max (nesting e) (statement_nesting x))
  statement_nesting (each_where p n e x) = suc (max (nesting e) (statement_nesting x))
  statement_nesting (effect p e) = nesting e
  statement_nesting _ = 0

  -- of statements inside a statement
  pub inside_nesting : StatementTrees → ℕ
  inside_nesting stop = 0
  inside_nesting (next x xs) = max (suc (statement_nesting x)) (inside_nesting xs)

  pub cases_nesting : CaseTrees → ℕ
  cases_nesting no_case = 0
  cases_nesting (default_case xs) = inside_nesting xs
  cases_nesting (case gs xs cs) = max (inside_nesting xs) (cases_nesting cs)

-- of statements directly in a routine
abbrev pub body_nesting : StatementTrees → ℕ
body_nesting stop = 0
body_nesting (next x xs) = max (statement_nesting x) (body_nesting xs)
