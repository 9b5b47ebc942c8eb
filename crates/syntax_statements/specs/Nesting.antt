-- How deep tokens stand in statements: a relation between a number, the tokens from a place on, and those from the deep
-- one on, with one case for each place at which a part can stand in an alternative of the grammar.
--
-- DeepS n ts u: a statement that begins at ts can be read as far as the first token of u, which stands n nestings deep
-- in it. What lies before that token in its parts is complete. A brace and the parenthesis of a condition, of the parts
-- of a `for`, of what an `objectloop` goes over, of `(char)` and of `(object)` stand one deeper than what holds them,
-- and so does the first token of a statement inside a statement. What begins a case is no statement, and stands no
-- deeper than its brace.
use Rattle.std.specs.Prelude.{◌≡◌, ◌&&◌, ◌||◌, not, Bool, true, false, ℕ, suc, List, ◌∷◌, Option}
use Rattle.syntax_lexer.specs.declared.token.Position.{Position}
use Rattle.syntax_lexer.specs.declared.token.Sign.TheVariants as s
use Rattle.syntax_lexer.specs.declared.token.Word.{Word}
use Rattle.syntax_lexer.specs.declared.token.Word.TheVariants as w
use Rattle.syntax_lexer.specs.Token.{Lexeme, name, text, reserved, sign, head}
use Rattle.syntax_trees.specs.Tree.{ExpressionTree}
use Rattle.syntax_expressions.specs.Grammar.{IsE}
use Rattle.syntax_expressions.specs.Operators.{begins_expression}
use Rattle.syntax_expressions.specs.Nesting.{DeepE, DeepE1}
use Rattle.syntax_statements.specs.PartNesting.{begins_case, DeepItems, DeepHeading}
use Rattle.syntax_statements.specs.PartTree.{RangeTree, LoopTree}
use Rattle.syntax_statements.specs.PartGrammar.{IsRanges, IsOptional, effect_or_none, IsLoop}
use Rattle.syntax_statements.specs.Tree.{StatementTree, StatementTrees}
use Rattle.syntax_statements.specs.Grammar.{IsS, IsSs}

-- the words with which a statement can begin
abbrev pub word_opens : Word → Bool
word_opens w.Print = true
word_opens w.PrintRet = true
word_opens w.NewLine = true
word_opens w.If = true
word_opens w.While = true
word_opens w.Do = true
word_opens w.For = true
word_opens w.Objectloop = true
word_opens w.Switch = true
word_opens w.Break = true
word_opens w.Continue = true
word_opens w.Return = true
word_opens w.Rtrue = true
word_opens w.Rfalse = true
word_opens w.Quit = true
word_opens w.Read = true
word_opens w.Give = true
word_opens w.Move = true
word_opens w.Remove = true
word_opens _ = false

-- the tokens with which a statement can begin that is no expression alone
abbrev pub opens_statement : Lexeme → Bool
opens_statement (text _ _) = true
opens_statement (sign s.Semicolon _) = true
opens_statement (sign s.OpenBrace _) = true
opens_statement (reserved word _) = word_opens word
opens_statement _ = false

-- the tokens with which a statement can begin
unfoldable pub begins_statement : Lexeme → Bool
begins_statement t = opens_statement t || begins_expression t

-- a statement of a case goes on with it
abbrev pub begins_in_case : List Lexeme → Bool
begins_in_case ts = begins_statement (head ts) && not (begins_case ts)

mutual
  -- S = .. | "{" {S} "}" | ("print" | "print_ret") Item {"," Item} ";" | "if" "(" E ")" S ["else" S]
  --   | "while" "(" E ")" S | "do" S "until" "(" E ")" ";" | "for" "(" [X] ":" [E] ":" [X] ")" S
  --   | "objectloop" "(" Loop ")" S
  --   | "switch" "(" E ")" "{" {Case} ["default" ":" {S}] "}" | "return" [E] ";"
  --   | "give" E (["~"] name)+ ";" | "move" E "to" E ";" | "remove" E ";" | X ";"
  pub data DeepS : ℕ → List Lexeme → List Lexeme → Type 0 where
    deep_s_brace : {m : List Lexeme} {p : Position} → DeepS 1 (sign s.OpenBrace p ∷ m) (sign s.OpenBrace p ∷ m)
    deep_s_block : {n : ℕ} {m u : List Lexeme} {p : Position} → DeepInside n m u
        → DeepS (suc n) (sign s.OpenBrace p ∷ m) u
    deep_s_print : {n : ℕ} {m u : List Lexeme} {p : Position} → DeepItems n m u → DeepS n (reserved w.Print p ∷ m) u
    deep_s_print_ret : {n : ℕ} {m u : List Lexeme} {p : Position} → DeepItems n m u
        → DeepS n (reserved w.PrintRet p ∷ m) u
    deep_s_if : {m : List Lexeme} {p q : Position}
        → DeepS 1 (reserved w.If p ∷ sign s.OpenParenthesis q ∷ m) (sign s.OpenParenthesis q ∷ m)
    deep_s_if_condition : {n : ℕ} {m u : List Lexeme} {p q : Position} → DeepE n m u
        → DeepS (suc n) (reserved w.If p ∷ sign s.OpenParenthesis q ∷ m) u
    deep_s_if_then : {n : ℕ} {m k u : List Lexeme} {p q o : Position} {c : ExpressionTree}
        → IsE m c (sign s.CloseParenthesis o ∷ k) → DeepS n k u
        → DeepS (suc n) (reserved w.If p ∷ sign s.OpenParenthesis q ∷ m) u
    deep_s_if_else : {n : ℕ} {m k l u : List Lexeme} {p q o e : Position} {c : ExpressionTree} {x : StatementTree}
        → IsE m c (sign s.CloseParenthesis o ∷ k) → IsS k x (reserved w.Else e ∷ l) → DeepS n l u
        → DeepS (suc n) (reserved w.If p ∷ sign s.OpenParenthesis q ∷ m) u
    deep_s_while : {m : List Lexeme} {p q : Position}
        → DeepS 1 (reserved w.While p ∷ sign s.OpenParenthesis q ∷ m) (sign s.OpenParenthesis q ∷ m)
    deep_s_while_condition : {n : ℕ} {m u : List Lexeme} {p q : Position} → DeepE n m u
        → DeepS (suc n) (reserved w.While p ∷ sign s.OpenParenthesis q ∷ m) u
    deep_s_while_do : {n : ℕ} {m k u : List Lexeme} {p q o : Position} {c : ExpressionTree}
        → IsE m c (sign s.CloseParenthesis o ∷ k) → DeepS n k u
        → DeepS (suc n) (reserved w.While p ∷ sign s.OpenParenthesis q ∷ m) u
    deep_s_do_begins : {m : List Lexeme} {t : Lexeme} {p : Position} → begins_statement t ≡ true
        → DeepS 1 (reserved w.Do p ∷ t ∷ m) (t ∷ m)
    deep_s_do : {n : ℕ} {m u : List Lexeme} {p : Position} → DeepS n m u → DeepS (suc n) (reserved w.Do p ∷ m) u
    deep_s_until : {m k : List Lexeme} {p q e : Position} {x : StatementTree}
        → IsS m x (reserved w.Until e ∷ sign s.OpenParenthesis q ∷ k)
        → DeepS 1 (reserved w.Do p ∷ m) (sign s.OpenParenthesis q ∷ k)
    deep_s_until_condition : {n : ℕ} {m k u : List Lexeme} {p q e : Position} {x : StatementTree}
        → IsS m x (reserved w.Until e ∷ sign s.OpenParenthesis q ∷ k) → DeepE n k u
        → DeepS (suc n) (reserved w.Do p ∷ m) u
    deep_s_for : {m : List Lexeme} {p q : Position}
        → DeepS 1 (reserved w.For p ∷ sign s.OpenParenthesis q ∷ m) (sign s.OpenParenthesis q ∷ m)
    deep_s_for_parts : {n : ℕ} {m u : List Lexeme} {p q : Position} → DeepHeading n m u
        → DeepS (suc n) (reserved w.For p ∷ sign s.OpenParenthesis q ∷ m) u
    deep_s_for_body : {n : ℕ} {m k l o u : List Lexeme} {p q i j z : Position} {a b c : Option ExpressionTree}
        → IsOptional m a (sign s.Colon i ∷ k) → effect_or_none a ≡ true → IsOptional k b (sign s.Colon j ∷ l)
        → IsOptional l c (sign s.CloseParenthesis z ∷ o) → effect_or_none c ≡ true → DeepS n o u
        → DeepS (suc n) (reserved w.For p ∷ sign s.OpenParenthesis q ∷ m) u
    deep_s_objectloop : {m : List Lexeme} {p q : Position}
        → DeepS 1 (reserved w.Objectloop p ∷ sign s.OpenParenthesis q ∷ m) (sign s.OpenParenthesis q ∷ m)
    deep_s_objectloop_head : {n : ℕ} {m u : List Lexeme} {p q o : Position} {x : List ℕ} → DeepE1 n (name x o ∷ m) u
        → DeepS (suc n) (reserved w.Objectloop p ∷ sign s.OpenParenthesis q ∷ name x o ∷ m) u
    deep_s_objectloop_body : {n : ℕ} {m k u : List Lexeme} {p q o : Position} {l : LoopTree}
        → IsLoop m l (sign s.CloseParenthesis o ∷ k) → DeepS n k u
        → DeepS (suc n) (reserved w.Objectloop p ∷ sign s.OpenParenthesis q ∷ m) u
    deep_s_switch : {m : List Lexeme} {p q : Position}
        → DeepS 1 (reserved w.Switch p ∷ sign s.OpenParenthesis q ∷ m) (sign s.OpenParenthesis q ∷ m)
    deep_s_switch_value : {n : ℕ} {m u : List Lexeme} {p q : Position} → DeepE n m u
        → DeepS (suc n) (reserved w.Switch p ∷ sign s.OpenParenthesis q ∷ m) u
    deep_s_switch_brace : {m k : List Lexeme} {p q o i : Position} {e : ExpressionTree}
        → IsE m e (sign s.CloseParenthesis o ∷ sign s.OpenBrace i ∷ k)
        → DeepS 1 (reserved w.Switch p ∷ sign s.OpenParenthesis q ∷ m) (sign s.OpenBrace i ∷ k)
    deep_s_switch_cases : {n : ℕ} {m k u : List Lexeme} {p q o i : Position} {e : ExpressionTree}
        → IsE m e (sign s.CloseParenthesis o ∷ sign s.OpenBrace i ∷ k) → DeepCases n k u
        → DeepS (suc n) (reserved w.Switch p ∷ sign s.OpenParenthesis q ∷ m) u
    deep_s_return : {n : ℕ} {m u : List Lexeme} {p : Position} → DeepE n m u → DeepS n (reserved w.Return p ∷ m) u
    deep_s_give : {n : ℕ} {m u : List Lexeme} {p : Position} → DeepE n m u → DeepS n (reserved w.Give p ∷ m) u
    deep_s_move : {n : ℕ} {m u : List Lexeme} {p : Position} → DeepE n m u → DeepS n (reserved w.Move p ∷ m) u
    deep_s_move_to : {n : ℕ} {m k u : List Lexeme} {p o : Position} {a : ExpressionTree}
        → IsE m a (reserved w.To o ∷ k) → DeepE n k u → DeepS n (reserved w.Move p ∷ m) u
    deep_s_remove : {n : ℕ} {m u : List Lexeme} {p : Position} → DeepE n m u → DeepS n (reserved w.Remove p ∷ m) u
    deep_s_effect : {n : ℕ} {ts u : List Lexeme} → DeepE n ts u → DeepS n ts u

  -- {S} in a block: the first token of each statement stands one deeper
  pub data DeepInside : ℕ → List Lexeme → List Lexeme → Type 0 where
    deep_inside_begins : {m : List Lexeme} {t : Lexeme} → begins_statement t ≡ true → DeepInside 1 (t ∷ m) (t ∷ m)
    deep_inside_first : {n : ℕ} {ts u : List Lexeme} → DeepS n ts u → DeepInside (suc n) ts u
    deep_inside_next : {n : ℕ} {ts m u : List Lexeme} {x : StatementTree} → IsS ts x m → DeepInside n m u
        → DeepInside n ts u

  -- {Case} ["default" ":" {S}]
  pub data DeepCases : ℕ → List Lexeme → List Lexeme → Type 0 where
    deep_cases_first : {n : ℕ} {ts m u : List Lexeme} {p : Position} {gs : List RangeTree}
        → IsRanges ts gs (sign s.Colon p ∷ m) → DeepInCase n m u → DeepCases n ts u
    deep_cases_next : {n : ℕ} {ts m k u : List Lexeme} {p : Position} {gs : List RangeTree} {xs : StatementTrees}
        → IsRanges ts gs (sign s.Colon p ∷ m) → IsSs m xs k → DeepCases n k u → DeepCases n ts u
    deep_cases_default : {n : ℕ} {m u : List Lexeme} {p q : Position} → DeepInside n m u
        → DeepCases n (reserved w.Default p ∷ sign s.Colon q ∷ m) u

  -- {S} in a case: what begins the next case is no statement
  pub data DeepInCase : ℕ → List Lexeme → List Lexeme → Type 0 where
    deep_in_case_begins : {ts : List Lexeme} → begins_in_case ts ≡ true → DeepInCase 1 ts ts
    deep_in_case_first : {n : ℕ} {ts u : List Lexeme} → begins_in_case ts ≡ true → DeepS n ts u
        → DeepInCase (suc n) ts u
    deep_in_case_next : {n : ℕ} {ts m u : List Lexeme} {x : StatementTree} → IsS ts x m → DeepInCase n m u
        → DeepInCase n ts u

-- {S} directly in a routine
pub data DeepSs : ℕ → List Lexeme → List Lexeme → Type 0 where
  deep_ss_first : {n : ℕ} {ts u : List Lexeme} → DeepS n ts u → DeepSs n ts u
  deep_ss_next : {n : ℕ} {ts m u : List Lexeme} {x : StatementTree} → IsS ts x m → DeepSs n m u → DeepSs n ts u
