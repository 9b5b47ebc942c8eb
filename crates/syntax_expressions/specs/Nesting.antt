-- How deep tokens stand: a relation between a number, the tokens from a place on, and those from the deep one on, with
-- one case for each place at which a part can stand in an alternative of the grammar.
--
-- DeepE n ts u: an expression that begins at ts can be read as far as the first token of u, which stands n nestings
-- deep in it. What lies before that token in its parts is complete. A parenthesis, also that of a call or after
-- `parent`, `child` and `sibling`, and an operator before its operand stand one deeper than what holds them, and so
-- does the first token of the right side of an assignment.
use Rattle.std.specs.Prelude.{◌≡◌, true, ℕ, suc, List, ◌∷◌, Some}
use Rattle.syntax_lexer.specs.declared.token.Position.{Position}
use Rattle.syntax_lexer.specs.declared.token.Sign.TheVariants as s
use Rattle.syntax_lexer.specs.declared.token.Word.TheVariants as w
use Rattle.syntax_lexer.specs.Token.{Lexeme, name, reserved, sign}
use Rattle.syntax_trees.specs.declared.tree.Binary.{Binary}
use Rattle.syntax_trees.specs.declared.tree.Comparison.{Comparison}
use Rattle.syntax_trees.specs.declared.tree.Equality.{Equality}
use Rattle.syntax_trees.specs.declared.tree.Containment.{Containment}
use Rattle.syntax_trees.specs.declared.tree.Relative.{Relative}
use Rattle.syntax_trees.specs.declared.tree.Step.{Step}
use Rattle.syntax_trees.specs.declared.tree.Width.{Width}
use Rattle.syntax_trees.specs.Tree.{ExpressionTree}
use Rattle.syntax_expressions.specs.Operators.{logical, comparing, equating, containing, adding, scaling, stepping}
use Rattle.syntax_expressions.specs.Operators.{indexing, relating, begins_expression}
use Rattle.syntax_expressions.specs.Grammar.{IsE, IsE1, IsE3, IsE4, IsP}

mutual
  -- E = E1 ["=" E]
  pub data DeepE : ℕ → List Lexeme → List Lexeme → Type 0 where
    deep_e_left : {n : ℕ} {ts u : List Lexeme} → DeepE1 n ts u → DeepE n ts u
    deep_e_first : {ts m : List Lexeme} {p : Position} {t : Lexeme} {a : ExpressionTree}
        → IsE1 ts a (sign s.Assign p ∷ t ∷ m) → begins_expression t ≡ true → DeepE 1 ts (t ∷ m)
    deep_e_right : {n : ℕ} {ts m u : List Lexeme} {p : Position} {a : ExpressionTree} → IsE1 ts a (sign s.Assign p ∷ m)
        → DeepE n m u → DeepE (suc n) ts u

  -- E1 = E1 ("&&" | "||") N1 | N1
  pub data DeepE1 : ℕ → List Lexeme → List Lexeme → Type 0 where
    deep_e1_first : {n : ℕ} {ts u : List Lexeme} → DeepN1 n ts u → DeepE1 n ts u
    deep_e1_next : {n : ℕ} {ts m u : List Lexeme} {t : Lexeme} {op : Binary} {a : ExpressionTree} → IsE1 ts a (t ∷ m)
        → logical t ≡ Some op → DeepN1 n m u → DeepE1 n ts u

  -- N1 = "~~" N1 | E2
  pub data DeepN1 : ℕ → List Lexeme → List Lexeme → Type 0 where
    deep_n1_plain : {n : ℕ} {ts u : List Lexeme} → DeepE2 n ts u → DeepN1 n ts u
    deep_n1_not : {m : List Lexeme} {p : Position} → DeepN1 1 (sign s.Not p ∷ m) (sign s.Not p ∷ m)
    deep_n1_in : {n : ℕ} {m u : List Lexeme} {p : Position} → DeepN1 n m u → DeepN1 (suc n) (sign s.Not p ∷ m) u

  -- E2 = E3 | E3 ("<" | ">" | "<=" | ">=" | "in" | "notin") E3 | E3 ("==" | "~=") E3 {"or" E3}
  --    | E3 ("has" | "hasnt" | "provides") name
  pub data DeepE2 : ℕ → List Lexeme → List Lexeme → Type 0 where
    deep_e2_left : {n : ℕ} {ts u : List Lexeme} → DeepE3 n ts u → DeepE2 n ts u
    deep_e2_compare : {n : ℕ} {ts m u : List Lexeme} {t : Lexeme} {op : Comparison} {a : ExpressionTree}
        → IsE3 ts a (t ∷ m) → comparing t ≡ Some op → DeepE3 n m u → DeepE2 n ts u
    deep_e2_equal : {n : ℕ} {ts m u : List Lexeme} {t : Lexeme} {op : Equality} {a : ExpressionTree} → IsE3 ts a (t ∷ m)
        → equating t ≡ Some op → DeepChoice n m u → DeepE2 n ts u
    deep_e2_contained : {n : ℕ} {ts m u : List Lexeme} {t : Lexeme} {op : Containment} {a : ExpressionTree}
        → IsE3 ts a (t ∷ m) → containing t ≡ Some op → DeepE3 n m u → DeepE2 n ts u

  -- E3 {"or" E3}
  pub data DeepChoice : ℕ → List Lexeme → List Lexeme → Type 0 where
    deep_choice_first : {n : ℕ} {ts u : List Lexeme} → DeepE3 n ts u → DeepChoice n ts u
    deep_choice_next : {n : ℕ} {ts m u : List Lexeme} {p : Position} {e : ExpressionTree}
        → IsE3 ts e (reserved w.Or p ∷ m) → DeepChoice n m u → DeepChoice n ts u

  -- E3 = E3 ("+" | "-") E4 | E4
  pub data DeepE3 : ℕ → List Lexeme → List Lexeme → Type 0 where
    deep_e3_first : {n : ℕ} {ts u : List Lexeme} → DeepE4 n ts u → DeepE3 n ts u
    deep_e3_next : {n : ℕ} {ts m u : List Lexeme} {t : Lexeme} {op : Binary} {a : ExpressionTree} → IsE3 ts a (t ∷ m)
        → adding t ≡ Some op → DeepE4 n m u → DeepE3 n ts u

  -- E4 = E4 ("*" | "/" | "%" | "&" | "|") N4 | N4
  pub data DeepE4 : ℕ → List Lexeme → List Lexeme → Type 0 where
    deep_e4_first : {n : ℕ} {ts u : List Lexeme} → DeepN4 n ts u → DeepE4 n ts u
    deep_e4_next : {n : ℕ} {ts m u : List Lexeme} {t : Lexeme} {op : Binary} {a : ExpressionTree} → IsE4 ts a (t ∷ m)
        → scaling t ≡ Some op → DeepN4 n m u → DeepE4 n ts u

  -- N4 = "~" N4 | E5
  pub data DeepN4 : ℕ → List Lexeme → List Lexeme → Type 0 where
    deep_n4_plain : {n : ℕ} {ts u : List Lexeme} → DeepE5 n ts u → DeepN4 n ts u
    deep_n4_complement : {m : List Lexeme} {p : Position} → DeepN4 1 (sign s.Tilde p ∷ m) (sign s.Tilde p ∷ m)
    deep_n4_in : {n : ℕ} {m u : List Lexeme} {p : Position} → DeepN4 n m u → DeepN4 (suc n) (sign s.Tilde p ∷ m) u

  -- E5 = name ("->" | "-->") U | P ".&" name "-->" U | U
  pub data DeepE5 : ℕ → List Lexeme → List Lexeme → Type 0 where
    deep_e5_plain : {n : ℕ} {ts u : List Lexeme} → DeepU n ts u → DeepE5 n ts u
    deep_e5_index : {n : ℕ} {m u : List Lexeme} {p : Position} {t : Lexeme} {a : List ℕ} {width : Width}
        → indexing t ≡ Some width → DeepU n m u → DeepE5 n (name a p ∷ t ∷ m) u
    deep_e5_entry : {n : ℕ} {ts m u : List Lexeme} {p q o : Position} {a : List ℕ} {e : ExpressionTree}
        → IsP ts e (sign s.DotAmpersand q ∷ name a p ∷ sign s.LongArrow o ∷ m) → DeepU n m u → DeepE5 n ts u

  -- U = "-" U | ("++" | "--") P | P ["++" | "--"] | P ".#" name
  pub data DeepU : ℕ → List Lexeme → List Lexeme → Type 0 where
    deep_u_plain : {n : ℕ} {ts u : List Lexeme} → DeepP n ts u → DeepU n ts u
    deep_u_minus : {m : List Lexeme} {p : Position} → DeepU 1 (sign s.Minus p ∷ m) (sign s.Minus p ∷ m)
    deep_u_minus_in : {n : ℕ} {m u : List Lexeme} {p : Position} → DeepU n m u → DeepU (suc n) (sign s.Minus p ∷ m) u
    deep_u_before : {m : List Lexeme} {t : Lexeme} {op : Step} → stepping t ≡ Some op → DeepU 1 (t ∷ m) (t ∷ m)
    deep_u_before_in : {n : ℕ} {m u : List Lexeme} {t : Lexeme} {op : Step} → stepping t ≡ Some op → DeepP n m u
        → DeepU (suc n) (t ∷ m) u

  -- P = P "." name | .. | name "(" [E {"," E}] ")" | ("parent" | "child" | "sibling") "(" E ")" | "(" E ")"
  pub data DeepP : ℕ → List Lexeme → List Lexeme → Type 0 where
    deep_p_call : {m : List Lexeme} {p q : Position} {f : List ℕ}
        → DeepP 1 (name f p ∷ sign s.OpenParenthesis q ∷ m) (sign s.OpenParenthesis q ∷ m)
    deep_p_arguments : {n : ℕ} {m u : List Lexeme} {p q : Position} {f : List ℕ} → DeepArguments n m u
        → DeepP (suc n) (name f p ∷ sign s.OpenParenthesis q ∷ m) u
    deep_p_relative : {m : List Lexeme} {q : Position} {t : Lexeme} {which : Relative} → relating t ≡ Some which
        → DeepP 1 (t ∷ sign s.OpenParenthesis q ∷ m) (sign s.OpenParenthesis q ∷ m)
    deep_p_relative_in : {n : ℕ} {m u : List Lexeme} {q : Position} {t : Lexeme} {which : Relative}
        → relating t ≡ Some which → DeepE n m u → DeepP (suc n) (t ∷ sign s.OpenParenthesis q ∷ m) u
    deep_p_parenthesis : {m : List Lexeme} {p : Position}
        → DeepP 1 (sign s.OpenParenthesis p ∷ m) (sign s.OpenParenthesis p ∷ m)
    deep_p_in : {n : ℕ} {m u : List Lexeme} {p : Position} → DeepE n m u
        → DeepP (suc n) (sign s.OpenParenthesis p ∷ m) u

  -- E {"," E}
  pub data DeepArguments : ℕ → List Lexeme → List Lexeme → Type 0 where
    deep_arguments_first : {n : ℕ} {ts u : List Lexeme} → DeepE n ts u → DeepArguments n ts u
    deep_arguments_next : {n : ℕ} {ts m u : List Lexeme} {p : Position} {e : ExpressionTree}
        → IsE ts e (sign s.Comma p ∷ m) → DeepArguments n m u → DeepArguments n ts u
