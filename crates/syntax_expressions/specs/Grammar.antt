-- The grammar of expressions: a relation between the tokens from a place on, the tree, and the tokens after it, with
-- one case for each alternative.
use Rattle.std.specs.Prelude.{◌≡◌, ℕ, suc, max, List, ◌∷◌, Some}
use Rattle.syntax_lexer.specs.declared.token.Position.{Position}
use Rattle.syntax_lexer.specs.declared.token.Sign.TheVariants as s
use Rattle.syntax_lexer.specs.declared.token.Word.TheVariants as w
use Rattle.syntax_lexer.specs.Token.{Lexeme, name, number, character, dictionary_word, reserved, sign, position_of}
use Rattle.syntax_trees.specs.declared.tree.Binary.{Binary}
use Rattle.syntax_trees.specs.declared.tree.Comparison.{Comparison}
use Rattle.syntax_trees.specs.declared.tree.Equality.{Equality}
use Rattle.syntax_trees.specs.declared.tree.Containment.{Containment}
use Rattle.syntax_trees.specs.declared.tree.ObjectTest.{ObjectTest}
use Rattle.syntax_trees.specs.declared.tree.Prefix.TheVariants as prefix
use Rattle.syntax_trees.specs.declared.tree.Relative.{Relative}
use Rattle.syntax_trees.specs.declared.tree.Step.{Step}
use Rattle.syntax_trees.specs.declared.tree.Width.{Width}
use Rattle.syntax_trees.specs.Tree.{ExpressionTree, ExpressionTrees, constant, word, named, call, index, parenthesised}
use Rattle.syntax_trees.specs.Tree.{relative_of, property, property_length, property_entry, prefixed, step_before}
use Rattle.syntax_trees.specs.Tree.{step_after, binary, compare, equal, contained, tested, assign, none, more}
use Rattle.syntax_expressions.specs.Operators.{logical, comparing, equating, containing, testing, adding, scaling}
use Rattle.syntax_expressions.specs.Operators.{stepping, indexing, relating}

mutual
  -- E = E1 ["=" E]
  pub data IsE : List Lexeme → ExpressionTree → List Lexeme → Type 0 where
    e_plain : {ts r : List Lexeme} {e : ExpressionTree} → IsE1 ts e r → IsE ts e r
    e_assign : {ts m r : List Lexeme} {p : Position} {a b : ExpressionTree} → IsE1 ts a (sign s.Assign p ∷ m)
        → IsE m b r → IsE ts (assign a p b) r

  -- E1 = E1 ("&&" | "||") N1 | N1
  pub data IsE1 : List Lexeme → ExpressionTree → List Lexeme → Type 0 where
    e1_plain : {ts r : List Lexeme} {e : ExpressionTree} → IsN1 ts e r → IsE1 ts e r
    e1_logical : {ts m r : List Lexeme} {t : Lexeme} {op : Binary} {a b : ExpressionTree} → IsE1 ts a (t ∷ m)
        → logical t ≡ Some op → IsN1 m b r → IsE1 ts (binary op a b) r

  -- N1 = "~~" N1 | E2
  pub data IsN1 : List Lexeme → ExpressionTree → List Lexeme → Type 0 where
    n1_plain : {ts r : List Lexeme} {e : ExpressionTree} → IsE2 ts e r → IsN1 ts e r
    n1_not : {m r : List Lexeme} {p : Position} {e : ExpressionTree} → IsN1 m e r
        → IsN1 (sign s.Not p ∷ m) (prefixed prefix.Not e) r

  -- E2 = E3 | E3 ("<" | ">" | "<=" | ">=" | "in" | "notin") E3 | E3 ("==" | "~=") E3 {"or" E3}
  --    | E3 ("has" | "hasnt" | "provides") name
  pub data IsE2 : List Lexeme → ExpressionTree → List Lexeme → Type 0 where
    e2_plain : {ts r : List Lexeme} {e : ExpressionTree} → IsE3 ts e r → IsE2 ts e r
    e2_compare : {ts m r : List Lexeme} {t : Lexeme} {op : Comparison} {a b : ExpressionTree} → IsE3 ts a (t ∷ m)
        → comparing t ≡ Some op → IsE3 m b r → IsE2 ts (compare op a b) r
    e2_equal : {ts m r : List Lexeme} {t : Lexeme} {op : Equality} {a : ExpressionTree} {bs : ExpressionTrees}
        → IsE3 ts a (t ∷ m) → equating t ≡ Some op → IsChoice m bs r → IsE2 ts (equal op a bs) r
    e2_contained : {ts m r : List Lexeme} {t : Lexeme} {op : Containment} {a b : ExpressionTree} → IsE3 ts a (t ∷ m)
        → containing t ≡ Some op → IsE3 m b r → IsE2 ts (contained op a b) r
    e2_tested : {ts r : List Lexeme} {p : Position} {t : Lexeme} {n : List ℕ} {test : ObjectTest} {e : ExpressionTree}
        → IsE3 ts e (t ∷ name n p ∷ r) → testing t ≡ Some test
        → IsE2 ts (tested test e (record { text = n; position = p })) r

  -- E3 {"or" E3}
  pub data IsChoice : List Lexeme → ExpressionTrees → List Lexeme → Type 0 where
    choice_last : {ts r : List Lexeme} {e : ExpressionTree} → IsE3 ts e r → IsChoice ts (more e none) r
    choice_or : {ts m r : List Lexeme} {p : Position} {e : ExpressionTree} {es : ExpressionTrees}
        → IsE3 ts e (reserved w.Or p ∷ m) → IsChoice m es r → IsChoice ts (more e es) r

  -- E3 = E3 ("+" | "-") E4 | E4
  pub data IsE3 : List Lexeme → ExpressionTree → List Lexeme → Type 0 where
    e3_plain : {ts r : List Lexeme} {e : ExpressionTree} → IsE4 ts e r → IsE3 ts e r
    e3_add : {ts m r : List Lexeme} {t : Lexeme} {op : Binary} {a b : ExpressionTree} → IsE3 ts a (t ∷ m)
        → adding t ≡ Some op → IsE4 m b r → IsE3 ts (binary op a b) r

  -- E4 = E4 ("*" | "/" | "%" | "&" | "|") N4 | N4
  pub data IsE4 : List Lexeme → ExpressionTree → List Lexeme → Type 0 where
    e4_plain : {ts r : List Lexeme} {e : ExpressionTree} → IsN4 ts e r → IsE4 ts e r
    e4_scale : {ts m r : List Lexeme} {t : Lexeme} {op : Binary} {a b : ExpressionTree} → IsE4 ts a (t ∷ m)
        → scaling t ≡ Some op → IsN4 m b r → IsE4 ts (binary op a b) r

  -- N4 = "~" N4 | E5
  pub data IsN4 : List Lexeme → ExpressionTree → List Lexeme → Type 0 where
    n4_plain : {ts r : List Lexeme} {e : ExpressionTree} → IsE5 ts e r → IsN4 ts e r
    n4_complement : {m r : List Lexeme} {p : Position} {e : ExpressionTree} → IsN4 m e r
        → IsN4 (sign s.Tilde p ∷ m) (prefixed prefix.Complement e) r

  -- E5 = name ("->" | "-->") U | P ".&" name "-->" U | U
  pub data IsE5 : List Lexeme → ExpressionTree → List Lexeme → Type 0 where
    e5_plain : {ts r : List Lexeme} {e : ExpressionTree} → IsU ts e r → IsE5 ts e r
    e5_index : {m r : List Lexeme} {p : Position} {t : Lexeme} {n : List ℕ} {width : Width} {e : ExpressionTree}
        → indexing t ≡ Some width → IsU m e r
        → IsE5 (name n p ∷ t ∷ m) (index (record { text = n; position = p }) width e) r
    e5_entry : {ts m r : List Lexeme} {p q o : Position} {n : List ℕ} {e i : ExpressionTree}
        → IsP ts e (sign s.DotAmpersand q ∷ name n p ∷ sign s.LongArrow o ∷ m) → IsU m i r
        → IsE5 ts (property_entry e (record { text = n; position = p }) i) r

  -- U = "-" U | ("++" | "--") P | P ["++" | "--"] | P ".#" name
  pub data IsU : List Lexeme → ExpressionTree → List Lexeme → Type 0 where
    u_plain : {ts r : List Lexeme} {e : ExpressionTree} → IsP ts e r → IsU ts e r
    u_minus : {m r : List Lexeme} {p : Position} {e : ExpressionTree} → IsU m e r
        → IsU (sign s.Minus p ∷ m) (prefixed prefix.Minus e) r
    u_before : {m r : List Lexeme} {t : Lexeme} {op : Step} {e : ExpressionTree} → stepping t ≡ Some op → IsP m e r
        → IsU (t ∷ m) (step_before op (position_of t) e) r
    u_after : {ts r : List Lexeme} {t : Lexeme} {op : Step} {e : ExpressionTree} → IsP ts e (t ∷ r)
        → stepping t ≡ Some op → IsU ts (step_after e op (position_of t)) r
    u_length : {ts r : List Lexeme} {p q : Position} {n : List ℕ} {e : ExpressionTree}
        → IsP ts e (sign s.DotHash q ∷ name n p ∷ r)
        → IsU ts (property_length e (record { text = n; position = p })) r

  -- P = P "." name | number | char | word | name | "true" | "false" | "nothing" | name "(" [E {"," E}] ")"
  --    | ("parent" | "child" | "sibling") "(" E ")" | "(" E ")"
  pub data IsP : List Lexeme → ExpressionTree → List Lexeme → Type 0 where
    p_property : {ts r : List Lexeme} {p q : Position} {n : List ℕ} {e : ExpressionTree}
        → IsP ts e (sign s.Dot q ∷ name n p ∷ r) → IsP ts (property e (record { text = n; position = p })) r
    p_number : {r : List Lexeme} {p : Position} {n : ℕ} → IsP (number n p ∷ r) (constant n) r
    p_character : {r : List Lexeme} {p : Position} {c : ℕ} → IsP (character c p ∷ r) (constant c) r
    p_word : {r : List Lexeme} {p : Position} {s : List ℕ} → IsP (dictionary_word s p ∷ r) (word s) r
    p_true : {r : List Lexeme} {p : Position} → IsP (reserved w.True p ∷ r) (constant 1) r
    p_false : {r : List Lexeme} {p : Position} → IsP (reserved w.False p ∷ r) (constant 0) r
    p_nothing : {r : List Lexeme} {p : Position} → IsP (reserved w.Nothing p ∷ r) (constant 0) r
    p_name : {r : List Lexeme} {p : Position} {n : List ℕ}
        → IsP (name n p ∷ r) (named (record { text = n; position = p })) r
    p_call : {r : List Lexeme} {p q o : Position} {n : List ℕ}
        → IsP (name n p ∷ sign s.OpenParenthesis q ∷ sign s.CloseParenthesis o ∷ r)
        (call (record { text = n; position = p }) none) r
    p_call_with : {m r : List Lexeme} {p q o : Position} {n : List ℕ} {es : ExpressionTrees}
        → IsArguments m es (sign s.CloseParenthesis o ∷ r)
        → IsP (name n p ∷ sign s.OpenParenthesis q ∷ m) (call (record { text = n; position = p }) es) r
    p_relative : {m r : List Lexeme} {p o : Position} {t : Lexeme} {which : Relative} {e : ExpressionTree}
        → relating t ≡ Some which → IsE m e (sign s.CloseParenthesis o ∷ r)
        → IsP (t ∷ sign s.OpenParenthesis p ∷ m) (relative_of which e) r
    p_parenthesised : {m r : List Lexeme} {p o : Position} {e : ExpressionTree}
        → IsE m e (sign s.CloseParenthesis o ∷ r) → IsP (sign s.OpenParenthesis p ∷ m) (parenthesised e) r

  -- E {"," E}
  pub data IsArguments : List Lexeme → ExpressionTrees → List Lexeme → Type 0 where
    arguments_last : {ts r : List Lexeme} {e : ExpressionTree} → IsE ts e r → IsArguments ts (more e none) r
    arguments_comma : {ts m r : List Lexeme} {p : Position} {e : ExpressionTree} {es : ExpressionTrees}
        → IsE ts e (sign s.Comma p ∷ m) → IsArguments m es r → IsArguments ts (more e es) r

-- How deep a tree is nested: a parenthesis, also that of a call or after `parent`, `child` and `sibling`, and an
-- operator before its operand count from their own token on, the right side of an assignment from its first token on.
-- Properties, and the index of an array or of a property, add none.
abbrev mutual
  pub nesting : ExpressionTree → ℕ
  nesting (constant n) = 0
  nesting (word s) = 0
  nesting (named n) = 0
  nesting (call n es) = suc (nestings es)
  nesting (index n width e) = nesting e
  nesting (parenthesised e) = suc (nesting e)
  nesting (relative_of which e) = suc (nesting e)
  nesting (property e n) = nesting e
  nesting (property_length e n) = nesting e
  nesting (property_entry e n i) = max (nesting e) (nesting i)
  nesting (prefixed op e) = suc (nesting e)
  nesting (step_before op p e) = suc (nesting e)
  nesting (step_after e op p) = nesting e
  nesting (binary op a b) = max (nesting a) (nesting b)
  nesting (compare op a b) = max (nesting a) (nesting b)
  nesting (equal op a bs) = max (nesting a) (nestings bs)
  nesting (contained op a b) = max (nesting a) (nesting b)
  nesting (tested test e n) = nesting e
  nesting (assign a p b) = max (nesting a) (suc (nesting b))

  pub nestings : ExpressionTrees → ℕ
  nestings none = 0
  nestings (more e es) = max (nesting e) (nestings es)
