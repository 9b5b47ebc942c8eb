-- Words of contracts and proofs: parts of expressions, read from left to right, as functions from a list of tokens to
-- what is read and the tokens after it.
use Rattle.std.specs.Prelude.{if◌then◌else◌, Bool, true, false, ℕ, zero, suc, List, length, Option, Some, None, Result}
use Rattle.std.specs.Prelude.{Ok, Err}
use Rattle.syntax_lexer.specs.declared.token.Sign.TheVariants as s
use Rattle.syntax_lexer.specs.declared.token.Word.{Word}
use Rattle.syntax_lexer.specs.declared.token.Word.TheVariants as w
use Rattle.syntax_lexer.specs.Token.{Lexeme, name, position_of}
use Rattle.syntax_trees.specs.declared.tree.ObjectTest.{ObjectTest}
use Rattle.syntax_trees.specs.declared.tree.Step.{Step}
use Rattle.syntax_trees.specs.declared.tree.Width.{Width}
use Rattle.syntax_trees.specs.Tree.{NameTree, ExpressionTree, constant, property, property_length, step_after, tested}
use Rattle.syntax_trees.specs.Parse.{Parse, ◌>>=◌, head, tail, is_sign, expect}
use Rattle.syntax_trees.specs.Stop.{Stop, unfit}
use Rattle.syntax_expressions.specs.Operators.{testing, stepping, indexing}

-- ---- one token

abbrev pub is_name : Lexeme → Bool
is_name (name _ _) = true
is_name _ = false

-- the array whose entry comes next, and the width of its entries: a name, and an arrow after it
abbrev pub array_of : Lexeme → Option Width → Option (NameTree × Width)
array_of (name n p) (Some width) = Some (record { text = n; position = p }, width)
array_of _ _ = None

unfoldable pub array_at : List Lexeme → Option (NameTree × Width)
array_at ts = array_of (head ts) (indexing (head (tail ts)))

-- the name that comes next, and the tokens after it; of the tokens, the first comes next
abbrev pub name_on : Lexeme → List Lexeme → Result (NameTree × List Lexeme) Stop
name_on (name n p) ts = Ok (record { text = n; position = p }, tail ts)
name_on _ ts = Err (unfit (length ts))

unfoldable pub expect_name : Parse NameTree
expect_name ts = name_on (head ts) ts

-- the value of a reserved word
abbrev pub word_value : Word → Option ℕ
word_value w.True = Some 1
word_value w.False = Some 0
word_value w.Nothing = Some 0
word_value _ = None

abbrev pub constant_on : Option ℕ → Parse ExpressionTree
constant_on None ts = Err (unfit (length ts))
constant_on (Some n) ts = Ok (constant n, tail ts)

-- what stands in parentheses, with the second of them
abbrev pub closed : {A B : Type 0} → (A → B) → A × List Lexeme → Result (B × List Lexeme) Stop
closed make x = expect s.CloseParenthesis x.1 >>= λ r. Ok (make x.0, r)

-- ---- what follows an object

-- a property of an owner, after its sign
unfoldable pub property_next : ExpressionTree → Parse ExpressionTree
property_next e ts = expect_name ts >>= λ x. Ok (property e x.0, x.1)

-- {"." name} after an owner
unfoldable pub properties : ℕ → ExpressionTree → Parse ExpressionTree
properties zero e ts = Ok (e, ts)
properties (suc n) e ts =
    if is_sign s.Dot (head ts) then (property_next e (tail ts) >>= λ x. properties n x.0 x.1) else Ok (e, ts)

-- the name of a property whose entry is read, after its sign, and the arrow after it
unfoldable pub entry_of : Parse NameTree
entry_of ts = expect_name ts >>= λ x. expect s.LongArrow x.1 >>= λ r. Ok (x.0, r)

-- the length of a property of an operand, after its sign
abbrev pub length_next : ExpressionTree → Parse ExpressionTree
length_next e ts = expect_name ts >>= λ x. Ok (property_length e x.0, x.1)

unfoldable pub with_length : ExpressionTree → Parse ExpressionTree
with_length e ts = if is_sign s.DotHash (head ts) then length_next e (tail ts) else Ok (e, ts)

abbrev pub tested_on : ExpressionTree → List Lexeme → Option ObjectTest → Result (ExpressionTree × List Lexeme) Stop
tested_on e ts None = Ok (e, ts)
tested_on e ts (Some test) = expect_name (tail ts) >>= λ x. Ok (tested test e x.0, x.1)

unfoldable pub tested_next : ExpressionTree → Parse ExpressionTree
tested_next e ts = tested_on e ts (testing (head ts))

-- an operand, and `++`, `--` or the length of a property where it stands after it
abbrev pub step_on : ExpressionTree → List Lexeme → Option Step → Result (ExpressionTree × List Lexeme) Stop
step_on e ts None = with_length e ts
step_on e ts (Some op) = Ok (step_after e op (position_of (head ts)), tail ts)

unfoldable pub after_operand : ExpressionTree → Parse ExpressionTree
after_operand e ts = step_on e ts (stepping (head ts))
