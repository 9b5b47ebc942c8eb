-- What reading has to do with the grammar.
use Rattle.std.specs.Prelude.{◌≡◌, Bool, true, false, ℕ, suc, ◌<◌, ◌≤◌, List, length, Ok, Err}
use Rattle.syntax_lexer.specs.declared.token.Sign.TheVariants as s
use Rattle.syntax_lexer.specs.declared.token.Word.{Word}
use Rattle.syntax_lexer.specs.declared.token.Word.TheVariants as w
use Rattle.syntax_lexer.specs.Token.{Lexeme, reserved, sign}
use Rattle.syntax_trees.specs.Tree.{ExpressionTree}
use Rattle.syntax_trees.specs.Stop.{deep, TooDeep}
use Rattle.syntax_trees.specs.Parse.{head}
use Rattle.syntax_expressions.specs.Grammar.{IsE, IsE1, nesting}
use Rattle.syntax_expressions.specs.Nesting.{DeepE, DeepE1}
use Rattle.syntax_expressions.specs.Parse.{condition, expression, nested}

-- the reserved words that go on with an expression after it
abbrev pub word_goes_on : Word → Bool
word_goes_on w.Or = true
word_goes_on w.In = true
word_goes_on w.Notin = true
word_goes_on w.Has = true
word_goes_on w.Hasnt = true
word_goes_on w.Provides = true
word_goes_on _ = false

-- the tokens that go on with an expression without an assignment at its root, after it
abbrev pub continues : Lexeme → Bool
continues (sign s.AndAlso _) = true
continues (sign s.OrElse _) = true
continues (sign s.Less _) = true
continues (sign s.Greater _) = true
continues (sign s.LessOrEqual _) = true
continues (sign s.GreaterOrEqual _) = true
continues (sign s.Equal _) = true
continues (sign s.NotEqual _) = true
continues (reserved w _) = word_goes_on w
continues (sign s.Plus _) = true
continues (sign s.Minus _) = true
continues (sign s.Star _) = true
continues (sign s.Slash _) = true
continues (sign s.Percent _) = true
continues (sign s.Ampersand _) = true
continues (sign s.Bar _) = true
continues (sign s.Arrow _) = true
continues (sign s.LongArrow _) = true
continues (sign s.Increment _) = true
continues (sign s.Decrement _) = true
continues (sign s.Dot _) = true
continues (sign s.DotAmpersand _) = true
continues (sign s.DotHash _) = true
continues (sign s.OpenParenthesis _) = true
continues _ = false

-- the tokens that go on with an expression after it
abbrev pub goes_on : Lexeme → Bool
goes_on (sign s.Assign _) = true
goes_on t = continues t

-- what is read derives, and is nested no deeper than was allowed
abbrev pub ReadsWhatDerives : Type 0
ReadsWhatDerives =
    (d : ℕ) (ts r : List Lexeme) (e : ExpressionTree) → expression (nested d) ts ≡ Ok (e, r)
    → IsE ts e r × (nesting e ≤ d)

-- what derives, up to a token that does not go on with it, is read; or the fault is that it is nested too deep, which
-- it is, and stands in it
abbrev pub DerivesWhatIsRead : Type 0
DerivesWhatIsRead = (d : ℕ) (ts r : List Lexeme) (e : ExpressionTree) → IsE ts e r → goes_on (head r) ≡ false
    → (nesting e ≤ d → expression (nested d) ts ≡ Ok (e, r)) × (d < nesting e
    → TooDeep (suc (length r)) (expression (nested d) ts))

-- where the fault is that a token stands too deep, one does, whether the tokens derive or not, and it is the first one
abbrev pub DeepWhereDeep : Type 0
DeepWhereDeep = (d left : ℕ) (ts : List Lexeme) → expression (nested d) ts ≡ Err (deep left)
    → (u : List Lexeme) × DeepE (suc d) ts u × (length u ≡ left)

abbrev pub DeepAtFirst : Type 0
DeepAtFirst = (d n : ℕ) (ts u : List Lexeme) → DeepE n ts u → d < n → TooDeep (length u) (expression (nested d) ts)

-- tokens have one tree
abbrev pub OneTree : Type 0
OneTree =
    (ts r u : List Lexeme) (a b : ExpressionTree) → IsE ts a r → IsE ts b u → goes_on (head r) ≡ false
    → goes_on (head u) ≡ false → (a ≡ b) × (r ≡ u)

-- The same of an expression without an assignment at its root, which an assignment sign does not go on with.

abbrev pub ReadsUnassigned : Type 0
ReadsUnassigned =
    (d : ℕ) (ts r : List Lexeme) (e : ExpressionTree) → condition (nested d) ts ≡ Ok (e, r)
    → IsE1 ts e r × (nesting e ≤ d)

abbrev pub UnassignedIsRead : Type 0
UnassignedIsRead = (d : ℕ) (ts r : List Lexeme) (e : ExpressionTree) → IsE1 ts e r → continues (head r) ≡ false
    → (nesting e ≤ d → condition (nested d) ts ≡ Ok (e, r)) × (d < nesting e
    → TooDeep (suc (length r)) (condition (nested d) ts))

abbrev pub UnassignedDeep : Type 0
UnassignedDeep = (d left : ℕ) (ts : List Lexeme) → condition (nested d) ts ≡ Err (deep left)
    → (u : List Lexeme) × DeepE1 (suc d) ts u × (length u ≡ left)

abbrev pub UnassignedAtFirst : Type 0
UnassignedAtFirst = (d n : ℕ) (ts u : List Lexeme) → DeepE1 n ts u → d < n
    → TooDeep (length u) (condition (nested d) ts)

abbrev pub OneUnassigned : Type 0
OneUnassigned =
    (ts r u : List Lexeme) (a b : ExpressionTree) → IsE1 ts a r → IsE1 ts b u → continues (head r) ≡ false
    → continues (head u) ≡ false → (a ≡ b) × (r ≡ u)
