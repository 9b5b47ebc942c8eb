-- Which tokens are operators, level by level, and with which an expression can begin.
use Rattle.std.specs.Prelude.{Bool, true, false, Option, Some, None}
use Rattle.syntax_lexer.specs.Token.{Lexeme, name, number, character, dictionary_word, reserved, sign}
use Rattle.syntax_lexer.specs.declared.token.Sign.TheVariants as s
use Rattle.syntax_lexer.specs.declared.token.Word.{Word}
use Rattle.syntax_lexer.specs.declared.token.Word.TheVariants as w
use Rattle.syntax_trees.specs.declared.tree.Binary.{Binary}
use Rattle.syntax_trees.specs.declared.tree.Binary.TheVariants as op
use Rattle.syntax_trees.specs.declared.tree.Comparison.{Comparison}
use Rattle.syntax_trees.specs.declared.tree.Comparison.TheVariants as comparison
use Rattle.syntax_trees.specs.declared.tree.Equality.{Equality}
use Rattle.syntax_trees.specs.declared.tree.Equality.TheVariants as equality
use Rattle.syntax_trees.specs.declared.tree.Containment.{Containment}
use Rattle.syntax_trees.specs.declared.tree.Containment.TheVariants as containment
use Rattle.syntax_trees.specs.declared.tree.ObjectTest.{ObjectTest}
use Rattle.syntax_trees.specs.declared.tree.ObjectTest.TheVariants as test
use Rattle.syntax_trees.specs.declared.tree.Relative.{Relative}
use Rattle.syntax_trees.specs.declared.tree.Relative.TheVariants as relative
use Rattle.syntax_trees.specs.declared.tree.Step.{Step}
use Rattle.syntax_trees.specs.declared.tree.Step.TheVariants as step
use Rattle.syntax_trees.specs.declared.tree.Width.{Width}
use Rattle.syntax_trees.specs.declared.tree.Width.TheVariants as width

abbrev pub logical : Lexeme → Option Binary
logical (sign s.AndAlso _) = Some op.AndAlso
logical (sign s.OrElse _) = Some op.OrElse
logical _ = None

abbrev pub comparing : Lexeme → Option Comparison
comparing (sign s.Less _) = Some comparison.Less
comparing (sign s.Greater _) = Some comparison.Greater
comparing (sign s.LessOrEqual _) = Some comparison.LessOrEqual
comparing (sign s.GreaterOrEqual _) = Some comparison.GreaterOrEqual
comparing _ = None

abbrev pub equating : Lexeme → Option Equality
equating (sign s.Equal _) = Some equality.Equal
equating (sign s.NotEqual _) = Some equality.NotEqual
equating _ = None

abbrev pub containing_word : Word → Option Containment
containing_word w.In = Some containment.In
containing_word w.Notin = Some containment.NotIn
containing_word _ = None

abbrev pub containing : Lexeme → Option Containment
containing (reserved w _) = containing_word w
containing _ = None

abbrev pub testing_word : Word → Option ObjectTest
testing_word w.Has = Some test.Has
testing_word w.Hasnt = Some test.HasNot
testing_word w.Provides = Some test.Provides
testing_word _ = None

-- what a name after it is tested for
abbrev pub testing : Lexeme → Option ObjectTest
testing (reserved w _) = testing_word w
testing _ = None

abbrev pub adding : Lexeme → Option Binary
adding (sign s.Plus _) = Some op.Add
adding (sign s.Minus _) = Some op.Subtract
adding _ = None

abbrev pub scaling : Lexeme → Option Binary
scaling (sign s.Star _) = Some op.Multiply
scaling (sign s.Slash _) = Some op.Divide
scaling (sign s.Percent _) = Some op.Remainder
scaling (sign s.Ampersand _) = Some op.And
scaling (sign s.Bar _) = Some op.Or
scaling _ = None

abbrev pub stepping : Lexeme → Option Step
stepping (sign s.Increment _) = Some step.Increment
stepping (sign s.Decrement _) = Some step.Decrement
stepping _ = None

-- an operator before an operand of the tightest level
abbrev pub prefixes : Lexeme → Bool
prefixes (sign s.Minus _) = true
prefixes (sign s.Increment _) = true
prefixes (sign s.Decrement _) = true
prefixes _ = false

abbrev pub relating_word : Word → Option Relative
relating_word w.Parent = Some relative.Parent
relating_word w.Child = Some relative.Child
relating_word w.Sibling = Some relative.Sibling
relating_word _ = None

abbrev pub relating : Lexeme → Option Relative
relating (reserved w _) = relating_word w
relating _ = None

-- the width of the entries that an arrow indexes
abbrev pub indexing : Lexeme → Option Width
indexing (sign s.Arrow _) = Some width.Byte
indexing (sign s.LongArrow _) = Some width.Word
indexing _ = None

-- the reserved words with which an expression can begin
abbrev pub word_begins : Word → Bool
word_begins w.True = true
word_begins w.False = true
word_begins w.Nothing = true
word_begins w.Parent = true
word_begins w.Child = true
word_begins w.Sibling = true
word_begins _ = false

-- the tokens with which an expression can begin
abbrev pub begins_expression : Lexeme → Bool
begins_expression (name _ _) = true
begins_expression (number _ _) = true
begins_expression (character _ _) = true
begins_expression (dictionary_word _ _) = true
begins_expression (reserved w _) = word_begins w
begins_expression (sign s.OpenParenthesis _) = true
begins_expression (sign s.Minus _) = true
begins_expression (sign s.Tilde _) = true
begins_expression (sign s.Not _) = true
begins_expression (sign s.Increment _) = true
begins_expression (sign s.Decrement _) = true
begins_expression _ = false
