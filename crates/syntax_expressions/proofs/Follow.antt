-- The token after an expression: with which it goes on, and with which it has ended.
use Rattle.std.proofs.Common.{◌≡◌, ℕ, ◌<◌, false, List, Some, None, refl, arith}
use Rattle.syntax_lexer.specs.declared.token.Position.{Position}
use Rattle.syntax_lexer.specs.declared.token.Sign.TheVariants as s
use Rattle.syntax_lexer.specs.declared.token.Word.{Word}
use Rattle.syntax_lexer.specs.declared.token.Word.TheVariants as w
use Rattle.syntax_lexer.specs.Token.{Lexeme, reserved, sign}
use Rattle.syntax_trees.specs.declared.tree.Binary.{Binary}
use Rattle.syntax_trees.specs.declared.tree.Comparison.{Comparison}
use Rattle.syntax_trees.specs.declared.tree.Equality.{Equality}
use Rattle.syntax_trees.specs.declared.tree.Containment.{Containment}
use Rattle.syntax_trees.specs.declared.tree.ObjectTest.{ObjectTest}
use Rattle.syntax_trees.specs.declared.tree.Step.{Step}
use Rattle.syntax_trees.specs.Parse.{head, is_sign, is_word}
use Rattle.syntax_expressions.specs.Operators.{logical, comparing, equating, containing_word, containing}
use Rattle.syntax_expressions.specs.Operators.{testing_word, testing, adding, scaling, stepping, indexing}

abbrev pub word_binds : Word → ℕ
word_binds w.Or = 3
word_binds w.In = 3
word_binds w.Notin = 3
word_binds w.Has = 3
word_binds w.Hasnt = 3
word_binds w.Provides = 3
word_binds _ = 0

-- the loosest level at which a token goes on with an expression
abbrev pub binds : Lexeme → ℕ
binds (sign s.Assign _) = 1
binds (sign s.AndAlso _) = 2
binds (sign s.OrElse _) = 2
binds (sign s.Less _) = 3
binds (sign s.Greater _) = 3
binds (sign s.LessOrEqual _) = 3
binds (sign s.GreaterOrEqual _) = 3
binds (sign s.Equal _) = 3
binds (sign s.NotEqual _) = 3
binds (reserved w _) = word_binds w
binds (sign s.Plus _) = 4
binds (sign s.Minus _) = 4
binds (sign s.Star _) = 5
binds (sign s.Slash _) = 5
binds (sign s.Percent _) = 5
binds (sign s.Ampersand _) = 5
binds (sign s.Bar _) = 5
binds (sign s.Arrow _) = 6
binds (sign s.LongArrow _) = 6
binds (sign s.Increment _) = 6
binds (sign s.Decrement _) = 6
binds (sign s.DotHash _) = 6
binds (sign s.DotAmpersand _) = 6
binds (sign s.Dot _) = 7
binds (sign s.OpenParenthesis _) = 8
binds _ = 0

-- the token after an expression of level k goes on with none of it
abbrev pub Stops : ℕ → List Lexeme → Type 0
Stops k r = binds (head r) < k

pub logical_binds : (t : Lexeme) (op : Binary) → logical t ≡ Some op → binds t ≡ 2
logical_binds (sign s.AndAlso p) op e = refl
logical_binds (sign s.OrElse p) op e = refl
logical_binds _ op e = absurd cc

pub comparing_binds : (t : Lexeme) (op : Comparison) → comparing t ≡ Some op → binds t ≡ 3
comparing_binds (sign s.Less p) op e = refl
comparing_binds (sign s.Greater p) op e = refl
comparing_binds (sign s.LessOrEqual p) op e = refl
comparing_binds (sign s.GreaterOrEqual p) op e = refl
comparing_binds _ op e = absurd cc

pub equating_binds : (t : Lexeme) (op : Equality) → equating t ≡ Some op → binds t ≡ 3
equating_binds (sign s.Equal p) op e = refl
equating_binds (sign s.NotEqual p) op e = refl
equating_binds _ op e = absurd cc

pub equating_only : (t : Lexeme) (op : Equality) → equating t ≡ Some op → comparing t ≡ None
equating_only (sign s.Equal p) op e = refl
equating_only (sign s.NotEqual p) op e = refl
equating_only _ op e = absurd cc

containing_word_binds : (r : Word) (op : Containment) → containing_word r ≡ Some op → word_binds r ≡ 3
containing_word_binds w.In op e = refl
containing_word_binds w.Notin op e = refl
containing_word_binds _ op e = absurd cc

pub containing_binds : (t : Lexeme) (op : Containment) → containing t ≡ Some op → binds t ≡ 3
containing_binds (reserved r p) op e = containing_word_binds r op e
containing_binds _ op e = absurd cc

pub containing_only : (t : Lexeme) (op : Containment) → containing t ≡ Some op
    → (comparing t ≡ None) × (equating t ≡ None)
containing_only (reserved r p) op e = (refl, refl)
containing_only _ op e = absurd cc

testing_word_binds : (r : Word) (test : ObjectTest) → testing_word r ≡ Some test → word_binds r ≡ 3
testing_word_binds w.Has test e = refl
testing_word_binds w.Hasnt test e = refl
testing_word_binds w.Provides test e = refl
testing_word_binds _ test e = absurd cc

pub testing_binds : (t : Lexeme) (test : ObjectTest) → testing t ≡ Some test → binds t ≡ 3
testing_binds (reserved r p) test e = testing_word_binds r test e
testing_binds _ test e = absurd cc

testing_word_only : (r : Word) (test : ObjectTest) → testing_word r ≡ Some test → containing_word r ≡ None
testing_word_only w.Has test e = refl
testing_word_only w.Hasnt test e = refl
testing_word_only w.Provides test e = refl
testing_word_only _ test e = absurd cc

-- no comparison, no equality, and not `in`
pub testing_only : (t : Lexeme) (test : ObjectTest) → testing t ≡ Some test
    → (comparing t ≡ None) × (equating t ≡ None) × (containing t ≡ None)
testing_only (reserved r p) test e = (refl, refl, testing_word_only r test e)
testing_only _ test e = absurd cc

pub adding_binds : (t : Lexeme) (op : Binary) → adding t ≡ Some op → binds t ≡ 4
adding_binds (sign s.Plus p) op e = refl
adding_binds (sign s.Minus p) op e = refl
adding_binds _ op e = absurd cc

pub scaling_binds : (t : Lexeme) (op : Binary) → scaling t ≡ Some op → binds t ≡ 5
scaling_binds (sign s.Star p) op e = refl
scaling_binds (sign s.Slash p) op e = refl
scaling_binds (sign s.Percent p) op e = refl
scaling_binds (sign s.Ampersand p) op e = refl
scaling_binds (sign s.Bar p) op e = refl
scaling_binds _ op e = absurd cc

pub stepping_binds : (t : Lexeme) (op : Step) → stepping t ≡ Some op → binds t ≡ 6
stepping_binds (sign s.Increment p) op e = refl
stepping_binds (sign s.Decrement p) op e = refl
stepping_binds _ op e = absurd cc

pub stepping_only : (t : Lexeme) (op : Step) → stepping t ≡ Some op → is_sign s.Minus t ≡ false
stepping_only (sign s.Increment p) op e = refl
stepping_only (sign s.Decrement p) op e = refl
stepping_only _ op e = absurd cc

pub logical_stops : (t : Lexeme) → binds t < 2 → logical t ≡ None
logical_stops (sign s.AndAlso p) lt = absurd (omega arith)
logical_stops (sign s.OrElse p) lt = absurd (omega arith)
logical_stops _ lt = refl

pub comparing_stops : (t : Lexeme) → binds t < 3 → comparing t ≡ None
comparing_stops (sign s.Less p) lt = absurd (omega arith)
comparing_stops (sign s.Greater p) lt = absurd (omega arith)
comparing_stops (sign s.LessOrEqual p) lt = absurd (omega arith)
comparing_stops (sign s.GreaterOrEqual p) lt = absurd (omega arith)
comparing_stops _ lt = refl

pub equating_stops : (t : Lexeme) → binds t < 3 → equating t ≡ None
equating_stops (sign s.Equal p) lt = absurd (omega arith)
equating_stops (sign s.NotEqual p) lt = absurd (omega arith)
equating_stops _ lt = refl

or_word_stops : (r : Word) (p : Position) → word_binds r < 3 → is_word w.Or (reserved r p) ≡ false
or_word_stops w.Or p lt = absurd (omega arith)
or_word_stops _ p lt = refl

pub or_stops : (t : Lexeme) → binds t < 3 → is_word w.Or t ≡ false
or_stops (reserved r p) lt = or_word_stops r p lt
or_stops _ lt = refl

containing_word_stops : (r : Word) → word_binds r < 3 → containing_word r ≡ None
containing_word_stops w.In lt = absurd (omega arith)
containing_word_stops w.Notin lt = absurd (omega arith)
containing_word_stops _ lt = refl

pub containing_stops : (t : Lexeme) → binds t < 3 → containing t ≡ None
containing_stops (reserved r p) lt = containing_word_stops r lt
containing_stops _ lt = refl

testing_word_stops : (r : Word) → word_binds r < 3 → testing_word r ≡ None
testing_word_stops w.Has lt = absurd (omega arith)
testing_word_stops w.Hasnt lt = absurd (omega arith)
testing_word_stops w.Provides lt = absurd (omega arith)
testing_word_stops _ lt = refl

pub testing_stops : (t : Lexeme) → binds t < 3 → testing t ≡ None
testing_stops (reserved r p) lt = testing_word_stops r lt
testing_stops _ lt = refl

pub adding_stops : (t : Lexeme) → binds t < 4 → adding t ≡ None
adding_stops (sign s.Plus p) lt = absurd (omega arith)
adding_stops (sign s.Minus p) lt = absurd (omega arith)
adding_stops _ lt = refl

pub scaling_stops : (t : Lexeme) → binds t < 5 → scaling t ≡ None
scaling_stops (sign s.Star p) lt = absurd (omega arith)
scaling_stops (sign s.Slash p) lt = absurd (omega arith)
scaling_stops (sign s.Percent p) lt = absurd (omega arith)
scaling_stops (sign s.Ampersand p) lt = absurd (omega arith)
scaling_stops (sign s.Bar p) lt = absurd (omega arith)
scaling_stops _ lt = refl

pub stepping_stops : (t : Lexeme) → binds t < 6 → stepping t ≡ None
stepping_stops (sign s.Increment p) lt = absurd (omega arith)
stepping_stops (sign s.Decrement p) lt = absurd (omega arith)
stepping_stops _ lt = refl

pub indexing_stops : (t : Lexeme) → binds t < 6 → indexing t ≡ None
indexing_stops (sign s.Arrow p) lt = absurd (omega arith)
indexing_stops (sign s.LongArrow p) lt = absurd (omega arith)
indexing_stops _ lt = refl

pub assign_stops : (t : Lexeme) → binds t < 1 → is_sign s.Assign t ≡ false
assign_stops (sign s.Assign p) lt = absurd (omega arith)
assign_stops _ lt = refl

pub length_stops : (t : Lexeme) → binds t < 6 → is_sign s.DotHash t ≡ false
length_stops (sign s.DotHash p) lt = absurd (omega arith)
length_stops _ lt = refl

pub entry_stops : (t : Lexeme) → binds t < 6 → is_sign s.DotAmpersand t ≡ false
entry_stops (sign s.DotAmpersand p) lt = absurd (omega arith)
entry_stops _ lt = refl

pub step_no_entry : (t : Lexeme) (op : Step) → stepping t ≡ Some op → is_sign s.DotAmpersand t ≡ false
step_no_entry (sign s.Increment p) op e = refl
step_no_entry (sign s.Decrement p) op e = refl
step_no_entry _ op e = absurd cc

pub property_stops : (t : Lexeme) → binds t < 7 → is_sign s.Dot t ≡ false
property_stops (sign s.Dot p) lt = absurd (omega arith)
property_stops _ lt = refl

pub parenthesis_stops : (t : Lexeme) → binds t < 8 → is_sign s.OpenParenthesis t ≡ false
parenthesis_stops (sign s.OpenParenthesis p) lt = absurd (omega arith)
parenthesis_stops _ lt = refl
