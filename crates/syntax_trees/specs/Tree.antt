-- Trees of expressions, without where they lie in memory. Operators of one level group to the left.
use Rattle.std.specs.Prelude.{ℕ, List}
use Rattle.syntax_lexer.specs.declared.token.Position.{Position}
use Rattle.syntax_trees.specs.declared.tree.Binary.{Binary}
use Rattle.syntax_trees.specs.declared.tree.Comparison.{Comparison}
use Rattle.syntax_trees.specs.declared.tree.Equality.{Equality}
use Rattle.syntax_trees.specs.declared.tree.Containment.{Containment}
use Rattle.syntax_trees.specs.declared.tree.ObjectTest.{ObjectTest}
use Rattle.syntax_trees.specs.declared.tree.Prefix.{Prefix}
use Rattle.syntax_trees.specs.declared.tree.Relative.{Relative}
use Rattle.syntax_trees.specs.declared.tree.Step.{Step}
use Rattle.syntax_trees.specs.declared.tree.Width.{Width}

-- a name and its position
pub record NameTree : Type 0 where
  pub text : List ℕ
  pub position : Position

mutual
  pub data ExpressionTree : Type 0 where
    constant : ℕ → ExpressionTree
    word : List ℕ → ExpressionTree
    named : NameTree → ExpressionTree
    call : NameTree → ExpressionTrees → ExpressionTree
    index : NameTree → Width → ExpressionTree → ExpressionTree
    parenthesised : ExpressionTree → ExpressionTree
    relative_of : Relative → ExpressionTree → ExpressionTree
    property : ExpressionTree → NameTree → ExpressionTree
    property_length : ExpressionTree → NameTree → ExpressionTree
    -- the last is the index
    property_entry : ExpressionTree → NameTree → ExpressionTree → ExpressionTree
    prefixed : Prefix → ExpressionTree → ExpressionTree
    step_before : Step → Position → ExpressionTree → ExpressionTree
    step_after : ExpressionTree → Step → Position → ExpressionTree
    binary : Binary → ExpressionTree → ExpressionTree → ExpressionTree
    compare : Comparison → ExpressionTree → ExpressionTree → ExpressionTree
    equal : Equality → ExpressionTree → ExpressionTrees → ExpressionTree
    contained : Containment → ExpressionTree → ExpressionTree → ExpressionTree
    tested : ObjectTest → ExpressionTree → NameTree → ExpressionTree
    assign : ExpressionTree → Position → ExpressionTree → ExpressionTree

  pub data ExpressionTrees : Type 0 where
    none : ExpressionTrees
    more : ExpressionTree → ExpressionTrees → ExpressionTrees
