-- Trees of what statements are made of, without where they lie in memory.
use Rattle.std.specs.Prelude.{Bool, ℕ, List, Option}
use Rattle.syntax_lexer.specs.declared.token.Position.{Position}
use Rattle.syntax_trees.specs.Tree.{NameTree, ExpressionTree}

pub data LiteralTree : Type 0 where
  number_value : ℕ → LiteralTree
  word_value : List ℕ → LiteralTree
  named_value : NameTree → LiteralTree

pub record RangeTree : Type 0 where
  pub low : LiteralTree
  pub high : Option LiteralTree

-- what stands in the parentheses of an `objectloop`: its variable alone, over all objects; its variable, and the object
-- whose children it goes over; its variable, and a condition that begins with it
pub data LoopTree : Type 0 where
  over_all : NameTree → LoopTree
  over_in : NameTree → ExpressionTree → LoopTree
  over_where : NameTree → ExpressionTree → LoopTree

-- an attribute, and whether it is given or taken
abbrev pub FlagTree : Type 0
FlagTree = Bool × NameTree

pub data PrintItemTree : Type 0 where
  text_item : List ℕ → PrintItemTree
  character_item : Position → ExpressionTree → PrintItemTree
  object_item : Position → ExpressionTree → PrintItemTree
  number_item : Position → ExpressionTree → PrintItemTree
