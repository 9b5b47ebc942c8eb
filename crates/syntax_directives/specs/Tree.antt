-- Trees of directives, without where they lie in memory.
use Rattle.std.specs.Prelude.{ℕ, List, Option}
use Rattle.syntax_lexer.specs.declared.token.Position.{Position}
use Rattle.syntax_trees.specs.Tree.{NameTree}
use Rattle.syntax_statements.specs.PartTree.{LiteralTree}
use Rattle.syntax_statements.specs.Tree.{StatementTrees}
use Rattle.syntax_directives.specs.declared.tree.ArrayKind.{ArrayKind}

-- a value of an array or of a property, and the position of its first token
pub record ValueTree : Type 0 where
  pub position : Position
  pub value : LiteralTree

pub record ArrayTree : Type 0 where
  pub name : NameTree
  pub kind : ArrayKind
  pub values : List ValueTree

-- the bytes between the quotes, and the position
pub record TextTree : Type 0 where
  pub bytes : List ℕ
  pub position : Position

pub record PropertyTree : Type 0 where
  pub name : NameTree
  pub values : List ValueTree

-- what an object begins with
pub record HeadTree : Type 0 where
  -- where each arrow stands
  pub arrows : List Position
  pub name : NameTree
  pub short : Option TextTree
  pub parent : Option NameTree

pub record ObjectTree : Type 0 where
  -- where each arrow stands
  pub arrows : List Position
  pub name : NameTree
  pub short : Option TextTree
  pub parent : Option NameTree
  pub properties : List PropertyTree
  pub attributes : List NameTree

pub record RoutineTree : Type 0 where
  pub name : NameTree
  pub locals : List NameTree
  pub body : StatementTrees
  pub weight : ℕ

pub data DirectiveTree : Type 0 where
  global : NameTree → Option LiteralTree → DirectiveTree
  constant : NameTree → LiteralTree → DirectiveTree
  array : ArrayTree → DirectiveTree
  attribute : NameTree → DirectiveTree
  -- and its default
  property : NameTree → Option LiteralTree → DirectiveTree
  object : ObjectTree → DirectiveTree
  routine : RoutineTree → DirectiveTree
