-- Trees of programs, without where they lie in memory.
use Rattle.std.specs.Prelude.{ℕ, List, [], ◌∷◌, ◌++◌}
use Rattle.syntax_lexer.specs.declared.token.Position.{Position}
use Rattle.syntax_directives.specs.Tree.{DirectiveTree, TextTree}

-- what stands in a file: a directive, or the texts of an `abbreviate`
pub data EntryTree : Type 0 where
  entry : DirectiveTree → EntryTree
  abbreviate : List TextTree → EntryTree

-- the directives among what stands in a file, in order
abbrev pub directives_of : List EntryTree → List DirectiveTree
directives_of [] = []
directives_of (entry d ∷ es) = d ∷ directives_of es
directives_of (abbreviate xs ∷ es) = directives_of es

-- its abbreviations, in order
abbrev pub abbreviations_of : List EntryTree → List TextTree
abbreviations_of [] = []
abbreviations_of (entry d ∷ es) = abbreviations_of es
abbreviations_of (abbreviate xs ∷ es) = xs ++ abbreviations_of es

pub record ProgramTree : Type 0 where
  pub directives : List DirectiveTree
  pub abbreviations : List TextTree
  pub end : Position
  pub weight : ℕ
  -- its dictionary words, in order
  pub words : List (List ℕ)
