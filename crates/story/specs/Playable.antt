-- What a story is to its source, without how it is laid out.
use Rattle.std.specs.Prelude.{◌≡◌, ℕ, List, [], None, Ok}
use Rattle.zcore.specs.declared.header.Version.{Version}
use Rattle.zcore.specs.declared.header.Header.{Header}
use Rattle.zcore.specs.Header.{IsOfVersion, Reads}
use Rattle.syntax.specs.Tree.{ProgramTree}
use Rattle.meaning.specs.Plays.{Plays}
use Rattle.checker.specs.Programs.{program_breaches, resolve_program}
use Rattle.story.specs.Refused.{IsTreeOf, Limits}

-- The source has a tree that breaks no rule and is not too large by some limits; and the story is of that version and is read, and on
-- any fuel and any lines it prints what the source means, and ends where that ends.
pub record IsPlayableBy (limits : Limits) (version : Version) (source story : List ℕ) : Type 0 where
  pub tree : ProgramTree
  pub is_tree : IsTreeOf source tree
  pub lawful : program_breaches tree ≡ []
  pub fits : limits version tree ≡ None
  pub of_version : IsOfVersion story version
  pub reads : (header : Header) × Reads story (Ok header)
  pub plays : (full : ℕ) (lines : List (List ℕ)) → Plays story (resolve_program tree) full lines
