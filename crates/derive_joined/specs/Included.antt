-- A source of several files: each stands in the place of the Include directive that asks for it.
use Rattle.std.specs.Prelude.{◌≡◌, ℕ, List, [], ◌∷◌, ◌++◌, length, Ok, Option, Some, None}
use Rattle.syntax_lexer.specs.Tokens.{Lexes, SourceToken}
use Rattle.derive_joined.specs.declared.part.Part.{Part}
use Rattle.derive_joined.specs.declared.part.Part.TheVariants as p
use Rattle.derive_joined.specs.declared.part.Run.{Run}
use Rattle.derive_joined.specs.Parts.{parts_of}
use Rattle.derive_joined.specs.Texts.{text_of}

-- the parts of the file of a number, whose texts are joined, by its tokens
pub record HasParts (file : ℕ) (text : List ℕ) (parts : List Part) : Type 0 where
  pub tokens : List SourceToken
  pub lexes : Lexes 0 1 text (Ok tokens)
  pub reads : parts ≡ parts_of file (length text) tokens

-- the text that names the file for which the first Include directive asks
abbrev pub first_asked : List Part → Option Run
first_asked [] = None
first_asked (p.Asked named ∷ parts) = Some named
first_asked (p.Bytes run ∷ parts) = first_asked parts

-- the parts of a source, with those of a file in the place of the first Include directive
abbrev pub included : List Part → List Part → List Part
included file [] = []
included file (p.Asked named ∷ parts) = file ++ parts
included file (p.Bytes run ∷ parts) = p.Bytes run ∷ included file parts

-- The files of a source, in the order in which they are asked for, and its parts: at first those of the main file; then
-- each further file takes the place of the directive that comes first.
pub data Gathers : List (List ℕ) → List Part → Type 0 where
  main : {text : List ℕ} {parts : List Part} → HasParts 0 text parts → Gathers (text ∷ []) parts
  next : {files : List (List ℕ)} {text : List ℕ} {parts more : List Part} → Gathers files parts
      → HasParts (length files) text more → Gathers (files ++ text ∷ []) (included more parts)

-- all files are there, and this is the text of the source
pub record Includes (files : List (List ℕ)) (source : List ℕ) : Type 0 where
  pub parts : List Part
  pub gathers : Gathers files parts
  pub asks_no_more : first_asked parts ≡ None
  pub reads : source ≡ text_of files parts
