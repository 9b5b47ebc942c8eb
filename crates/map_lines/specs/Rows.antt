-- The rows of a map: which routines they are of, and where their code is.
use Rattle.std.specs.Prelude.{◌≡◌, ◌≤◌, ◌+◌, ◌-◌, ◌%◌, ◌^◌, ℕ, min, List, [], ◌∷◌, ◌++◌, length, map, Ok}
use Rattle.std.specs.List.{All}
use Rattle.syntax_lexer.specs.declared.token.Token.{Token}
use Rattle.syntax_lexer.specs.Token.{lexemes}
use Rattle.syntax_lexer.specs.Tokens.{Lexes}
use Rattle.syntax_lexer.specs.Results.{source_tokens}
use Rattle.syntax_trees.specs.Tree.{NameTree}
use Rattle.syntax.specs.Tree.{ProgramTree}
use Rattle.syntax.specs.Grammar.{IsProgram}
use Rattle.zcore.specs.declared.header.Version.{Version}
use Rattle.zcore.specs.Header.{high_memory_of, scale_of}
use Rattle.meaning.specs.Resolved.{ProgramOf}
use Rattle.meaning.specs.Meaning.{routine_at}
use Rattle.meaning.specs.Places.{start_size}
use Rattle.checker.specs.Programs.{resolve_program, routine_trees}
use Rattle.checker.specs.Checked.{title}
use Rattle.code_items.specs.Statements.{routine_items}
use Rattle.code_drafts.specs.Layout.{first}
use Rattle.code_instructions.specs.Places.{place_in}
use Rattle.code.specs.Bytes.{lefts_of}
use Rattle.code.specs.HeldProgram.{sizes_of}
use Rattle.map_text.specs.declared.row.Row.{Row}
use Rattle.map_text.specs.Heading.{heading_of}
use Rattle.map_text.specs.Text.{Ascend, RowOf, row_of, rows_text}

-- a routine's name and weight
abbrev pub Title : Type 0
Title = NameTree × ℕ

-- the address of a row so many bytes after a place; it has 32 bits
abbrev pub address_at : ℕ → ℕ → ℕ
address_at place after = min (place + after) (2 ^ 32 - 1)

-- the first address at or after another to which a packed address leads
abbrev pub aligned : Version → ℕ → ℕ
aligned version at = at + (scale_of version - 1) - (at + (scale_of version - 1)) % scale_of version

-- how many bytes there are from each item of the routine of a number on to the end of its code
abbrev pub lefts_at : ProgramOf → ℕ → List ℕ
lefts_at p number = lefts_of (sizes_of p) (routine_items (routine_at p.routines number))

-- where it ends if it begins at an address: after a byte for the number of its locals, and its code
abbrev pub end_of : ProgramOf → ℕ → ℕ → ℕ
end_of p number at = at + (1 + first (lefts_at p number))

-- the first row of a routine has its name, the line of that, and the routine's address
abbrev pub IsFirstOf : Title → ℕ → RowOf → Type 0
IsFirstOf t at row = (row.routine ≡ t.0.text) × (row.line ≡ t.0.position.line) × (row.address ≡ address_at at 0)

-- another row has the routine's name, and the address of an item of its code, or of the end of that
abbrev pub IsOtherOf : List ℕ → List ℕ → ℕ → RowOf → Type 0
IsOtherOf name lefts at row =
    (row.routine ≡ name) × ((item : ℕ) × (row.address ≡ address_at at (place_in lefts item + 1)))

-- The rows of routines with these titles, in order, of which the first has this number and is at the first packed
-- address from one on: of each its first row, and others.
abbrev pub AreOf : Version → ProgramOf → ℕ → ℕ → List Title → List RowOf → Type 0
AreOf version p at number [] rows = rows ≡ []
AreOf version p at number (t ∷ ts) rows =
    (row : RowOf) × (others : List RowOf) × (rest : List RowOf) × (rows ≡ row ∷ others ++ rest)
    × IsFirstOf t (aligned version at) row × All (IsOtherOf t.0.text (lefts_at p number) (aligned version at)) others
    × AreOf version p (end_of p number (aligned version at)) (number + 1) ts rest

-- The map of a story, which is that of a program whose routines have these titles: the heading, and the rows, whose
-- addresses ascend.
abbrev pub IsMapOf : Version → ProgramOf → List ℕ → List Title → List ℕ → Type 0
IsMapOf version p story ts text =
    (rows : List RowOf) × (text ≡ heading_of story ++ rows_text rows)
    × AreOf version p (high_memory_of story + start_size) 0 ts rows × Ascend 0 rows

-- Words of proofs

-- rows whose addresses ascend, from one up to another
abbrev pub Rise : ℕ → List RowOf → ℕ → Type 0
Rise least [] most = least ≤ most
Rise least (r ∷ rs) most = (least ≤ r.address) × Rise r.address rs most

-- rows to which those of so many marks of a routine are added
abbrev pub AddsMarks : List ℕ → List ℕ → ℕ → List Row → List Row → ℕ → ℕ → Type 0
AddsMarks name lefts place old new count most =
    (more : List Row) × (new ≡ old ++ more) × (length more ≡ count) × Rise (address_at place 0) (map row_of more) most
    × All (IsOtherOf name lefts place) (map row_of more)

-- rows to which those of a routine are added that is at a place, and ends before another
abbrev pub AddsRoutine : Title → List ℕ → ℕ → List RowOf → List RowOf → ℕ → Type 0
AddsRoutine t lefts place old new end =
    (row : RowOf) × (others : List RowOf) × (new ≡ old ++ row ∷ others) × IsFirstOf t place row
    × All (IsOtherOf t.0.text lefts place) others × Rise (address_at place 0) (row ∷ others) (address_at end 0)
    × (address_at end 0 ≡ address_at place (1 + first lefts))

-- the map of the story of a source in a version: that of its program
pub record IsMapOfSource (source : List ℕ) (version : Version) (story text : List ℕ) : Type 0 where
  pub tokens : List Token
  pub lexed : Lexes 0 1 source (Ok (source_tokens tokens))
  pub tree : ProgramTree
  pub parsed : IsProgram (lexemes tokens) tree
  pub is : IsMapOf version (resolve_program tree) story (map title (routine_trees tree.directives)) text
