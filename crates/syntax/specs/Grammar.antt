-- The grammar of programs: a relation between the tokens from a place on, the tree, and the tokens after it, with one
-- case for each alternative.
use Rattle.std.specs.Prelude.{◌<◌, ℕ, max, List, [], ◌∷◌, ◌++◌, length}
use Rattle.syntax_lexer.specs.declared.token.Position.{Position}
use Rattle.syntax_lexer.specs.declared.token.Sign.TheVariants as s
use Rattle.syntax_lexer.specs.declared.token.Word.TheVariants as w
use Rattle.syntax_lexer.specs.Token.{Lexeme, dictionary_word, reserved, sign, end}
use Rattle.syntax_directives.specs.Tree.{TextTree, DirectiveTree}
use Rattle.syntax_directives.specs.Grammar.{weight_of, IsDirective, IsTexts, directive_nesting}
use Rattle.syntax.specs.Tree.{EntryTree, entry, abbreviate, directives_of, abbreviations_of, ProgramTree}

-- The dictionary words among tokens, in order

abbrev pub word_in : Lexeme → List (List ℕ)
word_in (dictionary_word s p) = s ∷ []
word_in _ = []

abbrev pub dictionary_words : List Lexeme → List (List ℕ)
dictionary_words [] = []
dictionary_words (t ∷ ts) = word_in t ++ dictionary_words ts

-- Entry = Directive | "abbreviate" text+ ";"
pub data IsEntry : List Lexeme → EntryTree → List Lexeme → Type 0 where
  e_directive : {ts r : List Lexeme} {d : DirectiveTree} → IsDirective ts d r → IsEntry ts (entry d) r
  e_abbreviate : {m r : List Lexeme} {p o : Position} {xs : List TextTree}
      → IsTexts m xs (sign s.Semicolon o ∷ r) → 0 < length xs
      → IsEntry (reserved w.Abbreviate p ∷ m) (abbreviate xs) r

-- {Entry}
pub data IsEntries : List Lexeme → List EntryTree → List Lexeme → Type 0 where
  entries_stop : {r : List Lexeme} → IsEntries r [] r
  entries_next : {ts m r : List Lexeme} {e : EntryTree} {es : List EntryTree} → IsEntry ts e m
      → IsEntries m es r → IsEntries ts (e ∷ es) r

-- Program = {Entry}, up to the end
pub data IsProgram : List Lexeme → ProgramTree → Type 0 where
  program : {ts : List Lexeme} {p : Position} {es : List EntryTree} → IsEntries ts es (end p ∷ [])
      → IsProgram ts (record {
        directives = directives_of es;
        abbreviations = abbreviations_of es;
        end = p;
        weight = weight_of ts;
        words = dictionary_words ts;
      })

-- How deep a program is nested

abbrev pub directives_nesting : List DirectiveTree → ℕ
directives_nesting [] = 0
directives_nesting (d ∷ ds) = max (directive_nesting d) (directives_nesting ds)

abbrev pub program_nesting : ProgramTree → ℕ
program_nesting p = directives_nesting p.directives
