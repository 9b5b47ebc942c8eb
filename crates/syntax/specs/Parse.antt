-- Words of proofs: programs, read from left to right: functions from a list of tokens to a tree and the tokens after
-- it.
use Rattle.std.specs.Prelude.{if◌then◌else◌, Bool, true, false, ℕ, List, [], ◌∷◌, ◌++◌, length, map, Option, Some, None}
use Rattle.std.specs.Prelude.{Result, Ok, Err}
use Rattle.syntax_lexer.specs.declared.token.Position.{Position}
use Rattle.syntax_lexer.specs.declared.token.Word.TheVariants as w
use Rattle.syntax_lexer.specs.Token.{Lexeme, end}
use Rattle.syntax_trees.specs.Stop.{Stop, unfit}
use Rattle.syntax_trees.specs.Parse.{Parse, ◌>>=◌, head, tail, is_word, repeated}
use Rattle.syntax_directives.specs.Tree.{TextTree, DirectiveTree}
use Rattle.syntax_directives.specs.Views.{directive_tree, text_tree}
use Rattle.syntax_directives.specs.Grammar.{weight_of}
use Rattle.syntax_directives.specs.Parse.{abbreviate_after, directive}
use Rattle.syntax.specs.declared.entries.FileEntries.{FileEntries}
use Rattle.syntax.specs.Tree.{EntryTree, entry, abbreviate, directives_of, abbreviations_of, ProgramTree}
use Rattle.syntax.specs.Grammar.{dictionary_words}

-- the source goes on
abbrev pub goes_on : Lexeme → Bool
goes_on (end _) = false
goes_on _ = true

-- where the end stands, if it alone is left
abbrev pub end_alone : List Lexeme → Option Position
end_alone (end p ∷ []) = Some p
end_alone _ = None

-- the directives and the abbreviations of a file
abbrev pub Parts : Type 0
Parts = List DirectiveTree × List TextTree

abbrev pub parts_of : List EntryTree → Parts
parts_of es = (directives_of es, abbreviations_of es)

-- those that the code found
abbrev pub parts_in : FileEntries → Parts
parts_in found = (map directive_tree found.directives.items, map text_tree found.abbreviations.items)

-- with the texts of an `abbreviate`, from its word on
unfoldable pub texts_more : Parts → Parse Parts
texts_more x ts = abbreviate_after (tail ts) >>= λ new. Ok ((x.0, x.1 ++ new.0), new.1)

-- a program of these parts and all of these tokens, of which those were left after the parts
abbrev pub whole : List Lexeme → Parts → List Lexeme → Option Position → Result ProgramTree Stop
whole ts x left (Some p) = Ok
    (record {
      directives = x.0;
      abbreviations = x.1;
      end = p;
      weight = weight_of ts;
      words = dictionary_words ts;
    })
whole ts x left None = Err (unfit (length left))

-- where d nestings may be opened in a statement
module _ (d : ℕ) where
  -- a directive, or the texts of an `abbreviate`
  unfoldable pub one_entry : Parse EntryTree
  one_entry ts =
      if is_word w.Abbreviate (head ts) then (abbreviate_after (tail ts) >>= λ xs. Ok (abbreviate xs.0, xs.1))
      else (directive d ts >>= λ x. Ok (entry x.0, x.1))

  -- what was read before, with a directive after it; and with an entry of either kind

  unfoldable pub directive_more : Parts → Parse Parts
  directive_more x ts = directive d ts >>= λ new. Ok ((x.0 ++ new.0 ∷ [], x.1), new.1)

  unfoldable pub one_more : Parts → Parse Parts
  one_more x ts = if is_word w.Abbreviate (head ts) then texts_more x ts else directive_more x ts

  unfoldable pub all_entries : Parse (List EntryTree)
  all_entries ts = repeated goes_on one_entry (length ts) ts

  unfoldable pub entries : Parse Parts
  entries ts = all_entries ts >>= λ es. Ok (parts_of es.0, es.1)

  unfoldable pub program : List Lexeme → Result ProgramTree Stop
  program ts = entries ts >>= λ x. whole ts x.0 x.1 (end_alone x.1)
