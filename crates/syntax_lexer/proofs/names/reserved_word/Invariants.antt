use Rattle.std.proofs.Common.{◌≡◌, ◌<◌, ℕ, false, get_or}
use Rattle.std.specs.Str.{str_eq_ignore_ascii_case}
use Rattle.syntax_lexer.specs.declared.token.Word.{Word}
use Rattle.syntax_lexer.specs.Spelling.{word_spelling}
use Rattle.syntax_lexer.proofs.names.reserved_word.Given as goal

abbrev pub invariant-loop-word : goal.invariant-loop-word
invariant-loop-word l = (k : ℕ) (d : Word) → k < l.word-index
    → str_eq_ignore_ascii_case l.text (word_spelling (get_or l.word-items k d)) ≡ false
