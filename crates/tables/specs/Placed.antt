-- What the words of the code stand for.
use Rattle.std.specs.Prelude.{ℕ, List, [], drop, slice_range}
use Rattle.tables.specs.declared.words.Word.{Word}
use Rattle.tables.specs.declared.words.Words.{Words}
use Rattle.zcore.specs.Cutting.{words_from}
use Rattle.zcore.specs.Cutting as cutting

abbrev pub word_of : Word → cutting.Word
word_of w = record { place = w.place; bytes = w.bytes.now }

-- the words of a line from a place on, where none has begun
abbrev pub words_at : List ℕ → List ℕ → ℕ → List cutting.Word
words_at separators line place = words_from separators place [] (drop place line)

-- the word that stands in a line from a place to another
abbrev pub word_between : List ℕ → ℕ → ℕ → cutting.Word
word_between line start end = record { place = start; bytes = slice_range line start end }

-- the words that are still to come
abbrev pub words_left : Words → List cutting.Word
words_left w = words_at w.separators.now w.line.now w.place
