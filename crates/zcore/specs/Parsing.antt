-- The words of a line as bytes for a parse buffer (Z-Machine Standards Document 1.1, sections 13.6 and 15, `aread`).
use Rattle.std.specs.Prelude.{◌+◌, ◌/◌, ◌%◌, ℕ, List, [], ◌∷◌, length, take, slice_range}
use Rattle.std.specs.List.{flat_map}
use Rattle.zcore.specs.Header.{separator_count}
use Rattle.ztext.specs.Text.{key_of}
use Rattle.zcore.specs.Cutting.{Word, words_of}
use Rattle.zcore.specs.Dictionary.{number_of_key, entry_of}

-- the bytes that a dictionary names as separators (13.2)
abbrev pub separators_of : List ℕ → ℕ → List ℕ
separators_of memory dictionary =
    slice_range memory (dictionary + 1) (dictionary + 1 + separator_count memory dictionary)

-- the words of letters, at most so many
unfoldable pub first_words : List ℕ → ℕ → List ℕ → ℕ → List Word
first_words memory dictionary letters most = take most (words_of (separators_of memory dictionary) letters)

-- the address of a word's entry, or 0
unfoldable pub entry_for : List ℕ → ℕ → List ℕ → ℕ
entry_for memory dictionary word = entry_of memory dictionary (number_of_key (key_of word))

-- four bytes for a word: the address of its entry, its length, and its place in the text buffer
abbrev pub word_bytes : List ℕ → ℕ → Word → List ℕ
word_bytes memory dictionary w =
    (entry_for memory dictionary w.bytes / 256) ∷ (entry_for memory dictionary w.bytes % 256) ∷ length w.bytes ∷
    ((w.place + 2) % 256) ∷ []

-- the number of words, and then the words
abbrev pub parsed : List ℕ → ℕ → List Word → List ℕ
parsed memory dictionary words = length words ∷ flat_map (word_bytes memory dictionary) words
