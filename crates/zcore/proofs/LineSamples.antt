-- A line that is given to a machine, computed.
use Rattle.std.proofs.Common.{◌≡◌, List, [], ◌∷◌, ◌++◌, take, drop, refl, true, false}
use Rattle.std.specs.Prelude.{ℕ, codes, replicate}
use Rattle.ztext.specs.Alphabets.{spelling_of}
use Rattle.ztext.specs.Words.{packed}
use Rattle.ztext.specs.Text.{key_of}
use Rattle.zcore.specs.Header.{key_at}
use Rattle.zcore.specs.Cutting.{words_of}
use Rattle.zcore.specs.Dictionary.{number_of_key, entry_of}
use Rattle.zcore.specs.Parsing.{first_words, entry_for}
use Rattle.zcore.specs.Parts.{is_parse_buffer}
use Rattle.zcore.specs.Turn.{letters_for, with_line}

-- Static memory begins at 100, with a dictionary of the word `take` alone; a text buffer for 7 letters stands at 64,
-- and a parse buffer for a number of words at 80.
abbrev memory_for : ℕ → List ℕ
memory_for most =
    replicate 9 0 ++ (100 ∷ []) ++ replicate 5 0 ++ (100 ∷ []) ++ replicate 48 0 ++ (7 ∷ []) ++ replicate 15 0
    ++ (most ∷ []) ++ replicate 19 9 ++ (3 ∷ codes ".,\"") ++ (6 ∷ 0 ∷ 1 ∷ [])
    ++ (0x64 ∷ 0xD0 ∷ 0x28 ∷ 0xA5 ∷ 0x94 ∷ 0xA5 ∷ [])

-- the memory after a line
abbrev after_line : ℕ → List ℕ → List ℕ
after_line most line = with_line (memory_for most) 64 80 (letters_for (memory_for most) 64 line)

-- the letters that there is room for go to the text buffer
letters_written : take 10 (drop 64 (after_line 3 (codes "Take,itnow")))
    ≡ (7 ∷ 7 ∷ codes "take,it") ++ 0 ∷ []
unfolding first_words entry_for words_of entry_of number_of_key key_of key_at packed spelling_of
letters_written = refl

-- and their words to the parse buffer: for each its entry, its length, and its place in the text buffer
words_written : take 15 (drop 80 (after_line 3 (codes "Take,itnow")))
    ≡ 3 ∷ 3 ∷ 0 ∷ 107 ∷ 4 ∷ 2 ∷ 0 ∷ 0 ∷ 1 ∷ 6 ∷ 0 ∷ 0 ∷ 2 ∷ 7 ∷ 9 ∷ []
unfolding first_words entry_for words_of entry_of number_of_key key_of key_at packed spelling_of
words_written = refl

-- as many as there is room for
first_word_written : take 7 (drop 80 (after_line 1 (codes "take it")))
    ≡ 1 ∷ 1 ∷ 0 ∷ 107 ∷ 4 ∷ 2 ∷ 9 ∷ []
unfolding first_words entry_for words_of entry_of number_of_key key_of key_at packed spelling_of
first_word_written = refl

-- a parse buffer for four words ends at 98, one for five would end behind dynamic memory, and one for none is none
four_words_fit : is_parse_buffer (memory_for 4) 80 ≡ true
four_words_fit = refl

five_words_do_not : is_parse_buffer (memory_for 5) 80 ≡ false
five_words_do_not = refl

room_for_none : is_parse_buffer (memory_for 0) 80 ≡ false
room_for_none = refl
