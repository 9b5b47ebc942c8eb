-- The texts of dictionary words: `x__address` prints what the dictionary holds of a word. Words are cases of a `switch`, in
-- routines of 128 words at most, so that none is too large (E32).
use Rattle.std.specs.Prelude.{◌+◌, ◌-◌, ◌/◌, ◌%◌, ◌==◌, ◌&&◌, ℕ, nat_le, nat_lt, Bool, true, false, List, [], ◌∷◌, ◌++◌}
use Rattle.std.specs.Prelude.{if◌then◌else◌, codes}
use Rattle.std.specs.List.{list_any}
use Rattle.syntax_lexer.specs.Spelling.{quoted}
use Rattle.syntax_lexer.specs.Token.{Lexeme, dictionary_word}
use Rattle.derive_tokens.specs.Spelled.{quoted_word}
use Rattle.derive_tokens.specs.Tokens.{numbered}
use Rattle.derive_tokens.specs.Names.{is_among, small, with_name}

-- ---- the words of a file

abbrev pub is_dictionary_word : Lexeme → Bool
is_dictionary_word (dictionary_word s p) = true
is_dictionary_word _ = false

abbrev pub word_in : Lexeme → List ℕ
word_in (dictionary_word s p) = s
word_in _ = []

-- in small letters, and each once
abbrev pub with_word_of : List (List ℕ) → Lexeme → List (List ℕ)
with_word_of words t = if is_dictionary_word t then with_name words (small (word_in t)) else words

abbrev pub words_from : List (List ℕ) → List Lexeme → List (List ℕ)
words_from words [] = words
words_from words (t ∷ ts) = words_from (with_word_of words t) ts

abbrev pub words_of : List Lexeme → List (List ℕ)
words_of ts = words_from [] ts

-- ---- what is printed of a word

-- digits, and the signs that are written with two codes of a key; `^` is an apostrophe in a word
abbrev pub marks : List ℕ
marks = codes "0123456789.,!?_#^\"/-:()"

abbrev pub is_mark : ℕ → Bool
is_mark b = list_any (λ m. m == b) marks

-- how many of the nine codes of its key a byte takes
abbrev pub code_count : ℕ → ℕ
code_count b = if nat_le 97 b && nat_le b 122 then 1 else if is_mark b then 2 else 4

-- a byte of a word in a text, where `~` is a double quote
abbrev pub text_byte : ℕ → ℕ
text_byte b = if b == 94 then 39 else if b == 34 then 126 else b

-- the text of the bytes that fit into so many codes
abbrev pub fitting : ℕ → List ℕ → List ℕ
fitting room [] = []
fitting room (b ∷ bs) =
    if nat_lt room (code_count b) then [] else text_byte b ∷ fitting (room - code_count b) bs

abbrev pub shown : List ℕ → List ℕ
shown word = fitting 9 word

-- ---- the routines

abbrev pub word_case : List ℕ → List ℕ
word_case word = quoted (quoted_word word) ++ codes ":print \"" ++ shown word ++ codes "\";"

abbrev pub most_words : ℕ
most_words = 128

-- the word at a place, counted from 0, is the first of a routine
abbrev pub is_first : ℕ → Bool
is_first k = k % most_words == 0

-- the routine of the word at a place
abbrev pub routine_at : ℕ → List ℕ
routine_at k = numbered (codes "x__address") (k / most_words + 1)

-- the end of the routine before the word at a place, if there is one
abbrev pub ended_before : ℕ → List ℕ
ended_before k = if k == 0 then [] else codes "default:rfalse;}rtrue;];"

abbrev pub routine_begun : ℕ → List ℕ
routine_begun k = codes "[ " ++ routine_at k ++ codes " x__v;switch(x__v){"

-- what is before the case of the word at a place
abbrev pub before_case : ℕ → List ℕ
before_case k = if is_first k then ended_before k ++ routine_begun k else []

abbrev pub cases_from : ℕ → List (List ℕ) → List ℕ
cases_from k [] = ended_before k
cases_from k (w ∷ ws) = (before_case k ++ word_case w) ++ cases_from (k + 1) ws

-- The routines are called one after another, until one has the word.
abbrev pub call_of : ℕ → List ℕ
call_of k = codes "if(" ++ routine_at k ++ codes "(x__v))rtrue;"

abbrev pub call_at : ℕ → List ℕ
call_at k = if is_first k then call_of k else []

abbrev pub calls_from : ℕ → List (List ℕ) → List ℕ
calls_from k [] = []
calls_from k (w ∷ ws) = call_at k ++ calls_from (k + 1) ws

-- the routine that calls them; a value that is no word is refused
abbrev pub top_text : List (List ℕ) → List ℕ
top_text words =
    codes "[ x__address x__v;" ++ calls_from 0 words ++ codes "print \"^[Fault: not a word]^\";quit;];"

abbrev pub address_text : List (List ℕ) → List ℕ
address_text words = cases_from 0 words ++ top_text words

-- what is made for a file with these names and words
abbrev pub words_made : List (List ℕ) → List (List ℕ) → List ℕ
words_made names words = if is_among names (codes "x__address") then address_text words else []
