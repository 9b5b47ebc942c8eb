-- The two lines with which the map of a story begins.
use Rattle.std.specs.Prelude.{◌+◌, ◌*◌, ◌/◌, ◌%◌, ◌^◌, ℕ, List, [], ◌∷◌, ◌++◌, codes, slice_index}
use Rattle.std.specs.Int.Bits.{bit_xor}
use Rattle.map_text.specs.Reading.{first_line}
use Rattle.map_text.specs.Text.{digit, line_feed, space}

-- the word at an address, its high byte first; bytes past the end are 0
abbrev pub word_in : List ℕ → ℕ → ℕ
word_in story at = slice_index story at * 256 + slice_index story (at + 1)

-- the word of the header that holds the sum of a story's bytes (11.1)
abbrev pub sum_place : ℕ
sum_place = 28

-- The hash of bytes, FNV-1a of 64 bits, which goes on from a number: each byte is joined to it by exclusive or, and the
-- whole is multiplied by a prime, 2 ^ 40 + 435.
abbrev pub hash_from : ℕ → List ℕ → ℕ
hash_from hash [] = hash
hash_from hash (b ∷ bs) = hash_from (bit_xor hash b * 1099511628211 % 2 ^ 64) bs

abbrev pub hash_of : List ℕ → ℕ
hash_of bytes = hash_from 14695981039346656037 bytes

-- the four hexadecimal digits of a word
abbrev pub word_text : ℕ → List ℕ
word_text w = digit (w / 4096 % 16) ∷ digit (w / 256 % 16) ∷ digit (w / 16 % 16) ∷ digit (w % 16) ∷ []

-- the sixteen of a hash
abbrev pub hash_text : ℕ → List ℕ
hash_text h =
    word_text (h / 2 ^ 48 % 65536) ++ word_text (h / 2 ^ 32 % 65536) ++ word_text (h / 65536 % 65536)
    ++ word_text (h % 65536)

-- what every map begins with, and of which story it is: the sum in its header and the hash of all its bytes
abbrev pub heading_of : List ℕ → List ℕ
heading_of story =
    first_line ++ codes "story " ++ word_text (word_in story sum_place) ++ space ∷ hash_text (hash_of story)
    ++ line_feed ∷ []
