-- The extension of the header (Z-Machine Standards Document 1.1, section 11.1.7).
use Rattle.std.specs.Prelude.{◌&&◌, ◌+◌, ◌*◌, ℕ, nat_le, min, Bool, if◌then◌else◌, List, length, slice_index, slice_set}
use Rattle.ztext.specs.Bytes.{word_at}
use Rattle.zcore.specs.Header.{static_base_of}
use Rattle.zcore.specs.Layout.{header_size}

-- the number of a story's version (11.1)
abbrev pub number_of : List ℕ → ℕ
number_of story = slice_index story 0

-- a word of the header from version 5 on, and 0 before
abbrev pub late_word : List ℕ → ℕ → ℕ
late_word story at = if nat_le 5 (number_of story) then word_at story at else 0

-- the extension of the header, or 0
abbrev pub extension_of : List ℕ → ℕ
extension_of story = late_word story 0x36

abbrev pub extension_place : List ℕ → ℕ → ℕ
extension_place story number = extension_of story + 2 * number

-- The extension has a word of a number, and this lies in dynamic memory after the header. Word 0 tells how many follow.
abbrev pub has_dynamic_word : List ℕ → ℕ → Bool
has_dynamic_word story number =
    nat_le header_size (extension_of story)
    && nat_le (extension_place story number + 2) (min (length story) (static_base_of story))
    && nat_le number (word_at story (extension_of story))

-- memory with the two bytes at an address as they are in a story
abbrev pub with_bytes_of : List ℕ → ℕ → List ℕ → List ℕ
with_bytes_of story at memory = slice_set (slice_set memory at (slice_index story at)) (at + 1) (slice_index story (at + 1))

-- with a word of the extension, if it has that
abbrev pub with_word_of : List ℕ → ℕ → List ℕ → List ℕ
with_word_of story number memory =
    if has_dynamic_word story number then with_bytes_of story (extension_place story number) memory else memory

-- with those that the player sets: Flags 3, the default foreground and the default background (11.1.7.3)
abbrev pub with_words_of : List ℕ → List ℕ → List ℕ
with_words_of story memory = with_word_of story 6 (with_word_of story 5 (with_word_of story 4 memory))
