-- Loading, computed.
use Rattle.std.proofs.Common.{◌≡◌, ℕ, Bool, List, [], ◌∷◌, ◌++◌, length, replicate, true, false, refl, Some, None}
use Rattle.std.specs.Prelude.{slice_range}
use Rattle.zcore_standard_loading.specs.Loading.{story_length, story_in, with_header, is_sum_right, characters_of}
use Rattle.zcore_standard_loading.specs.Loading.{own_alphabets_of, is_played, defaults_size_in, screen}
use Rattle.zcore_versions.specs.ReadVersions.{version_in}
use Rattle.zcore_standard_loading.specs.Loading.{abbreviation_table_of, abbreviations_size, flags_1}
use Rattle.zcore_standard_loading.specs.Capabilities.{plain}
use Rattle.zcore_standard_loading.specs.declared.options.Capabilities.{Capabilities}
use Rattle.zcore_standard.specs.Texts.{default_alphabets}
use Rattle.zcore_standard.specs.Unicode.{default_characters}

-- a story of version 5: static base 74, stated length 4 * 21 bytes, the sum of 20 bytes of 9, an extension at an address
abbrev story : ℕ → List ℕ → List ℕ
story extension bytes =
    (5 ∷ 3 ∷ []) ++ replicate 13 0 ++ (74 ∷ []) ++ (255 ∷ 255 ∷ []) ++ replicate 8 7
    ++ (0 ∷ 21 ∷ 0 ∷ 180 ∷ []) ++ replicate 24 7 ++ (0 ∷ extension ∷ []) ++ replicate 8 7 ++ bytes

abbrev bytes : List ℕ
bytes = replicate 20 9

length_is : length (story 0 bytes) ≡ 84
length_is = refl

stated : story_length (story 0 bytes ++ replicate 100 1) ≡ 84
stated = refl

-- what follows the story in its file is dropped
cut : story_in (story 0 bytes ++ replicate 100 1) ≡ story 0 bytes
cut = refl

-- a stated length of 0 is all of the file
unstated : story_length (5 ∷ replicate 99 0) ≡ 100
unstated = refl

-- version 8 counts by eight bytes
of_version_8 : story_length ((8 ∷ []) ++ replicate 26 0 ++ (20 ∷ []) ++ replicate 172 0) ≡ 160
of_version_8 = refl

sum_right : is_sum_right (story 0 bytes) ≡ true
sum_right = refl

sum_wrong : is_sum_right (story 0 (replicate 20 8)) ≡ false
sum_wrong = refl

-- the header's bytes: Flags 1 keep their bit 1, Flags 2 their bits 0 to 2, 4 and 9 to 15
header : with_header plain (story 0 bytes)
    ≡ (5 ∷ 18 ∷ []) ++ replicate 13 0 ++ (74 ∷ []) ++ (254 ∷ 23 ∷ []) ++ replicate 8 7 ++ (0 ∷ 21 ∷ 0 ∷ 180 ∷ [])
    ++ (1 ∷ 70 ∷ 255 ∷ 80 ∷ 0 ∷ 80 ∷ 0 ∷ 255 ∷ 1 ∷ 1 ∷ []) ++ replicate 4 7 ++ (2 ∷ 9 ∷ []) ++ replicate 4 7
    ++ (1 ∷ 1 ∷ 7 ∷ 7 ∷ 0 ∷ 0 ∷ []) ++ replicate 8 7 ++ bytes
unfolding with_header
header = refl

-- an extension of so many words at 64, of which the fourth lies in dynamic memory, and a Unicode table at 78
abbrev extended : ℕ → ℕ → ℕ → List ℕ
extended count high low =
    (0 ∷ count ∷ 1 ∷ 1 ∷ 2 ∷ 2 ∷ 0 ∷ 78 ∷ high ∷ low ∷ 9 ∷ 9 ∷ 9 ∷ 9 ∷ 2 ∷ 0x20 ∷ 0xAC ∷ 0 ∷ 0xE4 ∷ 9 ∷ [])

-- word 4 is set to 0; words 5 and 6 lie in static memory
word_4 : slice_range (with_header plain (story 64 (extended 6 8 8))) 64 84 ≡ extended 6 0 0
unfolding with_header
word_4 = refl

-- an extension of three words has no word 4
no_word_4 : slice_range (with_header plain (story 64 (extended 3 8 8))) 64 84 ≡ extended 3 8 8
unfolding with_header
no_word_4 = refl

own_characters : characters_of (story 64 (extended 3 8 8)) ≡ 0x20AC ∷ 0xE4 ∷ []
own_characters = refl

-- an extension of two words names no table
no_table : characters_of (story 64 (extended 2 8 8)) ≡ default_characters
no_table = refl

no_extension : characters_of (story 0 bytes) ≡ default_characters
no_extension = refl

-- the word at $34 is the address of the alphabets
abbrev with_alphabets : ℕ → List ℕ
with_alphabets number =
    (number ∷ []) ++ replicate 51 0 ++ (0 ∷ 65 ∷ []) ++ replicate 11 0 ++ default_alphabets ++ (9 ∷ [])

own_alphabets : own_alphabets_of (with_alphabets 5) ≡ Some default_alphabets
own_alphabets = refl

-- before version 5 it is not
unread_alphabets : own_alphabets_of (with_alphabets 4) ≡ None
unread_alphabets = refl

no_alphabets : own_alphabets_of (replicate 200 0) ≡ None
no_alphabets = refl

-- Other versions

played : is_played 0 ∷ is_played 1 ∷ is_played 5 ∷ is_played 6 ∷ is_played 7 ∷ is_played 8 ∷ is_played 9 ∷ []
    ≡ false ∷ true ∷ true ∷ false ∷ true ∷ true ∷ false ∷ []
played = refl

-- a file of a version that states a length of 20
abbrev stating : ℕ → List ℕ
stating number = (number ∷ []) ++ replicate 26 0 ++ (20 ∷ []) ++ replicate 172 0

lengths : story_length (stating 3) ∷ story_length (stating 4) ∷ story_length (stating 7) ∷ [] ≡ 40 ∷ 80 ∷ 160 ∷ []
lengths = refl

-- a header of a version, all bits of its flags set and 7 in each other byte
abbrev set : ℕ → List ℕ
set number = (number ∷ 255 ∷ []) ++ replicate 14 7 ++ (255 ∷ 255 ∷ []) ++ replicate 46 7

-- In versions 1 and 2 bits 4 to 6 of Flags 1 are cleared, in version 3 the fifth is set.
header_1 : with_header plain (set 1) ≡ (1 ∷ 143 ∷ []) ++ replicate 14 7 ++ (254 ∷ 7 ∷ []) ++ replicate 32 7 ++ (1 ∷ 1 ∷ []) ++ replicate 12 7
unfolding with_header
header_1 = refl

header_3 : with_header plain (set 3) ≡ (3 ∷ 175 ∷ []) ++ replicate 14 7 ++ (254 ∷ 7 ∷ []) ++ replicate 32 7 ++ (1 ∷ 1 ∷ []) ++ replicate 12 7
unfolding with_header
header_3 = refl

-- Version 4 is told of the interpreter and of the screen in characters.
header_4 : with_header plain (set 4) ≡ (4 ∷ 18 ∷ []) ++ replicate 14 7 ++ (254 ∷ 7 ∷ []) ++ replicate 12 7
    ++ (1 ∷ 70 ∷ 255 ∷ 80 ∷ []) ++ replicate 16 7 ++ (1 ∷ 1 ∷ []) ++ replicate 12 7
unfolding with_header
header_4 = refl

-- A player that shows text styles sets bits 2 and 3 of Flags 1, from version 4 on.
abbrev flags_told : Bool → List ℕ
flags_told styles =
    flags_1 styles 3 0 ∷ flags_1 styles 4 0 ∷ flags_1 styles 5 2 ∷ flags_1 styles 8 0xFD ∷ flags_1 styles 8 0xFF ∷ []

without_styles : flags_told false ≡ 0x20 ∷ 0x10 ∷ 0x12 ∷ 0x10 ∷ 0x12 ∷ []
without_styles = refl

with_styles : flags_told true ≡ 0x20 ∷ 0x1C ∷ 0x1E ∷ 0x1C ∷ 0x1E ∷ []
with_styles = refl

-- A screen's size is told from version 4 on in characters, and from version 5 on in units, too.
abbrev showing : ℕ → ℕ → Capabilities
showing columns rows = record { has_styles = true; columns = columns; rows = rows }

abbrev screen_told : Capabilities → List (List ℕ)
screen_told shown = screen shown 3 ∷ screen shown 4 ∷ screen shown 5 ∷ []

without_screen : screen_told plain
    ≡ [] ∷ (1 ∷ 70 ∷ 255 ∷ 80 ∷ []) ∷ (1 ∷ 70 ∷ 255 ∷ 80 ∷ 0 ∷ 80 ∷ 0 ∷ 255 ∷ 1 ∷ 1 ∷ []) ∷ []
without_screen = refl

with_screen : screen_told (showing 60 20)
    ≡ [] ∷ (1 ∷ 70 ∷ 20 ∷ 60 ∷ []) ∷ (1 ∷ 70 ∷ 20 ∷ 60 ∷ 0 ∷ 60 ∷ 0 ∷ 20 ∷ 1 ∷ 1 ∷ []) ∷ []
with_screen = refl

-- the rows and columns at $20 and $21, the width at $22 and the height at $24
size_5 : slice_range (with_header (showing 60 20) (set 5)) 0x20 0x26 ≡ 20 ∷ 60 ∷ 0 ∷ 60 ∷ 0 ∷ 20 ∷ []
unfolding with_header
size_5 = refl

size_4 : slice_range (with_header (showing 60 20) (set 4)) 0x20 0x26 ≡ 20 ∷ 60 ∷ 7 ∷ 7 ∷ 7 ∷ 7 ∷ []
unfolding with_header
size_4 = refl

size_3 : slice_range (with_header (showing 60 20) (set 3)) 0x20 0x26 ≡ 7 ∷ 7 ∷ 7 ∷ 7 ∷ 7 ∷ 7 ∷ []
unfolding with_header
size_3 = refl

header_8 : slice_range (with_header (showing 60 20) (set 8)) 0 3 ≡ 8 ∷ 0x1E ∷ 7 ∷ []
unfolding with_header
header_8 = refl

version_4 : version_in (set 4) ≡ record { number = 4; routine_offset = 0; text_offset = 0 }
version_4 = refl

-- 8 times $0707
version_7 : version_in (set 7) ≡ record { number = 7; routine_offset = 14392; text_offset = 14392 }
version_7 = refl

defaults : defaults_size_in (set 3) ∷ defaults_size_in (set 4) ∷ [] ≡ 62 ∷ 126 ∷ []
defaults = refl

abbreviations : abbreviation_table_of (set 1) ∷ abbreviation_table_of (set 2) ∷ abbreviations_size 2 ∷ abbreviations_size 3 ∷ []
    ≡ 0 ∷ 1799 ∷ 64 ∷ 192 ∷ []
abbreviations = refl
