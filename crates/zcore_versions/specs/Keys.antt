-- The words of a dictionary in any version: keys of four bytes up to version 3, and of six from version 4 on (Z-Machine
-- Standards Document 1.1, sections 3.7, 13.3 and 13.4).
use Rattle.std.specs.Prelude.{◌==◌, ◌&&◌, ◌||◌, ◌+◌, ◌-◌, ◌*◌, ℕ, zero, suc, nat_le, Bool, if◌then◌else◌, List, ◌++◌}
use Rattle.std.specs.Prelude.{drop, replicate, take}
use Rattle.byteorder.specs.Endian.{big_number}
use Rattle.ztext.specs.Words.{packed}
use Rattle.zcore.specs.Dictionary.{entries_in}
use Rattle.zcore.specs.Header.{entry_length_of, first_entry, static_end}
use Rattle.zcore_standard.specs.Texts.{alphabets_of, spelled_by}
use Rattle.zcore_versions.specs.declared.version.StoryVersion.{StoryVersion}
use Rattle.zcore_versions.specs.LockedTexts.{spelled_with_locks}
use Rattle.zcore_versions.specs.Versions.{Story, is_small, locks_alphabets}

abbrev pub key_bytes : StoryVersion → ℕ
key_bytes version = if is_small version then 4 else 6

abbrev pub key_characters : StoryVersion → ℕ
key_characters version = if is_small version then 6 else 9

-- the Z-characters of a word
abbrev pub spelled_in : Story → List ℕ → List ℕ
spelled_in story word =
    if locks_alphabets story.version then spelled_with_locks story.version.number 0 word
    else spelled_by (alphabets_of story.loaded) word

-- the form of a word: its first Z-characters, filled with fives
unfoldable pub form_in : Story → List ℕ → List ℕ
form_in story word = packed (take (key_characters story.version) (spelled_in story word ++ replicate 9 5))

-- The search of a dictionary

abbrev pub keys_end : ℕ → List ℕ → ℕ → ℕ
keys_end size memory dictionary =
    first_entry memory dictionary + (entries_in memory dictionary - 1) * entry_length_of memory dictionary + size

-- whether a dictionary can be read: what comes before its entries, and the key of each
abbrev pub is_dictionary : ℕ → List ℕ → ℕ → Bool
is_dictionary size memory dictionary =
    nat_le (first_entry memory dictionary) (static_end memory)
    && ((entries_in memory dictionary == 0) || nat_le (keys_end size memory dictionary) (static_end memory))

-- the first of so many entries from an address on that has the key, or 0
abbrev pub entry_in : ℕ → List ℕ → ℕ → ℕ → ℕ → ℕ → ℕ
entry_in size memory at bytes zero key = 0
entry_in size memory at bytes (suc count) key =
    if big_number size (drop at memory) == key then at else entry_in size memory (at + bytes) bytes count key

-- the address of the first entry that has the key, or 0; a dictionary that cannot be read has none
unfoldable pub entry_of : ℕ → List ℕ → ℕ → ℕ → ℕ
entry_of size memory dictionary key =
    if is_dictionary size memory dictionary
    then entry_in size memory (first_entry memory dictionary) (entry_length_of memory dictionary)
    (entries_in memory dictionary) key
    else 0

-- that of a word
unfoldable pub entry_for : Story → List ℕ → ℕ → List ℕ → ℕ
entry_for story memory dictionary word =
    let size = key_bytes story.version in
    entry_of size memory dictionary (big_number size (form_in story word))
