-- The search of a dictionary (Z-Machine Standards Document 1.1, section 13).
use Rattle.std.specs.Prelude.{◌==◌, ◌&&◌, ◌||◌, ◌+◌, ◌-◌, ◌*◌, ℕ, zero, suc, nat_le, Bool, if◌then◌else◌, List}
use Rattle.byteorder.specs.Endian.{big_number}
use Rattle.zcore.specs.Arithmetic.{magnitude}
use Rattle.zcore.specs.Header.{entry_length_of, entry_count, first_entry, key_at, static_end}
use Rattle.zcore.specs.Layout.{key_size}

-- A key of six bytes as a number, the highest byte first. Keys go in the order of these numbers (13.5).
unfoldable pub number_of_key : List ℕ → ℕ
number_of_key key = big_number 6 key

-- the first of so many entries from an address on that has the key, or 0
abbrev pub entry_in : List ℕ → ℕ → ℕ → ℕ → ℕ → ℕ
entry_in story at bytes zero key = 0
entry_in story at bytes (suc count) key =
    if key_at story at == key then at else entry_in story (at + bytes) bytes count key

-- how many entries a dictionary has; a negative number is of entries in no order (15, `tokenise`)
abbrev pub entries_in : List ℕ → ℕ → ℕ
entries_in story dictionary = magnitude (entry_count story dictionary)

-- where the key of the last entry ends
abbrev pub keys_end : List ℕ → ℕ → ℕ
keys_end story dictionary =
    first_entry story dictionary + (entries_in story dictionary - 1) * entry_length_of story dictionary + key_size

-- whether a dictionary can be read: what comes before its entries, and the key of each
abbrev pub is_dictionary : List ℕ → ℕ → Bool
is_dictionary story dictionary =
    nat_le (first_entry story dictionary) (static_end story)
    && ((entries_in story dictionary == 0) || nat_le (keys_end story dictionary) (static_end story))

-- the address of the first entry that has the key, or 0; a dictionary that cannot be read has none
unfoldable pub entry_of : List ℕ → ℕ → ℕ → ℕ
entry_of story dictionary key =
    if is_dictionary story dictionary
    then entry_in story (first_entry story dictionary) (entry_length_of story dictionary) (entries_in story dictionary)
    key
    else 0
