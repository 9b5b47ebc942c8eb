-- The dictionary of a story: what a look-up finds, and what is written (Z-Machine Standards Document 1.1, section
-- 13).
use Rattle.std.specs.Prelude.{◌≡◌, ◌==◌, ◌+◌, ◌*◌, ◌/◌, ◌%◌, ◌<◌, ◌≤◌, ℕ, false, List, [], ◌∷◌, ◌++◌}
use Rattle.std.specs.Prelude.{length, slice_range}
use Rattle.std.specs.List.{flat_map}
use Rattle.zcore.specs.Dictionary.{entry_of}
use Rattle.zcore.specs.Header.{separator_count, entry_length_of, entry_count, first_entry, key_at, static_end}
use Rattle.zcore.specs.Header.{IsDictionary}
use Rattle.zcore.specs.Layout.{readable_size}
use Rattle.ztext.specs.Text.{Holds}
use Rattle.tables.specs.KeyNumbers.{entry_size, head_size, key_number}
use Rattle.tables.specs.declared.fault.TableFault.{TableFault}
use Rattle.tables.specs.declared.fault.TableFault.TheVariants.{NameTooLong, TooLarge, Memory}

-- Searching

-- the address of an entry, from 0
abbrev pub entry_address : List ℕ → ℕ → ℕ → ℕ
entry_address story dictionary k = first_entry story dictionary + k * entry_length_of story dictionary

-- A look-up gives the entry that has the key, and 0 exactly where there is none.
pub record Finds (story : List ℕ) (dictionary key result : ℕ) : Type 0 where
  pub found : (k : ℕ) → k < entry_count story dictionary → key_at story (entry_address story dictionary k) ≡ key
      → result ≡ entry_address story dictionary k
  pub none :
      ((k : ℕ) → k < entry_count story dictionary → (key_at story (entry_address story dictionary k) == key) ≡ false)
      → result ≡ 0
  pub entry : result ≡ entry_of story dictionary key

-- Writing

-- the six bytes of the key, and three of data
abbrev pub entry_bytes : List ℕ → List ℕ
entry_bytes key = key ++ 0 ∷ 0 ∷ 0 ∷ []

-- three separators, the length of an entry, and the number of entries
abbrev pub head_bytes : ℕ → List ℕ
head_bytes count = 3 ∷ 46 ∷ 44 ∷ 34 ∷ entry_size ∷ (count / 256) ∷ (count % 256) ∷ []

-- and then the entries
abbrev pub dictionary_bytes : List (List ℕ) → List ℕ
dictionary_bytes keys = head_bytes (length keys) ++ flat_map entry_bytes keys

-- why a dictionary of so many keys is not written
abbrev pub RefusesKeys : ℕ → TableFault → Type 0
RefusesKeys count NameTooLong = ⊥
RefusesKeys count TooLarge = readable_size < head_size + entry_size * count
RefusesKeys count Memory = head_size + entry_size * count ≤ readable_size

-- what a story reads where a dictionary of keys was written
pub record ReadsKeys (story : List ℕ) (at : ℕ) (keys : List ℕ) : Type 0 where
  pub dictionary : IsDictionary story at
  pub separators : slice_range story (at + 1) (at + 1 + separator_count story at) ≡ 46 ∷ 44 ∷ 34 ∷ []
  pub numbers : (key : ℕ) → entry_of story at key ≡ key_number at keys key

-- these keys are read where a story holds the bytes, which end with its static memory or before
abbrev pub AreReadFrom : List ℕ → List ℕ → Type 0
AreReadFrom bytes keys = (story : List ℕ) (at : ℕ) → Holds story at bytes → at + length bytes ≤ static_end story
    → ReadsKeys story at keys
