-- Words for the contracts of the functions within the crate.
use Rattle.std.specs.Prelude.{◌≡◌, ◌+◌, ◌*◌, ◌<◌, ◌≤◌, ◌++◌, ◌∷◌, [], ℕ, List}
use Rattle.zcore.specs.Dictionary.{entries_in}
use Rattle.zcore.specs.Header.{entry_length_of, first_entry, static_end}
use Rattle.zcore.specs.Turn.{with_bytes}
use Rattle.zcore_versions.specs.Reading.{with_words}
use Rattle.zcore_versions.specs.Versions.{Story}
use Rattle.machine_versions_words.specs.declared.keys.Entries.{Entries}

-- the entries of the dictionary at an address
pub record AreEntriesOf (memory : List ℕ) (dictionary : ℕ) (entries : Entries) : Type 0 where
  pub first : entries.first ≡ first_entry memory dictionary
  pub bytes : entries.bytes ≡ entry_length_of memory dictionary
  pub count : entries.count ≡ entries_in memory dictionary
  pub short : entries.bytes ≤ 255
  pub few : entries.count ≤ 32768

-- entries whose keys of four bytes end in readable memory
pub record AreKeysWithin (memory : List ℕ) (entries : Entries) : Type 0 where
  pub within : (k : ℕ) → k < entries.count → entries.first + k * entries.bytes + 4 ≤ static_end memory
  pub short : entries.bytes ≤ 255
  pub few : entries.count ≤ 32768

-- memory with the letters of a line in its text buffer, a 0 after them, and their words in the parse buffer
abbrev pub line_memory : Story → ℕ → ℕ → List ℕ → List ℕ → List ℕ
line_memory story text parse letters memory =
    with_words story memory parse letters (with_bytes memory (text + 1) (letters ++ 0 ∷ []))
