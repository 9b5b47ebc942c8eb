-- What the search of a dictionary goes over whose entries are in any order.
use Rattle.std.specs.Prelude.{◌≡◌, ◌+◌, ◌*◌, ◌<◌, ◌≤◌, ℕ, nat_le, true, false, List}
use Rattle.zcore.specs.Header.{entry_length_of, entry_count, first_entry, static_end}
use Rattle.zcore.specs.Dictionary.{entries_in, is_dictionary}
use Rattle.tables.specs.declared.dictionary.Entries.{Entries}

-- what comes before the entries of the dictionary at an address
pub record IsHeadOf (memory : List ℕ) (dictionary : ℕ) (head : Entries) : Type 0 where
  pub readable : nat_le (first_entry memory dictionary) (static_end memory) ≡ true
  pub first : head.first ≡ first_entry memory dictionary
  pub bytes : head.bytes ≡ entry_length_of memory dictionary
  pub count : head.count ≡ entry_count memory dictionary
  pub short : head.bytes ≤ 255
  pub few : head.count ≤ 65535

abbrev pub IsHeadless : List ℕ → ℕ → Type 0
IsHeadless memory dictionary = nat_le (first_entry memory dictionary) (static_end memory) ≡ false

-- entries whose keys end in readable memory
pub record AreKeysWithin (memory : List ℕ) (entries : Entries) : Type 0 where
  pub within : (k : ℕ) → k < entries.count → entries.first + k * entries.bytes + 6 ≤ static_end memory
  pub short : entries.bytes ≤ 255
  pub few : entries.count ≤ 32768

-- those of the dictionary at an address
pub record AreEntriesOf (memory : List ℕ) (dictionary : ℕ) (entries : Entries) : Type 0 where
  pub readable : is_dictionary memory dictionary ≡ true
  pub keys : AreKeysWithin memory entries
  pub first : entries.first ≡ first_entry memory dictionary
  pub bytes : entries.bytes ≡ entry_length_of memory dictionary
  pub count : entries.count ≡ entries_in memory dictionary
