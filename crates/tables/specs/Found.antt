-- What the readers of properties answer, by what stands in a property list.
use Rattle.std.specs.Prelude.{◌≡◌, ◌+◌, ◌<◌, ◌≤◌, ◌⊎◌, ℕ, true, false, List, length, slice_range, Option, Some, None}
use Rattle.std.specs.Prelude.{Result, Ok, Err}
use Rattle.std.specs.List.{All}
use Rattle.ztext.specs.Bytes.{word_at}
use Rattle.zcore.specs.Entries.{has_entry, properties_place}
use Rattle.zcore.specs.Properties.{Property, Standing, Terminator, Listed, Beyond, standing, list_start, AreListed}
use Rattle.tables.specs.declared.fault.TableRead.{TableRead}
use Rattle.tables.specs.declared.fault.TableRead.TheVariants.{Object, Outside}
use Rattle.tables.specs.Objects.{property_of, property_count_of}

-- from an address of a list on stand these properties, and then what is named
pub record Lists (story : List ℕ) (start : ℕ) (properties : List Property) (end : Standing) : Type 0 where
  pub address : ℕ
  pub listed : AreListed story (length story) start properties address
  pub stands : standing story (length story) address ≡ end

abbrev pub IsNumbered : ℕ → Standing → Type 0
IsNumbered number Terminator = Unit {0}
IsNumbered number (Listed p) = p.number ≡ number
IsNumbered number Beyond = Unit {0}

-- what stands behind properties of other numbers: the first property of the number, or what ends the list before one
pub record ReachesInList (story : List ℕ) (number start : ℕ) (end : Standing) : Type 0 where
  pub before : List Property
  pub others : All (λ (p : Property). p.number ≡ number → ⊥) before
  pub lists : Lists story start before end
  pub numbered : IsNumbered number end

-- what is read of the first property of a number in the list at an address
abbrev pub FindsIn : List ℕ → ℕ → ℕ → Result (Option (List ℕ)) TableRead → Type 0
FindsIn story number start (Ok None) = ReachesInList story number start Terminator
FindsIn story number start (Ok (Some bytes)) =
    (p : Property) × ReachesInList story number start (Listed p) × (p.address + p.size ≤ length story)
    × (slice_range story p.address (p.address + p.size) ≡ bytes)
FindsIn story number start (Err Object) = ⊥
FindsIn story number start (Err Outside) =
    ReachesInList story number start Beyond
    ⊎ ((p : Property) × ReachesInList story number start (Listed p) × (length story < p.address + p.size))

-- how many properties are read in the list at an address, where so many stand before it
abbrev pub CountsIn : List ℕ → ℕ → ℕ → Result ℕ TableRead → Type 0
CountsIn story before start (Ok count) =
    (properties : List Property) × Lists story start properties Terminator × (before + length properties ≡ count)
CountsIn story before start (Err Object) = ⊥
CountsIn story before start (Err Outside) = (properties : List Property) × Lists story start properties Beyond

-- where the property table of an object stands
abbrev pub properties_of : List ℕ → ℕ → ℕ → ℕ
properties_of story table object = word_at story (properties_place table object)

-- what is read of an object's properties: each cause stands where it is answered, and is answered where it stands
pub record PropertiesAre (story : List ℕ) (table object number : ℕ) : Type 0 where
  pub no_object : has_entry table (length story) object ≡ false
      → (property_of story table object number ≡ Err Object) × (property_count_of story table object ≡ Err Object)
  pub no_table : has_entry table (length story) object ≡ true → length story ≤ properties_of story table object
      → (property_of story table object number ≡ Err Outside) × (property_count_of story table object ≡ Err Outside)
  pub found : has_entry table (length story) object ≡ true → properties_of story table object < length story
      → FindsIn story number (list_start story (properties_of story table object))
      (property_of story table object number)
  pub counted : has_entry table (length story) object ≡ true → properties_of story table object < length story
      → CountsIn story 0 (list_start story (properties_of story table object)) (property_count_of story table object)
