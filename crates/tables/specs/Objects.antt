-- Object tables as they are read (Z-Machine Standards Document 1.1, section 12).
use Rattle.std.specs.Prelude.{◌+◌, ℕ, zero, suc, nat_le, nat_lt, Bool, if◌then◌else◌, List, length, slice_index}
use Rattle.std.specs.Prelude.{slice_range, Option, Some, None, Result, Ok, Err}
use Rattle.ztext.specs.Bytes.{word_at}
use Rattle.zcore.specs.Entries.{Link, owner, place_of, object_entry, has_entry, properties_place}
use Rattle.zcore.specs.Entries.{attribute_place, is_set}
use Rattle.zcore.specs.Properties.{Standing, Terminator, Listed, Beyond, standing, list_start, property_in}
use Rattle.tables.specs.declared.fault.TableRead.{TableRead}
use Rattle.tables.specs.declared.fault.TableRead.TheVariants.{Object, Outside}

-- Entries (12.3)

-- the word at a place of an object's entry
abbrev pub word_of_entry : List ℕ → ℕ → ℕ → ℕ → Result ℕ TableRead
word_of_entry story table object place =
    if has_entry table (length story) object then Ok (word_at story (object_entry table object + place)) else Err Object

abbrev pub link_of : List ℕ → ℕ → Link → Result ℕ TableRead
link_of story table link =
    if has_entry table (length story) (owner link) then Ok (word_at story (place_of table link)) else Err Object

abbrev pub attribute_of : List ℕ → ℕ → ℕ → ℕ → Result Bool TableRead
attribute_of story table object attribute =
    if has_entry table (length story) object then Ok
    (is_set (slice_index story (attribute_place table object attribute)) attribute)
    else Err Object

-- Property lists (12.4)

-- where the list of a property table begins
abbrev pub start_at : List ℕ → ℕ → Result ℕ TableRead
start_at story properties = if nat_lt properties (length story) then Ok (list_start story properties) else Err Outside

-- where the property list of an object begins
abbrev pub start_of : List ℕ → ℕ → ℕ → Result ℕ TableRead
start_of story table object =
    if has_entry table (length story) object then start_at story (word_at story (properties_place table object))
    else Err Object

-- the data of a property that a search came to
abbrev pub data_of : List ℕ → Standing → Result (Option (List ℕ)) TableRead
data_of story Terminator = Ok None
data_of story (Listed p) =
    if nat_le (p.address + p.size) (length story) then Ok (Some (slice_range story p.address (p.address + p.size)))
    else Err Outside
data_of story Beyond = Err Outside

abbrev pub property_from : List ℕ → ℕ → Result ℕ TableRead → Result (Option (List ℕ)) TableRead
property_from story number (Ok start) = data_of story (property_in story (length story) number start)
property_from story number (Err cause) = Err cause

-- the data of an object's first property of a number
abbrev pub property_of : List ℕ → ℕ → ℕ → ℕ → Result (Option (List ℕ)) TableRead
property_of story table object number = property_from story number (start_of story table object)

abbrev pub counted_at : ℕ → Standing → (ℕ → Result ℕ TableRead) → Result ℕ TableRead
counted_at count Terminator on = Ok count
counted_at count (Listed p) on = on (p.address + p.size)
counted_at count Beyond on = Err Outside

-- how many properties a list has, where so many stand before an address and as many steps are left
unfoldable pub counted_in : List ℕ → ℕ → ℕ → ℕ → Result ℕ TableRead
counted_in story count at zero = Err Outside
counted_in story count at (suc steps) =
    counted_at count (standing story (length story) at) (λ next. counted_in story (count + 1) next steps)

abbrev pub count_from : List ℕ → Result ℕ TableRead → Result ℕ TableRead
count_from story (Ok start) = counted_in story 0 start (length story)
count_from story (Err cause) = Err cause

abbrev pub property_count_of : List ℕ → ℕ → ℕ → Result ℕ TableRead
property_count_of story table object = count_from story (start_of story table object)
