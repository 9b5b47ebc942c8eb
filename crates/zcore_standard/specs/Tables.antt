-- The opcodes on tables: they search, copy and print regions of memory (Z-Machine Standards Document 1.1, section 15).
-- Addresses in a table are not reduced modulo 65,536. A table that passes the end of what can be read faults with M3.
use Rattle.std.specs.Prelude.{◌==◌, ◌&&◌, ◌||◌, ◌+◌, ◌-◌, ◌*◌, ◌/◌, ◌%◌, ℕ, zero, suc, nat_le, Bool, if◌then◌else◌}
use Rattle.std.specs.Prelude.{List, [], ◌∷◌, ◌++◌, drop, replicate, slice_index, slice_set, take, Option, Some, None}
use Rattle.std.specs.Option.{is_some, unwrap_or}
use Rattle.zcore.specs.declared.instruction.Branch.{Branch}
use Rattle.zcore.specs.declared.next.Next.{Next}
use Rattle.zcore.specs.declared.place.Fault.TheVariants as faults
use Rattle.zcore.specs.Arithmetic.{is_negative, magnitude}
use Rattle.zcore.specs.Header.{static_base_of}
use Rattle.zcore.specs.Layout.{header_size}
use Rattle.zcore.specs.Parts.{test, is_readable, read_byte, read_word, test_result, test_branch, store_result, goes_on}
use Rattle.zcore.specs.Parts.{branch_on}
use Rattle.zcore.specs.State.{State, Out, done, ◌>>=◌}
use Rattle.zcore.specs.Turn.{with_bytes}
use Rattle.zcore_standard.specs.Characters.{print_codes}
use Rattle.zcore_standard.specs.Fuel.{spend_for}

-- Tests of all the bytes of a table

-- The `count` bytes from `at` on can be read. A table of no bytes passes.
abbrev pub are_readable : List ℕ → ℕ → ℕ → Bool
are_readable memory at count = count == 0 || is_readable memory (at + count - 1)

-- They can be written: they are in dynamic memory, after the header.
abbrev pub are_writable : List ℕ → ℕ → ℕ → Bool
are_writable memory at count = count == 0 || (nat_le header_size at && nat_le (at + count) (static_base_of memory))

unfoldable pub test_readable : ℕ → ℕ → State → Out (Unit {0})
test_readable at count s = test (are_readable s.memory at count) faults.Read s

unfoldable pub test_writable : ℕ → ℕ → State → Out (Unit {0})
test_writable at count s = test (are_writable s.memory at count) faults.Write s

-- scan_table

-- bit 7 of a form: the first word of a field is compared, and otherwise its first byte
abbrev pub has_words : ℕ → Bool
has_words form = form / 128 % 2 == 1

-- bits 0 to 6: how many bytes a field has
abbrev pub field_length : ℕ → ℕ
field_length form = form % 128

unfoldable pub read_field : ℕ → ℕ → State → Out ℕ
read_field form at = if has_words form then read_word at else read_byte at

-- the address of the first of `count` fields, from `at` on, that begins with the word
unfoldable pub find_field : ℕ → ℕ → ℕ → ℕ → State → Out (Option ℕ)
find_field form word at zero = done None
find_field form word at (suc count) = do
  value ← read_field form at
  if value == word then done (Some at) else find_field form word (at + field_length form) count

-- The address is stored, and the branch is taken where a field was found. Where none was found, 0 is stored. Both the
-- result and the branch are tested first.
unfoldable pub give_found : Next → ℕ → Option ℕ → Option Branch → Option ℕ → State → Out Next
give_found here after result branch found = do
  _ ← test_result result
  _ ← test_branch after branch (is_some found)
  _ ← store_result result (unwrap_or found 0)
  branch_on here after branch (is_some found)

unfoldable pub scan_table : Next → ℕ → Option ℕ → Option Branch → ℕ → ℕ → ℕ → ℕ → State → Out Next
scan_table here after result branch word table count form = do
  fuel ← spend_for (count * field_length form) here.fuel
  found ← find_field form word table count
  give_found (record here { fuel = fuel }) after result branch found

-- copy_table

-- `count` bytes are copied one by one: each is read after those before it are written
unfoldable pub copied_forwards : List ℕ → ℕ → ℕ → ℕ → List ℕ
copied_forwards memory first second zero = memory
copied_forwards memory first second (suc n) =
    let before = copied_forwards memory first second n in
    slice_set before (second + n) (slice_index before (first + n))

-- `count` bytes are copied at once: all are read before any is written
abbrev pub copied_at_once : List ℕ → ℕ → ℕ → ℕ → List ℕ
copied_at_once memory first second count = with_bytes memory second (take count (drop first memory))

abbrev pub cleared : List ℕ → ℕ → ℕ → List ℕ
cleared memory at count = with_bytes memory at (replicate count 0)

-- writes the `count` bytes from `at` on, if all of them can be written
unfoldable pub write_table : Next → ℕ → ℕ → ℕ → (List ℕ → List ℕ) → State → Out Next
write_table here after at count written = do
  _ ← test_writable at count
  fuel ← spend_for count here.fuel
  (λ s. goes_on after fuel (record s { memory = written s.memory }))

-- Where the second table is 0, the first is cleared. Otherwise it is copied to the second. A negative size copies
-- forwards, even where this overwrites bytes that are still to be copied. Another size copies as if at once.
unfoldable pub copy_table : Next → ℕ → ℕ → ℕ → ℕ → State → Out Next
copy_table here after first second size =
    let count = magnitude size in
    if second == 0 then write_table here after first count (λ memory. cleared memory first count)
    else (do
      _ ← test_readable first count
      write_table here after second count (λ memory.
          if is_negative size then copied_forwards memory first second count
          else copied_at_once memory first second count))

-- print_table

-- What divides a row from the rows before it, if there are any: a new line, and so many spaces that it begins in the
-- column where the first row began.
abbrev pub row_division : ℕ → ℕ → List ℕ
row_division indent zero = []
row_division indent (suc others) = 13 ∷ replicate indent 32

-- the ZSCII codes of the first rows of a table, so divided; `skip` characters are between a row and the next
unfoldable pub rows : List ℕ → ℕ → ℕ → ℕ → ℕ → ℕ → List ℕ
rows memory text width skip indent zero = []
rows memory text width skip indent (suc n) =
    rows memory text width skip indent n
    ++ (row_division indent n ++ take width (drop (text + n * (width + skip)) memory))

-- how many bytes a table has from the first character of its first row to the last character of its last row
abbrev pub rows_size : ℕ → ℕ → ℕ → ℕ
rows_size width height skip = if width == 0 || height == 0 then 0 else (height - 1) * (width + skip) + width

-- how many characters are printed, but for new lines
abbrev pub rows_length : ℕ → ℕ → ℕ → ℕ
rows_length width height indent = width * height + (height - 1) * indent

-- with these characters for the codes from 155 on
unfoldable pub print_table : List ℕ → Next → ℕ → ℕ → ℕ → ℕ → ℕ → ℕ → State → Out Next
print_table characters here after text width height skip indent = do
  _ ← test_readable text (rows_size width height skip)
  fuel ← spend_for (rows_length width height indent) here.fuel
  _ ← (λ s. print_codes characters (rows s.memory text width skip indent height) s)
  goes_on after fuel
