-- The opcodes on tables make the weight of a turn fall, and none of them ends a turn by waiting.
use Rattle.std.proofs.Common.{◌≡◌, ℕ, zero, suc, ◌+◌, ◌*◌, ◌<◌, List, [], ◌∷◌, length, set, replicate, refl, ◌∙◌, take}
use Rattle.std.proofs.Common.{drop, slice_index, Option, Some, None, Bool, true, false, cond}
use Rattle.std.specs.Prelude.{◌==◌}
use Rattle.std.specs.Option.{is_some, unwrap_or}
use Rattle.std.proofs.lemmas.List.{length-set}
use Rattle.zcore.specs.Arithmetic.{is_negative, magnitude}
use Rattle.zcore.specs.declared.instruction.Branch.{Branch}
use Rattle.zcore.specs.declared.next.Next.{Next}
use Rattle.zcore.specs.declared.place.Fault.TheVariants as faults
use Rattle.zcore.specs.State.{State}
use Rattle.zcore.specs.Turn.{with_bytes}
use Rattle.zcore.proofs.KeepingReads.{Keeps, keeps_test, keeps_test_result, keeps_read_byte, keeps_read_word}
use Rattle.zcore.proofs.KeepingReads.{keeps_then, keeps_either, keeps_done}
use Rattle.zcore.proofs.Keeping.{keeps_store_result, keeps_test_branch}
use Rattle.zcore.proofs.FallsOfParts.{FallsFrom, falls_alike, falls_then, falls_either, goes_on_falls, branch_on_falls}
use Rattle.zcore.proofs.WaitingTests.{Waits, waits_done, waits_then, waits_chosen, waits_test, waits_test_result}
use Rattle.zcore.proofs.WaitingParts.{waits_read_byte, waits_read_word, waits_store_result, waits_goes_on}
use Rattle.zcore.proofs.WaitingEffects.{waits_branch_on, waits_test_branch}
use Rattle.zcore_standard.specs.Tables.{are_readable, are_writable, test_readable, test_writable, has_words}
use Rattle.zcore_standard.specs.Tables.{field_length, read_field, find_field, give_found, scan_table, copied_forwards}
use Rattle.zcore_standard.specs.Tables.{copied_at_once, write_table, copy_table, rows, rows_length}
use Rattle.zcore_standard.specs.Tables.{rows_size, print_table}
use Rattle.zcore_versions.proofs.FuelFacts.{keeps_spend_for, spend_for_leaves, waits_spend_for, falls_spent}
use Rattle.zcore_versions.proofs.PrintedCodes.{keeps_print_codes, waits_print_codes}

-- Tests

keeps_test_readable : (at count : ℕ) → Keeps (test_readable at count)
unfolding test_readable
keeps_test_readable at count s t a h = keeps_test (are_readable s.memory at count) faults.Read s t a h

keeps_test_writable : (at count : ℕ) → Keeps (test_writable at count)
unfolding test_writable
keeps_test_writable at count s t a h = keeps_test (are_writable s.memory at count) faults.Write s t a h

waits_test_readable : (at count : ℕ) → Waits (test_readable at count)
unfolding test_readable
waits_test_readable at count s t h = waits_test (are_readable s.memory at count) faults.Read s t h

waits_test_writable : (at count : ℕ) → Waits (test_writable at count)
unfolding test_writable
waits_test_writable at count s t h = waits_test (are_writable s.memory at count) faults.Write s t h

-- scan_table

keeps_read_field : (form at : ℕ) → Keeps (read_field form at)
unfolding read_field
keeps_read_field form at = keeps_either (has_words form) _ _ (keeps_read_word at) (keeps_read_byte at)

keeps_find_field : (form word at count : ℕ) → Keeps (find_field form word at count)
unfolding find_field
keeps_find_field form word at zero = keeps_done None
keeps_find_field form word at (suc count) =
    keeps_then _ _ (keeps_read_field form at)
    (λ value. keeps_either (value == word) _ _ (keeps_done (Some at))
    (keeps_find_field form word (at + field_length form) count))

give_found_falls : (here : Next) (after : ℕ) (result : Option ℕ) (branch : Option Branch) (found : Option ℕ)
    → here.program_counter < after → FallsFrom here (give_found here after result branch found)
unfolding give_found
give_found_falls here after result branch found ahead =
    falls_then here _ _ (keeps_test_result result) (λ _.
    falls_then here _ _ (keeps_test_branch after branch (is_some found)) (λ _.
    falls_then here _ _ (keeps_store_result result (unwrap_or found 0)) (λ _.
    branch_on_falls here after branch (is_some found) ahead)))

pub scan_table_falls : (here : Next) (after : ℕ) (result : Option ℕ) (branch : Option Branch)
    (word table count form : ℕ) → here.program_counter < after
    → FallsFrom here (scan_table here after result branch word table count form)
unfolding scan_table
scan_table_falls here after result branch word table count form ahead =
    let bytes = count * field_length form in
    falls_spent here _ _ (keeps_spend_for bytes here.fuel) (spend_for_leaves bytes here.fuel) (λ left.
    falls_then (record here { fuel = left }) _ _ (keeps_find_field form word table count)
    (λ found. give_found_falls (record here { fuel = left }) after result branch found ahead))

waits_read_field : (form at : ℕ) → Waits (read_field form at)
unfolding read_field
waits_read_field form at = waits_chosen (has_words form) _ _ (waits_read_word at) (waits_read_byte at)

waits_find_field : (form word at count : ℕ) → Waits (find_field form word at count)
unfolding find_field
waits_find_field form word at zero s t h = waits_done None s t h
waits_find_field form word at (suc count) s t h =
    waits_then _ _ (waits_read_field form at)
    (λ value. waits_chosen (value == word) _ _ (λ u v e. waits_done (Some at) u v e)
    (waits_find_field form word (at + field_length form) count)) s t h

waits_give_found : (here : Next) (after : ℕ) (result : Option ℕ) (branch : Option Branch) (found : Option ℕ)
    → Waits (give_found here after result branch found)
unfolding give_found
waits_give_found here after result branch found =
    waits_then _ _ (waits_test_result result) (λ _.
    waits_then _ _ (waits_test_branch after branch (is_some found)) (λ _.
    waits_then _ _ (waits_store_result result (unwrap_or found 0)) (λ _.
    waits_branch_on here after branch (is_some found))))

pub waits_scan_table : (here : Next) (after : ℕ) (result : Option ℕ) (branch : Option Branch)
    (word table count form : ℕ) → Waits (scan_table here after result branch word table count form)
unfolding scan_table
waits_scan_table here after result branch word table count form =
    waits_then _ _ (waits_spend_for (count * field_length form) here.fuel) (λ left.
    waits_then _ _ (waits_find_field form word table count)
    (λ found. waits_give_found (record here { fuel = left }) after result branch found))

-- copy_table

-- writing bytes does not change the length of memory
length-with_bytes : (memory : List ℕ) (at : ℕ) (bytes : List ℕ) → length (with_bytes memory at bytes) ≡ length memory
length-with_bytes memory at [] = refl
length-with_bytes memory at (b ∷ bs) = length-with_bytes (set memory at b) (at + 1) bs ∙ length-set memory at b

length-copied_forwards : (memory : List ℕ) (first second count : ℕ)
    → length (copied_forwards memory first second count) ≡ length memory
unfolding copied_forwards
length-copied_forwards memory first second zero = refl
length-copied_forwards memory first second (suc n) =
    let before = copied_forwards memory first second n in
    length-set before (second + n) (slice_index before (first + n)) ∙ length-copied_forwards memory first second n

-- writing a table that keeps the length of memory
write_table_falls : (here : Next) (after at count : ℕ) (written : List ℕ → List ℕ)
    → ((memory : List ℕ) → length (written memory) ≡ length memory) → here.program_counter < after
    → FallsFrom here (write_table here after at count written)
unfolding write_table
write_table_falls here after at count written long ahead =
    falls_then here _ _ (keeps_test_writable at count) (λ _.
    falls_spent here _ _ (keeps_spend_for count here.fuel) (spend_for_leaves count here.fuel) (λ left s t next inside h.
    let lighter : Next = record here { fuel = left } in
    let u : State = record s { memory = written s.memory } in
    let same : length u.memory ≡ length s.memory = long s.memory in
    falls_alike lighter next s u t (record { memory = same; frames = refl })
    (goes_on_falls lighter after ahead u t next (rw same inside) h)))

length_chosen : (b : Bool) (l m memory : List ℕ) → length l ≡ length memory → length m ≡ length memory
    → length (cond b l m) ≡ length memory
length_chosen true l m memory e f = e
length_chosen false l m memory e f = f

pub copy_table_falls : (here : Next) (after first second size : ℕ) → here.program_counter < after
    → FallsFrom here (copy_table here after first second size)
unfolding copy_table
copy_table_falls here after first second size ahead =
    let count = magnitude size in
    falls_either (second == 0) here _ _
    (λ _. write_table_falls here after first count _ (λ memory. length-with_bytes memory first (replicate count 0))
    ahead)
    (falls_then here _ _ (keeps_test_readable first count) (λ _.
    write_table_falls here after second count _
    (λ memory. length_chosen (is_negative size) (copied_forwards memory first second count)
    (copied_at_once memory first second count) memory (length-copied_forwards memory first second count)
    (length-with_bytes memory second (take count (drop first memory)))) ahead))

waits_write_table : (here : Next) (after at count : ℕ) (written : List ℕ → List ℕ)
    → Waits (write_table here after at count written)
unfolding write_table
waits_write_table here after at count written =
    waits_then _ _ (waits_test_writable at count) (λ _.
    waits_then _ _ (waits_spend_for count here.fuel) (λ left s t h. waits_goes_on after left _ t h))

pub waits_copy_table : (here : Next) (after first second size : ℕ) → Waits (copy_table here after first second size)
unfolding copy_table
waits_copy_table here after first second size =
    let count = magnitude size in
    waits_chosen (second == 0) _ _ (waits_write_table here after first count _)
    (waits_then _ _ (waits_test_readable first count) (λ _. waits_write_table here after second count _))

-- print_table

pub print_table_falls : (characters : List ℕ) (here : Next) (after text width height skip indent : ℕ)
    → here.program_counter < after → FallsFrom here (print_table characters here after text width height skip indent)
unfolding print_table
print_table_falls characters here after text width height skip indent ahead =
    let count = rows_length width height indent in
    falls_then here _ _ (keeps_test_readable text (rows_size width height skip)) (λ _.
    falls_spent here _ _ (keeps_spend_for count here.fuel) (spend_for_leaves count here.fuel) (λ left.
    falls_then (record here { fuel = left }) _ _
    (λ s t a h. keeps_print_codes characters (rows s.memory text width skip indent height) s t a h)
    (λ _. goes_on_falls (record here { fuel = left }) after ahead)))

pub waits_print_table : (characters : List ℕ) (here : Next) (after text width height skip indent : ℕ)
    → Waits (print_table characters here after text width height skip indent)
unfolding print_table
waits_print_table characters here after text width height skip indent =
    waits_then _ _ (waits_test_readable text (rows_size width height skip)) (λ _.
    waits_then _ _ (waits_spend_for (rows_length width height indent) here.fuel) (λ left.
    waits_then _ _ (λ s t h. waits_print_codes characters (rows s.memory text width skip indent height) s t h)
    (λ _. waits_goes_on after left)))
