-- The definitions of the opcodes on tables, computed.
use Rattle.std.proofs.Common.{◌≡◌, ℕ, List, [], ◌∷◌, ◌++◌, Option, Some, None, true, refl}
use Rattle.std.specs.Prelude.{codes, replicate}
use Rattle.zcore.specs.declared.instruction.Branch.{Branch}
use Rattle.zcore.specs.declared.next.Next.{Next}
use Rattle.zcore.specs.declared.place.Fault.TheVariants as faults
use Rattle.zcore.specs.declared.place.Place.TheVariants as places
use Rattle.zcore.specs.Parts.{read_byte, read_word, test_result, store_result, write_variable, push, branch_on, go}
use Rattle.zcore.specs.Parts.{take_branch, test_branch, test_taken, test_target}
use Rattle.zcore.specs.State.{State, done, halt}
use Rattle.zcore.specs.Turn.{first_environment, first_state}
use Rattle.zcore_standard.specs.Characters.{print_each}
use Rattle.zcore_standard.specs.Fuel.{spend_for}
use Rattle.zcore_standard.specs.Unicode.{default_characters, print_whole}
use Rattle.zcore_standard.specs.Tables.{find_field, read_field, give_found, scan_table, test_readable, test_writable, copied_forwards}
use Rattle.zcore_standard.specs.Tables.{write_table, copy_table, rows, print_table}

-- A story of 84 bytes with static base 80: twelve bytes of dynamic memory at 68, and four that are only read.
abbrev story : List ℕ → List ℕ
story table = replicate 14 0 ++ (0 ∷ 80 ∷ []) ++ replicate 52 0 ++ table ++ (1 ∷ 2 ∷ 3 ∷ 4 ∷ [])

abbrev start : List ℕ → State
start table = first_state (story table)

abbrev here : Next
here = record { program_counter = 100; fuel = 5 }

abbrev there : Next
there = record { program_counter = 106; fuel = 5 }

abbrev at_70 : Next
at_70 = record { program_counter = 70; fuel = 5 }

-- words, one after another: the second byte of one and the first of the next are no word
abbrev words : List ℕ
words = 0 ∷ 7 ∷ 0 ∷ 9 ∷ 1 ∷ 2 ∷ 0 ∷ 9 ∷ 5 ∷ 5 ∷ 5 ∷ 5 ∷ []

finds_the_first : find_field 0x82 9 68 4 (start words) ≡ done (Some 70) (start words)
unfolding find_field read_field read_word
finds_the_first = refl

finds_no_half_words : find_field 0x82 0x0700 68 4 (start words) ≡ done None (start words)
unfolding find_field read_field read_word
finds_no_half_words = refl

-- fields of four bytes, of which the first word is compared: 9 begins none
finds_in_longer_fields : find_field 0x84 9 68 2 (start words) ≡ done None (start words)
unfolding find_field read_field read_word
finds_in_longer_fields = refl

finds_a_byte : find_field 1 9 68 4 (start words) ≡ done (Some 71) (start words)
unfolding find_field read_field read_byte
finds_a_byte = refl

finds_a_byte_in_longer_fields : find_field 2 1 68 3 (start words) ≡ done (Some 72) (start words)
unfolding find_field read_field read_byte
finds_a_byte_in_longer_fields = refl

-- a word is no byte's value
finds_no_large_byte : find_field 1 0x0109 68 12 (start words) ≡ done None (start words)
unfolding find_field read_field read_byte
finds_no_large_byte = refl

finds_in_none : find_field 0x82 7 68 0 (start words) ≡ done None (start words)
unfolding find_field
finds_in_none = refl

-- the word at 83 would end after the story
scans_past_the_end : find_field 0x81 0xFFFF 82 2 (start words) ≡ halt (places.Fault faults.Read) (start words)
unfolding find_field read_field read_word
scans_past_the_end = refl

-- variable 0 is the stack, and the branch leads to 82
abbrev pushed : List ℕ → ℕ → State
pushed table word = record (start table) { frames = record first_environment { stack = word ∷ [] } ∷ [] }

abbrev branch : Option Branch
branch = Some (record { when = true; offset = 10 })

scans : scan_table at_70 74 (Some 0) branch 9 68 4 0x82 (start words)
    ≡ done (record at_70 { program_counter = 82 }) (pushed words 70)
unfolding scan_table find_field read_field read_word give_found test_result test_branch test_taken test_target store_result write_variable push branch_on take_branch go spend_for
scans = refl

-- 0 is stored, and the branch is not made
scans_in_vain : scan_table at_70 74 (Some 0) branch 8 68 4 0x82 (start words)
    ≡ done (record at_70 { program_counter = 74 }) (pushed words 0)
unfolding scan_table find_field read_field read_word give_found test_result test_branch store_result write_variable push branch_on spend_for
scans_in_vain = refl

abbrev letters : List ℕ
letters = codes "abcdefghijkl"

clears : copy_table here 106 70 0 3 (start letters) ≡ done there (start (codes "ab" ++ 0 ∷ 0 ∷ 0 ∷ codes "fghijkl"))
unfolding copy_table write_table test_writable spend_for
clears = refl

clears_negative : copy_table here 106 70 0 65533 (start letters)
    ≡ done there (start (codes "ab" ++ 0 ∷ 0 ∷ 0 ∷ codes "fghijkl"))
unfolding copy_table write_table test_writable spend_for
clears_negative = refl

copies_up : copy_table here 106 68 70 4 (start letters) ≡ done there (start (codes "ababcdghijkl"))
unfolding copy_table write_table test_writable test_readable spend_for
copies_up = refl

copies_down : copy_table here 106 70 68 4 (start letters) ≡ done there (start (codes "cdefefghijkl"))
unfolding copy_table write_table test_writable test_readable spend_for
copies_down = refl

-- a negative size fills a table with its beginning
copies_forwards : copy_table here 106 68 70 65532 (start letters) ≡ done there (start (codes "abababghijkl"))
unfolding copy_table write_table test_writable test_readable copied_forwards spend_for
copies_forwards = refl

copies_nothing : copy_table here 106 200 300 0 (start letters) ≡ done there (start letters)
unfolding copy_table write_table test_writable test_readable spend_for
copies_nothing = refl

reads_past_the_end : copy_table here 106 81 68 4 (start letters) ≡ halt (places.Fault faults.Read) (start letters)
unfolding copy_table test_readable
reads_past_the_end = refl

writes_past_dynamic_memory : copy_table here 106 68 77 4 (start letters)
    ≡ halt (places.Fault faults.Write) (start letters)
unfolding copy_table write_table test_writable test_readable spend_for
writes_past_dynamic_memory = refl

writes_the_header : copy_table here 106 68 63 2 (start letters) ≡ halt (places.Fault faults.Write) (start letters)
unfolding copy_table write_table test_writable test_readable spend_for
writes_the_header = refl

abbrev printed : List ℕ → List ℕ → State
printed table text = record (start table) { text = text }

prints_a_rectangle : print_table default_characters here 106 68 3 2 2 0 (start letters)
    ≡ done there (printed letters (codes "abc" ++ 10 ∷ codes "fgh"))
unfolding print_table test_readable rows print_each print_whole spend_for
prints_a_rectangle = refl

-- from column 3 on
prints_in_column : print_table default_characters here 106 68 3 2 2 2 (start letters)
    ≡ done there (printed letters (codes "abc" ++ 10 ∷ codes "  fgh"))
unfolding print_table test_readable rows print_each print_whole spend_for
prints_in_column = refl

prints_one_row : print_table default_characters here 106 69 4 1 0 0 (start letters) ≡ done there (printed letters (codes "bcde"))
unfolding print_table test_readable rows print_each print_whole spend_for
prints_one_row = refl

prints_empty_rows : print_table default_characters here 106 300 0 3 1 0 (start letters) ≡ done there (printed letters (10 ∷ 10 ∷ []))
unfolding print_table test_readable rows print_each print_whole spend_for
prints_empty_rows = refl

prints_no_row : print_table default_characters here 106 300 7 0 1 0 (start letters) ≡ done there (start letters)
unfolding print_table test_readable rows print_each print_whole spend_for
prints_no_row = refl

abbrev odd : List ℕ
odd = 0 ∷ 9 ∷ 11 ∷ 13 ∷ 31 ∷ 127 ∷ 126 ∷ 155 ∷ 0 ∷ 0 ∷ 0 ∷ 0 ∷ []

prints_other_characters : print_table default_characters here 106 68 8 1 0 0 (start odd)
    ≡ done there (printed odd (32 ∷ 32 ∷ 32 ∷ 10 ∷ 63 ∷ 63 ∷ 126 ∷ 0xC3 ∷ 0xA4 ∷ []))
unfolding print_table test_readable rows print_each print_whole spend_for
prints_other_characters = refl

-- the last row ends after the story, and nothing is printed
prints_past_the_end : print_table default_characters here 106 80 2 2 1 0 (start letters)
    ≡ halt (places.Fault faults.Read) (start letters)
unfolding print_table test_readable
prints_past_the_end = refl
