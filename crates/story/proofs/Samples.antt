-- Small stories, computed: their bytes, and sources that are too large.
use Rattle.std.proofs.Common.{◌≡◌, ℕ, List, [], ◌∷◌, ◌++◌, length, Some, None, refl}
use Rattle.std.specs.Prelude.{codes, option_map, replicate}
use Rattle.std.specs.List.{flat_map}
use Rattle.ztext.specs.Alphabets.{spelling_of}
use Rattle.ztext.specs.Text.{encoded}
use Rattle.ztext.specs.Words.{packed}
use Rattle.zcore.specs.declared.header.Version.TheVariants.{V5, V8}
use Rattle.zcore.specs.declared.place.Place.{Place}
use Rattle.zcore.specs.declared.place.Place.TheVariants as places
use Rattle.zcore.specs.Instruction.{decode, opcode, operands, operand, byte, large, result_variable, branch}
use Rattle.zcore.specs.InstructionBytes.{bytes_of}
use Rattle.zcore.specs.Parts.{read_in_place, push, pop, read_variable, operand_value, operand_values, store_result}
use Rattle.zcore.specs.Parts.{spend, go, test_routine, test_calls, enter, call, test_return, leave, give_back}
use Rattle.zcore.specs.Execution.{step, perform, call_packed}
use Rattle.zcore.specs.Turn.{Whole, opening, turn_from, weight}
use Rattle.syntax_statements.specs.Tree as trees
use Rattle.syntax_directives.specs.Tree.{routine}
use Rattle.syntax.specs.Tree.{ProgramTree}
use Rattle.meaning.specs.Meaning.{meaning}
use Rattle.meaning.specs.Resolved.{ProgramOf, number, stop, text}
use Rattle.checker_values.specs.Names.{table_of}
use Rattle.checker_values.specs.Names as names
use Rattle.checker.specs.Programs.{resolve_program, resolve_with}
use Rattle.story_file.specs.Layout.{abbreviation_bytes, abbreviation_texts, fault_texts, low_bytes, packed_addresses}
use Rattle.story_file.specs.Layout.{story_of}
use Rattle.story.specs.Refused.{tree_size_fault}

texts : fault_texts
    ≡ (20 ∷ 229 ∷ 24 ∷ 91 ∷ 17 ∷ 102 ∷ 106 ∷ 57 ∷ 23 ∷ 160 ∷ 37 ∷ 219 ∷ 59 ∷ 14 ∷ 82 ∷ 96 ∷ 31 ∷ 192 ∷ 125 ∷ 87
    ∷ 80 ∷ 166 ∷ 11 ∷ 165 ∷ 156 ∷ 165 ∷ [])
    ∷ (20 ∷ 229 ∷ 24 ∷ 91 ∷ 17 ∷ 102 ∷ 106 ∷ 57 ∷ 23 ∷ 160 ∷ 78 ∷ 153 ∷ 0 ∷ 211 ∷ 2 ∷ 135 ∷ 61 ∷ 72 ∷ 100 ∷ 166
    ∷ 11 ∷ 165 ∷ 156 ∷ 165 ∷ [])
    ∷ (20 ∷ 229 ∷ 24 ∷ 91 ∷ 17 ∷ 102 ∷ 106 ∷ 57 ∷ 23 ∷ 160 ∷ 58 ∷ 105 ∷ 43 ∷ 160 ∷ 83 ∷ 89 ∷ 2 ∷ 139 ∷ 2 ∷ 230
    ∷ 77 ∷ 138 ∷ 20 ∷ 194 ∷ 244 ∷ 167 ∷ [])
    ∷ (20 ∷ 229 ∷ 24 ∷ 91 ∷ 17 ∷ 102 ∷ 106 ∷ 57 ∷ 23 ∷ 160 ∷ 78 ∷ 128 ∷ 99 ∷ 72 ∷ 52 ∷ 21 ∷ 94 ∷ 149 ∷ 42 ∷ 249
    ∷ 120 ∷ 166 ∷ 11 ∷ 165 ∷ 156 ∷ 165 ∷ [])
    ∷ (20 ∷ 229 ∷ 24 ∷ 91 ∷ 17 ∷ 102 ∷ 106 ∷ 57 ∷ 23 ∷ 160 ∷ 86 ∷ 244 ∷ 85 ∷ 87 ∷ 103 ∷ 192 ∷ 81 ∷ 96 ∷ 72 ∷ 211
    ∷ 120 ∷ 28 ∷ 82 ∷ 233 ∷ 96 ∷ 166 ∷ 11 ∷ 165 ∷ 156 ∷ 165 ∷ [])
    ∷ (20 ∷ 229 ∷ 24 ∷ 91 ∷ 17 ∷ 102 ∷ 106 ∷ 57 ∷ 23 ∷ 160 ∷ 80 ∷ 239 ∷ 41 ∷ 25 ∷ 1 ∷ 211 ∷ 97 ∷ 201 ∷ 40 ∷ 14
    ∷ 103 ∷ 10 ∷ 69 ∷ 101 ∷ 24 ∷ 93 ∷ 148 ∷ 229 ∷ [])
    ∷ (20 ∷ 229 ∷ 24 ∷ 91 ∷ 17 ∷ 102 ∷ 106 ∷ 57 ∷ 23 ∷ 160 ∷ 78 ∷ 153 ∷ 0 ∷ 192 ∷ 33 ∷ 166 ∷ 92 ∷ 200 ∷ 101 ∷ 87
    ∷ 20 ∷ 194 ∷ 244 ∷ 167 ∷ [])
    ∷ (20 ∷ 229 ∷ 24 ∷ 91 ∷ 17 ∷ 102 ∷ 106 ∷ 57 ∷ 23 ∷ 160 ∷ 31 ∷ 75 ∷ 45 ∷ 87 ∷ 3 ∷ 52 ∷ 80 ∷ 24 ∷ 72 ∷ 209
    ∷ 68 ∷ 166 ∷ 11 ∷ 165 ∷ 156 ∷ 165 ∷ [])
    ∷ []
unfolding encoded packed spelling_of
texts = refl

abbrev pub no_defaults : List ℕ
no_defaults = replicate 63 0

-- `[ Main; ];`: one routine that does nothing, of 2 bytes: no locals, rtrue
abbrev nothing : ProgramOf
nothing = record {
  globals = [];
  arrays = [];
  defaults = no_defaults;
  objects = [];
  keys = [];
  abbreviations = [];
  routines = record { locals = 0; body = stop } ∷ [];
  main = 0;
}

low : length (low_bytes nothing 219) ≡ 811
unfolding bytes_of encoded packed
low = refl

-- `Abbreviate "in" "the ";` before it: its dictionary ends at 871, so a byte stands before the texts, at 872 and 874
abbrev shortened : ProgramOf
shortened = record nothing {
  abbreviations = (105 ∷ 110 ∷ []) ∷ (116 ∷ 104 ∷ 101 ∷ 32 ∷ []) ∷ [];
}

texts_from_an_odd_address : abbreviation_texts shortened ≡ 0 ∷ 186 ∷ 101 ∷ 101 ∷ 170 ∷ 128 ∷ 165 ∷ []
unfolding encoded packed spelling_of
texts_from_an_odd_address = refl

table_halved : abbreviation_bytes shortened
    ≡ 1 ∷ 180 ∷ 1 ∷ 181 ∷ flat_map (λ (n : ℕ). 0 ∷ n ∷ []) (replicate 94 128)
unfolding encoded packed spelling_of
table_halved = refl

-- and with an array of one byte its dictionary ends at 872: none stands before them, and the table is the same
abbrev shortened_behind_a_byte : ProgramOf
shortened_behind_a_byte = record shortened { arrays = (7 ∷ []) ∷ [] }

texts_from_an_even_address : abbreviation_texts shortened_behind_a_byte ≡ 186 ∷ 101 ∷ 101 ∷ 170 ∷ 128 ∷ 165 ∷ []
unfolding encoded packed spelling_of
texts_from_an_even_address = refl

table_behind_a_byte : abbreviation_bytes shortened_behind_a_byte ≡ abbreviation_bytes shortened
unfolding encoded packed spelling_of
table_behind_a_byte = refl

-- the routine at 876 and the texts from 880 on in version 5; at 880 and from 888 on in version 8
addresses_of_5 : packed_addresses 4 nothing ≡ 219 ∷ 220 ∷ 227 ∷ 233 ∷ 240 ∷ 247 ∷ 255 ∷ 262 ∷ 268 ∷ []
unfolding bytes_of encoded packed spelling_of
addresses_of_5 = refl

addresses_of_8 : packed_addresses 8 nothing ≡ 110 ∷ 111 ∷ 115 ∷ 118 ∷ 122 ∷ 126 ∷ 130 ∷ 134 ∷ 137 ∷ []
unfolding bytes_of encoded packed spelling_of
addresses_of_8 = refl

-- the whole story in version 5: 1,100 bytes, whose sum is 34,112
nothing_laid_out : story_of V5 nothing
    ≡ (5 ∷ 0 ∷ 0 ∷ 1 ∷ 3 ∷ 103 ∷ 3 ∷ 103 ∷ 3 ∷ 96 ∷ 2 ∷ 226 ∷ 1 ∷ 2 ∷ 3 ∷ 96 ∷ 0 ∷ 0 ∷ 48 ∷ 48 ∷ 48 ∷ 48 ∷ 48 ∷ 48 ∷ 0
    ∷ 64 ∷ 1 ∷ 19 ∷ 133 ∷ 64 ∷ [])
    ++ replicate 34 0
    ++ flat_map (λ (n : ℕ). 0 ∷ n ∷ []) (replicate 96 128)
    ++ (148 ∷ 165 ∷ [])
    ++ replicate 606 0
    ++ (3 ∷ 46 ∷ 44 ∷ 34 ∷ 9 ∷ 0 ∷ 0 ∷ [])
    ++ (143 ∷ 0 ∷ 219 ∷ 186 ∷ 0 ∷ [])
    ++ (0 ∷ 176 ∷ 0 ∷ 0 ∷ [])
    ++ (20 ∷ 229 ∷ 24 ∷ 91 ∷ 17 ∷ 102 ∷ 106 ∷ 57 ∷ 23 ∷ 160 ∷ 37 ∷ 219 ∷ 59 ∷ 14 ∷ 82 ∷ 96 ∷ 31 ∷ 192 ∷ 125 ∷ 87
    ∷ 80 ∷ 166 ∷ 11 ∷ 165 ∷ 156 ∷ 165 ∷ 0 ∷ 0 ∷ [])
    ++ (20 ∷ 229 ∷ 24 ∷ 91 ∷ 17 ∷ 102 ∷ 106 ∷ 57 ∷ 23 ∷ 160 ∷ 78 ∷ 153 ∷ 0 ∷ 211 ∷ 2 ∷ 135 ∷ 61 ∷ 72 ∷ 100 ∷ 166
    ∷ 11 ∷ 165 ∷ 156 ∷ 165 ∷ [])
    ++ (20 ∷ 229 ∷ 24 ∷ 91 ∷ 17 ∷ 102 ∷ 106 ∷ 57 ∷ 23 ∷ 160 ∷ 58 ∷ 105 ∷ 43 ∷ 160 ∷ 83 ∷ 89 ∷ 2 ∷ 139 ∷ 2 ∷ 230
    ∷ 77 ∷ 138 ∷ 20 ∷ 194 ∷ 244 ∷ 167 ∷ 0 ∷ 0 ∷ [])
    ++ (20 ∷ 229 ∷ 24 ∷ 91 ∷ 17 ∷ 102 ∷ 106 ∷ 57 ∷ 23 ∷ 160 ∷ 78 ∷ 128 ∷ 99 ∷ 72 ∷ 52 ∷ 21 ∷ 94 ∷ 149 ∷ 42 ∷ 249
    ∷ 120 ∷ 166 ∷ 11 ∷ 165 ∷ 156 ∷ 165 ∷ 0 ∷ 0 ∷ [])
    ++ (20 ∷ 229 ∷ 24 ∷ 91 ∷ 17 ∷ 102 ∷ 106 ∷ 57 ∷ 23 ∷ 160 ∷ 86 ∷ 244 ∷ 85 ∷ 87 ∷ 103 ∷ 192 ∷ 81 ∷ 96 ∷ 72 ∷ 211
    ∷ 120 ∷ 28 ∷ 82 ∷ 233 ∷ 96 ∷ 166 ∷ 11 ∷ 165 ∷ 156 ∷ 165 ∷ 0 ∷ 0 ∷ [])
    ++ (20 ∷ 229 ∷ 24 ∷ 91 ∷ 17 ∷ 102 ∷ 106 ∷ 57 ∷ 23 ∷ 160 ∷ 80 ∷ 239 ∷ 41 ∷ 25 ∷ 1 ∷ 211 ∷ 97 ∷ 201 ∷ 40 ∷ 14
    ∷ 103 ∷ 10 ∷ 69 ∷ 101 ∷ 24 ∷ 93 ∷ 148 ∷ 229 ∷ [])
    ++ (20 ∷ 229 ∷ 24 ∷ 91 ∷ 17 ∷ 102 ∷ 106 ∷ 57 ∷ 23 ∷ 160 ∷ 78 ∷ 153 ∷ 0 ∷ 192 ∷ 33 ∷ 166 ∷ 92 ∷ 200 ∷ 101 ∷ 87
    ∷ 20 ∷ 194 ∷ 244 ∷ 167 ∷ [])
    ++ (20 ∷ 229 ∷ 24 ∷ 91 ∷ 17 ∷ 102 ∷ 106 ∷ 57 ∷ 23 ∷ 160 ∷ 31 ∷ 75 ∷ 45 ∷ 87 ∷ 3 ∷ 52 ∷ 80 ∷ 24 ∷ 72 ∷ 209
    ∷ 68 ∷ 166 ∷ 11 ∷ 165 ∷ 156 ∷ 165 ∷ 0 ∷ 0 ∷ [])
unfolding story_of bytes_of encoded packed spelling_of
nothing_laid_out = refl

-- what the machine and the meaning give
abbrev pub shown : Whole → Place × List ℕ
shown whole = (whole.place, whole.text)

nothing_played : option_map shown (opening (story_of V5 nothing) 1000000) ≡ Some (places.Quit, [])
unfolding story_of bytes_of encoded packed spelling_of opening turn_from weight step perform call_packed decode
    opcode operands operand byte large result_variable branch operand_values operand_value read_in_place
    read_variable pop push test_routine test_calls enter call test_return leave give_back spend go store_result
nothing_played = refl

nothing_played_8 : option_map shown (opening (story_of V8 nothing) 1000000) ≡ Some (places.Quit, [])
unfolding story_of bytes_of encoded packed spelling_of opening turn_from weight step perform call_packed decode
    opcode operands operand byte large result_variable branch operand_values operand_value read_in_place
    read_variable pop push test_routine test_calls enter call test_return leave give_back spend go store_result
nothing_played_8 = refl

nothing_meant : (meaning nothing 1000000 []).texts ≡ [] ∷ []
unfolding meaning
nothing_meant = refl

nothing_ends : (meaning nothing 1000000 []).place ≡ places.Quit
unfolding meaning
nothing_ends = refl

-- sources that are too large: of this weight, with a routine of that weight whose name stands in line 3
abbrev weighing : ℕ → ℕ → ProgramTree
weighing source one = record {
  directives = routine (record {
    name = record { text = codes "main"; position = record { offset = 9; line = 3 } };
    locals = [];
    body = trees.stop;
    weight = one;
  }) ∷ [];
  abbreviations = [];
  end = record { offset = 20; line = 4 };
  weight = source;
  words = [];
}

small_source : tree_size_fault V5 (weighing 190000 32000) ≡ None
unfolding resolve_program resolve_with table_of names.key_of
small_source = refl

large_source : tree_size_fault V5 (weighing 190001 32001) ≡ Some (record { number = 31; line = 0 })
unfolding resolve_program resolve_with table_of names.key_of
large_source = refl

large_source_8 : tree_size_fault V8 (weighing 450001 32000) ≡ Some (record { number = 31; line = 0 })
unfolding resolve_program resolve_with table_of names.key_of
large_source_8 = refl

large_routine : tree_size_fault V8 (weighing 190001 32001) ≡ Some (record { number = 32; line = 3 })
unfolding resolve_program resolve_with table_of names.key_of
large_routine = refl
