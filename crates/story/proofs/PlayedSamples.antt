-- Small stories, computed: what the machine prints.
use Rattle.std.proofs.Common.{◌≡◌, [], ◌∷◌, ◌++◌, take, drop, Some, refl}
use Rattle.std.specs.Prelude.{codes, option_map}
use Rattle.ztext.specs.Abbreviations.{encoded_with}
use Rattle.ztext.specs.Alphabets.{spelling_of}
use Rattle.ztext.specs.Reading.{reads}
use Rattle.ztext.specs.Text.{encoded, decoded, abbreviation}
use Rattle.ztext.specs.Words.{packed, unpacked_text}
use Rattle.zcore.specs.declared.header.Version.TheVariants.{V5, V8}
use Rattle.zcore.specs.declared.place.Place.TheVariants as places
use Rattle.zcore.specs.Arithmetic.{signed_text, decimal}
use Rattle.zcore.specs.Instruction.{decode, opcode, operands, operand, byte, large, result_variable, branch}
use Rattle.zcore.specs.InstructionBytes.{bytes_of}
use Rattle.zcore.specs.Parts.{read_in_place, write_in_place, push, pop, read_local, write_local, read_global}
use Rattle.zcore.specs.Parts.{write_global, read_variable, write_variable, test_variable, test_pull, operand_value}
use Rattle.zcore.specs.Parts.{operand_values, test_result, store_result, test_target, spend, go, test_routine}
use Rattle.zcore.specs.Parts.{read_word, read_byte, test_calls, enter, call, test_return, leave, give_back, take_branch}
use Rattle.zcore.specs.Parts.{branch_on, print}
use Rattle.zcore.specs.Execution.{step, perform, push_word, pull, load_word, load_byte, call_packed, return_popped}
use Rattle.zcore.specs.Execution.{print_characters, print_inline, print_packed, text_at, give_result}
use Rattle.zcore.specs.Turn.{opening, turn_from, weight}
use Rattle.syntax_trees.specs.declared.tree.Binary.TheVariants as binaries
use Rattle.syntax_trees.specs.declared.tree.Width.TheVariants as widths
use Rattle.meaning.specs.declared.resolved.Variable.TheVariants as variables
use Rattle.meaning.specs.Meaning.{meaning}
use Rattle.meaning.specs.Resolved.{ProgramOf, binary, call as calls, effect, entry, more, none, number, number_of}
use Rattle.meaning.specs.Resolved.{print as prints, read, stop, text, next}
use Rattle.story_file.specs.Layout.{array_addresses, packed_addresses, story_of}
use Rattle.story.proofs.Samples.{no_defaults, shown}

-- `[ Main; print 1/0; ];`, with two globals
abbrev division : ProgramOf
division = record {
  globals = 7 ∷ 1000 ∷ [];
  arrays = [];
  defaults = no_defaults;
  objects = [];
  keys = [];
  abbreviations = [];
  routines = record {
    locals = 0;
    body = next (prints (number_of (binary binaries.Divide (number 1) (number 0)) ∷ [])) stop;
  } ∷ [];
  main = 0;
}

-- Main at 876: the fault's 4 bytes, for a number is no divisor that is tested; print_num sp; rtrue
division_code : take 12 (drop 876 (story_of V5 division))
    ≡ 0 ∷ 141 ∷ 0 ∷ 222 ∷ 186 ∷ 230 ∷ 191 ∷ 0 ∷ 176 ∷ 0 ∷ 0 ∷ 0 ∷ []
unfolding story_of bytes_of encoded packed spelling_of
division_code = refl

division_globals : take 6 (drop 258 (story_of V5 division)) ≡ 0 ∷ 7 ∷ 3 ∷ 232 ∷ 0 ∷ 0 ∷ []
unfolding story_of bytes_of encoded packed spelling_of
division_globals = refl

-- 1,108 bytes, whose sum is 35,324; that of the globals' bytes is 242
division_header : take 6 (drop 24 (story_of V5 division)) ≡ 0 ∷ 64 ∷ 1 ∷ 21 ∷ 137 ∷ 252 ∷ []
unfolding story_of bytes_of encoded packed spelling_of
division_header = refl

division_played : option_map shown (opening (story_of V5 division) 1000000)
    ≡ Some (places.Quit, 10 ∷ codes "[Fault: division by zero]" ++ 10 ∷ [])
unfolding story_of bytes_of encoded packed spelling_of opening turn_from weight step perform call_packed push_word
    pull print_packed print_characters text_at decoded abbreviation reads unpacked_text decode opcode operands
    operand byte large result_variable branch operand_values operand_value read_in_place write_in_place read_variable
    write_variable read_global write_global pop push test_variable test_pull test_routine test_calls enter call
    test_return leave give_back spend go take_branch branch_on test_target print
division_played = refl

division_meant : (meaning division 1000000 []).texts ≡ (10 ∷ codes "[Fault: division by zero]" ++ 10 ∷ []) ∷ []
unfolding meaning
division_meant = refl

division_ends : (meaning division 1000000 []).place ≡ places.Quit
unfolding meaning
division_ends = refl

-- `[ Main; f(3); ]; [ f x; print x, "!^"; ];`
abbrev calling : ProgramOf
calling = record {
  globals = [];
  arrays = [];
  defaults = no_defaults;
  objects = [];
  keys = [];
  abbreviations = [];
  routines = record { locals = 0; body = next (effect (calls 1 (more (number 3) none))) stop }
      ∷ record {
        locals = 1;
        body = next (prints (number_of (read (variables.Local 0)) ∷ text (codes "!^") ∷ []))
            stop;
      }
      ∷ [];
  main = 0;
}

-- Main has 7 bytes at 880 in version 8, and f 10 at 888
calling_addresses : packed_addresses 8 calling ≡ 110 ∷ 111 ∷ 113 ∷ 117 ∷ 120 ∷ 124 ∷ 128 ∷ 132 ∷ 136 ∷ 139 ∷ []
unfolding bytes_of encoded packed spelling_of encoded_with
calling_addresses = refl

-- call_2n f 3; rtrue, and then print_num x; print; rtrue
calling_code : take 18 (drop 880 (story_of V8 calling))
    ≡ 0 ∷ 218 ∷ 31 ∷ 0 ∷ 111 ∷ 3 ∷ 176 ∷ 0
    ∷ 1 ∷ 230 ∷ 191 ∷ 1 ∷ 178 ∷ 22 ∷ 133 ∷ 156 ∷ 165 ∷ 176 ∷ []
unfolding story_of bytes_of encoded packed spelling_of encoded_with
calling_code = refl

calling_played : option_map shown (opening (story_of V8 calling) 1000000) ≡ Some (places.Quit, codes "3!" ++ 10 ∷ [])
unfolding story_of bytes_of encoded packed spelling_of encoded_with opening turn_from weight step perform call_packed
    push_word pull return_popped print_inline print_packed print_characters text_at decoded abbreviation reads
    unpacked_text decode opcode operands operand byte large result_variable branch operand_values operand_value
    read_in_place write_in_place read_variable write_variable read_local write_local read_global write_global pop push
    test_variable test_pull test_routine test_calls enter call test_return leave give_back spend go take_branch
    branch_on test_target test_result store_result print signed_text decimal
calling_played = refl

calling_meant : (meaning calling 1000000 []).texts ≡ (codes "3!" ++ 10 ∷ []) ∷ []
unfolding meaning signed_text decimal
calling_meant = refl

-- `Array w --> 1 2 300; Array s string 'a' 'b'; Array t table 5 6; [ Main; print w-->2, s->0, t-->1; ];`
abbrev arrays : ProgramOf
arrays = record {
  globals = [];
  arrays = (0 ∷ 1 ∷ 0 ∷ 2 ∷ 1 ∷ 44 ∷ []) ∷ (2 ∷ 97 ∷ 98 ∷ []) ∷ (0 ∷ 2 ∷ 0 ∷ 5 ∷ 0 ∷ 6 ∷ []) ∷ [];
  defaults = no_defaults;
  objects = [];
  keys = [];
  abbreviations = [];
  routines = record {
    locals = 0;
    body = next (prints (number_of (entry widths.Word 0 (number 2)) ∷ number_of (entry widths.Byte 1 (number 0))
        ∷ number_of (entry widths.Word 2 (number 1)) ∷ [])) stop;
  } ∷ [];
  main = 0;
}

arrays_stand : array_addresses arrays ≡ 738 ∷ 744 ∷ 747 ∷ []
arrays_stand = refl

arrays_laid_out : take 15 (drop 738 (story_of V5 arrays))
    ≡ (0 ∷ 1 ∷ 0 ∷ 2 ∷ 1 ∷ 44 ∷ []) ++ (2 ∷ 97 ∷ 98 ∷ []) ++ (0 ∷ 2 ∷ 0 ∷ 5 ∷ 0 ∷ 6 ∷ [])
unfolding story_of bytes_of encoded packed spelling_of
arrays_laid_out = refl

-- what stands after them is moved by 15 bytes: the code that begins at 886, the dictionary at 879, the defaults at 753
arrays_header : take 12 (drop 4 (story_of V5 arrays)) ≡ 3 ∷ 118 ∷ 3 ∷ 118 ∷ 3 ∷ 111 ∷ 2 ∷ 241 ∷ 1 ∷ 2 ∷ 3 ∷ 111 ∷ []
unfolding story_of bytes_of encoded packed spelling_of
arrays_header = refl

-- Main at 892: loadw 738 2, loadb 744 0 and loadw 747 1, each with print_num sp; and rtrue
arrays_code : take 29 (drop 892 (story_of V5 arrays))
    ≡ 0 ∷ 207 ∷ 31 ∷ 2 ∷ 226 ∷ 2 ∷ 0 ∷ 230 ∷ 191 ∷ 0 ∷ 208 ∷ 31 ∷ 2 ∷ 232 ∷ 0 ∷ 0 ∷ 230 ∷ 191 ∷ 0
    ∷ 207 ∷ 31 ∷ 2 ∷ 235 ∷ 1 ∷ 0 ∷ 230 ∷ 191 ∷ 0 ∷ 176 ∷ []
unfolding story_of bytes_of encoded packed spelling_of
arrays_code = refl

arrays_played : option_map shown (opening (story_of V5 arrays) 1000000) ≡ Some (places.Quit, codes "30025")
unfolding story_of bytes_of encoded packed spelling_of opening turn_from weight step perform call_packed push_word pull
    load_word load_byte read_word read_byte give_result print_characters decode opcode operands operand byte large
    result_variable branch operand_values operand_value read_in_place write_in_place read_variable write_variable
    read_local write_local read_global write_global pop push test_variable test_pull test_routine test_calls enter call
    test_return leave give_back spend go take_branch branch_on test_target test_result store_result print signed_text
    decimal
arrays_played = refl

arrays_meant : (meaning arrays 1000000 []).texts ≡ codes "30025" ∷ []
unfolding meaning signed_text decimal
arrays_meant = refl
