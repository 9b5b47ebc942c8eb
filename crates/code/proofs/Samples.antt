-- Bytes of items, computed, and the forms of branches.
use Rattle.std.proofs.Common.{◌≡◌, ℕ, ◌+◌, List, [], ◌∷◌, refl, true, false, Some, None}
use Rattle.std.specs.Prelude.{codes, replicate}
use Rattle.ztext.specs.Alphabets.{spelling_of}
use Rattle.ztext.specs.Words.{packed}
use Rattle.ztext.specs.Abbreviations.{encoded_with}
use Rattle.zcore.specs.InstructionBytes.{bytes_of}
use Rattle.syntax_trees.specs.declared.tree.Binary.TheVariants as binaries
use Rattle.syntax_trees.specs.declared.tree.Step.TheVariants as steps
use Rattle.syntax_trees.specs.declared.tree.Width.TheVariants as widths
use Rattle.meaning.specs.declared.resolved.Variable.{Variable}
use Rattle.meaning.specs.declared.resolved.Variable.TheVariants as variables
use Rattle.code_drafts.specs.Items.{Item, pushed, number, variable, push, into, aside, nowhere, is_zero, less, greater}
use Rattle.code_drafts.specs.Items.{same, move, operate, operate_aside, step, entry, assign_entry, print_text}
use Rattle.code_drafts.specs.Items.{entry_aside, assign_entry_aside}
use Rattle.code_drafts.specs.Items.{read_line, branch, branch_back, case, jump, call, return, quit}
use Rattle.code_drafts.specs.declared.layout.Form.TheVariants.{One, Two, Far}
use Rattle.code_drafts.specs.declared.layout.Part.{Part}
use Rattle.code_drafts.specs.declared.layout.BranchUse.{BranchUse}
use Rattle.code_drafts.specs.Layout.{uses}
use Rattle.code_drafts.specs.Addresses.{Addresses, Sizes}
use Rattle.code.specs.ItemBytes.{item_bytes}
use Rattle.code.specs.Bytes.{parts_of, code_bytes, is_near}
use Rattle.code.specs.HeldProgram.{start_code}

abbrev pub a : Addresses
a = record {
  routines = 300 ∷ 400 ∷ [];
  arrays = 560 ∷ 570 ∷ [];
  faults = 515 ∷ 516 ∷ 517 ∷ 518 ∷ 519 ∷ 521 ∷ 520 ∷ 522 ∷ [];
}

-- arrays of 10 bytes and of 600, and 3 objects, in which the property 2 has one word
abbrev pub sizes : Sizes
sizes = record {
  arrays = 10 ∷ 600 ∷ [];
  objects = 3;
  abbreviations = [];
  singles = false ∷ false ∷ true ∷ [];
}

abbrev pub x : Variable
x = variables.Local 0

abbrev pub y : Variable
y = variables.Local 1

abbrev g : Variable
g = variables.Global 0

abbrev pub written : Item → List ℕ
written = item_bytes sizes a 0

-- add y 5 -> x
adds : written (operate binaries.Add (variable y) (number 5) (into x)) ≡ 84 ∷ 2 ∷ 5 ∷ 1 ∷ []
unfolding bytes_of
adds = refl

-- pull T; sub sp T -> sp
subtracts : written (operate binaries.Subtract pushed pushed push) ≡ 233 ∷ 127 ∷ 248 ∷ 117 ∷ 0 ∷ 248 ∷ 0 ∷ []
unfolding bytes_of
subtracts = refl

-- div x 2 -> sp
halves : written (operate binaries.Divide (variable x) (number 2) push) ≡ 87 ∷ 1 ∷ 2 ∷ 0 ∷ []
unfolding bytes_of
halves = refl

-- jz y over 4 bytes; print_paddr; quit; div x y -> sp
divides : written (operate binaries.Divide (variable x) (variable y) push)
    ≡ 160 ∷ 2 ∷ 70 ∷ 141 ∷ 2 ∷ 3 ∷ 186 ∷ 119 ∷ 1 ∷ 2 ∷ 0 ∷ []
unfolding bytes_of
divides = refl

-- loadb a 9 -> x
reads_byte : written (entry widths.Byte 0 (number 9) (into x)) ≡ 208 ∷ 31 ∷ 2 ∷ 48 ∷ 9 ∷ 1 ∷ []
unfolding bytes_of
reads_byte = refl

-- out of range: print_paddr; quit
reads_no_byte : written (entry widths.Byte 0 (number 10) (into x)) ≡ 141 ∷ 2 ∷ 5 ∷ 186 ∷ []
unfolding bytes_of
reads_no_byte = refl

-- jl y 0 ?fault; jl y 5 over the fault: print_paddr; quit; loadw a y -> x
reads_word : written (entry widths.Word 0 (variable y) (into x))
    ≡ 66 ∷ 2 ∷ 0 ∷ 198 ∷ 66 ∷ 2 ∷ 5 ∷ 198 ∷ 141 ∷ 2 ∷ 5 ∷ 186 ∷ 207 ∷ 47 ∷ 2 ∷ 48 ∷ 2 ∷ 1 ∷ []
unfolding bytes_of
reads_word = refl

-- pull T; jl T 0 ?fault; jl T 600 over the fault: print_paddr; quit; loadb b T -> sp
reads_far : written (entry widths.Byte 1 pushed push)
    ≡ 233 ∷ 127 ∷ 248 ∷ 66 ∷ 248 ∷ 0 ∷ 200 ∷ 194 ∷ 143 ∷ 248 ∷ 2 ∷ 88 ∷ 198 ∷ 141 ∷ 2 ∷ 5 ∷ 186 ∷ 208 ∷ 47 ∷ 2 ∷ 58
    ∷ 248 ∷ 0 ∷ []
unfolding bytes_of
reads_far = refl

-- storew a 4 y
writes_word : written (assign_entry widths.Word 0 (number 4) (variable y) nowhere)
    ≡ 225 ∷ 27 ∷ 2 ∷ 48 ∷ 4 ∷ 2 ∷ []
unfolding bytes_of
writes_word = refl

-- pull U; pull T; jl T 0 ?fault; jl T 10 over the fault: print_paddr; quit; storeb a T U; push U
writes_byte : written (assign_entry widths.Byte 0 pushed pushed push)
    ≡ 233 ∷ 127 ∷ 249 ∷ 233 ∷ 127 ∷ 248 ∷ 66 ∷ 248 ∷ 0 ∷ 198 ∷ 66 ∷ 248 ∷ 10 ∷ 198 ∷ 141 ∷ 2 ∷ 5 ∷ 186
    ∷ 226 ∷ 43 ∷ 2 ∷ 48 ∷ 248 ∷ 249 ∷ 232 ∷ 191 ∷ 249 ∷ []
unfolding bytes_of
writes_byte = refl

-- jl V 0 ?fault; jl V 5 over the fault: print_paddr; quit; loadw a V -> x
reads_aside : written (entry_aside widths.Word 0 (into x))
    ≡ 66 ∷ 255 ∷ 0 ∷ 198 ∷ 66 ∷ 255 ∷ 5 ∷ 198 ∷ 141 ∷ 2 ∷ 5 ∷ 186 ∷ 207 ∷ 47 ∷ 2 ∷ 48 ∷ 255 ∷ 1 ∷ []
unfolding bytes_of
reads_aside = refl

-- storew a 4 V; jl y 0 ?fault; jl y 5 over the fault: print_paddr; quit; storew a y V
writes_aside : written (assign_entry_aside widths.Word 0 (number 4) pushed nowhere)
    ∷ written (assign_entry_aside widths.Word 0 (variable y) pushed nowhere) ∷ []
    ≡ (225 ∷ 27 ∷ 2 ∷ 48 ∷ 4 ∷ 255 ∷ [])
    ∷ (66 ∷ 2 ∷ 0 ∷ 198 ∷ 66 ∷ 2 ∷ 5 ∷ 198 ∷ 141 ∷ 2 ∷ 5 ∷ 186 ∷ 225 ∷ 43 ∷ 2 ∷ 48 ∷ 2 ∷ 255 ∷ []) ∷ []
unfolding bytes_of
writes_aside = refl

-- jl V 0 ?fault; jl V 5 over the fault: print_paddr; quit; storew a V 7
writes_at_aside : written (assign_entry_aside widths.Word 0 pushed (number 7) nowhere)
    ≡ 66 ∷ 255 ∷ 0 ∷ 198 ∷ 66 ∷ 255 ∷ 5 ∷ 198 ∷ 141 ∷ 2 ∷ 5 ∷ 186 ∷ 225 ∷ 39 ∷ 2 ∷ 48 ∷ 255 ∷ 7 ∷ []
unfolding bytes_of
writes_at_aside = refl

-- pull T; jl T 0 ?fault; jl T 10 over the fault: print_paddr; quit; storeb a T V; push V
writes_byte_aside : written (assign_entry_aside widths.Byte 0 pushed pushed push)
    ≡ 233 ∷ 127 ∷ 248 ∷ 66 ∷ 248 ∷ 0 ∷ 198 ∷ 66 ∷ 248 ∷ 10 ∷ 198 ∷ 141 ∷ 2 ∷ 5 ∷ 186
    ∷ 226 ∷ 43 ∷ 2 ∷ 48 ∷ 248 ∷ 255 ∷ 232 ∷ 191 ∷ 255 ∷ []
unfolding bytes_of
writes_byte_aside = refl

-- loadb a 0 -> T; jl T 1 ?fault; jl T 9 over the fault: print_paddr; quit; the same of b, with 150 for 9; storeb a 1 0;
-- aread a b -> T
reads_line : written (read_line 0 1)
    ≡ 208 ∷ 31 ∷ 2 ∷ 48 ∷ 0 ∷ 248 ∷ 66 ∷ 248 ∷ 1 ∷ 198 ∷ 66 ∷ 248 ∷ 9 ∷ 198 ∷ 141 ∷ 2 ∷ 10 ∷ 186
    ∷ 208 ∷ 31 ∷ 2 ∷ 58 ∷ 0 ∷ 248 ∷ 66 ∷ 248 ∷ 1 ∷ 198 ∷ 66 ∷ 248 ∷ 150 ∷ 198 ∷ 141 ∷ 2 ∷ 10 ∷ 186
    ∷ 226 ∷ 23 ∷ 2 ∷ 48 ∷ 1 ∷ 0 ∷ 228 ∷ 15 ∷ 2 ∷ 48 ∷ 2 ∷ 58 ∷ 248 ∷ []
unfolding bytes_of
reads_line = refl

-- inc x
steps_up : written (step steps.Increment x nowhere) ≡ 149 ∷ 1 ∷ []
unfolding bytes_of
steps_up = refl

-- store x 7
stores : written (move (number 7) (into x)) ≡ 13 ∷ 1 ∷ 7 ∷ []
unfolding bytes_of
stores = refl

-- pull x
pulls : written (move pushed (into x)) ≡ 233 ∷ 127 ∷ 1 ∷ []
unfolding bytes_of
pulls = refl

-- call_vs F x g -> x
calls : written (call 0 (variable x ∷ variable g ∷ []) (into x)) ≡ 224 ∷ 43 ∷ 1 ∷ 44 ∷ 1 ∷ 16 ∷ 1 ∷ []
unfolding bytes_of
calls = refl

-- call_2s F x -> x; call_2n F 3
calls_with_one : written (call 0 (variable x ∷ []) (into x)) ∷ written (call 0 (number 3 ∷ []) nowhere) ∷ []
    ≡ (217 ∷ 47 ∷ 1 ∷ 44 ∷ 1 ∷ 1 ∷ []) ∷ (218 ∷ 31 ∷ 1 ∷ 44 ∷ 3 ∷ []) ∷ []
unfolding bytes_of
calls_with_one = refl

-- call_1n F
calls_alone : written (call 1 [] nowhere) ≡ 143 ∷ 1 ∷ 144 ∷ []
unfolding bytes_of
calls_alone = refl

-- rtrue; rfalse; ret 7; ret x; ret_popped
returns : written (return (number 1)) ∷ written (return (number 0)) ∷ written (return (number 7)) ∷ written
    (return (variable x)) ∷ written (return pushed) ∷ []
    ≡ (176 ∷ []) ∷ (177 ∷ []) ∷ (155 ∷ 7 ∷ []) ∷ (171 ∷ 1 ∷ []) ∷ (184 ∷ []) ∷ []
unfolding bytes_of
returns = refl

-- je x 1 2 3 ?L, one byte of branch data
compares : item_bytes sizes a 10 (branch same (variable x ∷ number 1 ∷ number 2 ∷ number 3 ∷ []) true 9)
    ≡ 193 ∷ 149 ∷ 1 ∷ 1 ∷ 2 ∷ 3 ∷ 202 ∷ []
unfolding bytes_of
compares = refl

-- pull V; store V 7; store V x
puts_aside : written (move pushed aside) ∷ written (move (number 7) aside) ∷ written (move (variable x) aside) ∷ []
    ≡ (233 ∷ 127 ∷ 255 ∷ []) ∷ (13 ∷ 255 ∷ 7 ∷ []) ∷ (45 ∷ 255 ∷ 1 ∷ []) ∷ []
unfolding bytes_of
puts_aside = refl

-- sub sp V -> sp
subtracts_aside : written (operate_aside binaries.Subtract pushed push) ≡ 117 ∷ 0 ∷ 255 ∷ 0 ∷ []
unfolding bytes_of
subtracts_aside = refl

-- jz V over 4 bytes; print_paddr; quit; div x V -> sp
divides_aside : written (operate_aside binaries.Divide (variable x) push)
    ≡ 160 ∷ 255 ∷ 70 ∷ 141 ∷ 2 ∷ 3 ∷ 186 ∷ 119 ∷ 1 ∷ 255 ∷ 0 ∷ []
unfolding bytes_of
divides_aside = refl

-- je V 1 2 300 ?L
cases_of_three : item_bytes sizes a 10 (case same (1 ∷ 2 ∷ 300 ∷ []) true 9)
    ≡ 193 ∷ 148 ∷ 255 ∷ 1 ∷ 2 ∷ 1 ∷ 44 ∷ 202 ∷ []
unfolding bytes_of
cases_of_three = refl

-- switch (x) { 1 to 3, 7: y++; default: y--; }
switches : code_bytes sizes a (move (variable x) aside ∷ case less (1 ∷ []) true 3 ∷ case greater (3 ∷ []) false 4
    ∷ case same (7 ∷ []) false 6 ∷ step steps.Increment y nowhere ∷ jump 7 ∷ step steps.Decrement y nowhere ∷ [])
    ≡ 45 ∷ 255 ∷ 1 ∷ 66 ∷ 255 ∷ 1 ∷ 198 ∷ 67 ∷ 255 ∷ 3 ∷ 70 ∷ 65 ∷ 255 ∷ 7 ∷ 71 ∷ 149 ∷ 2 ∷ 140 ∷ 0 ∷ 4 ∷ 150 ∷ 2
    ∷ []
unfolding bytes_of
switches = refl

-- jz g ?~L in two bytes
two_bytes : item_bytes sizes a 65 (branch is_zero (variable g ∷ []) false 9) ≡ 160 ∷ 16 ∷ 0 ∷ 65 ∷ []
unfolding bytes_of
two_bytes = refl

-- jz g over the jump; the jump
far_form : item_bytes sizes a 8193 (branch is_zero (variable g ∷ []) false 9) ≡ 160 ∷ 16 ∷ 197 ∷ 140 ∷ 32 ∷ 1 ∷ []
unfolding bytes_of
far_form = refl

-- do x++; until (x > 10);
leads_back : code_bytes sizes a (step steps.Increment x nowhere
    ∷ branch_back greater (variable x ∷ number 10 ∷ []) false 0 ∷ []) ≡ 149 ∷ 1 ∷ 67 ∷ 1 ∷ 10 ∷ 63 ∷ 251 ∷ []
unfolding bytes_of
leads_back = refl

-- jz g over the jump back; the jump, over 8,202 bytes
far_back : item_bytes sizes a (65536 + 57336) (branch_back is_zero (variable g ∷ []) true 0)
    ≡ 160 ∷ 16 ∷ 69 ∷ 140 ∷ 223 ∷ 248 ∷ []
unfolding bytes_of
far_back = refl

-- a branch back of three bytes, and so many others of one: 8,187 bytes at most, and 8,192
abbrev over_quits : ℕ → List Item
over_quits n = branch_back is_zero (variable g ∷ []) true 0 ∷ replicate n quit

near_most : is_near sizes (over_quits 1636) ≡ true
unfolding bytes_of
near_most = refl

far_least : is_near sizes (over_quits 1637) ≡ false
unfolding bytes_of
far_least = refl

-- without a branch back
none_back : is_near sizes (replicate 5000 quit) ≡ true
none_back = refl

prints : written (print_text (codes "hello")) ≡ 178 ∷ 53 ∷ 81 ∷ 198 ∷ 133 ∷ []
unfolding bytes_of encoded_with packed spelling_of
prints = refl

-- with "the" as the first abbreviation
prints_shorter : item_bytes (record sizes { abbreviations = codes "the" ∷ [] }) a 0 (print_text (codes "the"))
    ≡ 178 ∷ 132 ∷ 5 ∷ []
unfolding bytes_of encoded_with packed spelling_of
prints_shorter = refl

starts : start_code 300 ≡ 143 ∷ 1 ∷ 44 ∷ 186 ∷ []
unfolding bytes_of
starts = refl

-- Global x; [ Main; if (x) print "$..$"; print "end"; ];  with so many signs
abbrev asking : ℕ → List Item
asking n = branch is_zero (variable g ∷ []) true 2 ∷ print_text (replicate n 36) ∷ print_text (codes "end") ∷ return
    (number 1) ∷ []

abbrev one_use : BranchUse → List BranchUse
one_use u = u ∷ []

signs_1 : uses 0 (parts_of sizes (asking 1)) ≡ one_use (record { form = One; offset = 7 })
unfolding bytes_of encoded_with packed spelling_of
signs_1 = refl

signs_22 : uses 0 (parts_of sizes (asking 22)) ≡ one_use (record { form = One; offset = 63 })
unfolding bytes_of encoded_with packed spelling_of
signs_22 = refl

signs_23 : uses 0 (parts_of sizes (asking 23)) ≡ one_use (record { form = Two; offset = 65 })
unfolding bytes_of encoded_with packed spelling_of
signs_23 = refl

-- the same with 3,070 signs and with 3,071, where the text has 8,189 bytes and 8,191
abbrev over_text : ℕ → List Part
over_text size = record {
  size = 2;
  target = Some 2;
} ∷ record { size = size; target = None } ∷ record { size = 3; target = None } ∷ record { size = 1; target = None }
    ∷ []

signs_3070 : uses 0 (over_text 8189) ≡ one_use (record { form = Two; offset = 8191 })
signs_3070 = refl

signs_3071 : uses 0 (over_text 8191) ≡ one_use (record { form = Far; offset = 8193 })
signs_3071 = refl
