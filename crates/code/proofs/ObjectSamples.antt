-- Bytes of items on objects, computed.
use Rattle.std.proofs.Common.{◌≡◌, ℕ, List, [], ◌∷◌, ◌++◌, refl, true, false}
use Rattle.zcore.specs.InstructionBytes.{bytes_of}
use Rattle.syntax_trees.specs.declared.tree.Relative.TheVariants as relatives
use Rattle.code_drafts.specs.Items.{Item, pushed, number, variable, push, into, nowhere, relative, property}
use Rattle.code_drafts.specs.Items.{property_size, property_word, assign_property, assign_property_word, give}
use Rattle.code_drafts.specs.Items.{move_object, remove_object, print_name, is_in, has, provides, first_object}
use Rattle.code_drafts.specs.Items.{next_object}
use Rattle.code_drafts.specs.Addresses.{Sizes}
use Rattle.code.specs.ItemBytes.{item_bytes}
use Rattle.code.proofs.Samples.{a, sizes, x, y, written}

-- with the offset 10
abbrev branched : Item → List ℕ
branched = item_bytes sizes a 10

-- a program of so many objects
abbrev having : ℕ → Sizes
having n = record { arrays = []; objects = n; abbreviations = []; singles = [] }

-- jl v 1 ?fault; jl v 4 over the fault: print_paddr; quit
abbrev tests : ℕ → List ℕ
tests v = 66 ∷ v ∷ 1 ∷ 198 ∷ 66 ∷ v ∷ 4 ∷ 198 ∷ 141 ∷ 2 ∷ 4 ∷ 186 ∷ []

abbrev pull : ℕ → List ℕ
pull v = 233 ∷ 127 ∷ v ∷ []

-- get_parent x -> y
parent_of_variable : written (relative relatives.Parent (variable x) (into y)) ≡ tests 1 ++ 163 ∷ 1 ∷ 2 ∷ []
unfolding bytes_of
parent_of_variable = refl

-- get_child x -> sp ?next
child_of_variable : written (relative relatives.Child (variable x) push) ≡ tests 1 ++ 162 ∷ 1 ∷ 0 ∷ 194 ∷ []
unfolding bytes_of
child_of_variable = refl

-- pull T; get_sibling T -> y ?next
sibling_of_pushed : written (relative relatives.Sibling pushed (into y))
    ≡ pull 248 ++ (tests 248 ++ 161 ∷ 248 ∷ 2 ∷ 194 ∷ [])
unfolding bytes_of
sibling_of_pushed = refl

-- get_parent 3 -> y; print_paddr; quit
parent_of_number : written (relative relatives.Parent (number 3) (into y)) ∷ written
    (relative relatives.Parent (number 4) (into y)) ∷ []
    ≡ (147 ∷ 3 ∷ 2 ∷ []) ∷ (141 ∷ 2 ∷ 4 ∷ 186 ∷ []) ∷ []
unfolding bytes_of
parent_of_number = refl

-- jin x y ?L
in_variables : branched (is_in (variable x) (variable y) true 9) ≡ tests 1 ++ 102 ∷ 1 ∷ 2 ∷ 202 ∷ []
unfolding bytes_of
in_variables = refl

-- pull U; pull T; jin T U ?~L in two bytes
in_pushed : item_bytes sizes a 65 (is_in pushed pushed false 9)
    ≡ pull 249 ++ (pull 248 ++ (tests 248 ++ 102 ∷ 248 ∷ 249 ∷ 0 ∷ 65 ∷ []))
unfolding bytes_of
in_pushed = refl

-- print_paddr; quit; and the branch after
in_none : branched (is_in (number 4) (variable y) true 9) ≡ 141 ∷ 2 ∷ 4 ∷ 186 ∷ 38 ∷ 4 ∷ 2 ∷ 202 ∷ []
unfolding bytes_of
in_none = refl

-- test_attr x 5 ?L
has_attribute : branched (has (variable x) 5 true 9) ≡ tests 1 ++ 74 ∷ 1 ∷ 5 ∷ 202 ∷ []
unfolding bytes_of
has_attribute = refl

-- test_attr 2 5 over the jump; the jump
has_far : item_bytes sizes a 8193 (has (number 2) 5 true 9) ≡ 10 ∷ 2 ∷ 5 ∷ 69 ∷ 140 ∷ 32 ∷ 1 ∷ []
unfolding bytes_of
has_far = refl

-- get_prop_addr x 7 -> T; jz T ?~L
provides_property : branched (provides (variable x) 7 true 9)
    ≡ tests 1 ++ 82 ∷ 1 ∷ 7 ∷ 248 ∷ 160 ∷ 248 ∷ 74 ∷ []
unfolding bytes_of
provides_property = refl

-- get_prop_addr x 7 -> U; jz U ?last; get_prop_len U -> U; je U 2 ?last; print_paddr; quit; last: get_prop x 7 -> sp
reads_property : written (property (variable x) 7 push)
    ≡ tests 1 ++ 82 ∷ 1 ∷ 7 ∷ 249 ∷ 160 ∷ 249 ∷ 205 ∷ 164 ∷ 249 ∷ 249 ∷ 65 ∷ 249 ∷ 2 ∷ 198 ∷ 141 ∷ 2 ∷ 7 ∷ 186
    ∷ 81 ∷ 1 ∷ 7 ∷ 0 ∷ []
unfolding bytes_of
reads_property = refl

-- get_prop x 2 -> sp
reads_single : written (property (variable x) 2 push) ≡ tests 1 ++ 81 ∷ 1 ∷ 2 ∷ 0 ∷ []
unfolding bytes_of
reads_single = refl

-- get_prop_addr x 7 -> U; get_prop_len U -> y
property_bytes : written (property_size (variable x) 7 (into y)) ≡ tests 1 ++ 82 ∷ 1 ∷ 7 ∷ 249 ∷ 164 ∷ 249 ∷ 2 ∷ []
unfolding bytes_of
property_bytes = refl

-- get_prop_addr v 7 -> P; jz P ?~ok; print_paddr; quit
abbrev address : ℕ → List ℕ
address v = 82 ∷ v ∷ 7 ∷ 250 ∷ 160 ∷ 250 ∷ 70 ∷ 141 ∷ 2 ∷ 6 ∷ 186 ∷ []

-- get_prop_len P -> N; div N 2 -> N
abbrev count : List ℕ
count = 164 ∷ 250 ∷ 251 ∷ 87 ∷ 251 ∷ 2 ∷ 251 ∷ []

-- jl y 0 ?fault; jl y N ?ok; print_paddr; quit; loadw P y -> sp
reads_word : written (property_word 7 (variable x) (variable y) push)
    ≡ tests 1 ++ (address 1 ++ (count ++ 66 ∷ 2 ∷ 0 ∷ 198 ∷ 98 ∷ 2 ∷ 251 ∷ 198 ∷ 141 ∷ 2 ∷ 5 ∷ 186
    ∷ 111 ∷ 250 ∷ 2 ∷ 0 ∷ []))
unfolding bytes_of
reads_word = refl

-- the same of an index that takes two bytes
reads_far_word : written (property_word 7 (variable x) (number 300) push)
    ≡ tests 1 ++ (address 1 ++ (count ++ 194 ∷ 31 ∷ 1 ∷ 44 ∷ 0 ∷ 200 ∷ 194 ∷ 47 ∷ 1 ∷ 44 ∷ 251 ∷ 198
    ∷ 141 ∷ 2 ∷ 5 ∷ 186 ∷ 207 ∷ 143 ∷ 250 ∷ 1 ∷ 44 ∷ 0 ∷ []))
unfolding bytes_of
reads_far_word = refl

-- get_prop_len P -> N; je N 2 ?ok; print_paddr; quit; storew P 0 y
writes_property : written (assign_property 7 (variable x) (variable y) nowhere)
    ≡ tests 1 ++ (address 1 ++ 164 ∷ 250 ∷ 251 ∷ 65 ∷ 251 ∷ 2 ∷ 198 ∷ 141 ∷ 2 ∷ 7 ∷ 186
    ∷ 225 ∷ 155 ∷ 250 ∷ 0 ∷ 2 ∷ [])
unfolding bytes_of
writes_property = refl

-- get_prop_addr x 2 -> P; jz P ?~ok; print_paddr; quit; storew P 0 y
writes_single : written (assign_property 2 (variable x) (variable y) nowhere)
    ≡ tests 1 ++ 82 ∷ 1 ∷ 2 ∷ 250 ∷ 160 ∷ 250 ∷ 70 ∷ 141 ∷ 2 ∷ 6 ∷ 186 ∷ 225 ∷ 155 ∷ 250 ∷ 0 ∷ 2 ∷ []
unfolding bytes_of
writes_single = refl

-- pull U; pull T; ..; storew P 0 U; push U
writes_pushed : written (assign_property 7 pushed pushed push)
    ≡ pull 249 ++ (pull 248 ++ (tests 248 ++ (address 248 ++ 164 ∷ 250 ∷ 251 ∷ 65 ∷ 251 ∷ 2 ∷ 198
    ∷ 141 ∷ 2 ∷ 7 ∷ 186 ∷ 225 ∷ 155 ∷ 250 ∷ 0 ∷ 249 ∷ 232 ∷ 191 ∷ 249 ∷ [])))
unfolding bytes_of
writes_pushed = refl

-- pull U; pull W; ..; storew P W U
writes_word : written (assign_property_word 7 (variable x) pushed pushed nowhere)
    ≡ pull 249 ++ (pull 252 ++ (tests 1 ++ (address 1 ++ (count ++ 66 ∷ 252 ∷ 0 ∷ 198 ∷ 98 ∷ 252 ∷ 251 ∷ 198
    ∷ 141 ∷ 2 ∷ 5 ∷ 186 ∷ 225 ∷ 171 ∷ 250 ∷ 252 ∷ 249 ∷ []))))
unfolding bytes_of
writes_word = refl

-- set_attr x 5; clear_attr x 6
gives : written (give (variable x) ((true, 5) ∷ (false, 6) ∷ [])) ≡ tests 1 ++ 75 ∷ 1 ∷ 5 ∷ 76 ∷ 1 ∷ 6 ∷ []
unfolding bytes_of
gives = refl

-- remove_obj x; remove_obj 2
removes : written (remove_object (variable x)) ∷ written (remove_object (number 2)) ∷ []
    ≡ (tests 1 ++ 169 ∷ 1 ∷ []) ∷ (153 ∷ 2 ∷ []) ∷ []
unfolding bytes_of
removes = refl

-- print_obj x
names : written (print_name (variable x)) ≡ tests 1 ++ 170 ∷ 1 ∷ []
unfolding bytes_of
names = refl

-- top: je N P ?fault; get_parent N -> N; jz N ?on; jump top; fault: print_paddr; quit
abbrev climb : List ℕ
climb = 97 ∷ 251 ∷ 250 ∷ 203 ∷ 163 ∷ 251 ∷ 251 ∷ 160 ∷ 251 ∷ 201 ∷ 140 ∷ 255 ∷ 245 ∷ 141 ∷ 2 ∷ 9 ∷ 186 ∷ []

-- store P x; store N y; ..; on: insert_obj P y
moves : written (move_object (variable x) (variable y))
    ≡ tests 1 ++ 45 ∷ 250 ∷ 1 ∷ (tests 2 ++ 45 ∷ 251 ∷ 2 ∷ (climb ++ 110 ∷ 250 ∷ 2 ∷ []))
unfolding bytes_of
moves = refl

-- pull T; store P T; store N 2; ..; insert_obj P 2
moves_pushed : written (move_object pushed (number 2))
    ≡ pull 248 ++ (tests 248 ++ 45 ∷ 250 ∷ 248 ∷ 13 ∷ 251 ∷ 2 ∷ (climb ++ 78 ∷ 250 ∷ 2 ∷ []))
unfolding bytes_of
moves_pushed = refl

-- pull U; store P 2; store N U; ..; insert_obj P U
moves_into_pushed : written (move_object (number 2) pushed)
    ≡ pull 249 ++ 13 ∷ 250 ∷ 2 ∷ (tests 249 ++ 45 ∷ 251 ∷ 249 ∷ (climb ++ 110 ∷ 250 ∷ 249 ∷ []))
unfolding bytes_of
moves_into_pushed = refl

-- store x 1; in a program without objects: jump L
begins : branched (first_object x 9) ∷ item_bytes (having 0) a 10 (first_object x 9) ∷ []
    ≡ (13 ∷ 1 ∷ 1 ∷ []) ∷ (140 ∷ 0 ∷ 10 ∷ []) ∷ []
unfolding bytes_of
begins = refl

-- jl x 1 ?out; jl x 3 ?ok; out: jump L; ok: inc x
goes_on : branched (next_object x 9) ≡ 66 ∷ 1 ∷ 1 ∷ 198 ∷ 66 ∷ 1 ∷ 3 ∷ 197 ∷ 140 ∷ 0 ∷ 12 ∷ 149 ∷ 1 ∷ []
unfolding bytes_of
goes_on = refl

-- the same of 2,000 objects
goes_far : item_bytes (having 2000) a 10 (next_object x 9)
    ≡ 66 ∷ 1 ∷ 1 ∷ 200 ∷ 194 ∷ 143 ∷ 1 ∷ 7 ∷ 208 ∷ 197 ∷ 140 ∷ 0 ∷ 12 ∷ 149 ∷ 1 ∷ []
unfolding bytes_of
goes_far = refl
