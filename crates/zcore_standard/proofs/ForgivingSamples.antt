-- Slips that are forgiven, computed.
use Rattle.std.proofs.Common.{◌≡◌, ℕ, [], ◌∷◌, ◌++◌, replicate, Option, Some, None, true, false, refl}
use Rattle.zcore.specs.declared.instruction.Branch.{Branch}
use Rattle.zcore.specs.declared.instruction.Operation.TheVariants as operations
use Rattle.zcore.specs.declared.next.Next.{Next}
use Rattle.zcore.specs.declared.place.Fault.TheVariants as faults
use Rattle.zcore.specs.declared.place.Place.TheVariants as places
use Rattle.zcore.specs.Effects.{give_result}
use Rattle.zcore.specs.ObjectProperties.{tested_property, test_property_number, find_property, property_list, search_list}
use Rattle.zcore.specs.Objects.{test_object, property_table}
use Rattle.zcore.specs.Parts.{test_result, store_result, write_variable, push, branch_on, read_byte, read_word, write_word}
use Rattle.zcore.specs.Properties.{found_in}
use Rattle.zcore.specs.State.{State, done, halt}
use Rattle.zcore.specs.Turn.{first_environment, first_state}
use Rattle.zcore_standard.specs.Forgiving.{first_word, write_first_word, get_any_property, put_any_property}
use Rattle.zcore_standard.specs.Forgiving.{test_no_attribute, change_no_attribute, may_be_forgiven, perform_forgiving}

abbrev here : Next
here = record { program_counter = 66; fuel = 5 }

-- An object table at 64: entry 1 at 190, its property table at 204, with property 5, which has three bytes. The static
-- base is 220.
abbrev story : ℕ → ℕ → ℕ → State
story a b c = first_state (replicate 11 0 ++ (64 ∷ []) ++ replicate 3 0 ++ (220 ∷ []) ++ replicate 48 0
    ++ replicate 126 0 ++ replicate 12 0 ++ (0 ∷ 204 ∷ [])
    ++ (0 ∷ 133 ∷ 131 ∷ a ∷ b ∷ c ∷ 0 ∷ []) ++ replicate 20 0)

abbrev with_result : ℕ → State → State
with_result word s = record s { frames = record first_environment { stack = word ∷ [] } ∷ [] }

if_so : Option Branch
if_so = Some (record { when = true; offset = 4 })

-- get_prop of three bytes gives the first word
first_of_three : perform_forgiving operations.GetProperty here 70 (Some 0) None (1 ∷ 5 ∷ []) (story 1 2 3)
    ≡ done (record here { program_counter = 70 }) (with_result 258 (story 1 2 3))
unfolding perform_forgiving get_any_property tested_property test_object test_property_number find_property property_list property_table search_list found_in first_word read_byte read_word give_result test_result store_result write_variable push
first_of_three = refl

-- and put_prop writes it
written : perform_forgiving operations.PutProperty here 70 None None (1 ∷ 5 ∷ 772 ∷ []) (story 1 2 9)
    ≡ done (record here { program_counter = 70 }) (story 3 4 9)
unfolding perform_forgiving put_any_property tested_property test_object test_property_number find_property property_list property_table search_list found_in write_first_word read_byte read_word write_word
written = refl

-- put_prop of a property that the object does not have is M9
no_property : perform_forgiving operations.PutProperty here 70 None None (1 ∷ 6 ∷ 772 ∷ []) (story 1 2 9)
    ≡ halt (places.Fault faults.Property) (story 1 2 9)
unfolding perform_forgiving put_any_property tested_property test_object test_property_number find_property property_list property_table search_list found_in write_first_word read_byte read_word
no_property = refl

-- attribute 48 is clear, and cannot be set
clear : perform_forgiving operations.TestAttribute here 70 None if_so (1 ∷ 48 ∷ []) (story 1 2 3)
    ≡ done (record here { program_counter = 70 }) (story 1 2 3)
unfolding perform_forgiving test_no_attribute test_object branch_on if_so
clear = refl

not_set : perform_forgiving operations.SetAttribute here 70 None None (1 ∷ 48 ∷ []) (story 1 2 3)
    ≡ done (record here { program_counter = 70 }) (story 1 2 3)
unfolding perform_forgiving change_no_attribute test_object
not_set = refl

-- that of no object is M8
no_object : perform_forgiving operations.ClearAttribute here 70 None None (9 ∷ 48 ∷ []) (story 1 2 3)
    ≡ halt (places.Fault faults.Object) (story 1 2 3)
unfolding perform_forgiving change_no_attribute test_object
no_object = refl

greatest_is_known : may_be_forgiven operations.SetAttribute (1 ∷ 47 ∷ []) ≡ false
greatest_is_known = refl

past_greatest : may_be_forgiven operations.SetAttribute (1 ∷ 48 ∷ []) ≡ true
past_greatest = refl
