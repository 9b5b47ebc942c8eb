-- Opcodes on object 0, computed.
use Rattle.std.proofs.Common.{◌≡◌, ℕ, List, [], ◌∷◌, ◌++◌, replicate, Option, Some, None, true, false, refl}
use Rattle.zcore.specs.declared.instruction.Branch.{Branch}
use Rattle.zcore.specs.declared.instruction.Operation.TheVariants as operations
use Rattle.zcore.specs.declared.next.Next.{Next}
use Rattle.zcore.specs.declared.place.Fault.TheVariants as faults
use Rattle.zcore.specs.declared.place.Place.TheVariants as places
use Rattle.zcore.specs.Effects.{give_result}
use Rattle.zcore.specs.Entries.{named_from}
use Rattle.zcore.specs.Objects.{give_object, test_removal, test_object, remove_object, test_link, read_link, unlink}
use Rattle.zcore.specs.Objects.{write_link}
use Rattle.zcore.specs.Parts.{test_result, store_result, write_variable, push, test_target, go, take_branch, branch_on}
use Rattle.zcore.specs.Parts.{test_branch, test_taken, read_word, write_word}
use Rattle.zcore.specs.State.{State, done, halt}
use Rattle.zcore.specs.Turn.{first_environment, first_state}
use Rattle.zcore_standard.specs.Nothing.{concerns_nothing, perform_on_nothing}

abbrev here : Next
here = record { program_counter = 66; fuel = 5 }

-- 80 bytes
abbrev story : State
story = first_state (replicate 80 0)

abbrev with_result : ℕ → State
with_result word = record story { frames = record first_environment { stack = word ∷ [] } ∷ [] }

-- from 70 on to 72, where the condition holds, or where it does not
abbrev if_so : Option Branch
if_so = Some (record { when = true; offset = 4 })

abbrev if_not : Option Branch
if_not = Some (record { when = false; offset = 4 })

parent : perform_on_nothing operations.GetParent here 70 (Some 0) None (0 ∷ []) story
    ≡ done (record here { program_counter = 70 }) (with_result 0)
unfolding perform_on_nothing give_result test_result store_result write_variable push
parent = refl

-- the result is 0, and the branch is not made
child : perform_on_nothing operations.GetChild here 70 (Some 0) if_so (0 ∷ []) story
    ≡ done (record here { program_counter = 70 }) (with_result 0)
unfolding perform_on_nothing give_object test_result test_branch store_result write_variable push branch_on
child = refl

sibling_unless : perform_on_nothing operations.GetSibling here 70 (Some 0) if_not (0 ∷ []) story
    ≡ done (record here { program_counter = 72 }) (with_result 0)
unfolding perform_on_nothing give_object test_result test_branch test_taken test_target store_result write_variable push branch_on take_branch go
sibling_unless = refl

-- nothing has an attribute
attribute : perform_on_nothing operations.TestAttribute here 70 None if_so (0 ∷ 5 ∷ []) story
    ≡ done (record here { program_counter = 70 }) story
unfolding perform_on_nothing branch_on
attribute = refl

-- object 0 is in object 0, and in no other
in_nothing : perform_on_nothing operations.JumpIfIn here 70 None if_so (0 ∷ 0 ∷ []) story
    ≡ done (record here { program_counter = 72 }) story
unfolding perform_on_nothing branch_on take_branch test_target go
in_nothing = refl

in_something : perform_on_nothing operations.JumpIfIn here 70 None if_so (0 ∷ 1 ∷ []) story
    ≡ done (record here { program_counter = 70 }) story
unfolding perform_on_nothing branch_on
in_something = refl

-- jin 1 0 is the profile's
in_nothing_is_known : concerns_nothing operations.JumpIfIn (1 ∷ 0 ∷ []) ≡ false
in_nothing_is_known = refl

property_length_is_known : concerns_nothing operations.GetPropertyLength (0 ∷ []) ≡ false
property_length_is_known = refl

property : perform_on_nothing operations.GetProperty here 70 (Some 0) None (0 ∷ 4 ∷ []) story
    ≡ done (record here { program_counter = 70 }) (with_result 0)
unfolding perform_on_nothing give_result test_result store_result write_variable push
property = refl

put_property : perform_on_nothing operations.PutProperty here 70 None None (0 ∷ 4 ∷ 9 ∷ []) story
    ≡ done (record here { program_counter = 70 }) story
unfolding perform_on_nothing
put_property = refl

-- an object table at 64, with object 1 at 190, which is in object 2 at 204; static base 250
abbrev tree : ℕ → ℕ → List ℕ
tree parent child =
    replicate 11 0 ++ (64 ∷ []) ++ replicate 3 0 ++ (250 ∷ []) ++ replicate 48 0 ++ replicate 126 0 ++ replicate 6 0
    ++ (0 ∷ parent ∷ 0 ∷ 0 ∷ 0 ∷ 0 ∷ 0 ∷ 0 ∷ []) ++ replicate 6 0 ++ (0 ∷ 0 ∷ 0 ∷ 0 ∷ 0 ∷ child ∷ 0 ∷ 0 ∷ [])
    ++ replicate 32 0

into_is_nothing : concerns_nothing operations.InsertObject (1 ∷ 0 ∷ []) ≡ true
into_is_nothing = refl

-- insert_obj into object 0 takes object 1 out of object 2
into_nothing : perform_on_nothing operations.InsertObject here 70 None None (1 ∷ 0 ∷ []) (first_state (tree 2 1))
    ≡ done (record here { program_counter = 70 }) (first_state (tree 0 0))
unfolding perform_on_nothing remove_object test_removal test_object test_link read_link unlink write_link read_word write_word named_from
into_nothing = refl

-- and where there is no object 9 it is M8
no_object : perform_on_nothing operations.InsertObject here 70 None None (9 ∷ 0 ∷ []) (first_state (tree 2 1))
    ≡ halt (places.Fault faults.Object) (first_state (tree 2 1))
unfolding perform_on_nothing remove_object test_removal test_object
no_object = refl

insert_nothing : perform_on_nothing operations.InsertObject here 70 None None (0 ∷ 2 ∷ []) (first_state (tree 2 1))
    ≡ done (record here { program_counter = 70 }) (first_state (tree 2 1))
unfolding perform_on_nothing
insert_nothing = refl
