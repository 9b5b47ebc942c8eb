-- How many bytes items have.
use Rattle.std.proofs.Common.{◌≡◌, ◌≤◌, ◌+◌, ◌-◌, ◌%◌, ℕ, List, [], ◌∷◌, ◌++◌, length, take, refl, ap, arith}
use Rattle.std.proofs.Common.{Bool, append-nil}
use Rattle.std.specs.Prelude.{slice_index}
use Rattle.zcore.specs.declared.instruction.Operation.TheVariants as operations
use Rattle.zcore.specs.Instruction.{Instruction}
use Rattle.zcore.specs.InstructionBytes.{bytes_of}
use Rattle.code_drafts.specs.Items.{Item}
use Rattle.code_drafts.specs.Items as items
use Rattle.code_drafts.specs.Layout.{first, form_for, offset_over, part_size, lefts}
use Rattle.code_drafts.specs.Instructions.{plain, in_place}
use Rattle.meaning.specs.Limits.{most_arguments}
use Rattle.code_drafts.specs.Addresses.{Sizes, has_one_word}
use Rattle.code_drafts.specs.Bytes.{bytes_of_all}
use Rattle.code_instructions.specs.Instructions.{binary_code, prefix_code, move_code, step_code, character_code}
use Rattle.code_instructions.specs.Instructions.{call_code, return_code, aside_code, with_last_aside}
use Rattle.code_instructions.specs.ObjectCode.{objects_of, relative_code, is_in_code, has_code, provides_code, give_code}
use Rattle.code_instructions.specs.ObjectCode.{remove_code, print_name_code, property_code, property_size_code}
use Rattle.code_instructions.specs.ObjectCode.{property_word_code, assign_property_code, assign_property_word_code}
use Rattle.code_instructions.specs.ObjectCode.{move_object_code, first_object_code, next_object_code}
use Rattle.code.specs.ItemCode.{entry_code, assign_entry_code, read_code, entry_aside_code}
use Rattle.code.specs.ItemCode.{assign_entry_aside_code}
use Rattle.code.specs.Bytes.{no_addresses, part_of, parts_with, code_size, is_near}
use Rattle.code.proofs.AddressLengths.{one_length}
use Rattle.code.proofs.AsideOperands.{aside_length}
use Rattle.story.proofs.Most.{most, most_of}
use Rattle.story.proofs.SizesOfInstructions.{operand_few}
use Rattle.story.proofs.SizesOfOperands.{plain_few, label_few}
use Rattle.story.proofs.SizesOfObjects.{relative_few, remove_few, name_few, give_few, is_in_few, has_few}
use Rattle.story.proofs.SizesOfObjects.{move_object_few, first_object_few, next_object_few}
use Rattle.story.proofs.SizesOfProperties.{provides_few, property_few, property_size_few, property_word_few}
use Rattle.story.proofs.SizesOfProperties.{assign_property_few, assign_property_word_few}
use Rattle.story.proofs.SizesOfTexts.{text_few}
use Rattle.story.proofs.SizesOfOperations.{binary_few, prefix_few, move_few, step_few, character_few, entry_few}
use Rattle.story.proofs.SizesOfOperations.{assign_few, aside_few, entry_aside_few, assign_aside_few}
use Rattle.story.proofs.SizesOfCalls.{read_few, return_few, taken_length, call_few}
use Rattle.story.proofs.SizesOfBranches.{branch_few, branch_back_few, case_few}

-- an item without a text
no_text : (is : List Instruction) → length (bytes_of_all is ++ []) ≡ length (bytes_of_all is)
no_text is = ap length (append-nil (bytes_of_all is))

-- of a program of these sizes
module _ (sizes : Sizes) where
  abbrev count : ℕ
  count = objects_of sizes

  pub part_few : (near : Bool) (i : Item) (n : ℕ) (rest : List ℕ) → part_size n (part_of sizes near i) rest ≤ most i
  unfolding bytes_of
  part_few near (items.move o d) n rest = omega
      (arith, no_text (move_code o d ∷ []), one_length (move_code o d), move_few o d)
  part_few near (items.apply_prefix op o d) n rest = omega (arith, no_text (prefix_code op o d), prefix_few op o d)
  part_few near (items.operate op x y d) n rest =
      omega (arith, no_text (binary_code no_addresses op x y d), binary_few op x y d)
  part_few near (items.operate_aside op x d) n rest =
      omega (arith, no_text (aside_code no_addresses op x d), aside_few op x d)
  part_few near (items.step op x d) n rest = omega (arith, no_text (step_code op x d), step_few op x d)
  part_few near (items.entry width number o d) n rest =
      let size = slice_index sizes.arrays number % 65536 in
      omega (
        arith,
        no_text (entry_code no_addresses width size (slice_index no_addresses.arrays number) o d),
        entry_few width size (slice_index no_addresses.arrays number) o d,
      )
  part_few near (items.entry_aside width number d) n rest =
      let size = slice_index sizes.arrays number % 65536 in
      omega (
        arith,
        no_text (entry_aside_code no_addresses width size (slice_index no_addresses.arrays number) d),
        entry_aside_few width size (slice_index no_addresses.arrays number) d,
      )
  part_few near (items.assign_entry_aside width number o q d) n rest =
      let size = slice_index sizes.arrays number % 65536 in
      omega (
        arith,
        no_text (assign_entry_aside_code no_addresses width size (slice_index no_addresses.arrays number) o q d),
        assign_aside_few width size (slice_index no_addresses.arrays number) o q d,
      )
  part_few near (items.assign_entry width number o q d) n rest =
      let size = slice_index sizes.arrays number % 65536 in
      omega (
        arith,
        no_text (assign_entry_code no_addresses width size (slice_index no_addresses.arrays number) o q d),
        assign_few width size (slice_index no_addresses.arrays number) o q d,
      )
  part_few near (items.relative r o d) n rest =
      omega (arith, no_text (relative_code no_addresses count r o d), relative_few count r o d)
  part_few near (items.property o q d) n rest =
      let single = has_one_word sizes (q % 256) in
      omega (
        arith,
        no_text (property_code no_addresses count single o (q % 256) d),
        property_few count single o (q % 256) d,
      )
  part_few near (items.property_size o q d) n rest = omega (
    arith,
    no_text (property_size_code no_addresses count o (q % 256) d),
    property_size_few count o (q % 256) d,
  )
  part_few near (items.property_word q o i d) n rest = omega (
    arith,
    no_text (property_word_code no_addresses count (q % 256) o i d),
    property_word_few count (q % 256) o i d,
  )
  part_few near (items.assign_property q o w d) n rest =
      let single = has_one_word sizes (q % 256) in
      omega (
        arith,
        no_text (assign_property_code no_addresses count single (q % 256) o w d),
        assign_property_few count single (q % 256) o w d,
      )
  part_few near (items.assign_property_word q o i w d) n rest = omega (
    arith,
    no_text (assign_property_word_code no_addresses count (q % 256) o i w d),
    assign_property_word_few count (q % 256) o i w d,
  )
  part_few near (items.give o changes) n rest =
      omega (arith, no_text (give_code no_addresses count o changes), give_few count o changes)
  part_few near (items.move_object o p) n rest =
      omega (arith, no_text (move_object_code no_addresses count o p), move_object_few count o p)
  part_few near (items.remove_object o) n rest =
      omega (arith, no_text (remove_code no_addresses count o), remove_few count o)
  part_few near (items.print_name o) n rest =
      omega (arith, no_text (print_name_code no_addresses count o), name_few count o)
  part_few near (items.is_in o p when target) n rest = omega (
    arith,
    no_text (is_in_code no_addresses count o p when 2),
    is_in_few count o p when,
    label_few (form_for (offset_over (target - (n + 1)) rest)),
  )
  part_few near (items.has o a when target) n rest = omega (
    arith,
    no_text (has_code no_addresses count o (a % 256) when 2),
    has_few count o (a % 256) when,
    label_few (form_for (offset_over (target - (n + 1)) rest)),
  )
  part_few near (items.provides o q when target) n rest = omega (
    arith,
    no_text (provides_code no_addresses count o (q % 256) when 2),
    provides_few count o (q % 256) when,
    label_few (form_for (offset_over (target - (n + 1)) rest)),
  )
  part_few near (items.first_object x target) n rest =
      omega (arith, no_text (first_object_code count x 2), first_object_few count x 2)
  part_few near (items.next_object x target) n rest =
      omega (arith, no_text (next_object_code count x 2), next_object_few count x 2)
  part_few near (items.keep x) n rest = omega arith
  part_few near items.first_equal n rest = omega arith
  part_few near items.also_equal n rest = omega arith
  part_few near items.drop_below n rest = omega arith
  part_few near (items.print_text bytes) n rest = omega (arith, text_few sizes bytes)
  part_few near (items.print_character o) n rest = omega (arith, no_text (character_code no_addresses o), character_few o)
  part_few near (items.print_number o) n rest =
      let i = plain operations.PrintNumber (in_place o ∷ []) in
      omega (arith, no_text (i ∷ []), one_length i, plain_few operations.PrintNumber (in_place o) refl, operand_few o)
  part_few near items.new_line n rest = omega arith
  part_few near (items.read_line t q) n rest =
      let text_size = slice_index sizes.arrays t % 65536 in
      let parse_size = slice_index sizes.arrays q % 65536 in
      let text = slice_index no_addresses.arrays t in
      let parse = slice_index no_addresses.arrays q in
      omega (
        arith,
        no_text (read_code no_addresses text_size text parse_size parse),
        read_few text_size text parse_size parse,
      )
  part_few near items.quit n rest = omega arith
  part_few near (items.branch test os when target) n rest = branch_few sizes near test os when target n rest
  part_few near (items.case test ns when target) n rest = case_few sizes near test ns when target n rest
  part_few near (items.jump target) n rest = omega arith
  part_few near (items.back target) n rest = omega arith
  part_few near (items.branch_back test os when target) n rest =
      branch_back_few sizes near test os when target n rest
  part_few near (items.call r os d) n rest =
      let given = take most_arguments os in
      omega (
        arith,
        no_text (call_code (slice_index no_addresses.routines r) given d),
        call_few (slice_index no_addresses.routines r) given d,
        taken_length most_arguments os,
      )
  part_few near (items.call_aside r os d) n rest =
      let given = take most_arguments (with_last_aside os) in
      omega (
        arith,
        no_text (call_code (slice_index no_addresses.routines r) given d),
        call_few (slice_index no_addresses.routines r) given d,
        taken_length most_arguments (with_last_aside os),
        aside_length os,
      )
  part_few near (items.return o) n rest = omega
      (arith, no_text (return_code o ∷ []), one_length (return_code o), return_few o)

  lefts_few : (near : Bool) (at : ℕ) (is : List Item) → first (lefts at (parts_with sizes near is)) ≤ most_of is
  lefts_few near at [] = omega arith
  lefts_few near at (i ∷ is) = let more = lefts_few near (at + 1) is in
      omega (arith, more, part_few near i at (lefts (at + 1) (parts_with sizes near is)))

  -- the code of items is no longer than they can be
  pub code_few : (is : List Item) → code_size sizes is ≤ most_of is
  code_few is = lefts_few (is_near sizes is) 0 is
