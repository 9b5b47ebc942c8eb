-- How long the code of an item is that does not branch: it depends on no address.
use Rattle.std.proofs.Common.{◌≡◌, ℕ, ◌%◌, List, [], ◌∷◌, ◌++◌, length, false, None, refl, arith, length-append}
use Rattle.std.specs.Prelude.{◌==◌, map, take, slice_index}
use Rattle.zcore.specs.declared.instruction.Operand.{Operand}
use Rattle.zcore.specs.declared.instruction.Operation.TheVariants as operations
use Rattle.zcore.specs.Instruction.{Instruction}
use Rattle.zcore.specs.InstructionBytes.{bytes_of}
use Rattle.syntax_trees.specs.declared.tree.Binary.{Binary}
use Rattle.syntax_trees.specs.declared.tree.Binary.TheVariants as binaries
use Rattle.code_drafts.specs.Items.{Item, Destination}
use Rattle.code_drafts.specs.Items as items
use Rattle.code_drafts.specs.Addresses.{Addresses, Sizes, has_one_word}
use Rattle.code_drafts.specs.Instructions.{plain, number_of, temporary, result_in}
use Rattle.meaning.specs.Limits.{most_arguments}
use Rattle.code_drafts.specs.Bytes.{bytes_of_all}
use Rattle.code_instructions.specs.Instructions.{divided, character_code, with_last_aside}
use Rattle.code_instructions.specs.Places.{target_of}
use Rattle.code_instructions.specs.ObjectCode.{objects_of, property_address, length_at, property_value, moved_into}
use Rattle.code_instructions.specs.ObjectCode.{relative_of, changing, assigned_takes}
use Rattle.code.specs.ItemCode.{item_code}
use Rattle.code.specs.ItemBytes.{item_bytes}
use Rattle.code.specs.Bytes.{no_addresses, least_size, is_back}
use Rattle.code.proofs.AddressLengths.{call_same, divided_same, character_same, entry_same, entry_aside_same, assign_same, assign_aside_same, read_same}
use Rattle.code.proofs.ObjectLengths.{value_same, object_same, behind_same, loaded_same, single_assigned_same}
use Rattle.code.proofs.ObjectLengths.{word_assigned_same, moved_same, first_same_jump, next_same}

-- Items

no_text_same : (xs ys : List Instruction) → length (bytes_of_all xs) ≡ length (bytes_of_all ys)
    → length (bytes_of_all xs ++ []) ≡ length (bytes_of_all ys ++ [])
no_text_same xs ys e = omega (arith, e, length-append (bytes_of_all xs) [], length-append (bytes_of_all ys) [])

-- of a program of these sizes
module _ (sizes : Sizes) where
  operate_length : (a : Addresses) (offset : ℕ) (op : Binary) (x y : items.Operand) (d : Destination)
      → length (item_bytes sizes a offset (items.operate op x y d)) ≡ least_size sizes (items.operate op x y d)
  operate_length a offset binaries.Divide x y d =
      let e = divided_same a no_addresses operations.Div x y d in
      omega (
        arith,
        e,
        length-append (bytes_of_all (divided a operations.Div x y d)) [],
        length-append (bytes_of_all (divided no_addresses operations.Div x y d)) [],
      )
  operate_length a offset binaries.Remainder x y d =
      let e = divided_same a no_addresses operations.Mod x y d in
      omega (
        arith,
        e,
        length-append (bytes_of_all (divided a operations.Mod x y d)) [],
        length-append (bytes_of_all (divided no_addresses operations.Mod x y d)) [],
      )
  operate_length a offset op x y d = refl

  aside_length : (a : Addresses) (offset : ℕ) (op : Binary) (x : items.Operand) (d : Destination)
      → length (item_bytes sizes a offset (items.operate_aside op x d)) ≡ least_size sizes (items.operate_aside op x d)
  unfolding bytes_of
  aside_length a offset binaries.Divide x d = refl
  aside_length a offset binaries.Remainder x d = refl
  aside_length a offset op x d = refl

  -- an item that does not branch has as many bytes wherever all stands
  pub same_length : (a : Addresses) (offset : ℕ) (i : Item) → target_of i ≡ None → is_back i ≡ false
      → length (item_bytes sizes a offset i) ≡ least_size sizes i
  unfolding bytes_of
  same_length a offset (items.operate op x y d) e b = operate_length a offset op x y d
  same_length a offset (items.operate_aside op x d) e b = aside_length a offset op x d
  same_length a offset (items.entry width n o d) e b =
      let size = slice_index sizes.arrays n % 65536 in
      let same = entry_same a no_addresses width size (slice_index a.arrays n)
      (slice_index no_addresses.arrays n) o d in
      omega (
        arith,
        same,
        length-append (bytes_of_all (item_code sizes a offset (items.entry width n o d))) [],
        length-append (bytes_of_all (item_code sizes no_addresses 2 (items.entry width n o d))) [],
      )
  same_length a offset (items.entry_aside width n d) e b =
      let size = slice_index sizes.arrays n % 65536 in
      no_text_same (item_code sizes a offset (items.entry_aside width n d))
      (item_code sizes no_addresses 2 (items.entry_aside width n d))
      (entry_aside_same a no_addresses width size (slice_index a.arrays n) (slice_index no_addresses.arrays n) d)
  same_length a offset (items.assign_entry_aside width n o q d) e b =
      let size = slice_index sizes.arrays n % 65536 in
      no_text_same (item_code sizes a offset (items.assign_entry_aside width n o q d))
      (item_code sizes no_addresses 2 (items.assign_entry_aside width n o q d))
      (assign_aside_same a no_addresses width size (slice_index a.arrays n) (slice_index no_addresses.arrays n) o q d)
  same_length a offset (items.assign_entry width n o q d) e b =
      let size = slice_index sizes.arrays n % 65536 in
      let same = assign_same a no_addresses width size (slice_index a.arrays n)
      (slice_index no_addresses.arrays n) o q d in
      omega (
        arith,
        same,
        length-append (bytes_of_all (item_code sizes a offset (items.assign_entry width n o q d))) [],
        length-append (bytes_of_all (item_code sizes no_addresses 2 (items.assign_entry width n o q d))) [],
      )
  same_length a offset (items.print_character o) e b =
      let same = character_same a no_addresses o in
      omega (
        arith,
        same,
        length-append (bytes_of_all (character_code a o)) [],
        length-append (bytes_of_all (character_code no_addresses o)) [],
      )
  same_length a offset (items.read_line t q) e b =
      let text_size = slice_index sizes.arrays t % 65536 in
      let parse_size = slice_index sizes.arrays q % 65536 in
      let same = read_same a no_addresses text_size parse_size (slice_index a.arrays t) (slice_index a.arrays q)
      (slice_index no_addresses.arrays t) (slice_index no_addresses.arrays q) in
      omega (
        arith,
        same,
        length-append (bytes_of_all (item_code sizes a offset (items.read_line t q))) [],
        length-append (bytes_of_all (item_code sizes no_addresses 2 (items.read_line t q))) [],
      )
  same_length a offset (items.relative r o d) e b =
      no_text_same (item_code sizes a offset (items.relative r o d))
      (item_code sizes no_addresses 2 (items.relative r o d))
      (object_same a no_addresses (objects_of sizes) o (λ x. relative_of r x (result_in d) ∷ [])
      (λ x. relative_of r x (result_in d) ∷ []) (λ x. refl))
  same_length a offset (items.property o q d) e b =
      no_text_same (item_code sizes a offset (items.property o q d))
      (item_code sizes no_addresses 2 (items.property o q d))
      (object_same a no_addresses (objects_of sizes) o
      (λ x. property_value a (has_one_word sizes (q % 256)) x (q % 256) (result_in d))
      (λ x. property_value no_addresses (has_one_word sizes (q % 256)) x (q % 256) (result_in d))
      (value_same a no_addresses (has_one_word sizes (q % 256)) (q % 256) (result_in d)))
  same_length a offset (items.property_size o q d) e b =
      no_text_same (item_code sizes a offset (items.property_size o q d))
      (item_code sizes no_addresses 2 (items.property_size o q d))
      (object_same a no_addresses (objects_of sizes) o (size (q % 256)) (size (q % 256)) (λ x. refl))
    where
      size : ℕ → Operand → List Instruction
      size n x = property_address x n (temporary 1) ∷ length_at (temporary 1) (result_in d) ∷ []
  same_length a offset (items.property_word q o i d) e b =
      no_text_same (item_code sizes a offset (items.property_word q o i d))
      (item_code sizes no_addresses 2 (items.property_word q o i d))
      (loaded_same a no_addresses (objects_of sizes) (q % 256) o i d)
  same_length a offset (items.assign_property q o w d) e b =
      no_text_same (item_code sizes a offset (items.assign_property q o w d))
      (item_code sizes no_addresses 2 (items.assign_property q o w d))
      (single_assigned_same a no_addresses (objects_of sizes) (has_one_word sizes (q % 256)) (q % 256) o w d)
  same_length a offset (items.assign_property_word q o i w d) e b =
      no_text_same (item_code sizes a offset (items.assign_property_word q o i w d))
      (item_code sizes no_addresses 2 (items.assign_property_word q o i w d))
      (word_assigned_same a no_addresses (objects_of sizes) (q % 256) o i w d)
  same_length a offset (items.give o changes) e b =
      no_text_same (item_code sizes a offset (items.give o changes))
      (item_code sizes no_addresses 2 (items.give o changes))
      (object_same a no_addresses (objects_of sizes) o (λ x. map (changing x) changes)
      (λ x. map (changing x) changes) (λ x. refl))
  same_length a offset (items.move_object o into) e b =
      no_text_same (item_code sizes a offset (items.move_object o into))
      (item_code sizes no_addresses 2 (items.move_object o into))
      (behind_same a no_addresses (objects_of sizes) (assigned_takes into) o
      (λ x. moved_into a (objects_of sizes) x into) (λ x. moved_into no_addresses (objects_of sizes) x into)
      (moved_same a no_addresses (objects_of sizes) into))
  same_length a offset (items.remove_object o) e b =
      no_text_same (item_code sizes a offset (items.remove_object o))
      (item_code sizes no_addresses 2 (items.remove_object o))
      (object_same a no_addresses (objects_of sizes) o (λ x. plain operations.RemoveObject (x ∷ []) ∷ [])
      (λ x. plain operations.RemoveObject (x ∷ []) ∷ []) (λ x. refl))
  same_length a offset (items.print_name o) e b =
      no_text_same (item_code sizes a offset (items.print_name o))
      (item_code sizes no_addresses 2 (items.print_name o))
      (object_same a no_addresses (objects_of sizes) o (λ x. plain operations.PrintObject (x ∷ []) ∷ [])
      (λ x. plain operations.PrintObject (x ∷ []) ∷ []) (λ x. refl))
  same_length a offset (items.first_object x target) e b =
      no_text_same (item_code sizes a offset (items.first_object x target))
      (item_code sizes no_addresses 2 (items.first_object x target))
      (first_same_jump (objects_of sizes == 0) offset 2 (number_of x))
  same_length a offset (items.next_object x target) e b =
      no_text_same (item_code sizes a offset (items.next_object x target))
      (item_code sizes no_addresses 2 (items.next_object x target))
      (next_same (objects_of sizes) offset 2 x)
  same_length a offset (items.is_in o q when target) e b = absurd (cc)
  same_length a offset (items.has o n when target) e b = absurd (cc)
  same_length a offset (items.provides o q when target) e b = absurd (cc)
  same_length a offset (items.branch test os when target) e b = absurd (cc)
  same_length a offset (items.case test ns when target) e b = absurd (cc)
  same_length a offset (items.jump target) e b = refl
  same_length a offset (items.back target) e b = refl
  same_length a offset (items.branch_back test os when target) e b = absurd (cc)
  same_length a offset (items.call r os d) e b =
      let same = call_same (take most_arguments os) d (slice_index a.routines r)
      (slice_index no_addresses.routines r) in
      omega (
        arith,
        same,
        length-append (bytes_of_all (item_code sizes a offset (items.call r os d))) [],
        length-append (bytes_of_all (item_code sizes no_addresses 2 (items.call r os d))) [],
      )
  same_length a offset (items.call_aside r os d) e b =
      let same = call_same (take most_arguments (with_last_aside os)) d (slice_index a.routines r)
      (slice_index no_addresses.routines r) in
      omega (
        arith,
        same,
        length-append (bytes_of_all (item_code sizes a offset (items.call_aside r os d))) [],
        length-append (bytes_of_all (item_code sizes no_addresses 2 (items.call_aside r os d))) [],
      )
  same_length a offset i e b = refl
