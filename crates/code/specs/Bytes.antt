-- Where the items of a routine stand, and their bytes.
use Rattle.std.specs.Prelude.{◌+◌, ◌-◌, ◌*◌, ◌||◌, ℕ, nat_le, Bool, true, false, not, if◌then◌else◌, List, [], ◌∷◌, ◌++◌}
use Rattle.std.specs.Prelude.{length, map, slice_index}
use Rattle.std.specs.List.{list_any}
use Rattle.syntax_trees.specs.declared.tree.Binary.{Binary}
use Rattle.syntax_trees.specs.declared.tree.Binary.TheVariants as binaries
use Rattle.code_drafts.specs.declared.layout.Part.{Part}
use Rattle.code_drafts.specs.Layout.{first, lefts}
use Rattle.code_drafts.specs.Items.{Item}
use Rattle.code_drafts.specs.Items as items
use Rattle.code_drafts.specs.Addresses.{Addresses, Sizes}
use Rattle.code.specs.ItemBytes.{item_bytes}
use Rattle.code_instructions.specs.Places.{target_of, label_size, offset_of}

-- Where items stand

-- wherever all else stands
abbrev pub no_addresses : Addresses
no_addresses = record { routines = []; arrays = []; faults = [] }

-- whether the divisor of an operation is tested
abbrev pub tests_divisor : Binary → Bool
tests_divisor binaries.Divide = true
tests_divisor binaries.Remainder = true
tests_divisor _ = false

-- an item that names no address and leads nowhere: its bytes are the same wherever all else stands
abbrev pub is_settled : Item → Bool
is_settled (items.move o d) = true
is_settled (items.apply_prefix op o d) = true
is_settled (items.operate op x y d) = not (tests_divisor op)
is_settled (items.operate_aside op x d) = not (tests_divisor op)
is_settled (items.step op x d) = true
is_settled (items.keep x) = true
is_settled items.first_equal = true
is_settled items.also_equal = true
is_settled items.drop_below = true
is_settled (items.print_text bytes) = true
is_settled (items.print_number o) = true
is_settled items.new_line = true
is_settled items.quit = true
is_settled (items.return o) = true
is_settled _ = false

-- Branches back

abbrev pub is_back : Item → Bool
is_back (items.branch_back test os when target) = true
is_back _ = false

abbrev pub has_back : List Item → Bool
has_back is = list_any is_back is

-- over so many bytes a branch back leads by two bytes of branch data at most
abbrev pub most_back : ℕ
most_back = 8190

-- the bytes of a branch back beside the shortest: a second byte of branch data, or a jump
abbrev pub back_size : Bool → Item → ℕ
back_size near item = if is_back item then (if near then 1 else 3) else 0

-- of a program of these sizes
module _ (sizes : Sizes) where
  -- the bytes of an item whose branch is the shortest
  abbrev pub least_size : Item → ℕ
  least_size item = length (item_bytes sizes no_addresses 2 item)

  abbrev pub least_sum : List Item → ℕ
  least_sum [] = 0
  least_sum (i ∷ is) = least_size i + least_sum is

  -- an item as a part of what is laid out, where branches back are near, or far
  abbrev pub part_of : Bool → Item → Part
  part_of near item = record {
    size = least_size item - label_size (target_of item) + back_size near item;
    target = target_of item;
  }

  abbrev pub parts_with : Bool → List Item → List Part
  parts_with near is = map (part_of near) is

  -- Branches back are near where none can lead too far for two bytes of branch data: all items together have no more
  -- bytes, in whatever forms.
  abbrev pub is_near : List Item → Bool
  is_near is = not (has_back is) || nat_le (least_sum is + 4 * length is) most_back

  abbrev pub parts_of : List Item → List Part
  parts_of is = parts_with (is_near is) is

  -- how many bytes there are from each item on to the end, where each branch has its shortest form
  abbrev pub lefts_of : List Item → List ℕ
  lefts_of is = lefts 0 (parts_of is)

  abbrev pub code_size : List Item → ℕ
  code_size is = first (lefts_of is)

  -- where the item of a number stands in its routine's code; the end of the code, where there is none
  abbrev pub place_of : List Item → ℕ → ℕ
  place_of is n = code_size is - slice_index (lefts_of is) n

  -- Bytes

  -- what is kept of an item that is written before it is known where all stands: its bytes, if it is settled
  abbrev pub kept_of : Item → List ℕ
  kept_of i = if is_settled i then item_bytes sizes no_addresses 2 i else []

  abbrev pub kept_bytes : List Item → List ℕ
  kept_bytes [] = []
  kept_bytes (i ∷ is) = kept_of i ++ kept_bytes is

  -- items of which the first has this number
  abbrev pub items_bytes : Bool → Addresses → (ℕ → ℕ) → ℕ → List Item → List ℕ
  items_bytes near a places n [] = []
  items_bytes near a places n (i ∷ is) =
      item_bytes sizes a (offset_of near places n i) i ++ items_bytes near a places (n + 1) is

  -- the code of a routine
  abbrev pub code_bytes : Addresses → List Item → List ℕ
  code_bytes a is = items_bytes (is_near is) a (place_of is) 0 is
