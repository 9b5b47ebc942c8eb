-- Where an item stands and leads.
use Rattle.std.specs.Prelude.{◌+◌, ◌-◌, ℕ, Bool, true, false, List, slice_index, Option, Some, None}
use Rattle.code_drafts.specs.Layout.{first}
use Rattle.code_drafts.specs.Items.{Item}
use Rattle.code_drafts.specs.Items as items
use Rattle.code_drafts.specs.Instructions.{jump_offset}

-- the item to which one branches ahead
abbrev pub target_of : Item → Option ℕ
target_of (items.branch test os when target) = Some target
target_of (items.is_in o q when target) = Some target
target_of (items.has o n when target) = Some target
target_of (items.provides o q when target) = Some target
target_of (items.case test ns when target) = Some target
target_of _ = None

-- how many bytes of the shortest label an item has
abbrev pub label_size : Option ℕ → ℕ
label_size None = 0
label_size (Some target) = 1

-- where the item of a number stands, by how many bytes there are from each on to the end
abbrev pub place_in : List ℕ → ℕ → ℕ
place_in lefts n = first lefts - slice_index lefts n

-- The offset of a branch back: in two bytes of branch data, where branches back of the routine are near, and else that
-- of the jump that goes back instead (4.7.2).
abbrev pub back_offset : Bool → ℕ → ℕ → ℕ
back_offset true after target = 16383 - (after - target - 3)
back_offset false after target = 65536 + jump_offset after target

-- where the item of a number leads to, from the place of the next one
abbrev pub offset_of : Bool → (ℕ → ℕ) → ℕ → Item → ℕ
offset_of near places n (items.branch test os when target) = 2 + (places target - places (n + 1))
offset_of near places n (items.is_in o q when target) = 2 + (places target - places (n + 1))
offset_of near places n (items.has o a when target) = 2 + (places target - places (n + 1))
offset_of near places n (items.provides o q when target) = 2 + (places target - places (n + 1))
offset_of near places n (items.first_object x target) = jump_offset (places (n + 1)) (places target)
offset_of near places n (items.next_object x target) = jump_offset (places (n + 1)) (places target)
offset_of near places n (items.case test ns when target) = 2 + (places target - places (n + 1))
offset_of near places n (items.jump target) = jump_offset (places (n + 1)) (places target)
offset_of near places n (items.back target) = jump_offset (places (n + 1)) (places target)
offset_of near places n (items.branch_back test os when target) = back_offset near (places (n + 1)) (places target)
offset_of near places n _ = 0
