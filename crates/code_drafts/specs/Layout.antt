-- Where the parts of a routine stand, and the forms of its branches.
use Rattle.std.specs.Prelude.{◌+◌, ◌-◌, ◌*◌, ◌^◌, ◌≤◌, ℕ, nat_lt, if◌then◌else◌, List, [], ◌∷◌, slice_index, Option}
use Rattle.std.specs.Prelude.{Some, None}
use Rattle.code_drafts.specs.declared.layout.Form.{Form}
use Rattle.code_drafts.specs.declared.layout.Form.TheVariants.{One, Two, Far}
use Rattle.code_drafts.specs.declared.layout.Part.{Part}
use Rattle.code_drafts.specs.declared.layout.BranchUse.{BranchUse}

-- what is laid out has fewer bytes, so that each offset is a number of 64 bits
abbrev pub bytes_limit : ℕ
bytes_limit = 15 * 2 ^ 60

-- one byte for an offset to 63, two bytes to 8,191
abbrev pub form_for : ℕ → Form
form_for offset =
    if nat_lt offset 64 then One
    else (if nat_lt offset 8192 then Two
    else Far)

-- the bytes of a branch beside those of its part; the far form has one byte of data, and a jump
abbrev pub size_with : Form → ℕ
size_with One = 1
size_with Two = 2
size_with Far = 4

-- the first number of a list, and 0 of an empty one
abbrev pub first : List ℕ → ℕ
first [] = 0
first (n ∷ ns) = n

-- The offset of a branch ahead. `rest` tells how many bytes there are from each part after the branch on to the end,
-- and the branch leads over so many of these parts. One that led nowhere ahead would have offset 2, and one past the
-- end lead to the end.
abbrev pub offset_over : ℕ → List ℕ → ℕ
offset_over count rest = 2 + (first rest - slice_index rest count)

-- the bytes of a part that has the number `at`
abbrev pub part_size : ℕ → Part → List ℕ → ℕ
part_size at x rest = x.size + label_size at x.target rest
  where
    label_size : ℕ → Option ℕ → List ℕ → ℕ
    label_size at None rest = 0
    label_size at (Some target) rest = size_with (form_for (offset_over (target - (at + 1)) rest))

-- how many bytes there are from each part on to the end, and 0 for the end; `at` is the number of the first part
abbrev pub lefts : ℕ → List Part → List ℕ
lefts at [] = 0 ∷ []
lefts at (x ∷ xs) =
    (part_size at x (lefts (at + 1) xs) + first (lefts (at + 1) xs)) ∷ lefts (at + 1) xs

-- the branch of one part, if it has one, before those of later parts
abbrev pub use_of : ℕ → Option ℕ → List ℕ → List BranchUse → List BranchUse
use_of at None rest more = more
use_of at (Some target) rest more =
    record {
      form = form_for (offset_over (target - (at + 1)) rest);
      offset = offset_over (target - (at + 1)) rest;
    }
    ∷ more

-- the branches, in order of place; `at` is the number of the first part
abbrev pub uses : ℕ → List Part → List BranchUse
uses at [] = []
uses at (x ∷ xs) = use_of at x.target (lefts (at + 1) xs) (uses (at + 1) xs)

-- The rule: one byte for an offset of 2 to 63, two bytes for another to 8,191, and the far form for all others.
abbrev pub Shortest : Form → ℕ → Type 0
Shortest One offset = (2 ≤ offset) × (offset ≤ 63)
Shortest Two offset = (64 ≤ offset) × (offset ≤ 8191)
Shortest Far offset = 8192 ≤ offset

-- a branch keeps the rule
abbrev pub IsShortest : BranchUse → Type 0
IsShortest u = Shortest u.form u.offset
