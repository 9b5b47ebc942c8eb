-- What the values of the code stand for.
use Rattle.std.specs.Prelude.{◌≡◌, ◌+◌, ◌&&◌, Bool, true, false, List, [], ◌∷◌, ℕ, slice_index_or}
use Rattle.meaning.specs.Resolved.{ProgramOf}
use Rattle.code_drafts.specs.Items.{Item}
use Rattle.code_drafts.specs.Items as items
use Rattle.code_drafts.specs.Addresses.{Sizes}
use Rattle.code_drafts.specs.Written.{sizes_in}
use Rattle.code_drafts.specs.declared.addresses.Sizes as counted
use Rattle.code_instructions.specs.Places.{offset_of}
use Rattle.code.specs.HeldProgram.{sizes_of}

-- the offsets of the branches ahead, of items of which the first has this number
abbrev pub branch_offsets : (ℕ → ℕ) → ℕ → List Item → List ℕ
branch_offsets places n [] = []
branch_offsets places n (items.branch test os when target ∷ is) =
    offset_of true places n (items.branch test os when target) ∷ branch_offsets places (n + 1) is
branch_offsets places n (items.is_in o q when target ∷ is) =
    offset_of true places n (items.is_in o q when target) ∷ branch_offsets places (n + 1) is
branch_offsets places n (items.has o a when target ∷ is) =
    offset_of true places n (items.has o a when target) ∷ branch_offsets places (n + 1) is
branch_offsets places n (items.provides o q when target ∷ is) =
    offset_of true places n (items.provides o q when target) ∷ branch_offsets places (n + 1) is
branch_offsets places n (items.case test ns when target ∷ is) =
    offset_of true places n (items.case test ns when target) ∷ branch_offsets places (n + 1) is
branch_offsets places n (i ∷ is) = branch_offsets places (n + 1) is

-- the code of a routine that is ready to be written: how many locals it has, the sizes of its program, and its items
pub record CodeOf : Type 0 where
  pub locals : ℕ
  pub sizes : Sizes
  pub items : List Item

abbrev pub AreSizesOf : counted.Sizes → ProgramOf → Type 0
AreSizesOf s p = sizes_in s ≡ sizes_of p

-- flags by the numbers of properties, of which those are cleared that fail a test
abbrev pub Narrows : List Bool → List Bool → (ℕ → Bool) → Type 0
Narrows old new test = (q : ℕ) → slice_index_or new q false ≡ (slice_index_or old q false && test q)
