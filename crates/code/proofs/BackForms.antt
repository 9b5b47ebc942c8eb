-- Forms of branches back, and how many bytes all parts have at most.
use Rattle.std.proofs.Common.{◌≡◌, ℕ, zero, suc, ◌+◌, ◌-◌, ◌*◌, ◌<◌, ◌≤◌, List, [], ◌∷◌, length, Option, Some, None}
use Rattle.std.proofs.Common.{Bool, true, false, refl, sym, ap, ◌∙◌, arith}
use Rattle.std.specs.Prelude.{◌||◌, not, nat_le, if◌then◌else◌, slice_get}
use Rattle.std.specs.List.{list_any}
use Rattle.std.proofs.lemmas.Bool.{leb-true}
use Rattle.code_drafts.specs.declared.layout.Form.{Form}
use Rattle.code_drafts.specs.declared.layout.Form.TheVariants as form
use Rattle.code_drafts.specs.Layout.{first, size_with, form_for, offset_over, part_size, lefts}
use Rattle.code_drafts.specs.Items.{Item}
use Rattle.code_drafts.specs.Items as items
use Rattle.code_drafts.specs.Addresses.{Sizes}
use Rattle.code_instructions.specs.Places.{target_of}
use Rattle.code.specs.Bytes.{least_size, least_sum, part_of, parts_with, code_size, is_near, is_back, has_back}

-- the offset of a branch back in two bytes of branch data, or of the jump that goes back instead
abbrev pub BackForm : Bool → ℕ → Type 0
BackForm true offset = (64 ≤ offset) × (offset < 16384)
BackForm false offset = 16384 ≤ offset

label_few : (f : Form) → size_with f ≤ 4
label_few form.One = omega arith
label_few form.Two = omega arith
label_few form.Far = omega arith

part_low : (n size : ℕ) (target : Option ℕ) (rest : List ℕ)
    → part_size n (record { size = size; target = target }) rest ≤ size + 4
part_low n size None rest = omega arith
part_low n size (Some target) rest = omega (arith, label_few (form_for (offset_over (target - (n + 1)) rest)))

back_few : (near : Bool) → (if near then 1 else 3) ≤ 3
back_few true = omega arith
back_few false = omega arith

-- a list that has a branch back
back_there : (is : List Item) (n : ℕ) (i : Item) → slice_get is n ≡ Some i → is_back i ≡ true → has_back is ≡ true
back_there [] n i e b = absurd (cc)
back_there (y ∷ is) zero i e b =
    let same : y ≡ i = cc in
    ap (λ c. c || list_any is_back is) (ap is_back same ∙ b)
back_there (y ∷ is) (suc n) i e b =
    ap (λ c. is_back y || c) (back_there is n i e b) ∙ or_true (is_back y)
  where
    or_true : (c : Bool) → (c || true) ≡ true
    or_true true = refl
    or_true false = refl

module _ (sizes : Sizes) where
  part_few : (near : Bool) (n : ℕ) (rest : List ℕ) (i : Item)
      → part_size n (part_of sizes near i) rest ≤ least_size sizes i + 4
  part_few near n rest (items.branch_back test os when target) = omega (arith, back_few near)
  part_few near n rest i = omega (arith, part_low n (part_of sizes near i).size (target_of i) rest)

  pub lefts_low : (near : Bool) (at : ℕ) (is : List Item)
      → first (lefts at (parts_with sizes near is)) ≤ least_sum sizes is + 4 * length is
  lefts_low near at [] = omega arith
  lefts_low near at (i ∷ is) =
      let more = lefts_low near (at + 1) is in
      let here = part_few near at (lefts (at + 1) (parts_with sizes near is)) i in
      omega (arith, more, here)

  -- code with a branch back that is near is short
  pub near_small : (is : List Item) (n : ℕ) (i : Item) → slice_get is n ≡ Some i → is_back i ≡ true
      → is_near sizes is ≡ true → code_size sizes is ≤ 8190
  near_small is n i e b near =
      let few : nat_le (least_sum sizes is + 4 * length is) 8190 ≡ true =
      ap (λ c. not c || nat_le (least_sum sizes is + 4 * length is) 8190) (sym (back_there is n i e b)) ∙ near in
      omega (arith, lefts_low (is_near sizes is) 0 is, leb-true _ _ few)
