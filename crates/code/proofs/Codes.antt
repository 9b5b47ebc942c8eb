-- The code of a routine from its items.
use Rattle.std.proofs.Common.{◌≡◌, ℕ, suc, ◌+◌, ◌-◌, ◌%◌, ◌<◌, ◌≤◌, List, [], ◌∷◌, ◌++◌, length, drop, reverse}
use Rattle.std.proofs.Common.{slice_index, slice_index_or, Bool, true, Option, refl, sym, ap, ◌∙◌, arith}
use Rattle.std.proofs.Common.{append_assoc, length-append}
use Rattle.std.specs.Prelude.{map}
use Rattle.std.proofs.Math.Seq.{drop-cons}
use Rattle.std.proofs.lemmas.List.{reverse-reverse, drop_all}
use Rattle.code_drafts.specs.declared.layout.Part.{Part}
use Rattle.code_drafts.specs.declared.layout.BranchUse.{BranchUse}
use Rattle.code_drafts.specs.Layout.{lefts, uses}
use Rattle.code_drafts.specs.declared.item.Item as code
use Rattle.code_drafts.specs.Items.{Item}
use Rattle.code_drafts.specs.Items as items
use Rattle.code_drafts.specs.Code.{item_of, items_of}
use Rattle.code_drafts.specs.Addresses.{Addresses, Sizes}
use Rattle.code.specs.ItemBytes.{item_bytes}
use Rattle.code_instructions.specs.Places.{target_of, label_size, offset_of, place_in}
use Rattle.code.specs.Bytes.{no_addresses, least_size, least_sum, part_of, parts_with, parts_of, lefts_of, place_of}
use Rattle.code.specs.Bytes.{items_bytes, code_bytes, code_size, is_near, back_size}
use Rattle.code.specs.Written.{CodeOf, branch_offsets}
use Rattle.code_drafts.proofs.Offsets.{left_length}
use Rattle.code.proofs.Places.{branch_offset, ends_at}

-- The item of an index, and those after it
pub from_item : (xs : List code.Item) (i : ℕ) (x : code.Item) → i < length xs
    → items_of (drop i xs) ≡ item_of (slice_index_or xs i x) ∷ items_of (drop (i + 1) xs)
from_item xs i x h = let number : suc i ≡ i + 1 = omega arith in
    ap items_of (drop-cons xs i x h) ∙ ap (λ k. item_of (slice_index_or xs i x) ∷ items_of (drop k xs)) number

-- at the end of a list
nothing_left : (xs : List code.Item) (i : ℕ) → length xs ≤ i → drop i xs ≡ []
nothing_left xs i h = drop_all i xs h

pub items_length : (xs : List code.Item) → length (items_of xs) ≡ length xs
items_length [] = refl
items_length (x ∷ xs) = ap suc (items_length xs)

abbrev sized : ℕ → Option ℕ → Part
sized size target = record { size = size; target = target }

same_part : (m n : ℕ) (t u : Option ℕ) → m ≡ n → t ≡ u → sized m t ≡ sized n u
same_part m n t u e f = ap (λ (k : ℕ). sized k t) e ∙ ap (λ (x : Option ℕ). sized n x) f

-- one element more of a list
parts_on : (ps ps1 : List Part) (x y : Part) (rest more total : List Part) → ps1 ≡ ps ++ x ∷ [] → x ≡ y
    → more ≡ y ∷ rest → ps ++ more ≡ total → ps1 ++ rest ≡ total
parts_on ps ps1 x y rest more total last same is all =
    ap (λ l. l ++ rest) last ∙ append_assoc ps (x ∷ []) rest ∙ ap (λ (q : Part). ps ++ q ∷ rest) same
    ∙ ap (λ l. ps ++ l) (sym is) ∙ all

-- of a program of these sizes
module _ (sizes : Sizes) where
  -- one part more
  pub part_next : (near : Bool) (b b1 : List ℕ) (ps ps1 : List Part) (xs : List code.Item) (i : ℕ) (x : code.Item)
      (item : Item) (size : ℕ) (target : Option ℕ) (total : List Part) (sum : ℕ) → i < length xs
      → item ≡ item_of (slice_index_or xs i x)
      → ps ++ parts_with sizes near (items_of (drop i xs)) ≡ total
      → length b + least_sum sizes (items_of (drop i xs)) ≡ sum
      → b1 ≡ b ++ item_bytes sizes no_addresses 2 item → target ≡ target_of item
      → size ≡ length b1 - length b - label_size target + back_size near item
      → ps1 ≡ ps ++ record { size = size; target = target } ∷ []
      → (ps1 ++ parts_with sizes near (items_of (drop (i + 1) xs)) ≡ total)
      × (length b1 + least_sum sizes (items_of (drop (i + 1) xs)) ≡ sum)
  part_next near b b1 ps ps1 xs i x item size target total sum h is all long more to size_is last =
      let whole = from_item xs i x h ∙ ap (λ y. y ∷ items_of (drop (i + 1) xs)) (sym is) in
      let rest = items_of (drop (i + 1) xs) in
      let longer : length b1 ≡ length b + least_size sizes item =
      ap length more ∙ length-append b (item_bytes sizes no_addresses 2 item) in
      let label : label_size target ≡ label_size (target_of item) = ap label_size to in
      let same_size : size ≡ (part_of sizes near item).size = omega (arith, size_is, longer, label) in
      let part : record { size = size; target = target } ≡ part_of sizes near item =
      same_part size (part_of sizes near item).size target (target_of item) same_size to in (
        parts_on ps ps1 (record { size = size; target = target }) (part_of sizes near item) (parts_with sizes near rest)
            (parts_with sizes near (items_of (drop i xs))) total last part (ap (parts_with sizes near) whole) all,
        omega (arith, long, longer, ap (least_sum sizes) whole),
      )

  parts_length : (near : Bool) (is : List Item) → length (parts_with sizes near is) ≡ length is
  parts_length near [] = refl
  parts_length near (i ∷ is) = ap suc (parts_length near is)

  pub all_sum : (n sum : ℕ) (xs : List code.Item) (i : ℕ) → length xs ≤ i
      → n + least_sum sizes (items_of (drop i xs)) ≡ sum → n ≡ sum
  all_sum n sum xs i h e = let none = ap (λ ys. least_sum sizes (items_of ys)) (nothing_left xs i h) in
      omega (arith, e, none)

  pub parts_count : (near : Bool) (ps : List Part) (xs : List code.Item) (i : ℕ) → length xs ≤ i
      → ps ++ parts_with sizes near (items_of (drop i xs)) ≡ parts_with sizes near (items_of xs) → length ps ≡ length xs
  parts_count near ps xs i h e =
      let none = ap (λ ys. length (parts_with sizes near (items_of ys))) (nothing_left xs i h) in
      omega (
        arith,
        ap length e,
        none,
        length-append ps (parts_with sizes near (items_of (drop i xs))),
        parts_length near (items_of xs),
        items_length xs,
      )

  -- The bytes of one item more
  pub bytes_next : (near : Bool) (a : Addresses) (places : ℕ
      → ℕ) (b b1 : List ℕ) (xs : List code.Item) (i : ℕ) (x : code.Item) (item : Item) (offset : ℕ) (total : List ℕ)
      → i < length xs → item ≡ item_of (slice_index_or xs i x)
      → b ++ items_bytes sizes near a places i (items_of (drop i xs)) ≡ total → offset ≡ offset_of near places i item
      → b1 ≡ b ++ item_bytes sizes a offset item
      → b1 ++ items_bytes sizes near a places (i + 1) (items_of (drop (i + 1) xs)) ≡ total
  bytes_next near a places b b1 xs i x item offset total h is all to more =
      let whole = from_item xs i x h ∙ ap (λ y. y ∷ items_of (drop (i + 1) xs)) (sym is) in
      let rest = items_of (drop (i + 1) xs) in
      ap (λ l. l ++ items_bytes sizes near a places (i + 1) rest) (more ∙ ap (λ k. b ++ item_bytes sizes a k item) to)
      ∙ append_assoc b (item_bytes sizes a (offset_of near places i item) item)
      (items_bytes sizes near a places (i + 1) rest)
      ∙ ap (λ l. b ++ items_bytes sizes near a places i l) (sym whole) ∙ all

  -- where items stand, by what was laid out
  pub offset_is : (near : Bool) (left : List ℕ) (is : List Item) (n : ℕ) (item : Item) → near ≡ is_near sizes is
      → left ≡ reverse (lefts_of sizes is)
      → offset_of near (place_in (reverse left)) n item ≡ offset_of (is_near sizes is) (place_of sizes is) n item
  offset_is near left is n item same e =
      ap (λ ls. offset_of near (place_in ls) n item) (ap reverse e ∙ reverse-reverse (lefts_of sizes is))
      ∙ ap (λ b. offset_of b (place_of sizes is) n item) same

  pub place_is : (left : List ℕ) (is : List Item) (n : ℕ) → left ≡ reverse (lefts_of sizes is)
      → place_in (reverse left) n ≡ place_of sizes is n
  place_is left is n e = ap (λ ls. place_in ls n) (ap reverse e ∙ reverse-reverse (lefts_of sizes is))

  pub last_place : (xs : List code.Item) (n : ℕ) → n ≡ length xs
      → place_of sizes (items_of xs) n ≡ code_size sizes (items_of xs)
  last_place xs n e =
      ends_at sizes (items_of xs) n
      (omega (arith, e, parts_length (is_near sizes (items_of xs)) (items_of xs), items_length xs))

  pub left_count : (left : List ℕ) (xs : List code.Item) → left ≡ reverse (lefts_of sizes (items_of xs))
      → length left ≡ length xs + 1
  left_count left xs e =
      left_length (parts_of sizes (items_of xs)) left e
      ∙ ap (λ n. n + 1) (parts_length (is_near sizes (items_of xs)) (items_of xs) ∙ items_length xs)

  -- The branches

  offsets_from : (near : Bool) (all : List Item) (n : ℕ) (is : List Item)
      → ((j : ℕ) → slice_index (lefts n (parts_with sizes near is)) j ≡ slice_index (lefts_of sizes all) (n + j))
      → map (λ (u : BranchUse). u.offset) (uses n (parts_with sizes near is)) ≡ branch_offsets (place_of sizes all) n is
  offsets_from near all n [] at = refl
  offsets_from near all n (i ∷ is) at = go i (λ j. behind j) (offsets_from near all (n + 1) is (λ j. later j))
    where
      behind : (j : ℕ)
          → slice_index (lefts (n + 1) (parts_with sizes near is)) j ≡ slice_index (lefts_of sizes all) (suc n + j)
      behind j = let number : n + suc j ≡ suc n + j = omega arith in
          at (suc j) ∙ ap (slice_index (lefts_of sizes all)) number

      later : (j : ℕ)
          → slice_index (lefts (n + 1) (parts_with sizes near is)) j ≡ slice_index (lefts_of sizes all) (n + 1 + j)
      later j = let number : suc n + j ≡ n + 1 + j = omega arith in
          behind j ∙ ap (slice_index (lefts_of sizes all)) number

      go : (i : Item)
          → ((j : ℕ) → slice_index (lefts (n + 1) (parts_with sizes near is)) j
          ≡ slice_index (lefts_of sizes all) (suc n + j))
          → map (λ (u : BranchUse). u.offset) (uses (n + 1) (parts_with sizes near is))
          ≡ branch_offsets (place_of sizes all) (n + 1) is
          → map (λ (u : BranchUse). u.offset) (uses n (parts_with sizes near (i ∷ is)))
          ≡ branch_offsets (place_of sizes all) n (i ∷ is)
      go (items.branch test os when target) rest more =
          ap (λ k. k ∷ map (λ (u : BranchUse). u.offset) (uses (n + 1) (parts_with sizes near is)))
          (sym (branch_offset sizes all (lefts (n + 1) (parts_with sizes near is)) n target rest))
          ∙ ap (λ ks. offset_of true (place_of sizes all) n (items.branch test os when target) ∷ ks) more
      go (items.is_in o q when target) rest more =
          ap (λ k. k ∷ map (λ (u : BranchUse). u.offset) (uses (n + 1) (parts_with sizes near is)))
          (sym (branch_offset sizes all (lefts (n + 1) (parts_with sizes near is)) n target rest))
          ∙ ap (λ ks. offset_of true (place_of sizes all) n (items.is_in o q when target) ∷ ks) more
      go (items.has o a when target) rest more =
          ap (λ k. k ∷ map (λ (u : BranchUse). u.offset) (uses (n + 1) (parts_with sizes near is)))
          (sym (branch_offset sizes all (lefts (n + 1) (parts_with sizes near is)) n target rest))
          ∙ ap (λ ks. offset_of true (place_of sizes all) n (items.has o a when target) ∷ ks) more
      go (items.provides o q when target) rest more =
          ap (λ k. k ∷ map (λ (u : BranchUse). u.offset) (uses (n + 1) (parts_with sizes near is)))
          (sym (branch_offset sizes all (lefts (n + 1) (parts_with sizes near is)) n target rest))
          ∙ ap (λ ks. offset_of true (place_of sizes all) n (items.provides o q when target) ∷ ks) more
      go (items.case test ns when target) rest more =
          ap (λ k. k ∷ map (λ (u : BranchUse). u.offset) (uses (n + 1) (parts_with sizes near is)))
          (sym (branch_offset sizes all (lefts (n + 1) (parts_with sizes near is)) n target rest))
          ∙ ap (λ ks. offset_of true (place_of sizes all) n (items.case test ns when target) ∷ ks) more
      go i rest more = more

  pub offsets_are : (is : List Item) → map (λ (u : BranchUse). u.offset) (uses 0 (parts_of sizes is))
      ≡ branch_offsets (place_of sizes is) 0 is
  offsets_are is = offsets_from (is_near sizes is) is 0 is (λ j. let number : j ≡ 0 + j = omega arith in
      ap (slice_index (lefts_of sizes is)) number)

  -- what is written of a routine
  pub code_written : (a : Addresses) (v : CodeOf) (is : List Item) (locals : ℕ) (s s1 b b1 z : List ℕ)
      → record { locals = locals; sizes = sizes; items = is } ≡ v
      → b ≡ (locals % 256) ∷ [] → b1 ≡ b ++ code_bytes sizes a is → z ≡ b1 → s1 ≡ s ++ z
      → s1 ≡ s ++ (v.locals % 256) ∷ code_bytes v.sizes a v.items
  code_written a v is locals s s1 b b1 z ev eb e1 ez e =
      e ∙ ap (λ w. s ++ w) (ez ∙ e1 ∙ ap (λ w. w ++ code_bytes sizes a is) eb)
      ∙ ap (λ (w : CodeOf). s ++ (w.locals % 256) ∷ code_bytes w.sizes a w.items) ev
