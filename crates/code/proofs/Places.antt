-- Where items stand, and their bytes.
use Rattle.std.proofs.Common.{◌≡◌, ◌⊎◌, inl, inr, ℕ, zero, suc, ◌+◌, ◌-◌, ◌<◌, ◌≤◌, List, [], ◌∷◌, length, Some}
use Rattle.std.proofs.Common.{Bool, true, false, refl, sym, ap, ◌∙◌, subst, arith, length-append}
use Rattle.std.specs.Prelude.{slice_get, slice_index, nat_lt}
use Rattle.std.proofs.lemmas.Bool.{cases_lt, lt-ltb, le-ltb}
use Rattle.zcore.specs.Parts.{jump_target}
use Rattle.ztext.specs.Text.{Holds}
use Rattle.ztext.proofs.Holding.{holds_append}
use Rattle.code_drafts.specs.declared.layout.Part.{Part}
use Rattle.code_drafts.specs.Layout.{first, offset_over, part_size, lefts}
use Rattle.code_drafts.specs.Items.{Item}
use Rattle.code_drafts.specs.Items as items
use Rattle.code_drafts.specs.Addresses.{Addresses, Sizes}
use Rattle.code_drafts.specs.Instructions.{jump_offset}
use Rattle.code.specs.ItemBytes.{item_bytes}
use Rattle.code_instructions.specs.Places.{target_of, offset_of, back_offset}
use Rattle.code.specs.Bytes.{part_of, parts_with, parts_of, lefts_of, code_size, place_of, items_bytes, code_bytes}
use Rattle.code.specs.Bytes.{is_near, is_back}
use Rattle.code.proofs.BackForms.{BackForm, near_small}
use Rattle.code.proofs.Lengths.{item_length}

-- How many bytes there are on to the end

first_is : (xs : List ℕ) → first xs ≡ slice_index xs 0
first_is [] = refl
first_is (x ∷ xs) = refl

-- the part of a number, and what there is after it
record Split (k : ℕ) (ps : List Part) (n : ℕ) (x : Part) : Type 0 where
  rest : List ℕ
  here : slice_index (lefts k ps) n ≡ part_size (k + n) x rest + slice_index (lefts k ps) (suc n)
  at : (j : ℕ) → slice_index rest j ≡ slice_index (lefts k ps) (suc n + j)

split : (k : ℕ) (ps : List Part) (n : ℕ) (x : Part) → slice_get ps n ≡ Some x → Split k ps n x
split k [] n x e = absurd (cc)
split k (y ∷ ps) zero x e =
    let rest = lefts (k + 1) ps in
    let same : y ≡ x = cc in
    let number : k ≡ k + 0 = omega arith in
    record {
      rest = rest;
      here = ap (λ p. part_size k p rest + first rest) same ∙ ap (λ n. part_size n x rest + first rest) number
          ∙ ap (λ n. part_size (k + 0) x rest + n) (first_is rest);
      at = λ j. let number : suc j ≡ suc zero + j = omega arith in ap (slice_index (lefts k (y ∷ ps))) number;
    }
split k (y ∷ ps) (suc n) x e =
    let s = split (k + 1) ps n x e in
    let number : k + 1 + n ≡ k + suc n = omega arith in
    record {
      rest = s.rest;
      here = s.here ∙ ap (λ i. part_size i x s.rest + slice_index (lefts (k + 1) ps) (suc n)) number;
      at = λ j. let number : suc (suc n + j) ≡ suc (suc n) + j = omega arith in
          s.at j ∙ ap (slice_index (lefts k (y ∷ ps))) number;
    }

pub falls : (k : ℕ) (ps : List Part) (m n : ℕ) → m ≤ n → slice_index (lefts k ps) n ≤ slice_index (lefts k ps) m
falls k [] zero zero h = omega arith
falls k [] zero (suc n) h = omega arith
falls k [] (suc m) n h = omega (arith, empty m n h)
  where
    empty : (m n : ℕ) → suc m ≤ n → slice_index (lefts k []) n ≡ 0
    empty m zero h = absurd (omega (arith, h))
    empty m (suc n) h = refl
falls k (y ∷ ps) zero zero h = omega arith
falls k (y ∷ ps) zero (suc n) h = let more = falls (k + 1) ps zero n (omega arith) in
    omega (arith, more, first_is (lefts (k + 1) ps))
falls k (y ∷ ps) (suc m) zero h = absurd (omega (arith, h))
falls k (y ∷ ps) (suc m) (suc n) h = falls (k + 1) ps m n (omega (arith, h))

at_end : (k : ℕ) (ps : List Part) (n : ℕ) → length ps ≤ n → slice_index (lefts k ps) n ≡ 0
at_end k [] zero h = refl
at_end k [] (suc n) h = refl
at_end k (y ∷ ps) zero h = absurd (omega (arith, h))
at_end k (y ∷ ps) (suc n) h = at_end (k + 1) ps n (omega (arith, h))

-- of a program of these sizes
module _ (sizes : Sizes) where
  part_at : (near : Bool) (is : List Item) (n : ℕ) (i : Item) → slice_get is n ≡ Some i
      → slice_get (parts_with sizes near is) n ≡ Some (part_of sizes near i)
  part_at near [] n i e = absurd (cc)
  part_at near (y ∷ is) zero i e = let same : y ≡ i = cc in ap (λ z. Some (part_of sizes near z)) same
  part_at near (y ∷ is) (suc n) i e = part_at near is n i e

  -- Places

  pub starts : (is : List Item) → place_of sizes is 0 ≡ 0
  starts is = let e = first_is (lefts_of sizes is) in omega (arith, e)

  pub ends_by : (is : List Item) (n : ℕ) → place_of sizes is n ≤ code_size sizes is
  ends_by is n = omega arith

  pub ends_at : (is : List Item) (n : ℕ) → length (parts_of sizes is) ≤ n → place_of sizes is n ≡ code_size sizes is
  ends_at is n h = let e = at_end 0 (parts_of sizes is) n h in omega (arith, e)

  pub rises : (is : List Item) (m n : ℕ) → m ≤ n → place_of sizes is m ≤ place_of sizes is n
  rises is m n h = let e = falls 0 (parts_of sizes is) m n h in omega (arith, e)

  pub branch_offset : (is : List Item) (rest : List ℕ) (n target : ℕ)
      → ((j : ℕ) → slice_index rest j ≡ slice_index (lefts_of sizes is) (suc n + j))
      → 2 + (place_of sizes is target - place_of sizes is (n + 1)) ≡ offset_over (target - (n + 1)) rest
  branch_offset is rest n target at = go (cases_lt n target)
    where
      next : n + 1 ≡ suc n + 0
      next = omega arith

      behind : first rest ≡ slice_index (lefts_of sizes is) (n + 1)
      behind = first_is rest ∙ at 0 ∙ sym (ap (slice_index (lefts_of sizes is)) next)

      go : (n < target) ⊎ (target ≤ n) → 2 + (place_of sizes is target - place_of sizes is (n + 1))
          ≡ offset_over (target - (n + 1)) rest
      go (inl h) =
          let number : suc n + (target - (n + 1)) ≡ target = omega (arith, h) in
          let there = at (target - (n + 1)) ∙ ap (slice_index (lefts_of sizes is)) number in
          let low = falls 0 (parts_of sizes is) (n + 1) target (omega (arith, h)) in
          let most = falls 0 (parts_of sizes is) 0 (n + 1) (omega arith) in
          omega (arith, behind, there, low, most, first_is (lefts_of sizes is))
      go (inr h) =
          let none : target - (n + 1) ≡ 0 = omega (arith, h) in
          let there = ap (slice_index rest) none ∙ sym (first_is rest) in
          let low = rises is target (n + 1) (omega (arith, h)) in
          omega (arith, there, low)

  -- the next item stands after an item's bytes
  pub next_place : (a : Addresses) (is : List Item) (n : ℕ) (i : Item) → slice_get is n ≡ Some i
      → place_of sizes is (n + 1)
      ≡ place_of sizes is n + length (item_bytes sizes a (offset_of (is_near sizes is) (place_of sizes is) n i) i)
  next_place a is n i e =
      let near = is_near sizes is in
      let s = split 0 (parts_of sizes is) n (part_of sizes near i) (part_at near is n i e) in
      let number : 0 + n ≡ n = omega arith in
      let same = ap (λ k. part_size k (part_of sizes near i) s.rest) number in
      let size = item_length sizes near a n s.rest (offset_of near (place_of sizes is) n i) i
      (λ target t. leads i target t s.rest s.at) (λ b. back_fits i b (near_small sizes is n i e b)) in
      let next : n + 1 ≡ suc n = omega arith in
      let behind = ap (slice_index (lefts_of sizes is)) next in
      let low = falls 0 (parts_of sizes is) 0 n (omega arith) in
      omega (arith, s.here, same, size, behind, low, first_is (lefts_of sizes is))
    where
      leads : (i : Item) (target : ℕ) → target_of i ≡ Some target → (rest : List ℕ)
          → ((j : ℕ) → slice_index rest j ≡ slice_index (lefts_of sizes is) (suc n + j))
          → offset_of (is_near sizes is) (place_of sizes is) n i ≡ offset_over (target - (n + 1)) rest
      leads (items.branch test os when t) target e rest at =
          let same : t ≡ target = cc in
          branch_offset is rest n t at ∙ ap (λ (x : ℕ). offset_over (x - (n + 1)) rest) same
      leads (items.is_in o q when t) target e rest at =
          let same : t ≡ target = cc in
          branch_offset is rest n t at ∙ ap (λ (x : ℕ). offset_over (x - (n + 1)) rest) same
      leads (items.has o k when t) target e rest at =
          let same : t ≡ target = cc in
          branch_offset is rest n t at ∙ ap (λ (x : ℕ). offset_over (x - (n + 1)) rest) same
      leads (items.provides o q when t) target e rest at =
          let same : t ≡ target = cc in
          branch_offset is rest n t at ∙ ap (λ (x : ℕ). offset_over (x - (n + 1)) rest) same
      leads (items.case test ns when t) target e rest at =
          let same : t ≡ target = cc in
          branch_offset is rest n t at ∙ ap (λ (x : ℕ). offset_over (x - (n + 1)) rest) same
      leads i target e rest at = absurd (cc)

      back_fits : (i : Item) → is_back i ≡ true → (is_near sizes is ≡ true → code_size sizes is ≤ 8190)
          → BackForm (is_near sizes is) (offset_of (is_near sizes is) (place_of sizes is) n i)
      back_fits (items.branch_back test os when t) b small = go (is_near sizes is) small
        where
          go : (near : Bool) → (near ≡ true → code_size sizes is ≤ 8190)
              → BackForm near (back_offset near (place_of sizes is (n + 1)) (place_of sizes is t))
          go true small = let few = small refl in (omega (arith, few, ends_by is (n + 1)), omega arith)
          go false small = omega arith
      back_fits i b small = absurd (cc)

  -- how many bytes an item has
  pub item_size : (a : Addresses) (is : List Item) (n : ℕ) (i : Item) → slice_get is n ≡ Some i
      → slice_index (lefts_of sizes is) n - slice_index (lefts_of sizes is) (n + 1)
      ≡ length (item_bytes sizes a (offset_of (is_near sizes is) (place_of sizes is) n i) i)
  item_size a is n i e =
      let low = falls 0 (parts_of sizes is) 0 n (omega arith) in
      let less = falls 0 (parts_of sizes is) n (n + 1) (omega arith) in
      omega (arith, next_place a is n i e, low, less, first_is (lefts_of sizes is))

  -- Bytes

  -- where a list of items ends
  abbrev pub Follow : Bool → Addresses → (ℕ → ℕ) → ℕ → List Item → Type 0
  Follow near a places from is = (n : ℕ) (i : Item) → slice_get is n ≡ Some i
      → places (from + n + 1) ≡ places (from + n) + length (item_bytes sizes a (offset_of near places (from + n) i) i)

  one_on : (near : Bool) (a : Addresses) (places : ℕ → ℕ) (from : ℕ) (y : Item) (is : List Item)
      → Follow near a places from (y ∷ is) → Follow near a places (from + 1) is
  one_on near a places from y is f n i e =
      let number : from + suc n ≡ from + 1 + n = omega arith in
      subst (λ k. places (k + 1) ≡ places k + length (item_bytes sizes a (offset_of near places k i) i)) number
      (f (suc n) i e)

  first_on : (near : Bool) (a : Addresses) (places : ℕ → ℕ) (from : ℕ) (y : Item) (is : List Item)
      → Follow near a places from (y ∷ is)
      → places (from + 1) ≡ places from + length (item_bytes sizes a (offset_of near places from y) y)
  first_on near a places from y is f =
      let number : from + 0 ≡ from = omega arith in
      subst (λ k. places (k + 1) ≡ places k + length (item_bytes sizes a (offset_of near places k y) y)) number
      (f 0 y refl)

  -- the bytes of the item of a number
  pub item_holds : (memory : List ℕ) (near : Bool) (a : Addresses) (places : ℕ → ℕ) (base : ℕ) (is : List Item)
      (from n : ℕ) (i : Item)
      → Follow near a places from is
      → Holds memory (base + places from) (items_bytes sizes near a places from is) → slice_get is n ≡ Some i
      → Holds memory (base + places (from + n)) (item_bytes sizes a (offset_of near places (from + n) i) i)
  item_holds memory near a places base [] from n i f h e = absurd (cc)
  item_holds memory near a places base (y ∷ is) from zero i f h e =
      let same : y ≡ i = cc in
      let number : from ≡ from + 0 = omega arith in
      let here = (holds_append memory (base + places from) (item_bytes sizes a (offset_of near places from y) y)
      (items_bytes sizes near a places (from + 1) is) h).0 in
      subst (λ k. Holds memory (base + places k) (item_bytes sizes a (offset_of near places k i) i)) number
      (subst (λ z. Holds memory (base + places from) (item_bytes sizes a (offset_of near places from z) z)) same here)
  item_holds memory near a places base (y ∷ is) from (suc n) i f h e =
      let rest = (holds_append memory (base + places from) (item_bytes sizes a (offset_of near places from y) y)
      (items_bytes sizes near a places (from + 1) is) h).1 in
      let there : base + places from + length (item_bytes sizes a (offset_of near places from y) y)
      ≡ base + places (from + 1) =
      omega (arith, first_on near a places from y is f) in
      let number : from + 1 + n ≡ from + suc n = omega arith in
      subst (λ k. Holds memory (base + places k) (item_bytes sizes a (offset_of near places k i) i)) number
      (item_holds memory near a places base is (from + 1) n i (one_on near a places from y is f)
      (subst (λ q. Holds memory q (items_bytes sizes near a places (from + 1) is)) there rest) e)

  bytes_length : (near : Bool) (a : Addresses) (places : ℕ → ℕ) (is : List Item) (from : ℕ)
      → Follow near a places from is
      → places from + length (items_bytes sizes near a places from is) ≡ places (from + length is)
  bytes_length near a places [] from f =
      let number : from + 0 ≡ from = omega arith in
      let same = ap places number in
      omega (arith, same)
  bytes_length near a places (y ∷ is) from f =
      let more = bytes_length near a places is (from + 1) (one_on near a places from y is f) in
      let number : from + 1 + length is ≡ from + suc (length is) = omega arith in
      let same = ap places number in
      omega (
        arith,
        more,
        same,
        first_on near a places from y is f,
        length-append (item_bytes sizes a (offset_of near places from y) y)
            (items_bytes sizes near a places (from + 1) is),
      )

  pub follow : (a : Addresses) (is : List Item) → Follow (is_near sizes is) a (place_of sizes is) 0 is
  follow a is n i e =
      let number : n ≡ 0 + n = omega arith in
      subst (λ k. place_of sizes is (k + 1)
      ≡ place_of sizes is k + length (item_bytes sizes a (offset_of (is_near sizes is) (place_of sizes is) k i) i))
      number (next_place a is n i e)

  parts_length : (near : Bool) (is : List Item) → length (parts_with sizes near is) ≡ length is
  parts_length near [] = refl
  parts_length near (i ∷ is) = ap suc (parts_length near is)

  -- a routine's code has the bytes that its layout tells
  pub code_length : (a : Addresses) (is : List Item) → length (code_bytes sizes a is) ≡ code_size sizes is
  code_length a is =
      let e = bytes_length (is_near sizes is) a (place_of sizes is) is 0 (follow a is) in
      let number : 0 + length is ≡ length is = omega arith in
      let last = ap (place_of sizes is) number in
      omega (arith, e, last, ends_at is (length is) (omega (arith, parts_length (is_near sizes is) is)), starts is)

-- Jumps

leads_by : (base after target offset : ℕ) → (offset < 32768) ⊎ (32768 ≤ offset) → offset ≡ jump_offset after target
    → after < target + 32100 → target < after + 32100
    → jump_target (base + after) offset ≡ base + target
leads_by base after target offset (inl h) e back ahead =
    let a : nat_lt offset 32768 ≡ true = lt-ltb _ _ h in
    rw a (omega (arith, h, e, back, ahead))
leads_by base after target offset (inr h) e back ahead =
    let a : nat_lt offset 32768 ≡ false = le-ltb _ _ h in
    rw a (omega (arith, h, e, back, ahead))

-- a jump's offset leads to its target, ahead or back
pub offset_leads : (base after target : ℕ) → after < target + 32100 → target < after + 32100
    → jump_target (base + after) (jump_offset after target) ≡ base + target
offset_leads base after target back ahead =
    leads_by base after target (jump_offset after target) (cases_lt (jump_offset after target) 32768) refl back ahead
