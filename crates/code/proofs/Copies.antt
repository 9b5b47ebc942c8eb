-- What is kept of items when they are first written, and copied when all has its place.
use Rattle.std.proofs.Common.{◌≡◌, ℕ, zero, suc, ◌+◌, ◌-◌, ◌<◌, ◌≤◌, List, [], ◌∷◌, ◌++◌, length, take, drop, reverse}
use Rattle.std.proofs.Common.{slice_index, slice_index_or, Some, Bool, true, false, refl, sym, ap, ◌∙◌, arith}
use Rattle.std.proofs.Common.{append_assoc, append-nil, length-append, length-drop}
use Rattle.std.specs.Prelude.{slice_get, if◌then◌else◌}
use Rattle.std.proofs.lemmas.Bool.{false≢true}
use Rattle.std.proofs.lemmas.List.{take_at, drop_at, drop_all, reverse-reverse, take-append-drop}
use Rattle.syntax_trees.specs.declared.tree.Binary.{Binary}
use Rattle.syntax_trees.specs.declared.tree.Binary.TheVariants as binaries
use Rattle.code_drafts.specs.declared.item.Item as code
use Rattle.code_drafts.specs.Items.{Item, Destination}
use Rattle.code_drafts.specs.Items as items
use Rattle.code_drafts.specs.Code.{item_of, items_of}
use Rattle.code_drafts.specs.Addresses.{Addresses, Sizes}
use Rattle.code_instructions.specs.Places.{offset_of}
use Rattle.code.specs.ItemBytes.{item_bytes}
use Rattle.code.specs.Bytes.{no_addresses, is_settled, parts_of, lefts_of, place_of, kept_of, kept_bytes}
use Rattle.code.specs.Bytes.{items_bytes, code_bytes, is_near}
use Rattle.code.proofs.Codes.{from_item, bytes_next}
use Rattle.code.proofs.Places.{falls, item_size}

-- the item of an index
item_at : (xs : List code.Item) (i : ℕ) (x : code.Item) → i < length xs
    → slice_get (items_of xs) i ≡ Some (item_of (slice_index_or xs i x))
item_at [] i x h = absurd (omega (arith, h))
item_at (y ∷ ys) zero x h = refl
item_at (y ∷ ys) (suc i) x h = item_at ys i x (omega (arith, h))

-- Parts of lists

abbrev the_empty : List ℕ
the_empty = []

take_none : (n : ℕ) → take n the_empty ≡ the_empty
take_none zero = refl
take_none (suc n) = refl

drop_none : (n : ℕ) → drop n the_empty ≡ the_empty
drop_none zero = refl
drop_none (suc n) = refl

take_sum : (m n : ℕ) (xs : List ℕ) → take (m + n) xs ≡ take m xs ++ take n (drop m xs)
take_sum zero n xs = let number : zero + n ≡ n = omega arith in ap (λ i. take i xs) number
take_sum (suc m) n [] = let number : suc m + n ≡ suc (m + n) = omega arith in
    ap (λ i. take i the_empty) number ∙ sym (take_none n)
take_sum (suc m) n (x ∷ xs) = let number : suc m + n ≡ suc (m + n) = omega arith in
    ap (λ i. take i (x ∷ xs)) number ∙ ap (λ l. x ∷ l) (take_sum m n xs)

drop_sum : (m n : ℕ) (xs : List ℕ) → drop (m + n) xs ≡ drop n (drop m xs)
drop_sum zero n xs = let number : zero + n ≡ n = omega arith in ap (λ i. drop i xs) number
drop_sum (suc m) n [] = let number : suc m + n ≡ suc (m + n) = omega arith in
    ap (λ i. drop i the_empty) number ∙ sym (drop_none n)
drop_sum (suc m) n (x ∷ xs) = let number : suc m + n ≡ suc (m + n) = omega arith in
    ap (λ i. drop i (x ∷ xs)) number ∙ drop_sum m n xs

drop_within : (n : ℕ) (xs ys : List ℕ) → n ≤ length xs → drop n (xs ++ ys) ≡ drop n xs ++ ys
drop_within zero xs ys h = refl
drop_within (suc n) [] ys h = absurd (omega (arith, h))
drop_within (suc n) (x ∷ xs) ys h = drop_within n xs ys (omega (arith, h))

-- of a program of these sizes
module _ (sizes : Sizes) where
  -- What is the same wherever all else stands

  settled_operation : (a : Addresses) (offset : ℕ) (op : Binary) (x y : items.Operand) (d : Destination)
      → is_settled (items.operate op x y d) ≡ true
      → item_bytes sizes no_addresses 2 (items.operate op x y d) ≡ item_bytes sizes a offset (items.operate op x y d)
  settled_operation a offset binaries.Divide x y d e = absurd (false≢true e)
  settled_operation a offset binaries.Remainder x y d e = absurd (false≢true e)
  settled_operation a offset op x y d e = refl

  settled_aside : (a : Addresses) (offset : ℕ) (op : Binary) (x : items.Operand) (d : Destination)
      → is_settled (items.operate_aside op x d) ≡ true
      → item_bytes sizes no_addresses 2 (items.operate_aside op x d)
      ≡ item_bytes sizes a offset (items.operate_aside op x d)
  settled_aside a offset binaries.Divide x d e = absurd (false≢true e)
  settled_aside a offset binaries.Remainder x d e = absurd (false≢true e)
  settled_aside a offset op x d e = refl

  settled_same : (a : Addresses) (offset : ℕ) (i : Item) → is_settled i ≡ true
      → item_bytes sizes no_addresses 2 i ≡ item_bytes sizes a offset i
  settled_same a offset (items.move o d) e = refl
  settled_same a offset (items.apply_prefix op o d) e = refl
  settled_same a offset (items.operate op x y d) e = settled_operation a offset op x y d e
  settled_same a offset (items.operate_aside op x d) e = settled_aside a offset op x d e
  settled_same a offset (items.step op x d) e = refl
  settled_same a offset (items.keep x) e = refl
  settled_same a offset items.first_equal e = refl
  settled_same a offset items.also_equal e = refl
  settled_same a offset items.drop_below e = refl
  settled_same a offset (items.print_text bytes) e = refl
  settled_same a offset (items.print_number o) e = refl
  settled_same a offset items.new_line e = refl
  settled_same a offset items.quit e = refl
  settled_same a offset (items.return o) e = refl
  settled_same a offset i e = absurd (false≢true e)

  -- what is kept of an item that is settled, and of another
  kept_settled : (i : Item) → is_settled i ≡ true → kept_of sizes i ≡ item_bytes sizes no_addresses 2 i
  kept_settled i e = ap (λ (b : Bool). if b then item_bytes sizes no_addresses 2 i else []) e

  kept_other : (i : Item) → is_settled i ≡ false → kept_of sizes i ≡ []
  kept_other i e = ap (λ (b : Bool). if b then item_bytes sizes no_addresses 2 i else []) e

  -- The first time

  -- what is kept of an item, and of those after it
  kept_from : (xs : List code.Item) (i : ℕ) (x : code.Item) (item : Item) → i < length xs
      → item ≡ item_of (slice_index_or xs i x)
      → kept_bytes sizes (items_of (drop i xs))
      ≡ kept_of sizes item ++ kept_bytes sizes (items_of (drop (i + 1) xs))
  kept_from xs i x item h is =
      ap (kept_bytes sizes) (from_item xs i x h ∙ ap (λ y. y ∷ items_of (drop (i + 1) xs)) (sym is))

  -- what holds where the items before one of a number are written, and all is kept of them but for the last, whose
  -- bytes begin at a place
  pub record Keeping (xs : List code.Item) (kept bytes total : List ℕ) (start k : ℕ) : Type 0 where
    pub within : start ≤ length bytes
    pub are : (kept ++ drop start bytes) ++ kept_bytes sizes (items_of (drop k xs)) ≡ total

  pub none_kept : (xs : List code.Item) (kept bytes total : List ℕ) → bytes ≡ []
      → kept ++ kept_bytes sizes (items_of xs) ≡ total → Keeping xs kept bytes total 0 0
  none_kept xs kept bytes total none e = record {
    within = omega arith;
    are = ap (λ l. (kept ++ l) ++ kept_bytes sizes (items_of xs)) none
        ∙ ap (λ l. l ++ kept_bytes sizes (items_of xs)) (append-nil kept) ∙ e;
  }

  -- one item more that is settled
  pub settled_kept : (xs : List code.Item) (kept bytes total b1 : List ℕ) (start k : ℕ) (x : code.Item) (item : Item)
      → Keeping xs kept bytes total start k → k < length xs → item ≡ item_of (slice_index_or xs k x)
      → b1 ≡ bytes ++ item_bytes sizes no_addresses 2 item → is_settled item ≡ true
      → Keeping xs kept b1 total start (k + 1)
  settled_kept xs kept bytes total b1 start k x item c h is more s =
      let own = item_bytes sizes no_addresses 2 item in
      let rest = kept_bytes sizes (items_of (drop (k + 1) xs)) in
      let longer : length b1 ≡ length bytes + length own = ap length more ∙ length-append bytes own in
      let new : drop start b1 ≡ drop start bytes ++ own =
      ap (drop start) more ∙ drop_within start bytes own c.within in
      let front : (kept ++ drop start b1) ++ rest ≡ ((kept ++ drop start bytes) ++ own) ++ rest =
      ap (λ l. l ++ rest) (ap (λ l. kept ++ l) new ∙ sym (append_assoc kept (drop start bytes) own)) in
      record {
        within = omega (arith, c.within, longer);
        are = front ∙ append_assoc (kept ++ drop start bytes) own rest
            ∙ ap (λ l. (kept ++ drop start bytes) ++ (l ++ rest)) (sym (kept_settled item s))
            ∙ ap (λ l. (kept ++ drop start bytes) ++ l) (sym (kept_from xs k x item h is)) ∙ c.are;
      }

  -- one more that is not
  pub other_kept : (xs : List code.Item) (kept bytes total b1 k1 part : List ℕ) (start k before next : ℕ)
      (x : code.Item) (item : Item)
      → Keeping xs kept bytes total start k → k < length xs → item ≡ item_of (slice_index_or xs k x)
      → b1 ≡ bytes ++ item_bytes sizes no_addresses 2 item → is_settled item ≡ false → before ≡ length bytes
      → part ≡ take (before - start) (drop start b1) → k1 ≡ kept ++ part → next ≡ length b1
      → Keeping xs k1 b1 total next (k + 1)
  other_kept xs kept bytes total b1 k1 part start k before next x item c h is more s count run last end =
      let own = item_bytes sizes no_addresses 2 item in
      let rest = kept_bytes sizes (items_of (drop (k + 1) xs)) in
      let new : drop start b1 ≡ drop start bytes ++ own =
      ap (drop start) more ∙ drop_within start bytes own c.within in
      let size : length (drop start bytes) ≡ before - start = omega (arith, length-drop start bytes, count) in
      let this : part ≡ drop start bytes =
      run ∙ ap (take (before - start)) new ∙ take_at (drop start bytes) own (before - start) size in
      let none : drop next b1 ≡ [] = drop_all next b1 (omega (arith, end)) in
      record {
        within = omega (arith, end);
        are = ap (λ l. (k1 ++ l) ++ rest) none ∙ ap (λ l. l ++ rest) (append-nil k1 ∙ last ∙ ap (λ l. kept ++ l) this)
            ∙ ap (λ l. (kept ++ drop start bytes) ++ (l ++ rest)) (sym (kept_other item s))
            ∙ ap (λ l. (kept ++ drop start bytes) ++ l) (sym (kept_from xs k x item h is)) ∙ c.are;
      }

  pub all_kept : (xs : List code.Item) (kept bytes total k1 : List ℕ) (start k : ℕ)
      → Keeping xs kept bytes total start k → length xs ≤ k → k1 ≡ kept ++ drop start bytes → k1 ≡ total
  all_kept xs kept bytes total k1 start k c h e =
      e ∙ sym (append-nil (kept ++ drop start bytes))
      ∙ ap (λ ys. (kept ++ drop start bytes) ++ kept_bytes sizes (items_of ys)) (sym (drop_all k xs h)) ∙ c.are

  -- The second time

  -- what was kept of an item is the front of what is left, and what was kept of the others follows
  kept_here : (xs : List code.Item) (i : ℕ) (x : code.Item) (item : Item) → i < length xs
      → item ≡ item_of (slice_index_or xs i x)
      → take (length (kept_of sizes item)) (kept_bytes sizes (items_of (drop i xs))) ≡ kept_of sizes item
  kept_here xs i x item h is =
      ap (take (length (kept_of sizes item))) (kept_from xs i x item h is)
      ∙ take_at (kept_of sizes item) (kept_bytes sizes (items_of (drop (i + 1) xs))) (length (kept_of sizes item)) refl

  kept_after : (xs : List code.Item) (i : ℕ) (x : code.Item) (item : Item) → i < length xs
      → item ≡ item_of (slice_index_or xs i x)
      → drop (length (kept_of sizes item)) (kept_bytes sizes (items_of (drop i xs)))
      ≡ kept_bytes sizes (items_of (drop (i + 1) xs))
  kept_after xs i x item h is =
      ap (drop (length (kept_of sizes item))) (kept_from xs i x item h is)
      ∙ drop_at (kept_of sizes item) (kept_bytes sizes (items_of (drop (i + 1) xs))) (length (kept_of sizes item)) refl

  -- how many bytes there are from the item of a number to that of another
  abbrev pub between : List Item → ℕ → ℕ → ℕ
  between is first end = slice_index (lefts_of sizes is) first - slice_index (lefts_of sizes is) end

  pub between_is : (left : List ℕ) (is : List Item) (first end : ℕ) → left ≡ reverse (lefts_of sizes is)
      → slice_index (reverse left) first - slice_index (reverse left) end ≡ between is first end
  between_is left is first end turned =
      ap (λ (l : List ℕ). slice_index l first - slice_index l end)
      (ap reverse turned ∙ reverse-reverse (lefts_of sizes is))

  -- the offset of the item of a number, and the bytes of items from one on
  abbrev pub offset_in : List code.Item → ℕ → Item → ℕ
  offset_in xs k item = offset_of (is_near sizes (items_of xs)) (place_of sizes (items_of xs)) k item

  abbrev pub bytes_in : Addresses → List code.Item → ℕ → List Item → List ℕ
  bytes_in a xs k is = items_bytes sizes (is_near sizes (items_of xs)) a (place_of sizes (items_of xs)) k is

  -- a settled item more
  one_between : (xs : List code.Item) (start k : ℕ) (x : code.Item) (item : Item) → start ≤ k → k < length xs
      → item ≡ item_of (slice_index_or xs k x) → is_settled item ≡ true
      → between (items_of xs) start (k + 1) ≡ between (items_of xs) start k + length (kept_of sizes item)
  one_between xs start k x item low h is s =
      let there : slice_get (items_of xs) k ≡ Some item = item_at xs k x h ∙ ap (λ (y : Item). Some y) (sym is) in
      let offset = offset_in xs k item in
      let size : between (items_of xs) k (k + 1) ≡ length (kept_of sizes item) =
      item_size sizes no_addresses (items_of xs) k item there
      ∙ ap length (sym (kept_settled item s ∙ settled_same no_addresses offset item s)) in
      let before = falls 0 (parts_of sizes (items_of xs)) start k low in
      let after = falls 0 (parts_of sizes (items_of xs)) k (k + 1) (omega arith) in
      omega (arith, size, before, after)

  -- what holds where the items before one of a number are written but for the last, which are still to be copied
  pub record Copying (a : Addresses) (xs : List code.Item) (bytes rest total : List ℕ) (start k : ℕ) : Type 0 where
    pub low : start ≤ k
    pub are : (bytes ++ take (between (items_of xs) start k) rest)
        ++ bytes_in a xs k (items_of (drop k xs)) ≡ total
    pub left : drop (between (items_of xs) start k) rest ≡ kept_bytes sizes (items_of (drop k xs))

  pub none_copied : (a : Addresses) (xs : List code.Item) (bytes rest : List ℕ)
      → rest ≡ kept_bytes sizes (items_of xs)
      → Copying a xs bytes rest (bytes ++ code_bytes sizes a (items_of xs)) 0 0
  none_copied a xs bytes rest is =
      let all = code_bytes sizes a (items_of xs) in
      let none : between (items_of xs) 0 0 ≡ 0 = omega arith in
      record {
        low = omega arith;
        are = ap (λ n. (bytes ++ take n rest) ++ all) none ∙ ap (λ l. l ++ all) (append-nil bytes);
        left = ap (λ n. drop n rest) none ∙ is;
      }

  -- one item more that is settled
  pub settled_copied : (a : Addresses) (xs : List code.Item) (bytes rest total : List ℕ) (start k : ℕ)
      (x : code.Item) (item : Item)
      → Copying a xs bytes rest total start k → k < length xs → item ≡ item_of (slice_index_or xs k x)
      → is_settled item ≡ true → Copying a xs bytes rest total start (k + 1)
  settled_copied a xs bytes rest total start k x item c h is s =
      let m = between (items_of xs) start k in
      let n = length (kept_of sizes item) in
      let own = item_bytes sizes a (offset_in xs k item) item in
      let sum : between (items_of xs) start (k + 1) ≡ m + n = one_between xs start k x item c.low h is s in
      let same : kept_of sizes item ≡ own =
      kept_settled item s ∙ settled_same a (offset_in xs k item) item s in
      let run : take (between (items_of xs) start (k + 1)) rest ≡ take m rest ++ own =
      ap (λ i. take i rest) sum ∙ take_sum m n rest ∙ ap (λ l. take m rest ++ take n l) c.left
      ∙ ap (λ l. take m rest ++ l) (kept_here xs k x item h is ∙ same) in
      record {
        low = omega (arith, c.low);
        are = bytes_next sizes (is_near sizes (items_of xs)) a (place_of sizes (items_of xs)) (bytes ++ take m rest)
            (bytes ++ take (between (items_of xs) start (k + 1)) rest) xs k x item
            (offset_in xs k item) total h is c.are refl
            (ap (λ l. bytes ++ l) run ∙ sym (append_assoc bytes (take m rest) own));
        left = ap (λ i. drop i rest) sum ∙ drop_sum m n rest ∙ ap (drop n) c.left ∙ kept_after xs k x item h is;
      }

  -- one more that is not
  pub other_copied : (a : Addresses) (xs : List code.Item) (bytes rest total b1 b2 rest1 : List ℕ)
      (start k run offset : ℕ) (x : code.Item) (item : Item)
      → Copying a xs bytes rest total start k → k < length xs → item ≡ item_of (slice_index_or xs k x)
      → is_settled item ≡ false → run ≡ between (items_of xs) start k → b1 ≡ bytes ++ take run rest
      → offset ≡ offset_in xs k item → b2 ≡ b1 ++ item_bytes sizes a offset item
      → rest1 ≡ drop run rest → Copying a xs b2 rest1 total (k + 1) (k + 1)
  other_copied a xs bytes rest total b1 b2 rest1 start k run offset x item c h is s r e1 to e2 er =
      let m = between (items_of xs) start k in
      let after = bytes_in a xs (k + 1) (items_of (drop (k + 1) xs)) in
      let more = kept_bytes sizes (items_of (drop (k + 1) xs)) in
      let none : between (items_of xs) (k + 1) (k + 1) ≡ 0 = omega arith in
      let whole : b2 ≡ (bytes ++ take m rest) ++ item_bytes sizes a offset item =
      e2 ∙ ap (λ l. l ++ item_bytes sizes a offset item) (e1 ∙ ap (λ i. bytes ++ take i rest) r) in
      record {
        low = omega arith;
        are = ap (λ i. (b2 ++ take i rest1) ++ after) none ∙ ap (λ l. l ++ after) (append-nil b2)
            ∙ bytes_next sizes (is_near sizes (items_of xs)) a (place_of sizes (items_of xs)) (bytes ++ take m rest) b2
            xs k x item
            offset total h is c.are to whole;
        left = ap (λ i. drop i rest1) none ∙ er ∙ ap (λ i. drop i rest) r ∙ c.left ∙ kept_from xs k x item h is
            ∙ ap (λ l. l ++ more) (kept_other item s);
      }

  pub all_copied : (a : Addresses) (xs : List code.Item) (bytes rest total b1 : List ℕ) (start k : ℕ)
      → Copying a xs bytes rest total start k → length xs ≤ k → b1 ≡ bytes ++ rest → b1 ≡ total
  all_copied a xs bytes rest total b1 start k c h e =
      let m = between (items_of xs) start k in
      let none : drop m rest ≡ [] = c.left ∙ ap (λ ys. kept_bytes sizes (items_of ys)) (drop_all k xs h) in
      let front : rest ≡ take m rest =
      sym (take-append-drop m rest) ∙ ap (λ l. take m rest ++ l) none ∙ append-nil (take m rest) in
      e ∙ ap (λ l. bytes ++ l) front ∙ sym (append-nil (bytes ++ take m rest))
      ∙ ap (λ ys. (bytes ++ take m rest) ++ bytes_in a xs k (items_of ys))
      (sym (drop_all k xs h)) ∙ c.are
