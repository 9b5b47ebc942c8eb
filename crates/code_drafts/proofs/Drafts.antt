-- Items that are written so far, and their targets.
use Rattle.std.proofs.Common.{◌≡◌, ℕ, zero, suc, ◌+◌, ◌<◌, ◌≤◌, List, [], ◌∷◌, ◌++◌, length, map, reverse}
use Rattle.std.proofs.Common.{slice_index_or, slice_set, refl, sym, ap, ◌∙◌, arith}
use Rattle.std.proofs.lemmas.List.{map-set, map-append, length-map, reverse-append}
use Rattle.code_drafts.specs.Items.{Item, back, turned_back}
use Rattle.code_drafts.specs.Items as items
use Rattle.code_drafts.specs.declared.item.Item as code
use Rattle.code_drafts.specs.declared.item.Item.TheVariants as variants
use Rattle.code_drafts.specs.Code.{item_of, items_of}
use Rattle.code_drafts.specs.Writing.{numbered, in_order}

pub led_back : (xs : List code.Item) (i n : ℕ) → n ≡ length xs → items_of (slice_set xs i (variants.Back n))
    ≡ slice_set (items_of xs) i (back (length (items_of xs)))
led_back xs i n e = map-set item_of xs i (variants.Back n)
    ∙ ap (λ m. slice_set (items_of xs) i (back m)) (e ∙ sym (length-map xs item_of))

-- the item at an index
item_at : (xs : List code.Item) (i : ℕ) (d : code.Item) → i < length xs
    → slice_index_or (items_of xs) i items.quit ≡ item_of (slice_index_or xs i d)
item_at [] i d h = absurd (omega (arith, h))
item_at (x ∷ xs) zero d h = refl
item_at (x ∷ xs) (suc i) d h = item_at xs i d (omega (arith, h))

pub turned_there : (xs : List code.Item) (i n : ℕ) (d x y : code.Item) → i < length xs → n ≡ length xs
    → x ≡ slice_index_or xs i d → item_of y ≡ turned_back n (item_of x)
    → items_of (slice_set xs i y)
    ≡ slice_set (items_of xs) i (turned_back (length (items_of xs)) (slice_index_or (items_of xs) i items.quit))
turned_there xs i n d x y h e is turned =
    map-set item_of xs i y
    ∙ ap (λ (z : Item). slice_set (items_of xs) i z)
    (turned ∙ ap (λ m. turned_back m (item_of x)) (e ∙ sym (length-map xs item_of))
    ∙ ap (turned_back (length (items_of xs))) (ap item_of is ∙ sym (item_at xs i d h)))

-- Items of which the first k have the numbers of their targets, and the others get them
abbrev pub numbering : ℕ → ℕ → List code.Item → List Item
numbering zero n xs = map (numbered n) (items_of xs)
numbering (suc k) n [] = []
numbering (suc k) n (x ∷ xs) = item_of x ∷ numbering k n xs

-- one more has its number
numbered_one : (n : ℕ) (xs : List code.Item) (k : ℕ) (d x y : code.Item) → k < length xs → x ≡ slice_index_or xs k d
    → item_of y ≡ numbered n (item_of x) → numbering (suc k) n (slice_set xs k y) ≡ numbering k n xs
numbered_one n [] k d x y h is e = absurd (omega (arith, h))
numbered_one n (z ∷ zs) zero d x y h is e =
    ap (λ (i : Item). i ∷ map (numbered n) (items_of zs))
    (e ∙ ap (λ (i : code.Item). numbered n (item_of i)) is)
numbered_one n (z ∷ zs) (suc k) d x y h is e =
    ap (λ (l : List Item). item_of z ∷ l) (numbered_one n zs k d x y (omega (arith, h)) is e)

pub numbered_next : (n : ℕ) (xs : List code.Item) (k : ℕ) (d x y : code.Item) (total : List Item) → k < length xs
    → x ≡ slice_index_or xs k d → item_of y ≡ numbered n (item_of x) → numbering k n xs ≡ total
    → numbering (k + 1) n (slice_set xs k y) ≡ total
numbered_next n xs k d x y total h is e all =
    let next : k + 1 ≡ suc k = omega arith in
    ap (λ (m : ℕ). numbering m n (slice_set xs k y)) next ∙ numbered_one n xs k d x y h is e ∙ all

-- all have it
all_numbered : (n : ℕ) (xs : List code.Item) (k : ℕ) → length xs ≤ k → items_of xs ≡ numbering k n xs
all_numbered n [] zero h = refl
all_numbered n [] (suc k) h = refl
all_numbered n (x ∷ xs) zero h = absurd (omega (arith, h))
all_numbered n (x ∷ xs) (suc k) h =
    ap (λ (l : List Item). item_of x ∷ l) (all_numbered n xs k (omega (arith, h)))

map_reversed : (xs : List code.Item) → items_of (reverse xs) ≡ reverse (items_of xs)
map_reversed [] = refl
map_reversed (x ∷ xs) =
    ap items_of (reverse-append (x ∷ []) xs) ∙ map-append item_of (reverse xs) (x ∷ [])
    ∙ ap (λ (l : List Item). l ++ item_of x ∷ []) (map_reversed xs)
    ∙ sym (reverse-append (item_of x ∷ []) (items_of xs))

-- items that were reversed, and then all numbered
pub ordered_end : (n : ℕ) (xs reversed all : List code.Item) (k : ℕ) → reversed ≡ reverse xs → n ≡ length xs
    → length all ≤ k → numbering k n all ≡ map (numbered n) (items_of reversed)
    → items_of all ≡ in_order (length (items_of xs)) (items_of xs)
ordered_end n xs reversed all k e count h numbers =
    all_numbered n all k h ∙ numbers ∙ ap (λ (l : List code.Item). map (numbered n) (items_of l)) e
    ∙ ap (map (numbered n)) (map_reversed xs)
    ∙ ap (λ (m : ℕ). in_order m (items_of xs)) (count ∙ sym (length-map xs item_of))
