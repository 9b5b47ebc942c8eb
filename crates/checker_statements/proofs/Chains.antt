-- Objects that are open, and the parents of objects.
use Rattle.std.proofs.Common.{◌≡◌, ◌==◌, ◌<◌, ◌≤◌, ◌+◌, ◌-◌, ℕ, zero, suc, nat_lt, Bool, true, false, cond, List, []}
use Rattle.std.proofs.Common.{◌∷◌, ◌++◌, length, take, drop, slice_index_or, slice_set, append_assoc, nat_le}
use Rattle.std.proofs.Common.{refl, sym, ap, ◌∙◌, arith}
use Rattle.std.specs.Prelude.{◌&&◌, ◌%◌, map}
use Rattle.std.proofs.lemmas.Bool.Decides.{nat_tests}
use Rattle.syntax_directives.specs.declared.tree.Object.{Object}
use Rattle.syntax_directives.specs.declared.tree.Directive.{Directive}
use Rattle.syntax_directives.specs.declared.tree.Directive.TheVariants as directives
use Rattle.syntax_directives.specs.Tree.{ObjectTree}
use Rattle.syntax_directives.specs.Views.{object_tree, directive_tree}
use Rattle.checker_values.specs.declared.breach.Breach.{Breach}
use Rattle.checker_values.specs.declared.noting.Tally.{Tally}
use Rattle.checker_values.specs.Names.{Table}
use Rattle.checker_values.specs.Noted.{noted}
use Rattle.checker_values.proofs.Dropped.{drop_here, drop_end}
use Rattle.checker_values.proofs.Noted.{noted_none, noted_append}
use Rattle.meaning.specs.declared.checked.CheckedObject.{CheckedObject}
use Rattle.meaning.specs.Views.{object_of}
use Rattle.meaning.specs.Objects.{ObjectOf}
use Rattle.checker_statements.specs.Objects.{object_trees, Open, open_to, opened, above_of, stand_breaches}
use Rattle.checker_statements.specs.Objects.{standing_from, parent_number, parents_from, with_parents, exactly}
use Rattle.checker_values.proofs.Mapped.{nothing_more}

-- those that stay open come first
pub open_taken : (n : ℕ) (chain : Open) → take (length (open_to n chain)) chain ≡ open_to n chain
open_taken n [] = refl
open_taken n (x ∷ xs) = go (nat_lt x.0 n) (open_taken n xs)
  where
    go : (c : Bool) → take (length (open_to n xs)) xs ≡ open_to n xs
        → take (length (cond c (x ∷ open_to n xs) [])) (x ∷ xs) ≡ cond c (x ∷ open_to n xs) []
    go true h = ap (λ (r : Open). x ∷ r) h
    go false h = refl

pub one_less : (m n : ℕ) → (nat_lt m n && (n - m == 1)) ≡ (m + 1 == n)
one_less m n = grind (arith, nat_tests)

-- how many stay open, one after another

open_from : (n : ℕ) (xs : Open) (i : ℕ) (d : ℕ × ℕ) → i < length xs
    → length (open_to n (drop i xs))
    ≡ cond (nat_lt (slice_index_or xs i d).0 n) (suc (length (open_to n (drop (suc i) xs)))) 0
open_from n [] i d lt = absurd (omega (arith, lt))
open_from n (x ∷ xs) zero d lt = go (nat_lt x.0 n)
  where
    go : (c : Bool) → length (cond c (x ∷ open_to n xs) []) ≡ cond c (suc (length (open_to n xs))) 0
    go true = refl
    go false = refl
open_from n (x ∷ xs) (suc i) d lt = open_from n xs i d (omega (arith, lt))

pub open_next : (n : ℕ) (xs : Open) (i whole : ℕ) (d : ℕ × ℕ) → i < length xs
    → nat_le n (slice_index_or xs i d).0 ≡ false → i + length (open_to n (drop i xs)) ≡ whole
    → i + 1 + length (open_to n (drop (i + 1) xs)) ≡ whole
open_next n xs i whole d lt is h =
    let j : i + 1 ≡ suc i = omega arith in
    let c : nat_lt (slice_index_or xs i d).0 n ≡ true = grind (arith, nat_tests) in
    let e : length (open_to n (drop i xs)) ≡ suc (length (open_to n (drop (suc i) xs))) = open_from n xs i d lt
    ∙ ap (λ (b : Bool). cond b (suc (length (open_to n (drop (suc i) xs)))) 0) c in
    rw j (omega (arith, e, h))

pub open_here : (n : ℕ) (xs : Open) (i whole : ℕ) (d : ℕ × ℕ) → i < length xs
    → nat_le n (slice_index_or xs i d).0 ≡ true → i + length (open_to n (drop i xs)) ≡ whole → i ≡ whole
open_here n xs i whole d lt is h =
    let c : nat_lt (slice_index_or xs i d).0 n ≡ false = grind (arith, nat_tests) in
    let e : length (open_to n (drop i xs)) ≡ 0 = open_from n xs i d lt
    ∙ ap (λ (b : Bool). cond b (suc (length (open_to n (drop (suc i) xs)))) 0) c in
    omega (arith, e, h)

pub open_end : (n : ℕ) (xs : Open) (i whole : ℕ) → i ≡ length xs → i + length (open_to n (drop i xs)) ≡ whole
    → i ≡ whole
open_end n xs i whole end h =
    let e : length (open_to n (drop i xs)) ≡ 0 =
    ap (λ (z : Open). length (open_to n z)) (drop_end xs i (omega (arith, end))) in
    omega (arith, e, h)

-- The objects of directives

-- what a directive adds that is one of them

trees_one : (d : Directive) (ds : List Directive) (o : Object) → d ≡ directives.Object o
    → object_trees (map directive_tree (d ∷ ds)) ≡ object_tree o ∷ object_trees (map directive_tree ds)
trees_one d ds o is = rw is refl

pub trees_next : (ds : List Directive) (i : ℕ) (x : Directive) (o : Object) → i < length ds → x ≡ slice_index_or ds i x
    → x ≡ directives.Object o
    → object_trees (map directive_tree (drop i ds))
    ≡ object_tree o ∷ object_trees (map directive_tree (drop (i + 1) ds))
trees_next ds i x o lt is one =
    ap (λ (z : List Directive). object_trees (map directive_tree z)) (drop_here ds i x lt is)
    ∙ trees_one x (drop (i + 1) ds) o one

pub trees_end : (ds : List Directive) (i : ℕ) → length ds ≤ i → object_trees (map directive_tree (drop i ds)) ≡ []
trees_end ds i end = ap (λ (z : List Directive). object_trees (map directive_tree z)) (drop_end ds i end)

-- Parents

length_push : (xs : List ℕ) (x : ℕ) → length (xs ++ x ∷ []) ≡ length xs + 1
length_push [] x = refl
length_push (y ∷ ys) x = let h = length_push ys x in omega (arith, h)

pub parents_next : (whole : Table) (chain next : Open) (old new all : List ℕ) (p n : ℕ) (o : ObjectTree)
    (os rest : List ObjectTree) → os ≡ o ∷ rest → n ≡ length old → new ≡ old ++ p ∷ []
    → p ≡ parent_number whole (above_of (length o.arrows) chain) o.parent % 65536
    → next ≡ opened (length o.arrows) n chain
    → old ++ parents_from whole chain (length old) os ≡ all → new ++ parents_from whole next (length new) rest ≡ all
parents_next whole chain next old new all p n o os rest is many more value after h =
    let long : length new ≡ length old + 1 = ap length more ∙ length_push old p in
    let tail : List ℕ = parents_from whole next (length new) rest in
    ap (λ (z : List ℕ). z ++ tail) more ∙ append_assoc old (p ∷ []) tail
    ∙ ap (λ (q : ℕ). old ++ q ∷ tail) value
    ∙ ap (λ (k : ℕ). old ++ parent_number whole (above_of (length o.arrows) chain) o.parent % 65536
    ∷ parents_from whole next k rest) long
    ∙ ap (λ (c : Open). old ++ parent_number whole (above_of (length o.arrows) chain) o.parent % 65536
    ∷ parents_from whole c (length old + 1) rest) (after ∙ ap (λ (k : ℕ). opened (length o.arrows) k chain) many)
    ∙ ap (λ (z : List ObjectTree). old ++ parents_from whole chain (length old) z) (sym is) ∙ h

pub standing_next : (whole : Table) (chain next : Open) (old new : List ℕ) (p n : ℕ) (m q all : Tally)
    (o : ObjectTree) (os rest : List ObjectTree) → os ≡ o ∷ rest → n ≡ length old → new ≡ old ++ p ∷ []
    → next ≡ opened (length o.arrows) n chain → q ≡ noted m (stand_breaches whole chain n o)
    → noted m (standing_from whole chain (length old) os) ≡ all
    → noted q (standing_from whole next (length new) rest) ≡ all
standing_next whole chain next old new p n m q all o os rest is many more after met h =
    let long : length new ≡ n + 1 = ap length more ∙ length_push old p ∙ ap (λ (k : ℕ). k + 1) (sym many) in
    let tail : List Breach = standing_from whole (opened (length o.arrows) n chain) (n + 1) rest in
    ap (λ (k : ℕ). noted q (standing_from whole next k rest)) long
    ∙ ap (λ (c : Open). noted q (standing_from whole c (n + 1) rest)) after
    ∙ ap (λ (z : Tally). noted z tail) met
    ∙ sym (noted_append m (stand_breaches whole chain n o) tail)
    ∙ ap (λ (z : List ObjectTree). noted m (standing_from whole chain n z)) (sym is)
    ∙ ap (λ (k : ℕ). noted m (standing_from whole chain k os)) many ∙ h

pub standing_end : (whole : Table) (chain : Open) (n : ℕ) (m all : Tally) (os : List ObjectTree) → os ≡ []
    → noted m (standing_from whole chain n os) ≡ all → m ≡ all
standing_end whole chain n m all os is h =
    sym (noted_none m) ∙ ap (λ (z : List ObjectTree). noted m (standing_from whole chain n z)) (sym is) ∙ h

-- Objects get their parents one by one: those of the first ones are given

abbrev tail_of : List ℕ → List ℕ
tail_of [] = []
tail_of (p ∷ ps) = ps

abbrev pub placing : ℕ → List ℕ → List CheckedObject → List ObjectOf
placing zero ps xs = with_parents ps (map object_of xs)
placing (suc i) ps [] = []
placing (suc i) ps (x ∷ xs) = object_of x ∷ placing i (tail_of ps) xs

place_first : (ps : List ℕ) (o : ObjectOf) (os : List ObjectOf)
    → record o { parent = slice_index_or ps 0 0 } ∷ with_parents (tail_of ps) os ≡ with_parents ps (o ∷ os)
place_first [] o os = refl
place_first (p ∷ ps) o os = refl

next_parent : (ps : List ℕ) (i : ℕ) → slice_index_or ps (suc i) 0 ≡ slice_index_or (tail_of ps) i 0
next_parent [] i = refl
next_parent (p ∷ ps) i = refl

place_more : (ps : List ℕ) (xs : List CheckedObject) (i p : ℕ) (d : CheckedObject) → i < length xs
    → p ≡ slice_index_or ps i 0
    → placing (suc i) ps (slice_set xs i (record (slice_index_or xs i d) { parent = p })) ≡ placing i ps xs
place_more ps [] i p d lt is = absurd (omega (arith, lt))
place_more ps (x ∷ xs) zero p d lt is = rw is (place_first ps (object_of x) (map object_of xs))
place_more ps (x ∷ xs) (suc i) p d lt is =
    ap (λ (r : List ObjectOf). object_of x ∷ r)
    (place_more (tail_of ps) xs i p d (omega (arith, lt)) (is ∙ next_parent ps i))

pub place_next : (ps : List ℕ) (xs : List CheckedObject) (i p : ℕ) (d : CheckedObject) (all : List ObjectOf)
    → i < length xs → p ≡ slice_index_or ps i 0 → placing i ps xs ≡ all
    → placing (i + 1) ps (slice_set xs i (record (slice_index_or xs i d) { parent = p })) ≡ all
place_next ps xs i p d all lt is h =
    let j : i + 1 ≡ suc i = omega arith in
    rw j (place_more ps xs i p d lt is ∙ h)

place_all : (ps : List ℕ) (xs : List CheckedObject) (i : ℕ) → length xs ≤ i → map object_of xs ≡ placing i ps xs
place_all ps [] zero h = refl
place_all ps [] (suc i) h = refl
place_all ps (x ∷ xs) zero h = absurd (omega (arith, h))
place_all ps (x ∷ xs) (suc i) h = ap (λ (r : List ObjectOf). object_of x ∷ r)
    (place_all (tail_of ps) xs i (omega (arith, h)))

pub place_end : (ps : List ℕ) (xs : List CheckedObject) (i : ℕ) (all : List ObjectOf) → length xs ≤ i
    → placing i ps xs ≡ all → map object_of xs ≡ all
place_end ps xs i all end h = place_all ps xs i end ∙ h

-- as many have a parent
pub placed_many : (ps : List ℕ) (os : List ObjectOf) → length (with_parents ps os) ≡ length os
placed_many ps [] = refl
placed_many [] (o ∷ os) = ap suc (placed_many [] os)
placed_many (p ∷ ps) (o ∷ os) = ap suc (placed_many ps os)

-- what comes after so many does not matter
pub take_exact : {A : Type 0} (xs ys : List A) (n : ℕ) → n ≡ length xs → take n (xs ++ ys) ≡ xs
take_exact [] ys n is = rw is refl
take_exact (x ∷ xs) ys zero is = absurd (omega (arith, is))
take_exact (x ∷ xs) ys (suc n) is = ap (λ r. x ∷ r) (take_exact xs ys n (omega (arith, is)))

-- Defaults

pub exact_next : (n : ℕ) (ws : List ℕ) (i : ℕ)
    → exactly (suc n) (drop i ws) ≡ slice_index_or ws i 0 ∷ exactly n (drop (suc i) ws)
exact_next n [] zero = refl
exact_next n [] (suc i) = refl
exact_next n (w ∷ ws) zero = refl
exact_next n (w ∷ ws) (suc i) = exact_next n ws i

pub default_next : (ws old new all : List ℕ) (i w : ℕ) → i < 62 → new ≡ old ++ w ∷ [] → w ≡ slice_index_or ws i 0
    → old ++ exactly (62 - i) (drop i ws) ≡ all → new ++ exactly (62 - (i + 1)) (drop (i + 1) ws) ≡ all
default_next ws old new all i w lt more is h =
    let j : i + 1 ≡ suc i = omega arith in
    let k : 62 - i ≡ suc (62 - (i + 1)) = omega (arith, lt) in
    let rest : List ℕ = exactly (62 - (i + 1)) (drop (i + 1) ws) in
    ap (λ (z : List ℕ). z ++ rest) more ∙ append_assoc old (w ∷ []) rest
    ∙ ap (λ (x : ℕ). old ++ x ∷ rest) is
    ∙ ap (λ (q : ℕ). old ++ slice_index_or ws i 0 ∷ exactly (62 - (i + 1)) (drop q ws)) j
    ∙ ap (λ (z : List ℕ). old ++ z) (sym (exact_next (62 - (i + 1)) ws i))
    ∙ ap (λ (q : ℕ). old ++ exactly q (drop i ws)) (sym k) ∙ h

pub default_end : (ws old all : List ℕ) (i : ℕ) → 62 ≤ i → old ++ exactly (62 - i) (drop i ws) ≡ all → old ≡ all
default_end ws old all i end h =
    let k : 62 - i ≡ 0 = omega (arith, end) in
    nothing_more old ∙ ap (λ (q : ℕ). old ++ exactly q (drop i ws)) (sym k) ∙ h
