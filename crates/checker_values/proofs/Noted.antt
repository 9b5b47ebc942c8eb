-- The first of a list of broken rules, part by part.
use Rattle.std.proofs.Common.{◌≡◌, Bool, true, false, List, [], ◌∷◌, ◌++◌, Option, Some, None, refl, sym, ap, ◌∙◌}
use Rattle.std.proofs.Common.{arith, ℕ, suc, ◌+◌, ◌≤◌, length}
use Rattle.std.specs.List.{filter}
use Rattle.checker_values.specs.declared.breach.Breach.{Breach}
use Rattle.checker_values.specs.Breaches.{is_before, IsAmong, IsFirst}
use Rattle.checker_values.specs.declared.noting.Tally.{Tally}
use Rattle.checker_values.specs.Noted.{first_of_two, is_after, later, most_counted, counted, one_more, met, noted}
use Rattle.std.proofs.Common.{subst, is_some, cond, inl, inr, ◌⊎◌}
use Rattle.std.proofs.lemmas.Bool.Decides.{nat_tests}

pub noted_none : (m : Tally) → noted m [] ≡ m
unfolding noted
noted_none m = refl

pub noted_append : (m : Tally) (a b : List Breach) → noted m (a ++ b) ≡ noted (noted m a) b
unfolding noted
noted_append m [] b = refl
noted_append m (x ∷ a) b = noted_append (met m x) a b

pub noted_two : (m o p : Tally) (a b : List Breach) → o ≡ noted m a → p ≡ noted o b → p ≡ noted m (a ++ b)
noted_two m o p a b h k = k ∙ ap (λ q. noted q b) h ∙ sym (noted_append m a b)

-- The first of a list

-- the first of one that was met and of a list
unfoldable first_from_list : Option Breach → List Breach → Option Breach
first_from_list met [] = met
first_from_list met (b ∷ bs) = first_from_list (first_of_two met b) bs

earlier : (x a b : Breach) → is_before x a ≡ true → is_before x b ≡ false → is_before a b ≡ false
earlier x a b h k = grind (arith, nat_tests)

later_still : (x a b : Breach) → is_before x a ≡ false → is_before a b ≡ false → is_before x b ≡ false
later_still x a b h k = grind (arith, nat_tests)

itself : (a : Breach) → is_before a a ≡ false
itself a = grind (arith, nat_tests)

-- b is the first of a and of the list
abbrev FirstOf : Breach → List Breach → Breach → Type 0
FirstOf a bs b = ((a ≡ b) ⊎ IsAmong b bs) × (is_before a b ≡ false) × IsFirst b bs

turn : (a x b : Breach) (bs : List Breach) (t : Bool) → is_before x a ≡ t
    → (first_from_list (Some x) bs ≡ Some b → FirstOf x bs b) → (first_from_list (Some a) bs ≡ Some b → FirstOf a bs b)
    → first_from_list (cond t (Some x) (Some a)) bs ≡ Some b → FirstOf a (x ∷ bs) b
turn a x b bs true q p r h = let l = p h in (inr l.0, earlier x a b q l.1, (l.1, l.2))
turn a x b bs false q p r h = let l = r h in
    (elim l.0 [ inl e ↦ inl e | inr m ↦ inr (inr m) ], l.1, (later_still x a b q l.1, l.2))

first_from : (bs : List Breach) (a b : Breach) → first_from_list (Some a) bs ≡ Some b → FirstOf a bs b
unfolding first_from_list
first_from [] a b h = let e : a ≡ b = cc in (inl e, subst (λ y. is_before a y ≡ false) e (itself a), tt)
first_from (x ∷ bs) a b h = turn a x b bs (is_before x a) refl (first_from bs x b) (first_from bs a b) h

kept_on : (bs : List Breach) (x a : Breach) (t : Bool) → is_some (first_from_list (Some x) bs) ≡ true
    → is_some (first_from_list (Some a) bs) ≡ true → is_some (first_from_list (cond t (Some x) (Some a)) bs) ≡ true
kept_on bs x a true p q = p
kept_on bs x a false p q = q

is_none_not : (o : Option Breach) → is_some o ≡ true → o ≡ None → ⊥
is_none_not None p q = cc
is_none_not (Some b) p q = cc

-- what is noted stays noted
kept : (bs : List Breach) (a : Breach) → is_some (first_from_list (Some a) bs) ≡ true
unfolding first_from_list
kept [] a = refl
kept (x ∷ bs) a = kept_on bs x a (is_before x a) (kept bs x) (kept bs a)

-- the first of a list, or that it has none
abbrev pub IsFirstOf : Option Breach → List Breach → Type 0
IsFirstOf None bs = bs ≡ []
IsFirstOf (Some b) bs = IsAmong b bs × IsFirst b bs

first_is : (bs : List Breach) (o : Option Breach) → first_from_list None bs ≡ o → IsFirstOf o bs
unfolding first_from_list
first_is [] None h = refl
first_is [] (Some b) h = absurd cc
first_is (x ∷ bs) None h = let k = kept bs x in absurd (is_none_not (first_from_list (Some x) bs) k h)
first_is (x ∷ bs) (Some b) h = let l = first_from bs x b h in (l.0, (l.1, l.2))

-- What is noted of a list: the first of those after the known one, and how many they are

-- one more of the list
noted_more : (t : Bool) (l : Tally) (b : Breach) (bs : List Breach) → is_after l.after b ≡ t
    → (noted (record l { found = first_of_two l.found b; count = one_more l.count }) bs).found
    ≡ first_from_list (first_of_two l.found b) (filter (is_after l.after) bs)
    → (noted l bs).found ≡ first_from_list l.found (filter (is_after l.after) bs)
    → (noted (met l b) bs).found ≡ first_from_list l.found (cond t (b ∷ filter (is_after l.after) bs) (filter (is_after l.after) bs))
unfolding first_from_list
noted_more true l b bs e h k = rw e h
noted_more false l b bs e h k = rw e k

found_law : (l : Tally) (bs : List Breach) → (noted l bs).found ≡ first_from_list l.found (filter (is_after l.after) bs)
unfolding noted first_from_list
found_law l [] = refl
found_law l (b ∷ bs) = noted_more (is_after l.after b) l b bs refl
    (found_law (record l { found = first_of_two l.found b; count = one_more l.count }) bs) (found_law l bs)

-- a number that is counted
counted_more : (n m : ℕ) → counted (one_more n + m) ≡ counted (n + suc m)
counted_more n m = grind (arith, nat_tests)

counts_more : (t : Bool) (l : Tally) (b : Breach) (bs : List Breach) → is_after l.after b ≡ t
    → (noted (record l { found = first_of_two l.found b; count = one_more l.count }) bs).count
    ≡ counted (one_more l.count + length (filter (is_after l.after) bs))
    → (noted l bs).count ≡ counted (l.count + length (filter (is_after l.after) bs))
    → (noted (met l b) bs).count
    ≡ counted (l.count + length (cond t (b ∷ filter (is_after l.after) bs) (filter (is_after l.after) bs)))
counts_more true l b bs e h k = rw e (h ∙ counted_more l.count (length (filter (is_after l.after) bs)))
counts_more false l b bs e h k = rw e k

count_law : (l : Tally) (bs : List Breach) → l.count ≤ most_counted
    → (noted l bs).count ≡ counted (l.count + length (filter (is_after l.after) bs))
unfolding noted
count_law l [] few = grind (arith, nat_tests)
count_law l (b ∷ bs) few = counts_more (is_after l.after b) l b bs refl
    (count_law (record l { found = first_of_two l.found b; count = one_more l.count }) bs (grind (arith, nat_tests)))
    (count_law l bs few)

-- where none is known all are after it
all_after : (bs : List Breach) → filter (is_after None) bs ≡ bs
all_after [] = refl
all_after (b ∷ bs) = ap (λ (z : List Breach). b ∷ z) (all_after bs)

-- a list from a beginning that is known
from_known : (l : Tally) (bs : List Breach) (known o : Option Breach) → l.after ≡ known → l.found ≡ None
    → (noted l bs).found ≡ o → first_from_list None (filter (is_after known) bs) ≡ o
from_known l bs known o after found h =
    ap (λ (a : Option Breach). first_from_list None (filter (is_after a) bs)) (sym after)
    ∙ ap (λ (f : Option Breach). first_from_list f (filter (is_after l.after) bs)) (sym found)
    ∙ sym (found_law l bs) ∙ h

pub first_law : (bs : List Breach) (l : Tally) (o : Option Breach) → l.after ≡ None → l.found ≡ None
    → (noted l bs).found ≡ o → IsFirstOf o bs
first_law bs l o after found h =
    first_is bs o (ap (first_from_list None) (sym (all_after bs)) ∙ from_known l bs None o after found h)

pub later_law : (bs : List Breach) (l : Tally) (known : Breach) (o : Option Breach) → l.after ≡ Some known
    → l.found ≡ None → (noted l bs).found ≡ o → IsFirstOf o (later known bs)
later_law bs l known o after found h =
    first_is (later known bs) o (from_known l bs (Some known) o after found h)

pub later_count : (bs : List Breach) (l : Tally) (known : Breach) → l.after ≡ Some known → l.count ≡ 0
    → (noted l bs).count ≡ counted (length (later known bs))
later_count bs l known after none =
    let rest : List Breach = filter (is_after l.after) bs in
    let sum : l.count + length rest ≡ length rest = omega (arith, none) in
    count_law l bs (omega (arith, none)) ∙ ap counted sum
    ∙ ap (λ (a : Option Breach). counted (length (filter (is_after a) bs))) after
