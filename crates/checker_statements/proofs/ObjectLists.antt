-- Lists of what objects provide.
use Rattle.std.proofs.Common.{◌≡◌, ◌<◌, ◌≤◌, ◌+◌, ℕ, zero, suc, nat_lt, Bool, true, false, cond, List, [], ◌∷◌, ◌++◌}
use Rattle.std.proofs.Common.{length, min, take, drop, slice_index_or, Option, Some, None, refl, sym, ap, ◌∙◌, arith}
use Rattle.std.specs.Prelude.{◌==◌, map, slice_get}
use Rattle.std.proofs.lemmas.List.{take_min}
use Rattle.std.proofs.lemmas.Bool.Decides.{nat_tests}
use Rattle.std.specs.List.{flat_map}
use Rattle.std.specs.Option.{option_map}
use Rattle.std.specs.Global.{Vec}
use Rattle.syntax_directives.specs.declared.tree.ArrayValue.{ArrayValue}
use Rattle.syntax_lexer.specs.declared.token.Position.{Position}
use Rattle.checker_values.specs.Breaches.{at}
use Rattle.checker_values.specs.Names.{File}
use Rattle.syntax_directives.specs.declared.tree.Property.{Property}
use Rattle.syntax_directives.specs.Tree.{PropertyTree}
use Rattle.syntax_directives.specs.Views.{value_tree, property_tree}
use Rattle.meaning.specs.Views.{property_of}
use Rattle.checker_values.specs.declared.breach.Breach.{Breach}
use Rattle.checker_values.specs.declared.noting.Tally.{Tally}
use Rattle.checker_values.specs.Noted.{noted}
use Rattle.checker_values.proofs.Noted.{noted_none, noted_append}
use Rattle.checker_values.proofs.Dropped.{drop_here, drop_end}
use Rattle.checker_statements.specs.Objects.{with_property, with_properties, provided_of, place_below, count_breaches}
use Rattle.checker_statements.specs.Objects.{excess_breaches}

pub get_mapped : {A B : Type 0} (f : A → B) (xs : List A) (n : ℕ)
    → slice_get (map f xs) n ≡ option_map f (slice_get xs n)
get_mapped f [] n = refl
get_mapped f (x ∷ xs) zero = refl
get_mapped f (x ∷ xs) (suc n) = get_mapped f xs n

take_mapped : {A B : Type 0} (f : A → B) (xs : List A) (n : ℕ) → map f (take n xs) ≡ take n (map f xs)
take_mapped f xs zero = refl
take_mapped f [] (suc n) = refl
take_mapped f (x ∷ xs) (suc n) = ap (λ r. f x ∷ r) (take_mapped f xs n)

drop_mapped : {A B : Type 0} (f : A → B) (xs : List A) (n : ℕ) → map f (drop n xs) ≡ drop n (map f xs)
drop_mapped f xs zero = refl
drop_mapped f [] (suc n) = refl
drop_mapped f (x ∷ xs) (suc n) = drop_mapped f xs n

append_mapped : {A B : Type 0} (f : A → B) (xs ys : List A) → map f (xs ++ ys) ≡ map f xs ++ map f ys
append_mapped f [] ys = refl
append_mapped f (x ∷ xs) ys = ap (λ r. f x ∷ r) (append_mapped f xs ys)

-- what is noted of the front of a list and then of the rest is what is noted of the whole
pub noted_apart : (f : PropertyTree → List Breach) (m : Tally) (n : ℕ) (xs : List Property)
    → noted (noted m (flat_map f (map property_tree (take n xs)))) (flat_map f (map property_tree (drop n xs)))
    ≡ noted m (flat_map f (map property_tree xs))
noted_apart f m zero xs = ap (λ o. noted o (flat_map f (map property_tree xs))) (noted_none m)
noted_apart f m (suc n) [] = noted_none (noted m [])
noted_apart f m (suc n) (x ∷ xs) =
    let own = f (property_tree x) in
    ap (λ o. noted o (flat_map f (map property_tree (drop n xs))))
    (noted_append m own (flat_map f (map property_tree (take n xs))))
    ∙ noted_apart f (noted m own) n xs
    ∙ sym (noted_append m own (flat_map f (map property_tree xs)))

-- the front of a list, of as many as it has where these are fewer
pub front_mapped : {A B : Type 0} (f : A → B) (n : ℕ) (xs : List A)
    → map f (take (min n (length xs)) xs) ≡ take n (map f xs)
front_mapped f n xs = ap (λ ys. map f ys) (take_min n xs) ∙ take_mapped f xs n

-- a property is put in its place

put : (c : Bool) (n : ℕ) (x y : ℕ × List ℕ) (ys zs : List (ℕ × List ℕ)) → take n ys ++ x ∷ drop n ys ≡ zs
    → take (cond c 0 (suc n)) (y ∷ ys) ++ x ∷ drop (cond c 0 (suc n)) (y ∷ ys) ≡ cond c (x ∷ y ∷ ys) (y ∷ zs)
put true n x y ys zs h = refl
put false n x y ys zs h = ap (λ r. y ∷ r) h

pub put_in_place : (x : ℕ × List ℕ) (ys : List (ℕ × List ℕ))
    → take (place_below x.0 ys) ys ++ x ∷ drop (place_below x.0 ys) ys ≡ with_property x ys
put_in_place x [] = refl
put_in_place x (y ∷ ys) = put (nat_lt y.0 x.0) (place_below x.0 ys) x y ys (with_property x ys) (put_in_place x ys)

pub inserted_mapped : (x : ℕ × Vec ℕ) (ys : List (ℕ × Vec ℕ)) (place : ℕ)
    → place ≡ place_below x.0 (map property_of ys)
    → map property_of (take place ys ++ x ∷ drop place ys) ≡ with_property (property_of x) (map property_of ys)
inserted_mapped x ys place is =
    append_mapped property_of (take place ys) (x ∷ drop place ys)
    ∙ ap (λ r. r ++ property_of x ∷ map property_of (drop place ys)) (take_mapped property_of ys place)
    ∙ ap (λ r. take place (map property_of ys) ++ property_of x ∷ r) (drop_mapped property_of ys place)
    ∙ ap (λ (n : ℕ). take n (map property_of ys) ++ property_of x ∷ drop n (map property_of ys)) is
    ∙ put_in_place (property_of x) (map property_of ys)

-- the place of a number, one property after another

place_from : (n : ℕ) (ys : List (ℕ × Vec ℕ)) (i : ℕ) (d : ℕ × Vec ℕ) → i < length ys
    → place_below n (map property_of (drop i ys))
    ≡ cond (nat_lt (slice_index_or ys i d).0 n) 0 (suc (place_below n (map property_of (drop (suc i) ys))))
place_from n [] i d lt = absurd (omega (arith, lt))
place_from n (y ∷ ys) zero d lt = refl
place_from n (y ∷ ys) (suc i) d lt = place_from n ys i d (omega (arith, lt))

pub place_next : (n : ℕ) (ys : List (ℕ × Vec ℕ)) (i whole : ℕ) (d : ℕ × Vec ℕ) → i < length ys
    → nat_lt (slice_index_or ys i d).0 n ≡ false → i + place_below n (map property_of (drop i ys)) ≡ whole
    → i + 1 + place_below n (map property_of (drop (i + 1) ys)) ≡ whole
place_next n ys i whole d lt is h =
    let j : i + 1 ≡ suc i = omega arith in
    let e : place_below n (map property_of (drop i ys)) ≡ suc (place_below n (map property_of (drop (suc i) ys))) =
    place_from n ys i d lt
    ∙ ap (λ (c : Bool). cond c 0 (suc (place_below n (map property_of (drop (suc i) ys))))) is in
    rw j (omega (arith, e, h))

pub place_here : (n : ℕ) (ys : List (ℕ × Vec ℕ)) (i whole : ℕ) (d : ℕ × Vec ℕ) → i < length ys
    → nat_lt (slice_index_or ys i d).0 n ≡ true → i + place_below n (map property_of (drop i ys)) ≡ whole → i ≡ whole
place_here n ys i whole d lt is h =
    let e : place_below n (map property_of (drop i ys)) ≡ 0 = place_from n ys i d lt
    ∙ ap (λ (c : Bool). cond c 0 (suc (place_below n (map property_of (drop (suc i) ys))))) is in
    omega (arith, e, h)

pub place_end : (n : ℕ) (ys : List (ℕ × Vec ℕ)) (i whole : ℕ) → i ≡ length ys
    → i + place_below n (map property_of (drop i ys)) ≡ whole → i ≡ whole
place_end n ys i whole end h =
    let e : place_below n (map property_of (drop i ys)) ≡ 0 =
    ap (λ (z : List (ℕ × Vec ℕ)). place_below n (map property_of z)) (drop_end ys i (omega (arith, end))) in
    omega (arith, e, h)

-- one more property is put among those before it
pub properties_next : (file : File) (old new whole : List (ℕ × List ℕ)) (r : ℕ × List ℕ) (xs : List Property) (i : ℕ)
    (x : Property) → i < length xs → x ≡ slice_index_or xs i x → r ≡ provided_of file (property_tree x)
    → new ≡ with_property r old → with_properties file old (map property_tree (drop i xs)) ≡ whole
    → with_properties file new (map property_tree (drop (i + 1) xs)) ≡ whole
properties_next file old new whole r xs i x lt is value more h =
    let rest : List PropertyTree = map property_tree (drop (i + 1) xs) in
    ap (λ (z : List (ℕ × List ℕ)). with_properties file z rest) more
    ∙ ap (λ (y : ℕ × List ℕ). with_properties file (with_property y old) rest) value
    ∙ ap (λ (z : List Property). with_properties file old (map property_tree z)) (sym (drop_here xs i x lt is))
    ∙ h

-- the number of a property's values

get_there : {A : Type 0} (xs : List A) (n : ℕ) (d : A) → n < length xs → slice_get xs n ≡ Some (slice_index_or xs n d)
get_there [] n d h = absurd (omega (arith, h))
get_there (x ∷ xs) zero d h = refl
get_there (x ∷ xs) (suc n) d h = get_there xs n d (omega (arith, h))

get_none : {A : Type 0} (xs : List A) (n : ℕ) → length xs ≤ n → slice_get xs n ≡ None
get_none [] n h = refl
get_none (x ∷ xs) zero h = absurd (omega (arith, h))
get_none (x ∷ xs) (suc n) h = get_none xs n (omega (arith, h))

values_counted : (p : Position) (vs : List ArrayValue) (o : Option ArrayValue) → 1 ≤ length vs
    → slice_get vs 32 ≡ o → count_breaches p (map value_tree vs) ≡ excess_breaches (option_map value_tree o)
values_counted p [] o h e = absurd (omega (arith, h))
values_counted p (v ∷ vs) o h e =
    ap excess_breaches (get_mapped value_tree (v ∷ vs) 32 ∙ ap (option_map value_tree) e)

pub counted_many : (p : Position) (vs : List ArrayValue) (x : ArrayValue) → true ≡ nat_lt 32 (length vs)
    → x ≡ slice_index_or vs 32 x → count_breaches p (map value_tree vs) ≡ at x.position 24
counted_many p vs x h is =
    let lt : 32 < length vs = grind (arith, nat_tests) in
    values_counted p vs (Some x) (omega (arith, lt)) (get_there vs 32 x lt ∙ ap Some (sym is))

pub counted_few : (p : Position) (vs : List ArrayValue) → false ≡ (length vs == 0) → false ≡ nat_lt 32 (length vs)
    → count_breaches p (map value_tree vs) ≡ []
counted_few p vs some few =
    let le : length vs ≤ 32 = grind (arith, nat_tests) in
    let tally : 1 ≤ length vs = grind (arith, nat_tests) in
    values_counted p vs None tally (get_none vs 32 le)
