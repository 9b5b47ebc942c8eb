-- Which properties have one word wherever an object provides them.
use Rattle.std.proofs.Common.{◌≡◌, ◌≢◌, ℕ, ◌+◌, ◌<◌, ◌≤◌, zero, suc, List, [], ◌∷◌, length, take, map, Option, Some, None}
use Rattle.std.proofs.Common.{Bool, true, false, refl, sym, ap, ◌∙◌, subst, arith, inl, inr}
use Rattle.std.specs.Prelude.{◌==◌, ◌&&◌, ◌||◌, not, slice_index_or, replicate, option_map, unwrap_or}
use Rattle.std.specs.Prelude.{if◌then◌else◌}
use Rattle.std.specs.List.{list_all}
use Rattle.std.proofs.lemmas.Bool.{and_parts, cases_eq, ne_eqb}
use Rattle.std.proofs.lemmas.List.{ext_get_or, get_or-replicate, get_or_past, take_all}
use Rattle.std.proofs.lemmas.List.FromFn.{get_or-map-range_with_len}
use Rattle.meaning.specs.Forests.{IsObjectNumber}
use Rattle.meaning.specs.Objects.{Objects, ObjectOf, no_object, object_at, words_in}
use Rattle.code.specs.Region.{HasObjects}
use Rattle.code.specs.Tables.{PropertyTable}
use Rattle.code.specs.HeldProgram.{is_one_word, is_single, singles_of}
use Rattle.code.specs.Written.{Narrows}

-- Flags

and_true : (b : Bool) → b ≡ (b && true)
and_true true = refl
and_true false = refl

and_and : (a b c : Bool) → ((a && b) && c) ≡ (a && (b && c))
and_and true b c = refl
and_and false b c = refl

-- the test of a number of words
abbrev tested : ℕ → ℕ → ℕ → Bool
tested n count q = not (n == q) || count == 1

tested_other : (n count q : ℕ) → n ≢ q → tested n count q ≡ true
tested_other n count q apart = ap (λ b. not b || count == 1) (ne_eqb n q apart)

pub kept_beyond : (xs : List Bool) (n count : ℕ) → length xs ≤ n → Narrows xs xs (tested n count)
kept_beyond xs n count out q = elim (cases_eq n q) [
  | inl same ↦
      let none : slice_index_or xs q false ≡ false = get_or_past xs q false (omega (arith, out, same)) in
      none ∙ sym (ap (λ b. b && tested n count q) none)
  | inr other ↦
      and_true (slice_index_or xs q false)
      ∙ ap (λ b. slice_index_or xs q false && b) (sym (tested_other n count q other))
]

-- One after another

narrows_as : (xs ys : List Bool) (f g : ℕ → Bool) → ((q : ℕ) → f q ≡ g q) → Narrows xs ys f → Narrows xs ys g
narrows_as xs ys f g same h q = h q ∙ ap (λ b. slice_index_or xs q false && b) (same q)

narrows_on : (xs ys zs : List Bool) (f g : ℕ → Bool) → Narrows xs ys f → Narrows ys zs g
    → Narrows xs zs (λ q. f q && g q)
narrows_on xs ys zs f g first second q =
    second q ∙ ap (λ b. b && g q) (first q) ∙ and_and (slice_index_or xs q false) (f q) (g q)

all_next : {A B : Type 0} (p : B → Bool) (f : A → B) (xs : List A) (i : ℕ) (d : A) → i < length xs
    → (list_all p (map f (take i xs)) && p (f (slice_index_or xs i d))) ≡ list_all p (map f (take (suc i) xs))
all_next p f [] i d h = absurd (omega (arith, h))
all_next p f (x ∷ xs) zero d h = and_true (p (f x))
all_next p f (x ∷ xs) (suc i) d h =
    and_and (p (f x)) (list_all p (map f (take i xs))) (p (f (slice_index_or xs i d)))
    ∙ ap (λ b. p (f x) && b) (all_next p f xs i d (omega (arith, h)))

-- one element more
pub narrows_next : {A B : Type 0} (first old new : List Bool) (p : ℕ → B → Bool) (f : A → B) (xs : List A) (i : ℕ) (x : A)
    → i < length xs → x ≡ slice_index_or xs i x → Narrows first old (λ q. list_all (p q) (map f (take i xs)))
    → Narrows old new (λ q. p q (f x)) → Narrows first new (λ q. list_all (p q) (map f (take (i + 1) xs)))
narrows_next first old new p f xs i x inside is before now =
    narrows_as first new (λ q. list_all (p q) (map f (take i xs)) && p q (f x))
    (λ q. list_all (p q) (map f (take (i + 1) xs)))
    (λ q.
    let more : suc i ≡ i + 1 = omega arith in
    ap (λ y. list_all (p q) (map f (take i xs)) && p q (f y)) is ∙ all_next (p q) f xs i x inside
    ∙ ap (λ n. list_all (p q) (map f (take n xs))) more)
    (narrows_on first old new (λ q. list_all (p q) (map f (take i xs))) (λ q. p q (f x)) before now)

-- all of them
pub narrows_all : {A B : Type 0} (first last : List Bool) (p : ℕ → B → Bool) (f : A → B) (xs : List A) (i : ℕ)
    → length xs ≤ i → Narrows first last (λ q. list_all (p q) (map f (take i xs)))
    → Narrows first last (λ q. list_all (p q) (map f xs))
narrows_all first last p f xs i end h =
    narrows_as first last (λ q. list_all (p q) (map f (take i xs))) (λ q. list_all (p q) (map f xs))
    (λ q. ap (λ ys. list_all (p q) (map f ys)) (take_all i xs end)) h

-- the flags of all properties
pub singles_are : (flags : List Bool) (objects : List ObjectOf) → length flags ≡ 64
    → Narrows (replicate 64 true) flags (is_single objects) → flags ≡ singles_of objects
singles_are flags objects long h = ext_get_or false flags (singles_of objects) long (λ i lt.
    h i
    ∙ ap (λ b. b && is_single objects i) (get_or-replicate 64 i true false (omega (arith, lt, long)))
    ∙ sym (single_at i (omega (arith, lt, long))))
  where
    single_at : (i : ℕ) → i < 64 → slice_index_or (singles_of objects) i false ≡ is_single objects i
    single_at i lt = get_or-map-range_with_len (is_single objects) 0 64 i i false lt (omega arith)

pub single_at : (objects : List ObjectOf) (q : ℕ) → q < 64 → slice_index_or (singles_of objects) q false ≡ true
    → is_single objects q ≡ true
single_at objects q lt e = sym (get_or-map-range_with_len (is_single objects) 0 64 q q false lt (omega arith)) ∙ e

-- The words of such a property

word_by : (q : ℕ) (x : ℕ × List ℕ) (others : Option (List ℕ)) (words : List ℕ) (b : Bool) → (x.0 == q) ≡ b
    → is_one_word q x ≡ true → (others ≡ Some words → (length words == 1) ≡ true)
    → (if x.0 == q then Some x.1 else others) ≡ Some words → (length words == 1) ≡ true
word_by q x others words true is one further e =
    let found : Some x.1 ≡ Some words = subst (λ b. (if b then Some x.1 else others) ≡ Some words) is e in
    let here : (length x.1 == 1) ≡ true = subst (λ b. (not b || length x.1 == 1) ≡ true) is one in
    subst (λ (ws : List ℕ). (length ws == 1) ≡ true) (ap (λ (o : Option (List ℕ)). unwrap_or o []) found) here
word_by q x others words false is one further e =
    further (subst (λ b. (if b then Some x.1 else others) ≡ Some words) is e)

words_one : (q : ℕ) (xs : List (ℕ × List ℕ)) (words : List ℕ) → list_all (is_one_word q) xs ≡ true
    → words_in q xs ≡ Some words → (length words == 1) ≡ true
words_one q [] words all e = absurd (cc)
words_one q (x ∷ xs) words all e =
    let parts = and_parts (is_one_word q x) (list_all (is_one_word q) xs) all in
    word_by q x (words_in q xs) words (x.0 == q) refl parts.0 (words_one q xs words parts.1) e

each_one : (q k : ℕ) (objects : List ObjectOf) → is_single objects q ≡ true
    → list_all (is_one_word q) (slice_index_or objects k no_object).properties ≡ true
each_one q k [] e = refl
each_one q zero (x ∷ xs) e = (and_parts (list_all (is_one_word q) x.properties) (is_single xs q) e).0
each_one q (suc k) (x ∷ xs) e =
    each_one q k xs (and_parts (list_all (is_one_word q) x.properties) (is_single xs q) e).1

object_one : (q o : ℕ) (objects : List ObjectOf) → is_single objects q ≡ true
    → list_all (is_one_word q) (object_at objects o).properties ≡ true
object_one q zero objects e = refl
object_one q (suc k) objects e = each_one q k objects e

pub one_word : (definitions : List ObjectOf) (defaults : List ℕ) (objects : Objects) (tables : List PropertyTable)
    (memory : List ℕ) → HasObjects definitions defaults objects tables memory → (o q : ℕ)
    → IsObjectNumber (length definitions) o → is_single definitions q ≡ true
    → (words : List ℕ) → objects.properties o q ≡ Some words → (length words == 1) ≡ true
one_word definitions defaults objects tables memory has o q known single words is =
    go (words_in q (object_at definitions o).properties) refl
  where
    go : (defined : Option (List ℕ)) → words_in q (object_at definitions o).properties ≡ defined
        → (length words == 1) ≡ true
    go defined e = by defined e
        (sym (ap (option_map length) is) ∙ has.shaped o q known ∙ ap (option_map length) e)
      where
        by : (defined : Option (List ℕ)) → words_in q (object_at definitions o).properties ≡ defined
            → Some (length words) ≡ option_map length defined → (length words == 1) ≡ true
        by None e same = absurd (cc)
        by (Some others) e same =
            subst (λ n. (n == 1) ≡ true) (sym (ap (λ (o : Option ℕ). unwrap_or o 0) same))
            (words_one q (object_at definitions o).properties others (object_one q o definitions single) e)
