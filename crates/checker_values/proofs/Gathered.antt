-- The keys of words are each once and ascend.
use Rattle.std.proofs.Common.{◌≡◌, ℕ, zero, suc, ◌+◌, ◌<◌, ◌≤◌, ◌⊎◌, inl, inr, List, [], ◌∷◌, length, map, slice_index}
use Rattle.std.proofs.Common.{refl, sym, ap, ◌∙◌, subst, arith}
use Rattle.std.specs.BTreeSet.{insert_key}
use Rattle.std.specs.List.{AllByRecursion}
use Rattle.std.specs.List.Sorted.{IsStrictlyIncreasing}
use Rattle.std.specs.Ordering.{nat_cmp}
use Rattle.std.proofs.lemmas.Bool.{cases_order, lt-ltb, le-ltb, eq-eqb, ne_eqb}
use Rattle.checker_values.specs.Keys.{key_of_word, with_keys, keys_of, IsKeyAmong}
use Rattle.checker_values.specs.Laws.{KeysAreEachOnce}

-- One key more

less : (k x : ℕ) (xs : List ℕ) → k < x → insert_key nat_cmp (x ∷ xs) k ≡ k ∷ x ∷ xs
less k x xs h =
    let a = lt-ltb k x h in
    rw a refl

equal : (k x : ℕ) (xs : List ℕ) → k ≡ x → insert_key nat_cmp (x ∷ xs) k ≡ x ∷ xs
equal k x xs e =
    let a = le-ltb k x (omega (arith, e)) in
    let b = eq-eqb k x e in
    rw (a, b) refl

greater : (k x : ℕ) (xs : List ℕ) → x < k → insert_key nat_cmp (x ∷ xs) k ≡ x ∷ insert_key nat_cmp xs k
greater k x xs h =
    let a = le-ltb k x (omega (arith, h)) in
    let b = ne_eqb k x (λ e. omega (arith, e, h)) in
    rw (a, b) refl

-- Order

abbrev Ascends : List ℕ → Type 0
Ascends [] = Unit {0}
Ascends (x ∷ xs) = AllByRecursion (λ y. x < y) xs × Ascends xs

all_more : (a b : ℕ) (xs : List ℕ) → a < b → AllByRecursion (λ y. b < y) xs → AllByRecursion (λ y. a < y) xs
all_more a b [] lt h = tt
all_more a b (x ∷ xs) lt h =
    let first = h.0 in
    (omega (arith, lt, first), all_more a b xs lt h.1)

all_insert : (a k : ℕ) (xs : List ℕ) → a < k → AllByRecursion (λ y. a < y) xs
    → AllByRecursion (λ y. a < y) (insert_key nat_cmp xs k)
all_insert a k [] lt h = (lt, tt)
all_insert a k (x ∷ xs) lt h = go (all_insert a k xs lt h.1) (cases_order k x)
  where
    go : AllByRecursion (λ y. a < y) (insert_key nat_cmp xs k) → (k ≡ x) ⊎ ((k < x) ⊎ (x < k))
        → AllByRecursion (λ y. a < y) (insert_key nat_cmp (x ∷ xs) k)
    go rest (inl e) = subst (AllByRecursion (λ y. a < y)) (sym (equal k x xs e)) h
    go rest (inr (inl l)) = subst (AllByRecursion (λ y. a < y)) (sym (less k x xs l)) (lt, h)
    go rest (inr (inr g)) = subst (AllByRecursion (λ y. a < y)) (sym (greater k x xs g)) (h.0, rest)

ascends_insert : (k : ℕ) (xs : List ℕ) → Ascends xs → Ascends (insert_key nat_cmp xs k)
ascends_insert k [] h = (tt, tt)
ascends_insert k (x ∷ xs) h = go (ascends_insert k xs h.1) (cases_order k x)
  where
    go : Ascends (insert_key nat_cmp xs k) → (k ≡ x) ⊎ ((k < x) ⊎ (x < k)) → Ascends (insert_key nat_cmp (x ∷ xs) k)
    go rest (inl e) = subst Ascends (sym (equal k x xs e)) h
    go rest (inr (inl l)) = subst Ascends (sym (less k x xs l)) ((l, all_more k x xs l h.0), h)
    go rest (inr (inr g)) = subst Ascends (sym (greater k x xs g)) (all_insert x k xs g h.0, rest)

increasing : (xs : List ℕ) → Ascends xs → IsStrictlyIncreasing xs
increasing [] h k lt = absurd (omega (arith, lt))
increasing (x ∷ []) h k lt = absurd (omega (arith, lt))
increasing (x ∷ y ∷ ys) h zero lt = h.0.0
increasing (x ∷ y ∷ ys) h (suc k) lt =
    let z : suc k + 1 ≡ suc (k + 1) = omega arith in
    subst (λ n. slice_index (x ∷ y ∷ ys) (suc k) < slice_index (x ∷ y ∷ ys) n) (sym z)
    (increasing (y ∷ ys) h.1 k (omega (arith, lt)))

-- Members

among_insert : (key k : ℕ) (xs : List ℕ) → IsKeyAmong key (insert_key nat_cmp xs k) → (key ≡ k) ⊎ IsKeyAmong key xs
among_insert key k [] h = h
among_insert key k (x ∷ xs) h = go (among_insert key k xs) (cases_order k x)
  where
    after : ((key ≡ k) ⊎ IsKeyAmong key xs) → (key ≡ k) ⊎ IsKeyAmong key (x ∷ xs)
    after (inl e) = inl e
    after (inr m) = inr (inr m)

    split : (IsKeyAmong key (insert_key nat_cmp xs k) → (key ≡ k) ⊎ IsKeyAmong key xs)
        → IsKeyAmong key (x ∷ insert_key nat_cmp xs k) → (key ≡ k) ⊎ IsKeyAmong key (x ∷ xs)
    split rest (inl e) = inr (inl e)
    split rest (inr m) = after (rest m)

    go : (IsKeyAmong key (insert_key nat_cmp xs k) → (key ≡ k) ⊎ IsKeyAmong key xs) → (k ≡ x) ⊎ ((k < x) ⊎ (x < k))
        → (key ≡ k) ⊎ IsKeyAmong key (x ∷ xs)
    go rest (inl e) = inr (subst (IsKeyAmong key) (equal k x xs e) h)
    go rest (inr (inl l)) = subst (IsKeyAmong key) (less k x xs l) h
    go rest (inr (inr g)) = split rest (subst (IsKeyAmong key) (greater k x xs g) h)

insert_among : (key k : ℕ) (xs : List ℕ) → (key ≡ k) ⊎ IsKeyAmong key xs → IsKeyAmong key (insert_key nat_cmp xs k)
insert_among key k [] h = h
insert_among key k (x ∷ xs) h = go (insert_among key k xs) h (cases_order k x)
  where
    go : ((key ≡ k) ⊎ IsKeyAmong key xs → IsKeyAmong key (insert_key nat_cmp xs k))
        → (key ≡ k) ⊎ IsKeyAmong key (x ∷ xs)
        → (k ≡ x) ⊎ ((k < x) ⊎ (x < k)) → IsKeyAmong key (insert_key nat_cmp (x ∷ xs) k)
    go rest (inl e) (inl s) = subst (IsKeyAmong key) (sym (equal k x xs s)) (inl (e ∙ s))
    go rest (inr m) (inl s) = subst (IsKeyAmong key) (sym (equal k x xs s)) m
    go rest m (inr (inl l)) = subst (IsKeyAmong key) (sym (less k x xs l)) m
    go rest (inl e) (inr (inr g)) = subst (IsKeyAmong key) (sym (greater k x xs g)) (inr (rest (inl e)))
    go rest (inr (inl e)) (inr (inr g)) = subst (IsKeyAmong key) (sym (greater k x xs g)) (inl e)
    go rest (inr (inr m)) (inr (inr g)) = subst (IsKeyAmong key) (sym (greater k x xs g)) (inr (rest (inr m)))

-- All words

ascends_with : (keys : List ℕ) (words : List (List ℕ)) → Ascends keys → Ascends (with_keys keys words)
ascends_with keys [] h = h
ascends_with keys (w ∷ ws) h = ascends_with (insert_key nat_cmp keys (key_of_word w)) ws
    (ascends_insert (key_of_word w) keys h)

from_words : (key : ℕ) (keys : List ℕ) (words : List (List ℕ)) → IsKeyAmong key (with_keys keys words)
    → IsKeyAmong key keys ⊎ IsKeyAmong key (map key_of_word words)
from_words key keys [] h = inl h
from_words key keys (w ∷ ws) h = go (from_words key (insert_key nat_cmp keys (key_of_word w)) ws h)
  where
    first : (key ≡ key_of_word w) ⊎ IsKeyAmong key keys
        → IsKeyAmong key keys ⊎ IsKeyAmong key (map key_of_word (w ∷ ws))
    first (inl e) = inr (inl e)
    first (inr m) = inl m

    go : IsKeyAmong key (insert_key nat_cmp keys (key_of_word w)) ⊎ IsKeyAmong key (map key_of_word ws)
        → IsKeyAmong key keys ⊎ IsKeyAmong key (map key_of_word (w ∷ ws))
    go (inl m) = first (among_insert key (key_of_word w) keys m)
    go (inr m) = inr (inr m)

to_keys : (key : ℕ) (keys : List ℕ) (words : List (List ℕ))
    → IsKeyAmong key keys ⊎ IsKeyAmong key (map key_of_word words)
    → IsKeyAmong key (with_keys keys words)
to_keys key keys [] (inl m) = m
to_keys key keys [] (inr m) = absurd m
to_keys key keys (w ∷ ws) (inl m) = to_keys key (insert_key nat_cmp keys (key_of_word w)) ws
    (inl (insert_among key (key_of_word w) keys (inr m)))
to_keys key keys (w ∷ ws) (inr (inl e)) = to_keys key (insert_key nat_cmp keys (key_of_word w)) ws
    (inl (insert_among key (key_of_word w) keys (inl e)))
to_keys key keys (w ∷ ws) (inr (inr m)) = to_keys key (insert_key nat_cmp keys (key_of_word w)) ws (inr m)

only_words : (key : ℕ) (words : List (List ℕ)) → IsKeyAmong key [] ⊎ IsKeyAmong key (map key_of_word words)
    → IsKeyAmong key (map key_of_word words)
only_words key words (inl m) = absurd m
only_words key words (inr m) = m

pub each_once : KeysAreEachOnce
each_once words = (
  increasing (keys_of words) (ascends_with [] words tt),
  λ key. (λ m. only_words key words (from_words key [] words m), λ m. to_keys key [] words (inr m)),
)

-- There are no more keys than words

one_longer : (k : ℕ) (xs : List ℕ) → length (insert_key nat_cmp xs k) ≤ length xs + 1
one_longer k [] = omega arith
one_longer k (x ∷ xs) = go (one_longer k xs) (cases_order k x)
  where
    go : length (insert_key nat_cmp xs k) ≤ length xs + 1 → (k ≡ x) ⊎ ((k < x) ⊎ (x < k))
        → length (insert_key nat_cmp (x ∷ xs) k) ≤ length (x ∷ xs) + 1
    go rest (inl e) = let same = ap length (equal k x xs e) in omega (arith, same)
    go rest (inr (inl l)) = let same = ap length (less k x xs l) in omega (arith, same)
    go rest (inr (inr g)) = let same = ap length (greater k x xs g) in omega (arith, same, rest)

few_with : (keys : List ℕ) (words : List (List ℕ)) → length (with_keys keys words) ≤ length keys + length words
few_with keys [] = omega arith
few_with keys (w ∷ ws) =
    let first = one_longer (key_of_word w) keys in
    let rest = few_with (insert_key nat_cmp keys (key_of_word w)) ws in
    omega (arith, first, rest)

pub few_keys : (words : List (List ℕ)) → length (keys_of words) ≤ length words
few_keys words = omega (arith, few_with [] words)

pub keys_ascend : (words : List (List ℕ)) → IsStrictlyIncreasing (keys_of words)
keys_ascend words = increasing (keys_of words) (ascends_with [] words tt)
