-- The search of ascending keys by halving.
use Rattle.std.proofs.Common.{◌≡◌, ◌==◌, ℕ, zero, suc, ◌+◌, ◌*◌, ◌<◌, ◌≤◌, ◌⊎◌, inl, inr, true, false, List, refl, ap}
use Rattle.std.proofs.Common.{sym, ◌∙◌, subst, arith}
use Rattle.std.proofs.lemmas.Bool.{cases_lt, cases_order, cases_Bool, eqb-true, eqb-false}
use Rattle.zcore.specs.Header.{entry_length_of, entry_count, first_entry, key_at, AreAscending, IsDictionary}
use Rattle.tables.specs.declared.dictionary.Entries.{Entries}
use Rattle.zcore.specs.Dictionary.{entry_in}
use Rattle.zcore.proofs.Searching.{entry_listed}
use Rattle.tables.specs.Dictionary.{Finds}
use Rattle.tables.specs.Searched.{AreEntriesAt, IsFoundIn}

-- numbers each above the one before it
pub rising : (f : ℕ → ℕ) (count i j : ℕ) → ((k : ℕ) → k + 1 < count → f k < f (k + 1)) → i < j → j < count → f i < f j
rising f count i zero h lt within = absurd (omega (arith, lt))
rising f count i (suc j) h lt within = go (λ below. rising f count i j h below (omega (arith, within))) (cases_lt i j)
  where
    next : f j < f (suc j)
    next =
        let e : j + 1 ≡ suc j = omega arith in
        subst (λ n. f j < f n) e (h j (omega (arith, within)))

    go : (i < j → f i < f j) → (i < j) ⊎ (j ≤ i) → f i < f (suc j)
    go before (inl below) =
        let a = before below in
        omega (arith, a, next)
    go before (inr above) =
        let e : j ≡ i = omega (arith, lt, above) in
        subst (λ n. f n < f (suc j)) e next

-- the key at a middle entry is less: so are those before it
pub all_below : (f : ℕ → ℕ) (count middle key : ℕ) → ((k : ℕ) → k + 1 < count → f k < f (k + 1)) → middle < count
    → f middle < key → (k : ℕ) → k < middle + 1 → f k < key
all_below f count middle key h within less k lt = go (cases_lt k middle)
  where
    go : (k < middle) ⊎ (middle ≤ k) → f k < key
    go (inl below) =
        let a = rising f count k middle h below within in
        omega (arith, a, less)
    go (inr above) =
        let e : middle ≡ k = omega (arith, lt, above) in
        subst (λ n. f n < key) e less

-- it is greater: so are those behind it
pub all_above : (f : ℕ → ℕ) (count middle key : ℕ) → ((k : ℕ) → k + 1 < count → f k < f (k + 1)) → key < f middle
    → (k : ℕ) → middle ≤ k → k < count → key < f k
all_above f count middle key h more k le within = go (cases_lt middle k)
  where
    go : (middle < k) ⊎ (k ≤ middle) → key < f k
    go (inl above) =
        let a = rising f count middle k h above within in
        omega (arith, a, more)
    go (inr below) =
        let e : middle ≡ k = omega (arith, le, below) in
        subst (λ n. key < f n) e more

-- it is the key: no other is
pub only_one : (f : ℕ → ℕ) (count i j : ℕ) → ((k : ℕ) → k + 1 < count → f k < f (k + 1)) → i < count → j < count
    → f i ≡ f j → i ≡ j
only_one f count i j h a b e = go (cases_order i j)
  where
    go : (i ≡ j) ⊎ ((i < j) ⊎ (j < i)) → i ≡ j
    go (inl same) = same
    go (inr (inl lt)) =
        let r = rising f count i j h lt b in
        absurd (omega (arith, r, e))
    go (inr (inr lt)) =
        let r = rising f count j i h lt a in
        absurd (omega (arith, r, e))

pub found_at : (story : List ℕ) (entries : Entries) (key middle : ℕ)
    → AreAscending story entries.first entries.bytes entries.count → middle < entries.count
    → key_at story (entries.first + middle * entries.bytes) ≡ key
    → IsFoundIn story entries key (entries.first + middle * entries.bytes)
found_at story entries key middle ascending within here =
    let f : ℕ → ℕ = λ k. key_at story (entries.first + k * entries.bytes) in
    record {
      found = λ k lt e. ap (λ n. entries.first + n * entries.bytes)
          (only_one f entries.count middle k ascending within lt (here ∙ sym e));
      none = λ h. absurd (eqb-false _ _ (h middle within) here);
    }

-- the entries before `low` have lesser keys, and those from `low` on greater ones
pub found_none : (story : List ℕ) (entries : Entries) (key low high : ℕ) → high ≤ low
    → ((k : ℕ) → k < low → key_at story (entries.first + k * entries.bytes) < key)
    → ((k : ℕ) → high ≤ k → k < entries.count → key < key_at story (entries.first + k * entries.bytes))
    → IsFoundIn story entries key 0
found_none story entries key low high le below above = record {
  found = λ k lt e. absurd (other k lt (cases_lt k low) e);
  none = λ h. refl;
}
  where
    other : (k : ℕ) → k < entries.count → (k < low) ⊎ (low ≤ k)
        → key_at story (entries.first + k * entries.bytes) ≡ key → ⊥
    other k lt (inl a) e =
        let b = below k a in
        omega (arith, b, e)
    other k lt (inr a) e =
        let b = above k (omega (arith, a, le)) lt in
        omega (arith, b, e)

-- The entry that the definition gives

-- it is the one that a search found, or there is none
pub entry_is : (story : List ℕ) (bytes count at key result : ℕ)
    → ((k : ℕ) → k < count → key_at story (at + k * bytes) ≡ key → result ≡ at + k * bytes)
    → (((k : ℕ) → k < count → (key_at story (at + k * bytes) == key) ≡ false) → result ≡ 0)
    → result ≡ entry_in story at bytes count key
entry_is story bytes zero at key result found none = none (λ k lt. absurd (omega (arith, lt)))
entry_is story bytes (suc count) at key result found none = go (entry_is story bytes count (at + bytes) key result)
    (cases_Bool (key_at story at == key))
  where
    first : at + 0 * bytes ≡ at
    first = omega arith

    next : (k : ℕ) → at + bytes + k * bytes ≡ at + suc k * bytes
    next k = omega arith

    each : (key_at story at == key) ≡ false
        → ((k : ℕ) → k < count → (key_at story (at + bytes + k * bytes) == key) ≡ false)
        → (k : ℕ) → k < suc count → (key_at story (at + k * bytes) == key) ≡ false
    each a h zero lt = ap (λ p. key_at story p == key) first ∙ a
    each a h (suc k) lt = ap (λ p. key_at story p == key) (sym (next k)) ∙ h k (omega (arith, lt))

    go : (((k : ℕ) → k < count → key_at story (at + bytes + k * bytes) ≡ key → result ≡ at + bytes + k * bytes)
        → (((k : ℕ) → k < count → (key_at story (at + bytes + k * bytes) == key) ≡ false) → result ≡ 0)
        → result ≡ entry_in story (at + bytes) bytes count key)
        → ((key_at story at == key) ≡ true) ⊎ ((key_at story at == key) ≡ false)
        → result ≡ entry_in story at bytes (suc count) key
    go rest (inl a) = rw a (found 0 (omega arith) (ap (key_at story) first ∙ eqb-true _ _ a) ∙ first)
    go rest (inr a) =
        rw a (rest
        (λ k lt e. found (suc k) (omega (arith, lt)) (ap (key_at story) (sym (next k)) ∙ e) ∙ sym (next k))
        (λ h. none (each a h)))

pub finds : (story : List ℕ) (dictionary key result : ℕ) (entries : Entries) → AreEntriesAt story dictionary entries
    → (AreAscending story entries.first entries.bytes entries.count → IsFoundIn story entries key result)
    → IsDictionary story dictionary → Finds story dictionary key result
finds story dictionary key result entries at h d =
    let place : (k : ℕ) → entries.first + k * entries.bytes
    ≡ first_entry story dictionary + k * entry_length_of story dictionary =
    λ k. ap (λ a. a + k * entries.bytes) at.first ∙ ap (λ b. first_entry story dictionary + k * b) at.bytes in
    let ascending : AreAscending story entries.first entries.bytes entries.count =
    λ k lt. subst (λ p. key_at story (entries.first + k * entries.bytes) < key_at story p) (sym (place (k + 1)))
    (subst (λ p. key_at story p < key_at story
    (first_entry story dictionary + (k + 1) * entry_length_of story dictionary)) (sym (place k))
    (d.ascending k (omega (arith, lt, at.count)))) in
    let is = h ascending in
    let found : (k : ℕ) → k < entry_count story dictionary
    → key_at story (first_entry story dictionary + k * entry_length_of story dictionary) ≡ key
    → result ≡ first_entry story dictionary + k * entry_length_of story dictionary =
    λ k lt e. is.found k (omega (arith, lt, at.count)) (ap (key_at story) (place k) ∙ e) ∙ place k in
    let none :
    ((k : ℕ) → k < entry_count story dictionary
    → (key_at story (first_entry story dictionary + k * entry_length_of story dictionary) == key) ≡ false)
    → result ≡ 0 =
    λ n. is.none (λ k lt. ap (λ p. key_at story p == key) (place k) ∙ n k (omega (arith, lt, at.count))) in
    record {
      found = found;
      none = none;
      entry = entry_is story (entry_length_of story dictionary) (entry_count story dictionary)
          (first_entry story dictionary) key result found none ∙ sym (entry_listed story dictionary key d);
    }
