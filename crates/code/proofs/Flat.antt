-- Arrays one after another, as one list.
use Rattle.std.proofs.Common.{◌≡◌, ℕ, zero, suc, ◌+◌, ◌-◌, ◌/◌, ◌%◌, ◌<◌, ◌≤◌, List, [], ◌∷◌, ◌++◌, length, take, set}
use Rattle.std.proofs.Common.{slice_index, refl, ap, sym, ◌∙◌, arith}
use Rattle.std.specs.Prelude.{map}
use Rattle.std.specs.List.{concat}
use Rattle.std.proofs.lemmas.List.{get_or_append_left, get_or-append-add, set-append_left, set-append_right}
use Rattle.std.proofs.lemmas.List.{length-append, length-set, get_or-set_same, set-set, set-get_or}
use Rattle.zcore.specs.Parts.{with_word}
use Rattle.zcore.specs.Turn.{with_bytes}
use Rattle.meaning.specs.World.{array_at}
use Rattle.code.specs.HeldProgram.{offset_in}

-- an array lies within the list
pub array_within : (arrays : List (List ℕ)) (k : ℕ) → k < length arrays
    → offset_in arrays k + length (array_at arrays k) ≤ length (concat arrays)
array_within [] k lt = absurd (omega (arith, lt))
array_within (a ∷ more) zero lt = omega (arith, length-append a (concat more))
array_within (a ∷ more) (suc k) lt =
    let rest = array_within more k (omega (arith, lt)) in
    omega (arith, rest, length-append a (concat more), length-append a (concat (take k more)))

-- a byte of it
pub byte_at : (arrays : List (List ℕ)) (k i : ℕ) → k < length arrays → i < length (array_at arrays k)
    → slice_index (concat arrays) (offset_in arrays k + i) ≡ slice_index (array_at arrays k) i
byte_at [] k i lt here = absurd (omega (arith, lt))
byte_at (a ∷ more) zero i lt here =
    let z : 0 + i ≡ i = omega arith in
    ap (slice_index (a ++ concat more)) z ∙ get_or_append_left a (concat more) 0 i here
byte_at (a ∷ more) (suc k) i lt here =
    let z : length (a ++ concat (take k more)) + i ≡ length a + (offset_in more k + i) =
    omega (arith, length-append a (concat (take k more))) in
    ap (slice_index (a ++ concat more)) z ∙ get_or-append-add a (concat more) (offset_in more k + i) 0
    ∙ byte_at more k i (omega (arith, lt)) here

set_add : (xs ys : List ℕ) (n v : ℕ) → set (xs ++ ys) (length xs + n) v ≡ xs ++ set ys n v
set_add xs ys n v =
    let z : length xs + n - length xs ≡ n = omega arith in
    set-append_right xs ys (length xs) (length xs + n) v refl (omega arith) ∙ ap (λ k. xs ++ set ys k v) z

-- a byte that is written
pub byte_set : (arrays : List (List ℕ)) (k i v : ℕ) → k < length arrays → i < length (array_at arrays k)
    → set (concat arrays) (offset_in arrays k + i) v ≡ concat (set arrays k (set (array_at arrays k) i v))
byte_set [] k i v lt here = absurd (omega (arith, lt))
byte_set (a ∷ more) zero i v lt here =
    let z : 0 + i ≡ i = omega arith in
    ap (λ n. set (a ++ concat more) n v) z ∙ set-append_left a (concat more) i v here
byte_set (a ∷ more) (suc k) i v lt here =
    let z : length (a ++ concat (take k more)) + i ≡ length a + (offset_in more k + i) =
    omega (arith, length-append a (concat (take k more))) in
    ap (λ n. set (a ++ concat more) n v) z ∙ set_add a (concat more) (offset_in more k + i) v
    ∙ ap (λ l. a ++ l) (byte_set more k i v (omega (arith, lt)) here)

-- an array of the same length moves no array
pub offset_same : (arrays : List (List ℕ)) (k j : ℕ) (a : List ℕ) → length a ≡ length (array_at arrays k)
    → offset_in (set arrays k a) j ≡ offset_in arrays j
offset_same [] k j a e = refl
offset_same (x ∷ xs) k zero a e = refl
offset_same (x ∷ xs) zero (suc j) a e =
    length-append a (concat (take j xs)) ∙ omega (arith, e, length-append x (concat (take j xs)))
offset_same (x ∷ xs) (suc k) (suc j) a e =
    length-append x (concat (take j (set xs k a))) ∙ ap (λ n. length x + n) (offset_same xs k j a e)
    ∙ sym (length-append x (concat (take j xs)))

-- and leaves the sizes
pub sizes_same : (arrays : List (List ℕ)) (k : ℕ) (a : List ℕ) → length a ≡ length (array_at arrays k)
    → map length (set arrays k a) ≡ map length arrays
sizes_same [] k a e = refl
sizes_same (x ∷ xs) zero a e = ap (λ n. n ∷ map length xs) e
sizes_same (x ∷ xs) (suc k) a e = ap (λ l. length x ∷ l) (sizes_same xs k a e)

-- a size by its number
pub size_at : (arrays : List (List ℕ)) (k : ℕ) → slice_index (map length arrays) k ≡ length (array_at arrays k)
size_at [] k = refl
size_at (x ∷ xs) zero = refl
size_at (x ∷ xs) (suc k) = size_at xs k

-- a word that is written
pub word_set : (arrays : List (List ℕ)) (k i v : ℕ) → k < length arrays → i + 1 < length (array_at arrays k)
    → with_word (concat arrays) (offset_in arrays k + i) v ≡ concat (set arrays k (with_word (array_at arrays k) i v))
word_set arrays k i v lt here =
    let high = set (array_at arrays k) i (v / 256) in
    let next = set arrays k high in
    let size : length high ≡ length (array_at arrays k) = length-set (array_at arrays k) i (v / 256) in
    let is : array_at next k ≡ high = get_or-set_same arrays k high [] lt in
    let place : offset_in arrays k + i + 1 ≡ offset_in next k + (i + 1) =
    omega (arith, offset_same arrays k k high size) in
    ap (λ l. set l (offset_in arrays k + i + 1) (v % 256)) (byte_set arrays k i (v / 256) lt (omega (arith, here)))
    ∙ ap (λ n. set (concat next) n (v % 256)) place
    ∙ byte_set next k (i + 1) (v % 256) (omega (arith, lt, length-set arrays k high))
    (omega (arith, here, size, ap length is))
    ∙ ap (λ x. concat (set next k (set x (i + 1) (v % 256)))) is
    ∙ ap concat (set-set arrays k high (set high (i + 1) (v % 256)))

-- bytes that are written one after another
pub length_bytes : (m : List ℕ) (at : ℕ) (bytes : List ℕ) → length (with_bytes m at bytes) ≡ length m
length_bytes m at [] = refl
length_bytes m at (b ∷ bs) = length_bytes (set m at b) (at + 1) bs ∙ length-set m at b

pub bytes_set : (arrays : List (List ℕ)) (k i : ℕ) (bytes : List ℕ) → k < length arrays
    → i + length bytes ≤ length (array_at arrays k)
    → with_bytes (concat arrays) (offset_in arrays k + i) bytes
    ≡ concat (set arrays k (with_bytes (array_at arrays k) i bytes))
bytes_set arrays k i [] lt room = ap concat (sym (set-get_or arrays k []))
bytes_set arrays k i (b ∷ bs) lt room =
    let a = set (array_at arrays k) i b in
    let next = set arrays k a in
    let here : array_at next k ≡ a = get_or-set_same arrays k a [] lt in
    let size : length a ≡ length (array_at arrays k) = length-set (array_at arrays k) i b in
    let place : offset_in arrays k + i + 1 ≡ offset_in next k + (i + 1) =
    omega (arith, offset_same arrays k k a size) in
    ap (λ l. with_bytes l (offset_in arrays k + i + 1) bs) (byte_set arrays k i b lt (omega (arith, room)))
    ∙ ap (λ n. with_bytes (concat next) n bs) place
    ∙ bytes_set next k (i + 1) bs (omega (arith, lt, length-set arrays k a))
    (omega (arith, room, size, ap length here))
    ∙ ap (λ x. concat (set next k (with_bytes x (i + 1) bs))) here
    ∙ ap concat (set-set arrays k a (with_bytes a (i + 1) bs))

-- arrays of the same lengths stand in the same places

pub concat_same : (xs ys : List (List ℕ)) → map length xs ≡ map length ys → length (concat xs) ≡ length (concat ys)
concat_same [] [] e = refl
concat_same [] (y ∷ ys) e = absurd (cc)
concat_same (x ∷ xs) [] e = absurd (cc)
concat_same (x ∷ xs) (y ∷ ys) e =
    let one : length x ≡ length y = cc in
    let more : map length xs ≡ map length ys = cc in
    omega (arith, one, concat_same xs ys more, length-append x (concat xs), length-append y (concat ys))

pub place_same : (xs ys : List (List ℕ)) (n : ℕ) → map length xs ≡ map length ys → offset_in xs n ≡ offset_in ys n
place_same xs ys zero e = refl
place_same [] [] (suc n) e = refl
place_same [] (y ∷ ys) (suc n) e = absurd (cc)
place_same (x ∷ xs) [] (suc n) e = absurd (cc)
place_same (x ∷ xs) (y ∷ ys) (suc n) e =
    let one : length x ≡ length y = cc in
    let more : map length xs ≡ map length ys = cc in
    omega (
      arith,
      one,
      place_same xs ys n more,
      length-append x (concat (take n xs)),
      length-append y (concat (take n ys)),
    )

pub count_same : (xs ys : List (List ℕ)) → map length xs ≡ map length ys → length xs ≡ length ys
count_same [] [] e = refl
count_same [] (y ∷ ys) e = absurd (cc)
count_same (x ∷ xs) [] e = absurd (cc)
count_same (x ∷ xs) (y ∷ ys) e =
    let more : map length xs ≡ map length ys = cc in
    omega (arith, count_same xs ys more)
