-- Bytes of memory that are written one after another.
use Rattle.std.proofs.Common.{◌≡◌, ℕ, zero, suc, ◌+◌, ◌<◌, ◌≤◌, List, [], ◌∷◌, ◌++◌, length, take, drop, set}
use Rattle.std.proofs.Common.{replicate, slice_index, refl, ap, sym, ◌∙◌, arith, add-one, drop-cons}
use Rattle.std.proofs.lemmas.List.{get_or-set_other, get_or-drop, get_or-take, length-replicate}
use Rattle.std.proofs.lemmas.List.{replicate-append-replicate, length-take, length-take-le, length-drop, take_more, drop_all, set_comm}
use Rattle.zcore.specs.Turn.{with_bytes}
use Rattle.zcore_standard.specs.Tables.{copied_forwards, copied_at_once, cleared}
use Rattle.machine_lines.proofs.Filling.{with_bytes_more}

-- Bytes before and after those that are written keep their values

pub before_bytes : (m : List ℕ) (at : ℕ) (xs : List ℕ) (k : ℕ) → k < at
    → slice_index (with_bytes m at xs) k ≡ slice_index m k
before_bytes m at [] k lt = refl
before_bytes m at (x ∷ xs) k lt = before_bytes (set m at x) (at + 1) xs k (omega arith)
    ∙ get_or-set_other m at k x 0 (omega arith)

pub after_bytes : (m : List ℕ) (at : ℕ) (xs : List ℕ) (k : ℕ) → at + length xs ≤ k
    → slice_index (with_bytes m at xs) k ≡ slice_index m k
after_bytes m at [] k le = refl
after_bytes m at (x ∷ xs) k le = after_bytes (set m at x) (at + 1) xs k (omega arith)
    ∙ get_or-set_other m at k x 0 (omega arith)

-- a byte and those after it can be written in either order
set_then_bytes : (m : List ℕ) (a at v : ℕ) (xs : List ℕ) → a < at
    → with_bytes (set m a v) at xs ≡ set (with_bytes m at xs) a v
set_then_bytes m a at v [] lt = refl
set_then_bytes m a at v (x ∷ xs) lt =
    ap (λ l. with_bytes l (at + 1) xs) (set_comm m a at v x (omega arith))
    ∙ set_then_bytes (set m at x) a (at + 1) v xs (omega arith)

-- Bytes that are cleared

pub cleared_more : (m : List ℕ) (at i : ℕ) → set (cleared m at i) (at + i) 0 ≡ cleared m at (i + 1)
cleared_more m at i =
    ap (λ k. set (cleared m at i) (at + k) 0) (sym (length-replicate i 0))
    ∙ sym (with_bytes_more m at (replicate i 0) 0)
    ∙ ap (with_bytes m at) (replicate-append-replicate i 1 0)

-- Bytes that are copied forwards

pub forwards_more : (m : List ℕ) (first second i : ℕ)
    → set (copied_forwards m first second i) (second + i) (slice_index (copied_forwards m first second i) (first + i))
    ≡ copied_forwards m first second (i + 1)
unfolding copied_forwards
forwards_more m first second i = ap (copied_forwards m first second) (sym (add-one i))

-- the bytes that are copied at once, and one more
source_more : (m : List ℕ) (first i : ℕ) → first + i < length m
    → take (i + 1) (drop first m) ≡ take i (drop first m) ++ slice_index m (first + i) ∷ []
source_more m first i lt =
    take_more (drop first m) i 0 (omega (arith, length-drop first m))
    ∙ ap (λ k. take i (drop first m) ++ k ∷ []) (get_or-drop first m i 0)

source_length : (m : List ℕ) (first i : ℕ) → first + i ≤ length m → length (take i (drop first m)) ≡ i
source_length m first i le = length-take-le i (drop first m) (omega (arith, length-drop first m))

-- Where the second table is at a lower address, no byte is overwritten before it is copied.
pub forwards_at_once : (m : List ℕ) (first second count : ℕ) → second ≤ first → first + count ≤ length m
    → copied_forwards m first second count ≡ copied_at_once m first second count
unfolding copied_forwards
forwards_at_once m first second zero le room = refl
forwards_at_once m first second (suc n) le room =
    let xs = take n (drop first m) in
    let before = copied_forwards m first second n in
    let same : before ≡ with_bytes m second xs = forwards_at_once m first second n le (omega arith) in
    let long : length xs ≡ n = source_length m first n (omega arith) in
    let byte : slice_index before (first + n) ≡ slice_index m (first + n) =
    ap (λ l. slice_index l (first + n)) same ∙ after_bytes m second xs (first + n) (omega (arith, long)) in
    ap (λ l. set l (second + n) (slice_index before (first + n))) same
    ∙ ap (λ v. set (with_bytes m second xs) (second + n) v) byte
    ∙ ap (λ k. set (with_bytes m second xs) (second + k) (slice_index m (first + n))) (sym long)
    ∙ sym (with_bytes_more m second xs (slice_index m (first + n)))
    ∙ ap (with_bytes m second) (sym (source_more m first n (omega arith)))
    ∙ ap (λ k. with_bytes m second (take k (drop first m))) (add-one n)

-- Bytes that are copied backwards: those from number i on are written

abbrev pub copied_from : List ℕ → ℕ → ℕ → ℕ → ℕ → List ℕ
copied_from m first second count i = with_bytes m (second + i) (drop i (take count (drop first m)))

pub from_none : (m : List ℕ) (first second count : ℕ) → copied_from m first second count count ≡ m
from_none m first second count =
    let xs = take count (drop first m) in
    ap (with_bytes m (second + count)) (drop_all count xs (omega (arith, length-take count (drop first m))))

pub from_more : (m : List ℕ) (first second count i : ℕ) → first < second → i < count → first + count ≤ length m
    → set (copied_from m first second count (i + 1)) (second + i)
    (slice_index (copied_from m first second count (i + 1)) (first + i))
    ≡ copied_from m first second count i
from_more m first second count i up lt room =
    let xs = take count (drop first m) in
    let long : length xs ≡ count = source_length m first count room in
    let ys = drop (i + 1) xs in
    let at = second + (i + 1) in
    let v = slice_index m (first + i) in
    let read : slice_index (with_bytes m at ys) (first + i) ≡ v = before_bytes m at ys (first + i) (omega arith) in
    let head : slice_index xs i ≡ v = get_or-take count (drop first m) i 0 lt ∙ get_or-drop first m i 0 in
    let split : drop i xs ≡ v ∷ ys = drop-cons xs i 0 (omega (arith, long))
    ∙ ap (λ k. slice_index xs i ∷ drop k xs) (sym (add-one i)) ∙ ap (λ k. k ∷ ys) head in
    let next : at ≡ second + i + 1 = omega arith in
    ap (λ k. set (with_bytes m at ys) (second + i) k) read
    ∙ sym (set_then_bytes m (second + i) at v ys (omega arith))
    ∙ ap (λ k. with_bytes (set m (second + i) v) k ys) next
    ∙ ap (with_bytes m (second + i)) (sym split)

pub from_all : (m : List ℕ) (first second count i : ℕ) → i ≡ 0
    → copied_from m first second count i ≡ copied_at_once m first second count
from_all m first second count i e =
    let at : second + i ≡ second = omega arith in
    ap (λ k. with_bytes m k (drop i (take count (drop first m)))) at
    ∙ ap (λ k. with_bytes m second (drop k (take count (drop first m)))) e
