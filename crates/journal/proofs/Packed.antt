-- What a record holds for pages, and the values that it means.
use Rattle.std.proofs.Common.{◌≡◌, ℕ, ◌+◌, ◌*◌, ◌/◌, ◌%◌, ◌<◌, ◌≤◌, Bool, List, [], ◌∷◌, ◌++◌}
use Rattle.std.proofs.Common.{length, map, get_or, set, take, drop, refl, ap, sym, ◌∙◌, arith, append_assoc}
use Rattle.std.proofs.Common.{slice_index, if◌then◌else◌, inl, inr, Result, Ok, Err}
use Rattle.std.specs.List.{range_with_len}
use Rattle.std.specs.Prelude.{OnOk, is_ok}
use Rattle.std.proofs.lemmas.Bool.{cases_lt, le-ltb, lt-ltb}
use Rattle.std.proofs.lemmas.Bool.Decides.{eqb_tells}
use Rattle.std.proofs.lemmas.List.{append-nil, drop-append-le, drop_at, drop_more, ext_get_or}
use Rattle.std.proofs.lemmas.List.{get_or-drop, get_or-set_other, get_or-set_same, get_or-take}
use Rattle.std.proofs.lemmas.List.{length-append, length-drop, length-set, length-take-le, take-append-drop}
use Rattle.std.proofs.lemmas.List.{take-append-le, take_at, take_more}
use Rattle.std.proofs.lemmas.List.FromFn.{get_or-map-range_with_len, length-map-range_with_len}
use Rattle.journal.specs.Pages.{IsAdded, IsPaged, cells_of, packed_len, packed_size, page_cells, page_len}
use Rattle.journal.specs.Pages.{page_unpacked, values_of, word_at, words_of}
use Rattle.journal.proofs.Pages.{HasValues, length-page_cells}

-- pages of words, and pages of bytes

pub packed_len_words : (p count : ℕ) → p < 1134 → packed_len p count ≡ count * 2
unfolding packed_len
packed_len_words p count lt = ap (λ (t : Bool). if t then count * 2 else count) (lt-ltb p 1134 lt)

pub packed_len_bytes : (p count : ℕ) → 1134 ≤ p → packed_len p count ≡ count
unfolding packed_len
packed_len_bytes p count le = ap (λ (t : Bool). if t then count * 2 else count) (le-ltb p 1134 le)

pub unpacked_words : (p count : ℕ) (q : List ℕ) → p < 1134 → page_unpacked p count q ≡ words_of count q
unfolding page_unpacked
unpacked_words p count q lt = ap (λ (t : Bool). if t then words_of count q else q) (lt-ltb p 1134 lt)

pub unpacked_bytes : (p count : ℕ) (q : List ℕ) → 1134 ≤ p → page_unpacked p count q ≡ q
unfolding page_unpacked
unpacked_bytes p count q le = ap (λ (t : Bool). if t then words_of count q else q) (le-ltb p 1134 le)

pub length-unpacked : (p count : ℕ) (q : List ℕ) → length q ≡ packed_len p count
    → length (page_unpacked p count q) ≡ count
length-unpacked p count q long = elim (cases_lt p 1134) as (λ _. length (page_unpacked p count q) ≡ count) [
  | inl lt ↦ ap (λ (t : List ℕ). length t) (unpacked_words p count q lt)
      ∙ length-map-range_with_len (word_at q) 0 count
  | inr ge ↦ ap (λ (t : List ℕ). length t) (unpacked_bytes p count q ge) ∙ long ∙ packed_len_bytes p count ge
]

pub read_word : (q : List ℕ) (count k : ℕ) → k < count → get_or (words_of count q) k 0 ≡ word_at q k
read_word q count k lt = get_or-map-range_with_len (word_at q) 0 count k k 0 lt (omega arith)

same_word : (q r : List ℕ) (i k : ℕ) → slice_index q (i * 2) ≡ slice_index r (k * 2)
    → slice_index q (i * 2 + 1) ≡ slice_index r (k * 2 + 1) → word_at q i ≡ word_at r k
same_word q r i k low high = ap (λ (t : ℕ). t + slice_index q (i * 2 + 1) * 256) low
    ∙ ap (λ (t : ℕ). slice_index r (k * 2) + t * 256) high

-- a pair of bytes is a word of a page
pub pair_of : (q : List ℕ) (at two k : ℕ) → at ≡ k * 2 → two ≡ 2 → word_at (take two (drop at q)) 0 ≡ word_at q k
pair_of q at two k is size =
    let low : slice_index (take 2 (drop at q)) 0 ≡ slice_index q (k * 2) = get_or-take 2 (drop at q) 0 0 (omega arith)
    ∙ get_or-drop at q 0 0 ∙ ap (λ (t : ℕ). slice_index q t) (omega (arith, is)) in
    let high : slice_index (take 2 (drop at q)) 1 ≡ slice_index q (k * 2 + 1) =
    get_or-take 2 (drop at q) 1 0 (omega arith)
    ∙ get_or-drop at q 1 0 ∙ ap (λ (t : ℕ). slice_index q t) (omega (arith, is)) in
    ap (λ (t : ℕ). word_at (take t (drop at q)) 0) size ∙ same_word (take 2 (drop at q)) q 0 k low high

-- what stands before j in a list, with one more written there
pub set_more : (f : ℕ → ℕ) (vs : List ℕ) (j v : ℕ) → j < length vs → ((k : ℕ) → k < j → slice_index vs k ≡ f k)
    → v ≡ f j → (k : ℕ) → k < j + 1 → slice_index (set vs j v) k ≡ f k
set_more f vs j v lt done value k less = elim (eqb_tells k j) as (λ _. slice_index (set vs j v) k ≡ f k) [
  | inl s ↦ ap (λ (t : ℕ). slice_index (set vs j v) t) s.1 ∙ get_or-set_same vs j v 0 lt ∙ value ∙ ap f (sym s.1)
  | inr d ↦ get_or-set_other vs j k v 0 d.1 ∙ done k (omega (arith, less, d.1))
]

-- while a page of words is read, the words before j are there
pub words_more : (f : ℕ → ℕ) (vs ws : List ℕ) (j a v : ℕ) → a + 1 < length vs → a ≡ j * 2
    → ((k : ℕ) → k < j → word_at vs k ≡ f k) → v ≡ f j → ws ≡ set (set vs a (v % 256)) (a + 1) (v / 256)
    → (k : ℕ) → k < j + 1 → word_at ws k ≡ f k
words_more f vs ws j a v within at done value is k less =
    let mid : List ℕ = set vs a (v % 256) in
    let wide : length mid ≡ length vs = length-set vs a (v % 256) in
    elim (eqb_tells k j) as (λ _. word_at ws k ≡ f k) [
      | inl s ↦
          let here : a ≡ k * 2 = omega (arith, at, s.1) in
          let low : slice_index ws (k * 2) ≡ v % 256 = ap (λ (t : List ℕ). slice_index t (k * 2)) is
          ∙ ap (λ (t : ℕ). slice_index (set mid (a + 1) (v / 256)) t) (sym here)
          ∙ get_or-set_other mid (a + 1) a (v / 256) 0 (λ e. absurd (omega (arith, e)))
          ∙ get_or-set_same vs a (v % 256) 0 (omega (arith, within)) in
          let high : slice_index ws (k * 2 + 1) ≡ v / 256 = ap (λ (t : List ℕ). slice_index t (k * 2 + 1)) is
          ∙ ap (λ (t : ℕ). slice_index (set mid (a + 1) (v / 256)) (t + 1)) (sym here)
          ∙ get_or-set_same mid (a + 1) (v / 256) 0 (omega (arith, within, wide)) in
          let whole : v % 256 + v / 256 * 256 ≡ v = omega arith in
          ap (λ (t : ℕ). t + slice_index ws (k * 2 + 1) * 256) low ∙ ap (λ (t : ℕ). v % 256 + t * 256) high ∙ whole
          ∙ value ∙ ap f (sym s.1)
      | inr d ↦
          let before : k < j = omega (arith, less, d.1) in
          let low : slice_index ws (k * 2) ≡ slice_index vs (k * 2) = ap (λ (t : List ℕ). slice_index t (k * 2)) is
          ∙ get_or-set_other mid (a + 1) (k * 2) (v / 256) 0 (λ e. absurd (omega (arith, e, before, at)))
          ∙ get_or-set_other vs a (k * 2) (v % 256) 0 (λ e. absurd (omega (arith, e, before, at))) in
          let high : slice_index ws (k * 2 + 1) ≡ slice_index vs (k * 2 + 1) =
          ap (λ (t : List ℕ). slice_index t (k * 2 + 1)) is
          ∙ get_or-set_other mid (a + 1) (k * 2 + 1) (v / 256) 0 (λ e. absurd (omega (arith, e, before, at)))
          ∙ get_or-set_other vs a (k * 2 + 1) (v % 256) 0 (λ e. absurd (omega (arith, e, before, at))) in
          same_word ws vs k k low high ∙ done k before
    ]

-- words in front of an array are those of a page
pub words_read : (c row : List ℕ) (p count : ℕ) → p < 1134 → count * 2 ≤ length row
    → ((k : ℕ) → k < count → word_at row k ≡ slice_index c (p * 64 + k))
    → page_unpacked p count (take (packed_len p count) row) ≡ map (slice_index c) (range_with_len (p * 64) count)
words_read c row p count lt within done =
    let q : List ℕ = take (count * 2) row in
    ap (λ (t : ℕ). page_unpacked p count (take t row)) (packed_len_words p count lt) ∙ unpacked_words p count q lt
    ∙ ext_get_or 0 (words_of count q) (map (slice_index c) (range_with_len (p * 64) count))
    (length-map-range_with_len (word_at q) 0 count
    ∙ sym (length-map-range_with_len (slice_index c) (p * 64) count)) (λ k less.
    let inside : k < count = omega (arith, less, length-map-range_with_len (word_at q) 0 count) in
    read_word q count k inside ∙ same_word q row k k (get_or-take (count * 2) row (k * 2) 0 (omega (arith, inside)))
    (get_or-take (count * 2) row (k * 2 + 1) 0 (omega (arith, inside))) ∙ done k inside
    ∙ sym (get_or-map-range_with_len (slice_index c) (p * 64) count k (p * 64 + k) 0 inside refl))

pub bytes_read : (c row : List ℕ) (p count : ℕ) → 1134 ≤ p
    → take count row ≡ map (slice_index c) (range_with_len (p * 64) count)
    → page_unpacked p count (take (packed_len p count) row) ≡ map (slice_index c) (range_with_len (p * 64) count)
bytes_read c row p count ge is =
    ap (λ (t : ℕ). page_unpacked p count (take t row)) (packed_len_bytes p count ge)
    ∙ unpacked_bytes p count (take count row) ge ∙ is

-- what a vector has behind an append that is not refused
pub appended : {T E : Type 0} (r : Result T E) (new was part : List ℕ)
    → new ≡ (if is_ok r then was ++ part else was) → OnOk r (new ≡ was ++ part)
appended (Ok v) new was part is = is
appended (Err e) new was part is = tt

-- one more page
pub added : (p count width : ℕ) (was now row values : List ℕ) → width ≤ length row
    → width ≡ packed_len p count → length values ≡ count
    → page_unpacked p count (take (packed_len p count) row) ≡ values → now ≡ was ++ take width row
    → IsAdded p was now values
added p count width was now row values long wide size are is =
    let part : List ℕ = take width row in
    let behind : drop (length was) now ≡ part = ap (λ (t : List ℕ). drop (length was) t) is
    ∙ drop_at was part (length was) refl in
    let part_is : part ≡ take (packed_len p count) row = ap (λ (t : ℕ). take t row) wide in
    record {
      front = is ∙ ap (λ (t : List ℕ). was ++ t) (sym behind);
      size = ap (λ (t : List ℕ). length t) behind
          ∙ length-take-le width row long ∙ wide
          ∙ ap (λ (t : ℕ). packed_len p t) (sym size);
      values_are = ap (λ (t : ℕ). page_unpacked p t (drop (length was) now)) size
          ∙ ap (λ (t : List ℕ). page_unpacked p count t) (behind ∙ part_is) ∙ are;
    }

-- pages one behind the other

pub values_at : (n : ℕ) (ps : List ℕ) (p : ℕ) (qs front row rest : List ℕ) → length front ≡ packed_size n ps
    → length row ≡ packed_len p (page_len n p)
    → values_of n (ps ++ p ∷ qs) (front ++ (row ++ rest))
    ≡ values_of n ps front ++ (page_unpacked p (page_len n p) row ++ values_of n qs rest)
values_at n [] p qs [] row rest long wide =
    ap (λ (t : List ℕ). page_unpacked p (page_len n p) t
    ++ values_of n qs (drop (packed_len p (page_len n p)) (row ++ rest)))
    (take_at row rest (packed_len p (page_len n p)) wide)
    ∙ ap (λ (t : List ℕ). page_unpacked p (page_len n p) row ++ values_of n qs t)
    (drop_at row rest (packed_len p (page_len n p)) wide)
values_at n [] p qs (x ∷ front) row rest long wide = absurd (omega (arith, long))
values_at n (o ∷ ps) p qs front row rest long wide =
    let size : ℕ = packed_len o (page_len n o) in
    let within : size ≤ length front = omega (arith, long) in
    let left : length (drop size front) ≡ packed_size n ps = omega (arith, length-drop size front, long) in
    let all : List ℕ = front ++ (row ++ rest) in
    let behind : List ℕ = page_unpacked p (page_len n p) row ++ values_of n qs rest in
    ap (λ (t : List ℕ). page_unpacked o (page_len n o) t ++ values_of n (ps ++ p ∷ qs) (drop size all))
    (take-append-le size front (row ++ rest) within)
    ∙ ap (λ (t : List ℕ). page_unpacked o (page_len n o) (take size front) ++ values_of n (ps ++ p ∷ qs) t)
    (drop-append-le size front (row ++ rest) within)
    ∙ ap (λ (t : List ℕ). page_unpacked o (page_len n o) (take size front) ++ t)
    (values_at n ps p qs (drop size front) row rest left wide)
    ∙ sym (append_assoc (page_unpacked o (page_len n o) (take size front)) (values_of n ps (drop size front)) behind)

pub length-values_of : (n : ℕ) (pages packed : List ℕ) → length packed ≡ packed_size n pages
    → length (values_of n pages packed) ≡ length (cells_of n pages)
length-values_of n [] packed long = refl
length-values_of n (p ∷ ps) packed long =
    let size : ℕ = packed_len p (page_len n p) in
    let first : length (page_unpacked p (page_len n p) (take size packed)) ≡ page_len n p =
    length-unpacked p (page_len n p) (take size packed) (length-take-le size packed (omega (arith, long))) in
    let rest : length (values_of n ps (drop size packed)) ≡ length (cells_of n ps) =
    length-values_of n ps (drop size packed) (omega (arith, length-drop size packed, long)) in
    omega (
      arith,
      length-append (page_unpacked p (page_len n p) (take size packed)) (values_of n ps (drop size packed)),
      first,
      rest,
      length-append (page_cells n p) (cells_of n ps),
      length-page_cells n p,
    )

pub has_values : (n : ℕ) (pages packed : List ℕ) → IsPaged n pages packed
    → HasValues n pages (values_of n pages packed)
has_values n pages packed h = record {
  distinct = h.distinct;
  named = h.named;
  size = length-values_of n pages packed h.size;
}

pub packed_size-append : (n : ℕ) (ps qs : List ℕ) → packed_size n (ps ++ qs) ≡ packed_size n ps + packed_size n qs
packed_size-append n [] qs = omega arith
packed_size-append n (p ∷ ps) qs = omega (arith, packed_size-append n ps qs)

-- where page s stands in what a record holds
pub packed_at : (n : ℕ) (pages : List ℕ) (s : ℕ) → s < length pages
    → packed_size n (take (s + 1) pages)
    ≡ packed_size n (take s pages) + packed_len (get_or pages s 0) (page_len n (get_or pages s 0))
packed_at n pages s lt =
    let last : List ℕ = get_or pages s 0 ∷ [] in
    omega (
      arith,
      ap (λ (t : List ℕ). packed_size n t) (take_more pages s 0 lt),
      packed_size-append n (take s pages) last,
    )

pub packed_within : (n : ℕ) (pages : List ℕ) (s : ℕ) → s ≤ length pages
    → packed_size n (take s pages) ≤ packed_size n pages
packed_within n pages s le = omega (
  arith,
  ap (λ (t : List ℕ). packed_size n t) (take-append-drop s pages),
  packed_size-append n (take s pages) (drop s pages),
)

-- the values, with this in the place of page s
pub values_with : (n : ℕ) (pages packed : List ℕ) (s at width : ℕ) (row : List ℕ) → s < length pages
    → at ≡ packed_size n (take s pages) → length packed ≡ packed_size n pages
    → width ≡ packed_len (get_or pages s 0) (page_len n (get_or pages s 0)) → length row ≡ width
    → values_of n pages (take at packed ++ (row ++ drop width (drop at packed)))
    ≡ values_of n (take s pages) (take at packed)
    ++ (page_unpacked (get_or pages s 0) (page_len n (get_or pages s 0)) row
    ++ values_of n (drop (s + 1) pages) (drop width (drop at packed)))
values_with n pages packed s at width row lt start long wide same =
    let split : pages ≡ take s pages ++ get_or pages s 0 ∷ drop (s + 1) pages = sym (take-append-drop s pages)
    ∙ ap (λ (t : List ℕ). take s pages ++ t) (drop_more pages s 0 lt) in
    let within : at ≤ length packed = omega (arith, start, long, packed_within n pages s (omega (arith, lt))) in
    ap (λ (t : List ℕ). values_of n t (take at packed ++ (row ++ drop width (drop at packed)))) split
    ∙ values_at n (take s pages) (get_or pages s 0) (drop (s + 1) pages) (take at packed) row
    (drop width (drop at packed)) (length-take-le at packed within ∙ start) (same ∙ wide)

-- with one more page behind them
pub values_push : (n : ℕ) (pages : List ℕ) (p : ℕ) (was now values : List ℕ) → length was ≡ packed_size n pages
    → length values ≡ page_len n p → IsAdded p was now values
    → (values_of n (pages ++ p ∷ []) now ≡ values_of n pages was ++ values)
    × (length now ≡ packed_size n (pages ++ p ∷ []))
values_push n pages p was now values long count added =
    let row : List ℕ = drop (length was) now in
    let wide : length row ≡ packed_len p (page_len n p) = added.size
    ∙ ap (λ (t : ℕ). packed_len p t) count in
    let is : page_unpacked p (page_len n p) row ≡ values =
    ap (λ (t : ℕ). page_unpacked p t row) (sym count) ∙ added.values_are in
    let now_is : now ≡ was ++ (row ++ []) = added.front ∙ ap (λ (t : List ℕ). was ++ t) (sym (append-nil row)) in (
      ap (λ (t : List ℕ). values_of n (pages ++ p ∷ []) t) now_is ∙ values_at n pages p [] was row [] long wide
          ∙ ap (λ (t : List ℕ). values_of n pages was ++ t)
          (append-nil (page_unpacked p (page_len n p) row) ∙ is),
      omega (
        arith,
        ap (λ (t : List ℕ). length t) added.front,
        length-append was row,
        wide,
        long,
        packed_size-append n pages (p ∷ []),
      ),
    )
