-- The table of abbreviations, and their texts.
use Rattle.std.proofs.Common.{◌≡◌, ℕ, zero, suc, ◌+◌, ◌-◌, ◌*◌, ◌/◌, ◌%◌, ◌<◌, ◌≤◌, List, [], ◌∷◌, ◌++◌, length, take}
use Rattle.std.proofs.Common.{drop, map, refl, sym, ap, ◌∙◌, subst, arith, append_assoc, length-append, sum}
use Rattle.std.specs.Prelude.{replicate, slice_index, slice_index_or, true}
use Rattle.std.specs.List.{All, concat, flat_map, list_all}
use Rattle.std.specs.Global.{Vec}
use Rattle.std.proofs.lemmas.List.{length-map, length-replicate}
use Rattle.std.proofs.lemmas.List.Elements.{All-head, All-tail}
use Rattle.std.specs.List.{sum_by}
use Rattle.std.proofs.lemmas.List.Sums.{sum-map, sum_by-cons}
use Rattle.ztext.specs.Abbreviations.{abbreviation_at}
use Rattle.ztext.specs.Alphabets.{is_printable, spelled}
use Rattle.ztext.specs.Text.{Holds, encoded}
use Rattle.ztext.specs.Words.{packed, padded}
use Rattle.meaning.specs.Places.{total, text_size as size_of, abbreviations_size, filling_before, dictionary_end}
use Rattle.meaning.specs.Places.{texts_place}
use Rattle.meaning.specs.Resolved.{ProgramOf}
use Rattle.story_file.specs.Layout.{word, text_places, addresses_from, abbreviation_bytes, abbreviation_texts}
use Rattle.story_file.specs.Written.{bytes_in, half, table_bytes, encoded_length}
use Rattle.story_file.proofs.Parts.{behind_at, holds_first}

-- Sizes

pub place_count : (at : ℕ) (texts : List (List ℕ)) → length (text_places at texts) ≡ length texts
place_count at [] = refl
place_count at (a ∷ rest) = ap suc (place_count (at + length (encoded a)) rest)

all_length : (texts : List (List ℕ)) → length (flat_map encoded texts) ≡ total (map size_of texts)
all_length [] = refl
all_length (a ∷ rest) =
    omega (arith, length-append (encoded a) (flat_map encoded rest), all_length rest)

pub texts_length : (p : ProgramOf)
    → length (abbreviation_texts p) ≡ filling_before p.abbreviations (dictionary_end p) + abbreviations_size p
texts_length p =
    let filling : ℕ = filling_before p.abbreviations (dictionary_end p) in
    omega (
      arith,
      length-append (replicate filling 0) (flat_map encoded p.abbreviations),
      length-replicate {A = ℕ} filling 0,
      all_length p.abbreviations,
    )

-- Places

pub place_at : (places : List ℕ) (n : ℕ) → n < length places
    → slice_index (map half places) n ≡ half (slice_index places n)
place_at [] n within = absurd (omega (arith, within))
place_at (at ∷ places) zero within = refl
place_at (at ∷ places) (suc n) within = place_at places n (omega (arith, within))

packed_even : (zs : List ℕ) → length (packed zs) % 2 ≡ 0
unfolding packed
packed_even [] = refl
packed_even (a ∷ []) = refl
packed_even (a ∷ b ∷ []) = refl
packed_even (a ∷ b ∷ c ∷ zs) = let more = packed_even zs in omega (arith, more)

encoded_even : (text : List ℕ) → length (encoded text) % 2 ≡ 0
unfolding encoded
encoded_even text = packed_even (padded (spelled text))

places_even : (at : ℕ) (texts : List (List ℕ)) (n : ℕ) → n < length texts → at % 2 ≡ 0
    → slice_index (text_places at texts) n % 2 ≡ 0
places_even at [] n within even = absurd (omega (arith, within))
places_even at (a ∷ rest) zero within even = even
places_even at (a ∷ rest) (suc n) within even =
    places_even (at + length (encoded a)) rest n (omega (arith, within)) (omega (arith, even, encoded_even a))

first_even : (texts : List (List ℕ)) (end : ℕ) → 0 < length texts → (end + filling_before texts end) % 2 ≡ 0
first_even [] end some = absurd (omega (arith, some))
first_even (a ∷ rest) end some = omega arith

-- each abbreviation stands at an even address
pub texts_even : (p : ProgramOf) (n : ℕ) → n < length p.abbreviations
    → slice_index (text_places (texts_place p) p.abbreviations) n % 2 ≡ 0
texts_even p n within =
    places_even (texts_place p) p.abbreviations n within
    (first_even p.abbreviations (dictionary_end p) (omega (arith, within)))

pub texts_above : (at : ℕ) (texts : List (List ℕ)) (n : ℕ) → n < length texts
    → at ≤ slice_index (text_places at texts) n
texts_above at [] n within = absurd (omega (arith, within))
texts_above at (a ∷ rest) zero within = omega arith
texts_above at (a ∷ rest) (suc n) within =
    omega (arith, texts_above (at + length (encoded a)) rest n (omega (arith, within)))

pub texts_below : (at : ℕ) (texts : List (List ℕ)) (n : ℕ) → n < length texts
    → slice_index (text_places at texts) n + length (encoded (abbreviation_at texts n)) ≤ at + total (map size_of texts)
texts_below at [] n within = absurd (omega (arith, within))
texts_below at (a ∷ rest) zero within = omega arith
texts_below at (a ∷ rest) (suc n) within =
    omega (arith, texts_below (at + length (encoded a)) rest n (omega (arith, within)))

pub text_stands : (story : List ℕ) (at : ℕ) (texts : List (List ℕ)) (rest : List ℕ) (n : ℕ) → n < length texts
    → drop at story ≡ flat_map encoded texts ++ rest
    → Holds story (slice_index (text_places at texts) n) (encoded (abbreviation_at texts n))
text_stands story at [] rest n within stands = absurd (omega (arith, within))
text_stands story at (a ∷ texts) rest zero within stands =
    holds_first at story (encoded a) (flat_map encoded texts ++ rest)
    (stands ∙ append_assoc (encoded a) (flat_map encoded texts) rest)
text_stands story at (a ∷ texts) rest (suc n) within stands =
    text_stands story (at + length (encoded a)) texts rest n (omega (arith, within))
    (behind_at at (length (encoded a)) story (encoded a) (flat_map encoded texts ++ rest)
    (stands ∙ append_assoc (encoded a) (flat_map encoded texts) rest) refl)

-- What is written

abbrev Prints : List ℕ → Type 0
Prints text = list_all is_printable text ≡ true

pub printable_at : (texts : List (Vec ℕ)) (i : ℕ) (x : Vec ℕ) → All Prints (map bytes_in texts) → i < length texts
    → x ≡ slice_index_or texts i x → Prints x.items
printable_at [] i x all within is = absurd (omega (arith, within))
printable_at (t ∷ ts) zero x all within is =
    subst (λ (y : Vec ℕ). Prints y.items) (sym is) (All-head Prints t.items (map bytes_in ts) all)
printable_at (t ∷ ts) (suc i) x all within is =
    printable_at ts i x (All-tail Prints t.items (map bytes_in ts) all) (omega (arith, within)) is

-- the sizes of texts that were encoded
pub sizes_are : (texts : List (Vec ℕ)) (given : List (List ℕ)) → map bytes_in texts ≡ map encoded given
    → map encoded_length texts ≡ map size_of given
sizes_are texts given e =
    lengths texts ∙ ap (λ (bs : List (List ℕ)). map length bs) e ∙ encoded_lengths given
  where
    lengths : (ts : List (Vec ℕ)) → map encoded_length ts ≡ map length (map bytes_in ts)
    lengths [] = refl
    lengths (t ∷ ts) = ap (λ (ns : List ℕ). encoded_length t ∷ ns) (lengths ts)

    encoded_lengths : (ts : List (List ℕ)) → map length (map encoded ts) ≡ map size_of ts
    encoded_lengths [] = refl
    encoded_lengths (a ∷ rest) = ap (λ (ns : List ℕ). size_of a ∷ ns) (encoded_lengths rest)

total_is : (given : List (List ℕ)) → sum (map size_of given) ≡ total (map size_of given)
total_is given = sum-map size_of given ∙ all given
  where
    all : (ts : List (List ℕ)) → sum_by size_of ts ≡ total (map size_of ts)
    all [] = refl
    all (t ∷ ts) = sum_by-cons size_of t ts ∙ ap (λ m. size_of t + m) (all ts)

pub sizes_total : (p : ProgramOf) (texts : List (Vec ℕ)) → map bytes_in texts ≡ map encoded p.abbreviations
    → sum (map encoded_length texts) ≡ abbreviations_size p
sizes_total p texts e = ap sum (sizes_are texts p.abbreviations e) ∙ total_is p.abbreviations

addresses_are : (at : ℕ) (given : List (List ℕ)) → addresses_from 1 at (map size_of given) ≡ text_places at given
addresses_are at [] = refl
addresses_are at (a ∷ rest) =
    let same : (at + 1 - 1) / 1 * 1 ≡ at = omega arith in
    ap (λ n. n ∷ addresses_from 1 (n + size_of a) (map size_of rest)) same
    ∙ ap (λ ns. at ∷ ns) (addresses_are (at + size_of a) rest)

empty_places : (n m : ℕ) → n ≤ m
    → flat_map word (map half (take n (replicate m 256))) ≡ flat_map word (replicate n 128)
empty_places zero m h = refl
empty_places (suc n) zero h = absurd (omega arith)
empty_places (suc n) (suc m) h = ap (λ z. 0 ∷ 128 ∷ z) (empty_places n m (omega arith))

filled : (n m : ℕ) (places : List ℕ) → length places ≤ n → n ≤ m
    → flat_map word (map half (take n (places ++ replicate m 256)))
    ≡ flat_map word (map half places) ++ flat_map word (replicate (n - length places) 128)
filled n m [] few h =
    let e : n ≡ n - 0 = omega arith in
    empty_places n m h ∙ ap (λ k. flat_map word (replicate {A = ℕ} k 128)) e
filled zero m (at ∷ places) few h = absurd (omega arith)
filled (suc n) m (at ∷ places) few h =
    let e : n - length places ≡ suc n - suc (length places) = omega arith in
    ap (λ z. word (half at) ++ z) (filled n m places (omega arith) (omega arith))
    ∙ ap (λ k. word (half at) ++ (flat_map word (map half places) ++ flat_map word (replicate {A = ℕ} k 128))) e

pub table_is : (p : ProgramOf) (texts : List (Vec ℕ)) (place : ℕ) → length p.abbreviations ≤ 96
    → place ≡ texts_place p → map bytes_in texts ≡ map encoded p.abbreviations
    → table_bytes place (map encoded_length texts) ≡ abbreviation_bytes p
table_is p texts place few here e =
    let places : List ℕ = text_places (texts_place p) p.abbreviations in
    let count : length (map size_of p.abbreviations) ≡ length places =
    length-map p.abbreviations size_of ∙ sym (place_count (texts_place p) p.abbreviations) in
    ap (λ at. table_bytes at (map encoded_length texts)) here
    ∙ ap (table_bytes (texts_place p)) (sizes_are texts p.abbreviations e)
    ∙ ap (λ ns. flat_map word (map half ns)
    ++ flat_map word (replicate {A = ℕ} (96 - length (map size_of p.abbreviations)) 128))
    (addresses_are (texts_place p) p.abbreviations)
    ∙ ap (λ n. flat_map word (map half places) ++ flat_map word (replicate {A = ℕ} (96 - n) 128)) count
    ∙ sym (filled 96 96 places (omega (arith, place_count (texts_place p) p.abbreviations, few)) (omega arith))

pub texts_are : (texts : List (Vec ℕ)) (given : List (List ℕ)) → map bytes_in texts ≡ map encoded given
    → concat (map bytes_in texts) ≡ flat_map encoded given
texts_are texts given e = ap concat e ∙ all given
  where
    all : (ts : List (List ℕ)) → concat (map encoded ts) ≡ flat_map encoded ts
    all [] = refl
    all (a ∷ rest) = ap (λ bs. encoded a ++ bs) (all rest)

-- the words of the source's abbreviations, and those of the others
pub table_joined : (place n : ℕ) (sizes addresses b b1 b2 : List ℕ) → n ≡ length sizes
    → addresses ≡ addresses_from 1 place sizes → b1 ≡ b ++ flat_map word (map half addresses)
    → b2 ≡ b1 ++ flat_map word (take (96 - n) (drop n (replicate {A = ℕ} 96 128))) → b2 ≡ b ++ table_bytes place sizes
table_joined place n sizes addresses b b1 b2 en ea e1 e2 =
    let named : List ℕ = flat_map word (map half (addresses_from 1 place sizes)) in
    let rest : List ℕ = take (96 - n) (drop n (replicate {A = ℕ} 96 128)) in
    e2 ∙ ap (λ z. z ++ flat_map word rest) (e1 ∙ ap (λ xs. b ++ flat_map word (map half xs)) ea)
    ∙ append_assoc b named (flat_map word rest)
    ∙ ap (λ z. b ++ (named ++ flat_map word z)) (ap (take (96 - n)) (others n 96) ∙ whole (96 - n))
    ∙ ap (λ k. b ++ (named ++ flat_map word (replicate {A = ℕ} (96 - k) 128))) en
  where
    others : (k m : ℕ) → drop k (replicate {A = ℕ} m 128) ≡ replicate (m - k) 128
    others zero m = let e : m ≡ m - 0 = omega arith in ap (λ j. replicate {A = ℕ} j 128) e
    others (suc k) zero = let e : 0 ≡ 0 - suc k = omega arith in ap (λ j. replicate {A = ℕ} j 128) e
    others (suc k) (suc m) =
        let e : m - k ≡ suc m - suc k = omega arith in
        others k m ∙ ap (λ j. replicate {A = ℕ} j 128) e

    whole : (j : ℕ) → take j (replicate {A = ℕ} j 128) ≡ replicate j 128
    whole zero = refl
    whole (suc j) = ap (λ ws. 128 ∷ ws) (whole j)
