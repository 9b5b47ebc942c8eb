-- Sizes that are folded, and the Z-characters of names.
use Rattle.std.proofs.Common.{◌≡◌, ◌+◌, ◌*◌, ◌%◌, ◌<◌, ◌≤◌, ℕ, suc, Bool, ltb, true, false, List, [], ◌∷◌, length, drop}
use Rattle.std.proofs.Common.{get_or, ap, sym, ◌∙◌, arith, refl}
use Rattle.std.specs.Prelude.{map}
use Rattle.std.specs.Global.{Vec}
use Rattle.std.proofs.lemmas.Bool.{lt-ltb, le-ltb, ltb-false, ltb-true}
use Rattle.std.proofs.lemmas.List.{length-append, at_drop_more, at_drop_all}
use Rattle.ztext.specs.Alphabets.{spelling_of, spelled}
use Rattle.meaning.specs.declared.checked.CheckedObject.{CheckedObject}
use Rattle.meaning.specs.declared.places.Places.{Places}
use Rattle.meaning.specs.Resolved.{ProgramOf}
use Rattle.meaning.specs.Views.{object_of, property_of}
use Rattle.meaning.specs.Places.{folded, machine_character, total, property_size, table_size, objects_size, text_size}
use Rattle.meaning.specs.Places.{abbreviations_size, arrays_size, key_count, defaults_place, dictionary_place}
use Rattle.meaning.specs.Places.{dictionary_end, filling_before, texts_place, start_place, routines_place, places_of}

-- Folding

pub fold_small : (n : ℕ) → n < 65536 → folded n ≡ n
unfolding folded
fold_small n h = rw (lt-ltb n 65536 h) refl

pub fold_great : (n : ℕ) → 65536 ≤ n → folded n ≡ 65536 + n % 65536
unfolding folded
fold_great n h = rw (le-ltb n 65536 h) refl

-- either of the two
module _ (n : ℕ) where
  pub fold_over : ltb 65535 (folded n) ≡ ltb 65535 n
  fold_over = go (ltb n 65536) refl
    where
      go : (b : Bool) → ltb n 65536 ≡ b → ltb 65535 (folded n) ≡ ltb 65535 n
      go true e = ap (ltb 65535) (fold_small n (ltb-true n 65536 e))
      go false e =
          let h = ltb-false n 65536 e in
          lt-ltb 65535 (folded n) (omega (arith, fold_great n h)) ∙ sym (lt-ltb 65535 n (omega (arith, h)))

  -- a sum may be folded on the way
  pub fold_add : (m : ℕ) → folded (folded n + m) ≡ folded (n + m)
  fold_add m = go (ltb n 65536) refl
    where
      go : (b : Bool) → ltb n 65536 ≡ b → folded (folded n + m) ≡ folded (n + m)
      go true e = ap (λ k. folded (k + m)) (fold_small n (ltb-true n 65536 e))
      go false e =
          let h = ltb-false n 65536 e in
          let f = fold_great n h in
          fold_great (folded n + m) (omega (arith, f))
          ∙ (let r : 65536 + (folded n + m) % 65536 ≡ 65536 + (n + m) % 65536 = omega (arith, f) in r)
          ∙ sym (fold_great (n + m) (omega (arith, h)))

-- what is folded already
pub fold_still : (n : ℕ) → n < 131072 → folded n ≡ n
fold_still n lt = go (ltb n 65536) refl
  where
    go : (b : Bool) → ltb n 65536 ≡ b → folded n ≡ n
    go true e = fold_small n (ltb-true n 65536 e)
    go false e = let h = ltb-false n 65536 e in omega (arith, fold_great n h, lt)

-- A part of a sum is folded, and then the sum

pub fold_part : (n m k : ℕ) → k ≡ folded m → folded (n + k) ≡ folded (n + m)
fold_part n m k is =
    let a : n + k ≡ folded m + n = omega (arith, is) in
    let b : m + n ≡ n + m = omega arith in
    ap folded a ∙ fold_add m n ∙ ap folded b

pub fold_whole : (n m k : ℕ) → k ≡ folded n → folded (k + m) ≡ folded (n + m)
fold_whole n m k is = ap (λ x. folded (x + m)) is ∙ fold_add n m

-- the sum so far, the next part, and the rest of all
pub fold_step : (size next part more rest all : ℕ) → next ≡ folded (size + part) → part + rest ≡ more
    → folded (size + more) ≡ folded all → folded (next + rest) ≡ folded all
fold_step size next part more rest all is parts h =
    let e : size + part + rest ≡ size + more = omega (arith, parts) in
    fold_whole (size + part) rest next is ∙ ap folded e ∙ h

pub fold_end : (size none all : ℕ) → size < 131072 → none ≡ 0 → folded (size + none) ≡ folded all → size ≡ folded all
fold_end size none all lt is h =
    let e : size ≡ size + none = omega (arith, is) in
    sym (fold_still size lt) ∙ ap folded e ∙ h

-- The sum of a list's parts, where so many are summed up
module _ {X : Type 0} (measure : List X → ℕ) (part : X → ℕ) (none : measure [] ≡ 0)
    (more : (x : X) (xs : List X) → part x + measure xs ≡ measure (x ∷ xs)) (xs : List X) (i size : ℕ)
    (sum : folded (size + measure (drop i xs)) ≡ folded (measure xs)) where
  pub sum_step : (x : X) (next : ℕ) → i < length xs → x ≡ get_or xs i x → next ≡ folded (size + part x)
      → folded (next + measure (drop (i + 1) xs)) ≡ folded (measure xs)
  sum_step x next lt is e =
      fold_step size next (part x) (measure (drop i xs)) (measure (drop (i + 1) xs)) (measure xs) e
      (more x (drop (i + 1) xs) ∙ ap (λ y. measure (y ∷ drop (i + 1) xs)) is ∙ sym (at_drop_more measure xs i x lt)) sum

  pub sum_end : length xs ≤ i → size < 131072 → size ≡ folded (measure xs)
  sum_end le lt = fold_end size (measure (drop i xs)) (measure xs) lt (at_drop_all measure xs i le ∙ none) sum

-- the bytes of properties, and of objects

abbrev pub properties_total : List (ℕ × Vec ℕ) → ℕ
properties_total ps = total (map property_size (map property_of ps))

abbrev pub property_part : ℕ × Vec ℕ → ℕ
property_part x = property_size (property_of x)

abbrev pub objects_total : List CheckedObject → ℕ
objects_total os = objects_size (map object_of os)

abbrev pub object_part : CheckedObject → ℕ
object_part o = 14 + table_size (object_of o)

pub properties_more : (x : ℕ × Vec ℕ) (xs : List (ℕ × Vec ℕ))
    → property_part x + properties_total xs ≡ properties_total (x ∷ xs)
properties_more x xs = refl

pub objects_more : (o : CheckedObject) (os : List CheckedObject)
    → object_part o + objects_total os ≡ objects_total (o ∷ os)
objects_more o os =
    counted (length (map object_of os)) (table_size (object_of o)) (total (map table_size (map object_of os)))
  where
    counted : (n t all : ℕ) → 14 + t + (14 * n + all) ≡ 14 * suc n + (t + all)
    counted n t all = omega arith

-- the bytes of abbreviations

abbrev pub texts_total : List (Vec ℕ) → ℕ
texts_total ts = total (map text_size (map (λ (t : Vec ℕ). t.items) ts))

abbrev pub text_part : Vec ℕ → ℕ
text_part t = text_size t.items

pub texts_more : (t : Vec ℕ) (ts : List (Vec ℕ)) → text_part t + texts_total ts ≡ texts_total (t ∷ ts)
texts_more t ts = refl

-- the Z-characters of a text, summed up
pub text_characters_more : (c : ℕ) (cs : List ℕ)
    → length (spelled (c ∷ cs)) ≡ length (spelling_of c) + length (spelled cs)
text_characters_more c cs = length-append (spelling_of c) (spelled cs)

-- Places

pub dictionary_is : (p : ProgramOf) (arrays objects at : ℕ) → arrays ≡ arrays_size p
    → objects ≡ folded (objects_size p.objects) → at ≡ folded (864 + arrays + objects)
    → at ≡ folded (dictionary_place p)
dictionary_is p arrays objects at a o e =
    let sum : 864 + arrays + objects_size p.objects ≡ dictionary_place p = omega (arith, a) in
    e ∙ fold_part (864 + arrays) (objects_size p.objects) objects o ∙ ap folded sum

-- folding keeps what is odd
pub fold_odd : (n : ℕ) → folded n % 2 ≡ n % 2
fold_odd n = go (ltb n 65536) refl
  where
    go : (b : Bool) → ltb n 65536 ≡ b → folded n % 2 ≡ n % 2
    go true e = ap (λ k. k % 2) (fold_small n (ltb-true n 65536 e))
    go false e = let f = fold_great n (ltb-false n 65536 e) in omega (arith, f)

pub same_filling : (texts : List (List ℕ)) (m n : ℕ) → m % 2 ≡ n % 2 → filling_before texts m ≡ filling_before texts n
same_filling [] m n e = refl
same_filling (t ∷ ts) m n e = e

-- the texts after a dictionary whose place is folded, or is not
module _ (p : ProgramOf) (at keys texts : ℕ) (k : keys ≡ key_count p)
    (is : texts ≡ at + (7 + 9 * keys) + filling_before p.abbreviations (at + (7 + 9 * keys))) where
  pub texts_folded : at ≡ folded (dictionary_place p) → folded texts ≡ folded (texts_place p)
  texts_folded a =
      let end = dictionary_end p in
      let odd : (at + (7 + 9 * keys)) % 2 ≡ end % 2 = omega (arith, a, k, fold_odd (dictionary_place p)) in
      let same = same_filling p.abbreviations (at + (7 + 9 * keys)) end odd in
      let m = 7 + 9 * keys + filling_before p.abbreviations end in
      let here : texts ≡ at + m = omega (arith, is, same) in
      let there : dictionary_place p + m ≡ texts_place p = omega (arith, k) in
      ap folded here ∙ fold_whole (dictionary_place p) m at a ∙ ap folded there

  pub texts_exact : at ≡ dictionary_place p → texts ≡ texts_place p
  texts_exact a =
      let e : at + (7 + 9 * keys) ≡ dictionary_end p = omega (arith, a, k) in
      is ∙ ap (λ x. x + filling_before p.abbreviations x) e

pub routines_are : (p : ProgramOf) (texts size end : ℕ) → folded texts ≡ folded (texts_place p)
    → size ≡ folded (abbreviations_size p) → end ≡ folded (texts + size + 4) → end ≡ folded (routines_place p)
routines_are p texts size end t s e =
    let m = size + 4 in
    let parts : texts + size + 4 ≡ texts + m = omega arith in
    let back : texts_place p + m ≡ texts_place p + 4 + size = omega arith in
    let sum : texts_place p + 4 + abbreviations_size p ≡ routines_place p = omega arith in
    e ∙ ap folded parts ∙ sym (fold_add texts m) ∙ ap (λ x. folded (x + m)) t ∙ fold_add (texts_place p) m
    ∙ ap folded back ∙ fold_part (texts_place p + 4) (abbreviations_size p) size s ∙ ap folded sum

abbrev placed : ℕ → ℕ → ℕ → ℕ → ℕ → ℕ → Places
placed globals defaults dictionary texts start routines = record {
  globals = globals;
  defaults = defaults;
  dictionary = dictionary;
  texts = texts;
  start = start;
  routines = routines;
}

placed_same : {a b c d e f g h i j : ℕ} → a ≡ b → c ≡ d → i ≡ j → e ≡ f → g ≡ h
    → placed 258 a c i e g ≡ placed 258 b d j f h
placed_same x y v z w = rw (x, y, v, z, w) refl

pub places_are : (p : ProgramOf) (arrays at keys texts size : ℕ) → routines_place p ≤ 65535 → arrays ≡ arrays_size p
    → at ≡ folded (dictionary_place p) → keys ≡ key_count p
    → texts ≡ at + (7 + 9 * keys) + filling_before p.abbreviations (at + (7 + 9 * keys))
    → size ≡ folded (abbreviations_size p)
    → placed 258 (738 + arrays) at texts (texts + size) (texts + size + 4) ≡ places_of p
places_are p arrays at keys texts size fits a d k t s =
    let here : at ≡ dictionary_place p = d ∙ fold_small (dictionary_place p) (omega (arith, fits)) in
    let after : texts ≡ texts_place p = texts_exact p at keys texts k t here in
    let all : size ≡ abbreviations_size p = s ∙ fold_small (abbreviations_size p) (omega (arith, fits)) in
    placed_same (let e : 738 + arrays ≡ defaults_place p = omega (arith, a) in e) here after
    (let e : texts + size ≡ start_place p = omega (arith, after, all) in e)
    (let e : texts + size + 4 ≡ routines_place p = omega (arith, after, all) in e)

-- Names

-- the Z-characters of a name, summed up
pub characters_more : (c : ℕ) (cs : List ℕ) → length (spelled (map machine_character (c ∷ cs)))
    ≡ length (spelling_of (machine_character c)) + length (spelled (map machine_character cs))
characters_more c cs = length-append (spelling_of (machine_character c)) (spelled (map machine_character cs))
