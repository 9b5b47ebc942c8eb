-- What stands below the routines of a story.
use Rattle.std.proofs.Common.{◌≡◌, ℕ, zero, suc, ◌+◌, ◌*◌, ◌/◌, ◌%◌, ◌<◌, ◌≤◌, List, [], ◌∷◌, ◌++◌, length, take, drop}
use Rattle.std.proofs.Common.{map, refl, sym, ap, ◌∙◌, subst, arith}
use Rattle.std.specs.Prelude.{replicate, slice_index}
use Rattle.std.specs.List.{flat_map, concat}
use Rattle.std.proofs.lemmas.List.{append_assoc, length-append, length-replicate, length-take-le, get_or-drop}
use Rattle.std.proofs.lemmas.List.{get_or-take, get_or_append_left, length-map}
use Rattle.ztext.specs.Bytes.{word_at}
use Rattle.ztext.specs.Text.{Holds, encoded}
use Rattle.ztext.specs.Words.{packed}
use Rattle.ztext.specs.Abbreviations.{abbreviation_at}
use Rattle.zcore.specs.InstructionBytes.{bytes_of}
use Rattle.meaning.specs.Places.{arrays_place, defaults_place, dictionary_place, start_place, routines_place}
use Rattle.meaning.specs.Places.{objects_size, dictionary_end, filling_before, texts_place, abbreviations_size}
use Rattle.meaning.specs.Resolved.{ProgramOf}
use Rattle.code.specs.HeldProgram.{start_code}
use Rattle.story_file.specs.Layout.{word, abbreviation_bytes, global_bytes, object_bytes, dictionary_bytes, low_bytes}
use Rattle.story_file.specs.Layout.{abbreviation_texts, text_places}
use Rattle.story_file.specs.Written.{half}
use Rattle.story_file.proofs.Parts.{behind_at, holds_first}
use Rattle.story_file.proofs.Entries.{dictionary_length}
use Rattle.story_file.proofs.ObjectTables.{objects_length}
use Rattle.story_file.proofs.AbbreviationTables.{texts_length, place_count, place_at, texts_even, text_stands}

-- Words

pub word_is : (n : ℕ) → n / 256 * 256 + n % 256 ≡ n
word_is n = omega arith

words_length : (ws : List ℕ) → length (flat_map word ws) ≡ 2 * length ws
words_length [] = refl
words_length (w ∷ ws) = let e : length (flat_map word ws) ≡ 2 * length ws = words_length ws in omega (arith, e)

-- the word of a number in words that are written one after another
words_at : (ws rest : List ℕ) (k : ℕ) → k < length ws → word_at (flat_map word ws ++ rest) (2 * k) ≡ slice_index ws k
words_at [] rest k within = absurd (omega (arith, within))
words_at (w ∷ ws) rest zero within = word_is w
words_at (w ∷ ws) rest (suc k) within =
    let e : 2 * suc k ≡ suc (suc (2 * k)) = omega arith in
    let f : suc (suc (2 * k)) + 1 ≡ suc (suc (2 * k + 1)) = omega arith in
    let all : List ℕ = flat_map word (w ∷ ws) ++ rest in
    let here : word_at all (2 * suc k) ≡ word_at all (suc (suc (2 * k))) = ap (word_at all) e in
    let next : word_at all (suc (suc (2 * k))) ≡ word_at (flat_map word ws ++ rest) (2 * k) =
    ap (λ x. slice_index all (suc (suc (2 * k))) * 256 + slice_index all x) f in
    here ∙ next ∙ words_at ws rest k (omega (arith, within))

-- a word after an address
pub byte_behind : (at k : ℕ) (story rest : List ℕ) → drop at story ≡ rest
    → slice_index story (at + k) ≡ slice_index rest k
byte_behind at k story rest e = sym (get_or-drop at story k 0) ∙ ap (λ x. slice_index x k) e

pub word_behind : (at k : ℕ) (story rest : List ℕ) → drop at story ≡ rest → word_at story (at + k) ≡ word_at rest k
word_behind at k story rest e =
    let f : at + k + 1 ≡ at + (k + 1) = omega arith in
    ap (λ x. slice_index story (at + k) * 256 + slice_index story x) f
    ∙ ap (λ x. x * 256 + slice_index story (at + (k + 1))) (byte_behind at k story rest e)
    ∙ ap (λ x. slice_index rest k * 256 + x) (byte_behind at (k + 1) story rest e)

-- Lengths

-- what stands in the table of abbreviations
abbrev all_places : ProgramOf → List ℕ
all_places p = text_places (texts_place p) p.abbreviations ++ replicate 96 256

abbrev in_table : ProgramOf → List ℕ
in_table p = map half (take 96 (all_places p))

places_enough : (p : ProgramOf) → 96 ≤ length (all_places p)
places_enough p = omega (
  arith,
  length-append (text_places (texts_place p) p.abbreviations) (replicate 96 256),
  length-replicate {A = ℕ} 96 256,
)

table_length : (p : ProgramOf) → length (abbreviation_bytes p) ≡ 192
table_length p = omega (
  arith,
  words_length (in_table p),
  length-map (take 96 (all_places p)) half,
  length-take-le 96 (all_places p) (places_enough p),
)

empty_length : length (encoded []) ≡ 2
unfolding encoded packed
empty_length = refl

abbrev first_bytes : ProgramOf → List ℕ
first_bytes p = abbreviation_bytes p ++ encoded []

first_length : (p : ProgramOf) → length (first_bytes p) ≡ 194
first_length p = omega (arith, length-append (abbreviation_bytes p) (encoded []), table_length p, empty_length)

globals_length : (globals : List ℕ) → length (global_bytes globals) ≡ 480
globals_length globals =
    let enough : 240 ≤ length (globals ++ replicate 240 0) =
    omega (arith, length-append globals (replicate 240 0), length-replicate {A = ℕ} 240 0) in
    let count : length (take 240 (globals ++ replicate 240 0)) ≡ 240 =
    length-take-le 240 (globals ++ replicate 240 0) enough in
    omega (arith, words_length (take 240 (globals ++ replicate 240 0)), count)

start_length : (main : ℕ) → length (start_code main) ≡ 4
unfolding bytes_of
start_length main = refl

pub low_length : (p : ProgramOf) (main : ℕ) → length p.defaults ≡ 63 → 64 + length (low_bytes p main) ≡ routines_place p
low_length p main words =
    let first : List ℕ = first_bytes p in
    let globals : List ℕ = global_bytes p.globals in
    let arrays : List ℕ = concat p.arrays in
    let objects : List ℕ = object_bytes p in
    let dictionary : List ℕ = dictionary_bytes p.keys in
    let texts : List ℕ = abbreviation_texts p in
    let a = length-append first globals in
    let b = length-append (first ++ globals) arrays in
    let c = length-append (first ++ globals ++ arrays) objects in
    let d = length-append (first ++ globals ++ arrays ++ objects) dictionary in
    let e = length-append (first ++ globals ++ arrays ++ objects ++ dictionary) texts in
    let f = length-append (first ++ globals ++ arrays ++ objects ++ dictionary ++ texts) (start_code main) in
    omega (
      arith,
      a,
      b,
      c,
      d,
      e,
      f,
      first_length p,
      globals_length p.globals,
      objects_length p words,
      dictionary_length p.keys,
      texts_length p,
      start_length main,
    )

-- Addresses

regrouped : (x a b c d e t f g : List ℕ) → x ++ a ++ b ++ c ++ d ++ e ++ t ++ f ++ g
    ≡ x ++ (a ++ (b ++ (c ++ (d ++ (e ++ (t ++ (f ++ g)))))))
regrouped x a b c d e t f g =
    append_assoc (x ++ a ++ b ++ c ++ d ++ e ++ t) f g ∙ append_assoc (x ++ a ++ b ++ c ++ d ++ e) t (f ++ g)
    ∙ append_assoc (x ++ a ++ b ++ c ++ d) e (t ++ (f ++ g))
    ∙ append_assoc (x ++ a ++ b ++ c) d (e ++ (t ++ (f ++ g)))
    ∙ append_assoc (x ++ a ++ b) c (d ++ (e ++ (t ++ (f ++ g))))
    ∙ append_assoc (x ++ a) b (c ++ (d ++ (e ++ (t ++ (f ++ g)))))
    ∙ append_assoc x a (b ++ (c ++ (d ++ (e ++ (t ++ (f ++ g))))))

module _ (story : List ℕ) (p : ProgramOf) (high : List ℕ) (main : ℕ)
    (words : length p.defaults ≡ 63) (stands : drop 64 story ≡ low_bytes p main ++ high) where
  abbrev behind_texts : List ℕ
  behind_texts = start_code main ++ high

  abbrev pub behind_dictionary : List ℕ
  behind_dictionary = abbreviation_texts p ++ behind_texts

  abbrev behind_objects : List ℕ
  behind_objects = dictionary_bytes p.keys ++ behind_dictionary

  abbrev behind_arrays : List ℕ
  behind_arrays = object_bytes p ++ behind_objects

  abbrev behind_globals : List ℕ
  behind_globals = concat p.arrays ++ behind_arrays

  abbrev behind_table : List ℕ
  behind_table = encoded [] ++ (global_bytes p.globals ++ behind_globals)

  table_stands : drop 64 story ≡ abbreviation_bytes p ++ behind_table
  table_stands =
      stands ∙ regrouped (abbreviation_bytes p) (encoded []) (global_bytes p.globals) (concat p.arrays)
      (object_bytes p) (dictionary_bytes p.keys) (abbreviation_texts p) (start_code main) high

  globals_stand : drop 258 story ≡ global_bytes p.globals ++ behind_globals
  globals_stand =
      behind_at 64 194 story (first_bytes p) (global_bytes p.globals ++ behind_globals)
      (table_stands ∙ sym (append_assoc (abbreviation_bytes p) (encoded []) (global_bytes p.globals ++ behind_globals)))
      (first_length p)

  pub arrays_stand : drop arrays_place story ≡ concat p.arrays ++ behind_arrays
  arrays_stand =
      behind_at 258 480 story (global_bytes p.globals) behind_globals globals_stand (globals_length p.globals)

  -- the arrays, one after another
  pub arrays_hold : Holds story arrays_place (concat p.arrays)
  arrays_hold = holds_first arrays_place story (concat p.arrays) behind_arrays arrays_stand

  objects_stand : drop (defaults_place p) story ≡ behind_arrays
  objects_stand =
      behind_at arrays_place (length (concat p.arrays)) story (concat p.arrays) behind_arrays arrays_stand refl

  -- the objects, after the arrays
  pub objects_hold : Holds story (defaults_place p) (object_bytes p)
  objects_hold = holds_first (defaults_place p) story (object_bytes p) behind_objects objects_stand

  pub dictionary_stands : drop (dictionary_place p) story ≡ behind_objects
  dictionary_stands =
      let place : defaults_place p + (126 + objects_size p.objects) ≡ dictionary_place p = omega arith in
      subst (λ at. drop at story ≡ behind_objects) place (behind_at (defaults_place p) (126 + objects_size p.objects)
      story (object_bytes p) behind_objects objects_stand (objects_length p words))

  texts_stand : drop (dictionary_end p) story ≡ behind_dictionary
  texts_stand =
      behind_at (dictionary_place p) (7 + 9 * length p.keys) story (dictionary_bytes p.keys) behind_dictionary
      dictionary_stands (dictionary_length p.keys)

  pub start_stands : drop (start_place p) story ≡ behind_texts
  start_stands =
      let place : dictionary_end p + (filling_before p.abbreviations (dictionary_end p) + abbreviations_size p)
      ≡ start_place p = omega arith in
      subst (λ at. drop at story ≡ behind_texts) place
      (behind_at (dictionary_end p) (filling_before p.abbreviations (dictionary_end p) + abbreviations_size p) story
      (abbreviation_texts p) behind_texts texts_stand (texts_length p))

  pub high_stands : drop (routines_place p) story ≡ high
  high_stands = behind_at (start_place p) 4 story (start_code main) high start_stands (start_length main)

  -- the word of a global
  pub global_stands : (g : ℕ) → g < length p.globals → length p.globals ≤ 240
      → word_at story (258 + 2 * g) ≡ slice_index p.globals g
  global_stands g within few =
      let all : List ℕ = p.globals ++ replicate 240 0 in
      let enough : 240 ≤ length all =
      omega (arith, length-append p.globals (replicate 240 0), length-replicate {A = ℕ} 240 0) in
      word_behind 258 (2 * g) story (global_bytes p.globals ++ behind_globals) globals_stand
      ∙ words_at (take 240 all) behind_globals g (omega (arith, length-take-le 240 all enough, within, few))
      ∙ get_or-take 240 all g 0 (omega (arith, within, few))
      ∙ get_or_append_left p.globals (replicate 240 0) 0 g within

  -- the word of an abbreviation is its place, halved
  pub place_stands : (n : ℕ) → n < length p.abbreviations → length p.abbreviations ≤ 96
      → 2 * word_at story (64 + 2 * n) ≡ slice_index (text_places (texts_place p) p.abbreviations) n
  place_stands n within few =
      let places : List ℕ = text_places (texts_place p) p.abbreviations in
      let all : List ℕ = all_places p in
      let counted : length (take 96 all) ≡ 96 = length-take-le 96 all (places_enough p) in
      let count : length places ≡ length p.abbreviations = place_count (texts_place p) p.abbreviations in
      let word_is_half : word_at story (64 + 2 * n) ≡ slice_index places n / 2 =
      word_behind 64 (2 * n) story (abbreviation_bytes p ++ behind_table) table_stands
      ∙ words_at (in_table p) behind_table n
      (omega (arith, counted, length-map (take 96 all) half, within, few))
      ∙ place_at (take 96 all) n (omega (arith, counted, within, few))
      ∙ ap half (get_or-take 96 all n 0 (omega (arith, within, few))
      ∙ get_or_append_left places (replicate 96 256) 0 n (omega (arith, count, within))) in
      omega (arith, word_is_half, texts_even p n within)

  pub abbreviation_stands : (n : ℕ) → n < length p.abbreviations
      → Holds story (slice_index (text_places (texts_place p) p.abbreviations) n)
      (encoded (abbreviation_at p.abbreviations n))
  abbreviation_stands n within =
      let filling : List ℕ = replicate (filling_before p.abbreviations (dictionary_end p)) 0 in
      let here : drop (texts_place p) story ≡ flat_map encoded p.abbreviations ++ behind_texts =
      behind_at (dictionary_end p) (filling_before p.abbreviations (dictionary_end p)) story filling
      (flat_map encoded p.abbreviations ++ behind_texts)
      (texts_stand ∙ append_assoc filling (flat_map encoded p.abbreviations) behind_texts)
      (length-replicate {A = ℕ} (filling_before p.abbreviations (dictionary_end p)) 0) in
      text_stands story (texts_place p) p.abbreviations behind_texts n within here
