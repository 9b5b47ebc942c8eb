-- Where no letters are left over, a line is given as in the profile.
use Rattle.std.proofs.Common.{◌≡◌, ℕ, ◌+◌, ◌-◌, zero, suc, List, [], ◌∷◌, ◌++◌, length, map, take, refl, ap}
use Rattle.std.proofs.Common.{◌∙◌, arith, Bool, true, false, cond, slice_index, Option, Some, None}
use Rattle.std.specs.Prelude.{◌==◌, ◌&&◌, nat_le, replicate, if◌then◌else◌}
use Rattle.std.specs.List.{AllByRecursion, flat_map, list_all}
use Rattle.std.proofs.lemmas.Bool.{and_parts, leb-true, lt-leb, eqb-true, ne_eqb}
use Rattle.ztext.specs.Alphabets.{lower_letters, upper_letters, place_in, spelling_in_lower, spelling_in_upper}
use Rattle.ztext.specs.Alphabets.{spelled, spelling_of}
use Rattle.ztext.specs.Text.{lower_case, key_of}
use Rattle.ztext.specs.Words.{packed}
use Rattle.zcore.specs.Cutting.{Word, is_among, with_run, words_from, words_of}
use Rattle.zcore.specs.Header.{dictionary_of}
use Rattle.zcore.specs.Dictionary.{number_of_key, entry_of}
use Rattle.zcore.specs.Parsing.{separators_of, first_words, entry_for, word_bytes}
use Rattle.zcore.specs.Parts.{is_text_buffer}
use Rattle.zcore.specs.declared.next.Next.{Next}
use Rattle.zcore.specs.State.{Out, Pending, State}
use Rattle.zcore.specs.Turn as turns
use Rattle.zcore.specs.Turn.{with_bytes, with_letters, letters_for, given}
use Rattle.zcore_standard.specs.Loaded.{Loaded}
use Rattle.zcore_standard.specs.Reading.{letters_with, with_words, memory_given, result_given, standard_given}
use Rattle.zcore_standard.specs.Saving.{file_given, given_to}
use Rattle.zcore_standard.specs.declared.save_form.SaveForm.{SaveForm}
use Rattle.zcore_standard.specs.Texts.{default_alphabets, spelled_by, spelled_in_first, spelled_in_second, spelling_by}
use Rattle.zcore_standard.specs.Unicode.{is_ascii}
use Rattle.zcore_standard.specs.Words.{form_of, entry_with_form, slots_bytes}
use Rattle.zcore_versions.proofs.PlainLines.{plain_codes, plain_front}

-- Letters that are small already

abbrev AreSmall : List ℕ → Type 0
AreSmall letters = AllByRecursion (λ c. lower_case c ≡ c) letters

never_so : {A : Type 0} (b : Bool) (x y : A) → cond (b && false) x y ≡ y
never_so true x y = refl
never_so false x y = refl

twice : (b : Bool) (c : ℕ) → (nat_le 65 c && nat_le c 90) ≡ b → lower_case (cond b (c + 32) c) ≡ cond b (c + 32) c
twice true c e =
    let parts = and_parts (nat_le 65 c) (nat_le c 90) e in
    let least = leb-true 65 c parts.0 in
    rw (lt-leb (c + 32) 90 (omega (arith, least))) (never_so (nat_le 65 (c + 32)) (c + 32 + 32) (c + 32))
twice false c e = ap (λ b. cond b (c + 32) c) e

small_letters : (letters : List ℕ) → AreSmall (map lower_case letters)
small_letters [] = tt
small_letters (c ∷ cs) = (twice (nat_le 65 c && nat_le c 90) c refl, small_letters cs)

small_more : (letters : List ℕ) (c : ℕ) → AreSmall letters → lower_case c ≡ c → AreSmall (letters ++ c ∷ [])
small_more [] c s e = (e, tt)
small_more (l ∷ ls) c s e = (s.0, small_more ls c s.1 e)

small_stay : (letters : List ℕ) → AreSmall letters → map lower_case letters ≡ letters
small_stay [] s = refl
small_stay (c ∷ cs) s = ap (λ d. d ∷ map lower_case cs) s.0 ∙ ap (λ l. c ∷ l) (small_stay cs s.1)

-- Their words

abbrev AreSmallWords : List Word → Type 0
AreSmallWords words = AllByRecursion (λ (w : Word). AreSmall w.bytes) words

small_run : (place : ℕ) (run : List ℕ) (words : List Word) → AreSmall run → AreSmallWords words
    → AreSmallWords (with_run place run words)
small_run place [] words r w = w
small_run place (c ∷ cs) words r w = (r, w)

one_of : (P : List Word → Type 0) (b : Bool) (x y : List Word) → P x → P y → P (cond b x y)
one_of P true x y p q = p
one_of P false x y p q = q

small_from : (separators : List ℕ) (place : ℕ) (run line : List ℕ) → AreSmall run → AreSmall line
    → AreSmallWords (words_from separators place run line)
small_from separators place run [] r l = small_run place run [] r tt
small_from separators place run (c ∷ cs) r l =
    let on = place + length run + 1 in
    let others = small_from separators on [] cs tt l.1 in
    one_of AreSmallWords (c == 32) _ _ (small_run place run (words_from separators on [] cs) r others)
    (one_of AreSmallWords (is_among separators c) _ _
    (small_run place run _ r ((l.0, tt), others))
    (small_from separators place (run ++ c ∷ []) cs (small_more run c r l.0) l.1))

small_first : (count : ℕ) (words : List Word) → AreSmallWords words → AreSmallWords (take count words)
small_first zero words w = tt
small_first (suc count) [] w = tt
small_first (suc count) (word ∷ words) w = (w.0, small_first count words w.1)

small_words : (memory : List ℕ) (dictionary : ℕ) (letters : List ℕ) (most : ℕ) → AreSmall letters
    → AreSmallWords (first_words memory dictionary letters most)
unfolding first_words words_of
small_words memory dictionary letters most s =
    small_first most (words_from (separators_of memory dictionary) 0 [] letters)
    (small_from (separators_of memory dictionary) 0 [] letters tt s)

-- The default alphabets

second_by_default : (o : Option ℕ) (code : ℕ) → spelled_in_second default_alphabets o code ≡ spelling_in_upper o code
second_by_default (Some place) code = refl
second_by_default None code = refl

first_by_default : (o : Option ℕ) (code : ℕ) → spelled_in_first default_alphabets o code ≡ spelling_in_lower o code
first_by_default (Some place) code = refl
first_by_default None code = second_by_default (place_in upper_letters code) code

pub spelling_by_default : (code : ℕ) → spelling_by default_alphabets code ≡ spelling_of code
unfolding spelling_by spelling_of
spelling_by_default code =
    ap (λ zs. cond (code == 32) (0 ∷ []) zs) (first_by_default (place_in lower_letters code) code)

spelled_by_default : (codes : List ℕ) → spelled_by default_alphabets codes ≡ spelled codes
spelled_by_default [] = refl
spelled_by_default (code ∷ codes) =
    ap (λ zs. zs ++ spelled_by default_alphabets codes) (spelling_by_default code)
    ∙ ap (λ zs. spelling_of code ++ zs) (spelled_by_default codes)

same_entry : (memory : List ℕ) (dictionary : ℕ) (word : List ℕ) → AreSmall word
    → entry_with_form default_alphabets memory dictionary word ≡ entry_for memory dictionary word
unfolding entry_with_form entry_for form_of key_of
same_entry memory dictionary word s = rw (small_stay word s)
    (ap (λ zs. entry_of memory dictionary (number_of_key (packed (take 9 (zs ++ replicate 9 5))))) (spelled_by_default word))

same_slots : (memory : List ℕ) (dictionary at : ℕ) (words : List Word) → AreSmallWords words
    → slots_bytes default_alphabets memory dictionary 0 at words ≡ flat_map (word_bytes memory dictionary) words
same_slots memory dictionary at [] s = refl
same_slots memory dictionary at (word ∷ words) s =
    rw (same_entry memory dictionary word.bytes s.0, same_slots memory dictionary (at + 4) words s.1)
    (ap (λ l. l ++ flat_map (word_bytes memory dictionary) words)
    (never_so (entry_for memory dictionary word.bytes == 0) _ _))

-- The line

same_words : (memory : List ℕ) (parse : ℕ) (letters written : List ℕ) → AreSmall letters
    → with_words default_alphabets memory parse letters written ≡ turns.with_words memory parse letters written
same_words memory parse letters written s =
    let words = first_words memory (dictionary_of memory) letters (slice_index memory parse) in
    ap (λ l. cond (parse == 0) written (with_bytes written (parse + 1) (length words ∷ l)))
    (same_slots memory (dictionary_of memory) (parse + 2) words
    (small_words memory (dictionary_of memory) letters (slice_index memory parse) s))

none_left : (extra memory : List ℕ) (text : ℕ) (line : List ℕ) → list_all is_ascii line ≡ true
    → slice_index memory (text + 1) ≡ 0 → letters_with extra memory text line ≡ letters_for memory text line
none_left extra memory text line plain e =
    let empty : text + 2 + 0 - (text + 2) ≡ 0 = omega arith in
    let all : slice_index memory text - 0 ≡ slice_index memory text = omega arith in
    rw (e, empty, all, plain_codes extra line plain) (plain_front extra (slice_index memory text) line plain)

pub given_alike : (loaded : Loaded) (pending : Pending) (line : List ℕ) (fuel : ℕ) (s : State)
    → loaded.own_alphabets ≡ None → list_all is_ascii line ≡ true
    → is_text_buffer s.memory pending.text_buffer ≡ true
    → standard_given loaded pending line fuel s ≡ given pending line fuel s
unfolding standard_given given
given_alike loaded pending line fuel s own plain e =
    let memory = s.memory in
    let text = pending.text_buffer in
    let a = and_parts _ _ e in
    let least = leb-true 64 text (and_parts _ _ (and_parts _ _ a.0).0).0 in
    let some : (text == 0) ≡ false = ne_eqb text 0 (λ z. omega (arith, z, least)) in
    let letters = letters_for memory text line in
    let alike : memory_given loaded text pending.parse_buffer line memory
    ≡ turns.with_line memory text pending.parse_buffer letters =
    rw (some, own, none_left loaded.characters memory text line plain (eqb-true (slice_index memory (text + 1)) 0 a.1))
    (same_words memory pending.parse_buffer letters (with_letters memory text letters)
    (small_letters (take (slice_index memory text) line))) in
    let result : result_given loaded.characters text line ≡ 13 = rw some refl in
    rw (alike, result) refl

-- The profile never asks for a name: it waits with a text buffer.
pub line_given_to : (loaded : Loaded) (form : SaveForm) (read : Pending → List ℕ → ℕ → State → Out Next)
    (pending : Pending) (line : List ℕ) (fuel : ℕ) (s : State) → is_text_buffer s.memory pending.text_buffer ≡ true
    → given_to loaded form read pending line fuel s ≡ read pending line fuel s
line_given_to loaded form read pending line fuel s e =
    let text = pending.text_buffer in
    let a = and_parts _ _ e in
    let least = leb-true 64 text (and_parts _ _ (and_parts _ _ a.0).0).0 in
    let some : (text == 0) ≡ false = ne_eqb text 0 (λ z. omega (arith, z, least)) in
    ap (λ b. (if b && nat_le 1 pending.parse_buffer then file_given loaded form pending line fuel
    else read pending line fuel) s) some
