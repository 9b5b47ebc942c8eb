-- The letters and words of a line that is typed.
use Rattle.std.proofs.Common.{◌≡◌, ◌≢◌, ℕ, ◌+◌, ◌-◌, ◌*◌, ◌≤◌, List, ◌∷◌, ◌++◌, length, map, take, drop, ap}
use Rattle.std.proofs.Common.{sym, ◌∙◌, subst, arith, true, false, Bool, Ok, Err, Result, slice_index}
use Rattle.std.specs.Prelude.{◌==◌, ◌||◌, OnOk, slice_range}
use Rattle.std.proofs.lemmas.Bool.{and_parts, leb-true, ne_eqb}
use Rattle.std.proofs.lemmas.List.{length-take-le, length-drop}
use Rattle.journal.specs.Recording.{Recording}
use Rattle.zcore.specs.Header.{static_base_of, dictionary_of}
use Rattle.zcore.specs.Parsing.{first_words}
use Rattle.zcore.specs.Turn.{with_bytes, with_letters}
use Rattle.zcore_standard.specs.Input.{codes_typed, small}
use Rattle.zcore_standard.specs.Reading.{has_room, has_slots_or_none, letters_with, with_line}
use Rattle.zcore_standard.specs.Words.{letters_in, slots_bytes}
use Rattle.machine_frames.specs.Contents.{Contents, memory_of}
use Rattle.machine_lines.specs.Lines.{Filled}
use Rattle.machine_lines.proofs.Filling.{filled_then}
use Rattle.machine_standard_words.proofs.Tokens.{slots_numbers}

-- Buffers

pub record HasRoom (memory : List ℕ) (text : ℕ) : Type 0 where
  pub past : 64 ≤ text
  pub room : text + 2 + slice_index memory text ≤ static_base_of memory
  pub left : slice_index memory (text + 1) ≤ slice_index memory text

pub room_numbers : (memory : List ℕ) (text : ℕ) → has_room memory text ≡ true → HasRoom memory text
room_numbers memory text h =
    let a = and_parts _ _ h in
    let b = and_parts _ _ a.0 in
    let c = and_parts _ _ b.0 in
    record {
      past = leb-true 64 text c.0;
      room = omega (arith, leb-true (text + (2 + slice_index memory text)) (static_base_of memory) c.1);
      left = leb-true (slice_index memory (text + 1)) (slice_index memory text) a.1;
    }

pub or_false : (a b : Bool) → a ≡ false → (a || b) ≡ true → b ≡ true
or_false true b e h = absurd (cc)
or_false false b e h = h

pub record HasSlotsFor (memory : List ℕ) (parse : ℕ) : Type 0 where
  pub past : 64 ≤ parse
  pub room : parse + 2 + 4 * slice_index memory parse ≤ static_base_of memory

pub slots_given : (memory : List ℕ) (parse : ℕ) → has_slots_or_none memory parse ≡ true → parse ≢ 0
    → HasSlotsFor memory parse
slots_given memory parse h some =
    let s = slots_numbers memory parse (or_false (parse == 0) _ (ne_eqb parse 0 some) h) in
    record { past = s.past; room = s.room }

-- Letters

-- the letters that were left over, at the front of a row
pub front_is : (memory : List ℕ) (text left : ℕ) (new : List ℕ) → left ≡ slice_index memory (text + 1)
    → text + 2 + left ≤ length memory
    → take (length (slice_range memory (text + 2) (text + 2 + left))) new
    ≡ slice_range memory (text + 2) (text + 2 + left)
    → take left new ≡ letters_in memory text
front_is memory text left new is within e =
    let many : text + 2 + left - (text + 2) ≡ left = omega arith in
    let long : length (slice_range memory (text + 2) (text + 2 + left)) ≡ left =
    length-take-le (text + 2 + left - (text + 2)) (drop (text + 2) memory)
    (omega (arith, within, length-drop (text + 2) memory)) ∙ many in
    ap (λ n. take n new) (sym long) ∙ e ∙ ap (λ n. slice_range memory (text + 2) (text + 2 + n)) is

-- and after them those of the line
pub letters_are : (extra memory : List ℕ) (text end left most : ℕ) (line old new : List ℕ)
    → left ≡ slice_index memory (text + 1) → most ≡ slice_index memory text - left
    → take left old ≡ letters_in memory text
    → take end new ≡ take left old ++ map (small extra) (take most (codes_typed extra line))
    → take end new ≡ letters_with extra memory text line
letters_are extra memory text end left most line old new is room front e =
    let fits : most ≡ slice_index memory text - slice_index memory (text + 1) =
    room ∙ ap (λ n. slice_index memory text - n) is in
    e ∙ ap (λ l. l ++ map (small extra) (take most (codes_typed extra line))) front
    ∙ ap (λ n. letters_in memory text ++ map (small extra) (take n (codes_typed extra line))) fits

-- Both buffers are filled

pub typed_filled : {E : Type 0} (r s t : Recording Contents) (alphabets : List ℕ) (memory : List ℕ) (dictionary text parse count : ℕ)
    (letters bytes : List ℕ) (result : Result (Unit {0}) E) → parse ≢ 0
    → memory ≡ memory_of r.store → dictionary ≡ dictionary_of (memory_of r.store)
    → count ≡ length (first_words memory dictionary letters (slice_index memory parse))
    → bytes ≡ slots_bytes alphabets memory dictionary 0 (parse + 2)
    (first_words memory dictionary letters (slice_index memory parse))
    → Filled r s (with_letters (memory_of r.store) text letters)
    → OnOk result (Filled s t (with_bytes (memory_of s.store) (parse + 1) (count ∷ bytes)))
    → OnOk result (Filled r t (with_line alphabets (memory_of r.store) text parse letters))
typed_filled r s t alphabets memory dictionary text parse count letters bytes (Ok x) some is named number each first second =
    let m = memory_of r.store in
    let slots : List ℕ → ℕ → List ℕ = λ k d.
    length (first_words k d letters (slice_index k parse))
    ∷ slots_bytes alphabets k d 0 (parse + 2) (first_words k d letters (slice_index k parse)) in
    let all : count ∷ bytes ≡ slots m (dictionary_of m) =
    ap (λ n. n ∷ bytes) number
    ∙ ap (λ bs. length (first_words memory dictionary letters (slice_index memory parse)) ∷ bs) each
    ∙ ap (λ k. slots k dictionary) is ∙ ap (slots m) named in
    let both = filled_then r s t (with_letters m text letters) (λ k. with_bytes k (parse + 1) (count ∷ bytes)) first
    second in
    let none : (parse == 0) ≡ false = ne_eqb parse 0 some in
    let line : with_line alphabets m text parse letters ≡ with_bytes (with_letters m text letters) (parse + 1) (count ∷ bytes)
    = rw none (ap (with_bytes (with_letters m text letters) (parse + 1)) (sym all)) in
    subst (Filled r t) (sym line) both
typed_filled r s t alphabets memory dictionary text parse count letters bytes (Err e) some is named number each first second = tt

pub line_as : {E : Type 0} (r t : Recording Contents) (alphabets : List ℕ) (text parse : ℕ) (letters all : List ℕ)
    (result : Result (Unit {0}) E) → letters ≡ all
    → OnOk result (Filled r t (with_line alphabets (memory_of r.store) text parse letters))
    → OnOk result (Filled r t (with_line alphabets (memory_of r.store) text parse all))
line_as r t alphabets text parse letters all (Ok x) same filled =
    subst (λ l. Filled r t (with_line alphabets (memory_of r.store) text parse l)) same filled
line_as r t alphabets text parse letters all (Err e) same filled = tt
