-- The letters and words of a line that is typed.
use Rattle.std.proofs.Common.{◌≡◌, ◌≢◌, ℕ, ◌+◌, ◌-◌, ◌*◌, ◌≤◌, List, [], ◌∷◌, ◌++◌, length, ap, refl}
use Rattle.std.proofs.Common.{sym, ◌∙◌, subst, arith, true, false, Bool, Ok, Err, Result, slice_index}
use Rattle.std.specs.Prelude.{◌==◌, OnOk}
use Rattle.std.specs.List.{flat_map}
use Rattle.std.proofs.lemmas.Bool.{and_parts, leb-true, eq-eqb, ne_eqb}
use Rattle.journal.specs.Recording.{Recording}
use Rattle.zcore.specs.Header.{static_base_of, dictionary_of}
use Rattle.zcore.specs.Parsing.{first_words}
use Rattle.zcore.specs.Turn.{with_bytes}
use Rattle.zcore_standard.specs.Reading.{has_slots_or_none}
use Rattle.zcore_versions.specs.Reading.{can_take_old, letters_for, slot_bytes, memory_given}
use Rattle.zcore_versions.specs.Versions.{Story}
use Rattle.machine_frames.specs.Contents.{Contents, memory_of}
use Rattle.machine_lines.specs.Lines.{Filled}
use Rattle.machine_lines.proofs.Filling.{filled_then, with_bytes_more}
use Rattle.machine_standard_words.proofs.TypedLines.{or_false}
use Rattle.machine_versions_words.specs.Parts.{line_memory}

-- Buffers

pub record TakesLetters (memory : List ℕ) (text parse : ℕ) : Type 0 where
  pub past : 64 ≤ text
  pub room : text + 1 + slice_index memory text ≤ static_base_of memory
  pub some : 1 ≤ slice_index memory text
  pub slots : has_slots_or_none memory parse ≡ true

pub takes_letters : (memory : List ℕ) (text parse : ℕ) → can_take_old memory text parse ≡ true → text ≢ 0
    → TakesLetters memory text parse
takes_letters memory text parse h some =
    let a = and_parts _ _ (or_false (text == 0) _ (ne_eqb text 0 some) h) in
    let b = and_parts _ _ a.0 in
    let c = and_parts _ _ b.0 in
    record {
      past = leb-true 64 text c.0;
      room = omega (arith, leb-true (text + (1 + slice_index memory text)) (static_base_of memory) c.1);
      some = leb-true 1 (slice_index memory text) b.1;
      slots = a.1;
    }

-- Letters, and a 0 after them

pub ended_filled : {E : Type 0} (r s t : Recording Contents) (at : ℕ) (letters : List ℕ)
    (result : Result (Unit {0}) E) → Filled r s (with_bytes (memory_of r.store) at letters)
    → OnOk result (Filled s t (with_bytes (memory_of s.store) (at + length letters) (0 ∷ [])))
    → OnOk result (Filled r t (with_bytes (memory_of r.store) at (letters ++ 0 ∷ [])))
ended_filled r s t at letters (Ok x) a b =
    subst (Filled r t) (sym (with_bytes_more (memory_of r.store) at letters 0))
    (filled_then r s t (with_bytes (memory_of r.store) at letters) (λ k. with_bytes k (at + length letters) (0 ∷ [])) a b)
ended_filled r s t at letters (Err e) a b = tt

-- Both buffers are filled

pub none_parsed : {E : Type 0} (r t : Recording Contents) (story : Story) (text parse : ℕ) (letters : List ℕ)
    (result : Result (Unit {0}) E) → parse ≡ 0
    → OnOk result (Filled r t (with_bytes (memory_of r.store) (text + 1) (letters ++ 0 ∷ [])))
    → OnOk result (Filled r t (line_memory story text parse letters (memory_of r.store)))
none_parsed r t story text parse letters (Ok x) none filled =
    let e : (parse == 0) ≡ true = eq-eqb parse 0 none in
    rw e filled
none_parsed r t story text parse letters (Err e) none filled = tt

pub typed_filled : {E : Type 0} (r s t : Recording Contents) (story : Story) (memory : List ℕ)
    (dictionary text parse count : ℕ) (letters bytes : List ℕ) (result : Result (Unit {0}) E) → parse ≢ 0
    → memory ≡ memory_of r.store → dictionary ≡ dictionary_of (memory_of r.store)
    → count ≡ length (first_words memory dictionary letters (slice_index memory parse))
    → bytes ≡ flat_map (slot_bytes story memory) (first_words memory dictionary letters (slice_index memory parse))
    → Filled r s (with_bytes (memory_of r.store) (text + 1) (letters ++ 0 ∷ []))
    → OnOk result (Filled s t (with_bytes (memory_of s.store) (parse + 1) (count ∷ bytes)))
    → OnOk result (Filled r t (line_memory story text parse letters (memory_of r.store)))
typed_filled r s t story memory dictionary text parse count letters bytes (Ok x) some is named number each first second =
    let m = memory_of r.store in
    let slots : List ℕ → ℕ → List ℕ = λ k d.
    length (first_words k d letters (slice_index k parse))
    ∷ flat_map (slot_bytes story k) (first_words k d letters (slice_index k parse)) in
    let all : count ∷ bytes ≡ slots m (dictionary_of m) =
    ap (λ n. n ∷ bytes) number
    ∙ ap (λ bs. length (first_words memory dictionary letters (slice_index memory parse)) ∷ bs) each
    ∙ ap (λ k. slots k dictionary) is ∙ ap (slots m) named in
    let both = filled_then r s t (with_bytes m (text + 1) (letters ++ 0 ∷ [])) (λ k. with_bytes k (parse + 1) (count ∷ bytes))
    first second in
    let none : (parse == 0) ≡ false = ne_eqb parse 0 some in
    let line : line_memory story text parse letters m
    ≡ with_bytes (with_bytes m (text + 1) (letters ++ 0 ∷ [])) (parse + 1) (count ∷ bytes)
    = rw none (ap (with_bytes (with_bytes m (text + 1) (letters ++ 0 ∷ [])) (parse + 1)) (sym all)) in
    subst (Filled r t) (sym line) both
typed_filled r s t story memory dictionary text parse count letters bytes (Err e) some is named number each first second =
    tt

pub line_taken : {E : Type 0} (r t : Recording Contents) (story : Story) (text parse : ℕ) (letters line : List ℕ)
    (result : Result (Unit {0}) E) → text ≢ 0
    → letters ≡ letters_for story.loaded.characters (memory_of r.store) text line
    → OnOk result (Filled r t (line_memory story text parse letters (memory_of r.store)))
    → OnOk result (Filled r t (memory_given story text parse line (memory_of r.store)))
line_taken r t story text parse letters line (Ok x) some same filled =
    let other : (text == 0) ≡ false = ne_eqb text 0 some in
    rw other (subst (λ l. Filled r t (line_memory story text parse l (memory_of r.store))) same filled)
line_taken r t story text parse letters line (Err e) some same filled = tt
