-- A text in memory, cut into words.
use Rattle.std.proofs.Common.{◌≡◌, ℕ, ◌+◌, ◌*◌, ◌≤◌, List, ◌∷◌, length, refl, ap, sym, ◌∙◌, subst, arith, true, false, Ok, Err}
use Rattle.std.proofs.Common.{slice_index, Result}
use Rattle.std.specs.Prelude.{◌==◌, ◌||◌, Bool, OnOk}
use Rattle.std.proofs.lemmas.Bool.{and_parts, eq-eqb, eqb-true, leb-true, ne_eqb}
use Rattle.journal.specs.Recording.{Recording}
use Rattle.zcore.specs.declared.next.Next.{Next}
use Rattle.zcore.specs.declared.place.Fault.TheVariants as faults
use Rattle.zcore.specs.declared.place.Place.TheVariants as places
use Rattle.zcore.specs.Dictionary.{entries_in, is_dictionary}
use Rattle.zcore.specs.Header.{HasDictionaryHead, dictionary_of, entry_length_of, first_entry, static_base_of, static_end}
use Rattle.zcore.specs.Parsing.{first_words}
use Rattle.zcore.specs.State.{State, Out, done}
use Rattle.zcore.specs.Turn.{with_bytes}
use Rattle.zcore_standard.specs.Words.{can_be_searched, dictionary_for, has_letters, has_slots, text_in}
use Rattle.zcore_standard.specs.Words.{slots_bytes, with_slots, test_letters, test_slots, test_dictionary, fill_slots}
use Rattle.zcore_standard.specs.Words.{searched_bytes, spend_search, tokenise}
use Rattle.zcore_standard.specs.Fuel.{spend_for}
use Rattle.machine_frames.specs.Contents.{Contents, memory_of}
use Rattle.machine_frames.specs.States.{IsSound, state_of}
use Rattle.machine_frames.specs.Went.{Went}
use Rattle.machine_frames.specs.declared.end.End.{End}
use Rattle.machine_frames.specs.declared.end.End.TheVariants as ends
use Rattle.machine_frames.proofs.Steps.{went_halt}
use Rattle.machine_lines.specs.Lines.{Filled, Fills}
use Rattle.machine_opcodes.specs.Says.{Says}

pub record HasSlots (memory : List ℕ) (parse : ℕ) : Type 0 where
  pub past : 64 ≤ parse
  pub room : parse + 2 + 4 * slice_index memory parse ≤ static_base_of memory

pub slots_numbers : (memory : List ℕ) (parse : ℕ) → has_slots memory parse ≡ true → HasSlots memory parse
slots_numbers memory parse h =
    let p = and_parts _ _ h in
    record { past = leb-true 64 parse p.0; room = omega (arith, leb-true _ (static_base_of memory) p.1) }

pub slots_filled : {E : Type 0} (r t : Recording Contents) (alphabets : List ℕ) (memory letters bytes : List ℕ)
    (dictionary flag text parse count : ℕ) (result : Result (Unit {0}) E) → memory ≡ memory_of r.store
    → letters ≡ text_in memory text
    → count ≡ length (first_words memory dictionary letters (slice_index memory parse))
    → bytes ≡ slots_bytes alphabets memory dictionary flag (parse + 2)
    (first_words memory dictionary letters (slice_index memory parse))
    → OnOk result (Fills r t (parse + 1) (count ∷ bytes))
    → OnOk result (Filled r t (with_slots alphabets (memory_of r.store) text parse dictionary flag))
slots_filled r t alphabets memory letters bytes dictionary flag text parse count (Ok x) is part number each filled =
    let words = λ (l : List ℕ). first_words memory dictionary l (slice_index memory parse) in
    let all : count ∷ bytes ≡ length (words (text_in memory text)) ∷ slots_bytes alphabets memory dictionary flag (parse + 2)
    (words (text_in memory text)) =
    ap (λ n. n ∷ bytes) number ∙ ap (λ b. length (words letters) ∷ b) each
    ∙ ap (λ l. length (words l) ∷ slots_bytes alphabets memory dictionary flag (parse + 2) (words l)) part in
    let memories : with_bytes (memory_of r.store) (parse + 1) (count ∷ bytes)
    ≡ with_slots alphabets (memory_of r.store) text parse dictionary flag =
    ap (with_bytes (memory_of r.store) (parse + 1)) all
    ∙ ap (λ m. with_bytes (memory_of r.store) (parse + 1)
    (length (first_words m dictionary (text_in m text) (slice_index m parse))
    ∷ slots_bytes alphabets m dictionary flag (parse + 2)
    (first_words m dictionary (text_in m text) (slice_index m parse)))) is in
    subst (Filled r t) memories filled
slots_filled r t alphabets memory letters bytes dictionary flag text parse count (Err e) is part number each filled = tt

-- What a search takes

pub head_of : (memory : List ℕ) (dictionary : ℕ) → is_dictionary memory dictionary ≡ true
    → HasDictionaryHead memory dictionary
head_of memory dictionary h = leb-true (first_entry memory dictionary) (static_end memory) (and_parts _ _ h).0

-- of a dictionary that is searched: another than the story's can be read, and each has a head
pub other_read : (memory : List ℕ) (dictionary : ℕ) → can_be_searched memory dictionary ≡ true
    → (dictionary ≡ dictionary_of memory → ⊥) → is_dictionary memory dictionary ≡ true
other_read memory dictionary can other =
    sym (ap (λ (b : Bool). b || is_dictionary memory dictionary) (ne_eqb dictionary (dictionary_of memory) other)) ∙ can

either_head : (memory : List ℕ) (dictionary : ℕ) (b : Bool) → (dictionary == dictionary_of memory) ≡ b
    → can_be_searched memory dictionary ≡ true → HasDictionaryHead memory (dictionary_of memory)
    → HasDictionaryHead memory dictionary
either_head memory dictionary true own can head =
    subst (HasDictionaryHead memory) (sym (eqb-true dictionary (dictionary_of memory) own)) head
either_head memory dictionary false other can head =
    head_of memory dictionary (sym (ap (λ (b : Bool). b || is_dictionary memory dictionary) other) ∙ can)

pub head_searched : (memory : List ℕ) (dictionary : ℕ) → can_be_searched memory dictionary ≡ true
    → HasDictionaryHead memory (dictionary_of memory) → HasDictionaryHead memory dictionary
head_searched memory dictionary can head = either_head memory dictionary (dictionary == dictionary_of memory) refl can head

module _ (memory letters : List ℕ) (text parse dictionary : ℕ) where
  pub own_searched : dictionary ≡ dictionary_of memory → searched_bytes memory text parse dictionary ≡ 0
  own_searched own = rw (eq-eqb dictionary (dictionary_of memory) own) refl

  pub other_searched : (bytes count : ℕ) → (dictionary ≡ dictionary_of memory → ⊥)
      → bytes ≡ entries_in memory dictionary * entry_length_of memory dictionary → letters ≡ text_in memory text
      → count ≡ length (first_words memory dictionary letters (slice_index memory parse))
      → bytes * count ≡ searched_bytes memory text parse dictionary
  other_searched bytes count other all part many =
      let words : count ≡ length (first_words memory dictionary (text_in memory text) (slice_index memory parse)) =
      many ∙ ap (λ l. length (first_words memory dictionary l (slice_index memory parse))) part in
      rw (ne_eqb dictionary (dictionary_of memory) other, all, words) refl

module _ (s : Recording Contents) (alphabets : List ℕ) (here : Next) (after text parse dictionary flag : ℕ) where
  abbrev memory : List ℕ
  memory = memory_of s.store

  pub no_letters : IsSound s.store → has_letters memory text ≡ false
      → Went {A = Next} (Err (ends.Stop (places.Fault faults.Read))) s s
      (tokenise alphabets here after text parse dictionary flag)
  unfolding tokenise test_letters
  no_letters sound letters = went_halt s (tokenise alphabets here after text parse dictionary flag) sound (λ t. rw letters refl)

  pub no_slots : IsSound s.store → has_letters memory text ≡ true → has_slots memory parse ≡ false
      → Went {A = Next} (Err (ends.Stop (places.Fault faults.Buffer))) s s
      (tokenise alphabets here after text parse dictionary flag)
  unfolding tokenise test_letters test_slots
  no_slots sound letters slots = went_halt s (tokenise alphabets here after text parse dictionary flag) sound
      (λ t. rw (letters, slots) refl)

  pub no_dictionary : IsSound s.store → has_letters memory text ≡ true → has_slots memory parse ≡ true
      → can_be_searched memory (dictionary_for memory dictionary) ≡ false
      → Went {A = Next} (Err (ends.Stop (places.Fault faults.Read))) s s
      (tokenise alphabets here after text parse dictionary flag)
  unfolding tokenise test_letters test_slots test_dictionary
  no_dictionary sound letters slots none = went_halt s (tokenise alphabets here after text parse dictionary flag) sound
      (λ t. rw (letters, slots, none) refl)

  -- how much fuel the search takes
  abbrev pub searching : State → Out ℕ
  searching = spend_for (searched_bytes memory text parse (dictionary_for memory dictionary)) here.fuel

  pub search_as : {r : Result ℕ End} (read : List ℕ) (named : ℕ) → read ≡ memory
      → named ≡ dictionary_for memory dictionary
      → Says r (spend_for (searched_bytes read text parse named) here.fuel) → Says r searching
  search_as {r} read named is e h =
      subst (λ d. Says r (spend_for (searched_bytes memory text parse d) here.fuel)) e
      (subst (λ k. Says r (spend_for (searched_bytes k text parse named) here.fuel)) is h)

  pub search_unpaid : {e : End} → IsSound s.store → has_letters memory text ≡ true → has_slots memory parse ≡ true
      → can_be_searched memory (dictionary_for memory dictionary) ≡ true → Says {A = ℕ} (Err e) searching
      → Went {A = Next} (Err e) s s (tokenise alphabets here after text parse dictionary flag)
  unfolding tokenise test_letters test_slots test_dictionary spend_search
  search_unpaid {e = ends.Stop p} sound letters slots some unpaid =
      went_halt s (tokenise alphabets here after text parse dictionary flag) sound
      (λ t. rw (letters, slots, some, unpaid.said (state_of s.store t)) refl)
  search_unpaid {e = ends.Memory} sound letters slots some unpaid = absurd unpaid.said

  pub tokens_filled : (t : Recording Contents) (fuel : ℕ) → has_letters memory text ≡ true → has_slots memory parse ≡ true
      → can_be_searched memory (dictionary_for memory dictionary) ≡ true → Says (Ok fuel) searching
      → Filled s t (with_slots alphabets memory text parse (dictionary_for memory dictionary) flag)
      → Went (Ok (record { program_counter = after; fuel = fuel })) s t
      (tokenise alphabets here after text parse dictionary flag)
  unfolding tokenise test_letters test_slots test_dictionary spend_search fill_slots
  tokens_filled t fuel letters slots some paid filled = record {
    did = (
      filled.goes_on,
      λ x. rw (letters, slots, some, paid.said (state_of s.store x))
          (ap (λ y. done (record { program_counter = after; fuel = fuel }) y) (sym (filled.state x))),
    );
  }
