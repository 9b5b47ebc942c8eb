-- tokenise and encode_text make the weight of a turn fall, and never wait.
use Rattle.std.proofs.Common.{◌≡◌, ℕ, ◌+◌, ◌<◌, List, [], ◌∷◌, length, set, slice_index, refl, ◌∙◌}
use Rattle.std.proofs.lemmas.List.{length-set}
use Rattle.zcore.specs.declared.next.Next.{Next}
use Rattle.zcore.specs.declared.place.Fault.TheVariants as faults
use Rattle.zcore.specs.Cutting.{Word}
use Rattle.zcore.specs.Parsing.{first_words}
use Rattle.zcore.specs.Turn.{with_bytes}
use Rattle.zcore.proofs.KeepingReads.{Keeps, alike_same, done_alike, tested, keeps_test}
use Rattle.zcore.proofs.FallsOfParts.{FallsFrom, falls_then, goes_on_falls}
use Rattle.zcore.proofs.WaitingTests.{Waits, waits_done, waits_fault, waits_then, waits_either, waits_test}
use Rattle.zcore.proofs.WaitingParts.{waits_goes_on}
use Rattle.zcore_standard.specs.Words.{dictionary_for, slots_bytes, text_in, with_slots}
use Rattle.zcore_standard.specs.Words.{test_letters, test_slots, test_dictionary, fill_slots, tokenise}
use Rattle.zcore_standard.specs.Words.{searched_bytes, spend_search, form_at, write_bytes, encode_text}
use Rattle.zcore_versions.proofs.FuelFacts.{LeavesOf, keeps_spend_for, spend_for_leaves, waits_spend_for}
use Rattle.zcore_versions.proofs.FuelFacts.{falls_spent}

-- bytes that are written leave the memory as long
pub length-with_bytes : (memory : List ℕ) (at : ℕ) (bytes : List ℕ) → length (with_bytes memory at bytes) ≡ length memory
length-with_bytes memory at [] = refl
length-with_bytes memory at (b ∷ bs) = length-with_bytes (set memory at b) (at + 1) bs ∙ length-set memory at b

keeps_test_letters : (text : ℕ) → Keeps (test_letters text)
unfolding test_letters
keeps_test_letters text s t a h = keeps_test _ faults.Read s t a h

keeps_test_slots : (parse : ℕ) → Keeps (test_slots parse)
unfolding test_slots
keeps_test_slots parse s t a h = keeps_test _ faults.Buffer s t a h

keeps_test_dictionary : (dictionary : ℕ) → Keeps (test_dictionary dictionary)
unfolding test_dictionary
keeps_test_dictionary dictionary s t a h = keeps_test _ faults.Read s t a h

keeps_spend_search : (text parse dictionary fuel : ℕ) → Keeps (spend_search text parse dictionary fuel)
unfolding spend_search
keeps_spend_search text parse dictionary fuel s t a h =
    keeps_spend_for (searched_bytes s.memory text parse (dictionary_for s.memory dictionary)) fuel s t a h

spend_search_leaves : (text parse dictionary fuel : ℕ) → LeavesOf fuel (spend_search text parse dictionary fuel)
unfolding spend_search
spend_search_leaves text parse dictionary fuel s t left h =
    spend_for_leaves (searched_bytes s.memory text parse (dictionary_for s.memory dictionary)) fuel s t left h

length-with_slots : (alphabets : List ℕ) (memory : List ℕ) (text parse dictionary flag : ℕ)
    → length (with_slots alphabets memory text parse dictionary flag) ≡ length memory
length-with_slots alphabets memory text parse dictionary flag =
    let words : List Word = first_words memory dictionary (text_in memory text) (slice_index memory parse) in
    length-with_bytes memory (parse + 1) (length words ∷ slots_bytes alphabets memory dictionary flag (parse + 2) words)

keeps_fill_slots : (alphabets : List ℕ) (text parse dictionary flag : ℕ) → Keeps (fill_slots alphabets text parse dictionary flag)
unfolding fill_slots
keeps_fill_slots alphabets text parse dictionary flag s t a h =
    done_alike tt a s t _ (record { memory = length-with_slots alphabets s.memory text parse (dictionary_for s.memory dictionary) flag; frames = refl }) h

keeps_form_at : (alphabets : List ℕ) (at count : ℕ) → Keeps (form_at alphabets at count)
unfolding form_at
keeps_form_at alphabets at count s t a h = tested _ _ a s t s s _ (alike_same s s refl) h

pub keeps_write_bytes : (at : ℕ) (bytes : List ℕ) → Keeps (write_bytes at bytes)
unfolding write_bytes
keeps_write_bytes at bytes s t a h =
    tested _ tt a s t _ s _ (record { memory = length-with_bytes s.memory at bytes; frames = refl }) h

pub tokenise_falls : (alphabets : List ℕ) (here : Next) (after text parse dictionary flag : ℕ) → here.program_counter < after
    → FallsFrom here (tokenise alphabets here after text parse dictionary flag)
unfolding tokenise
tokenise_falls alphabets here after text parse dictionary flag past =
    falls_then here _ _ (keeps_test_letters text) (λ _.
    falls_then here _ _ (keeps_test_slots parse) (λ _.
    falls_then here _ _ (keeps_test_dictionary dictionary) (λ _.
    falls_spent here _ _ (keeps_spend_search text parse dictionary here.fuel)
    (spend_search_leaves text parse dictionary here.fuel) (λ left.
    falls_then (record here { fuel = left }) _ _ (keeps_fill_slots alphabets text parse dictionary flag)
    (λ _. goes_on_falls (record here { fuel = left }) after past)))))

pub encode_text_falls : (alphabets : List ℕ) (here : Next) (after text count from coded : ℕ) → here.program_counter < after
    → FallsFrom here (encode_text alphabets here after text count from coded)
unfolding encode_text
encode_text_falls alphabets here after text count from coded past =
    falls_then here _ _ (keeps_form_at alphabets _ count) (λ form.
    falls_then here _ _ (keeps_write_bytes coded form) (λ _. goes_on_falls here after past))

waits_test_letters : (text : ℕ) → Waits (test_letters text)
unfolding test_letters
waits_test_letters text s t h = waits_test _ faults.Read s t h

waits_test_slots : (parse : ℕ) → Waits (test_slots parse)
unfolding test_slots
waits_test_slots parse s t h = waits_test _ faults.Buffer s t h

waits_test_dictionary : (dictionary : ℕ) → Waits (test_dictionary dictionary)
unfolding test_dictionary
waits_test_dictionary dictionary s t h = waits_test _ faults.Read s t h

waits_spend_search : (text parse dictionary fuel : ℕ) → Waits (spend_search text parse dictionary fuel)
unfolding spend_search
waits_spend_search text parse dictionary fuel s t h =
    waits_spend_for (searched_bytes s.memory text parse (dictionary_for s.memory dictionary)) fuel s t h

waits_fill_slots : (alphabets : List ℕ) (text parse dictionary flag : ℕ) → Waits (fill_slots alphabets text parse dictionary flag)
unfolding fill_slots
waits_fill_slots alphabets text parse dictionary flag s t h = waits_done tt _ t h

waits_form_at : (alphabets : List ℕ) (at count : ℕ) → Waits (form_at alphabets at count)
unfolding form_at
waits_form_at alphabets at count s t h = waits_either _ _ _ t (waits_done _ s t) (waits_fault _ s t) h

pub waits_write_bytes : (at : ℕ) (bytes : List ℕ) → Waits (write_bytes at bytes)
unfolding write_bytes
waits_write_bytes at bytes s t h = waits_either _ _ _ t (waits_done tt _ t) (waits_fault _ s t) h

pub waits_tokenise : (alphabets : List ℕ) (here : Next) (after text parse dictionary flag : ℕ)
    → Waits (tokenise alphabets here after text parse dictionary flag)
unfolding tokenise
waits_tokenise alphabets here after text parse dictionary flag =
    waits_then _ _ (waits_test_letters text) (λ _.
    waits_then _ _ (waits_test_slots parse) (λ _.
    waits_then _ _ (waits_test_dictionary dictionary) (λ _.
    waits_then _ _ (waits_spend_search text parse dictionary here.fuel) (λ left.
    waits_then _ _ (waits_fill_slots alphabets text parse dictionary flag) (λ _. waits_goes_on after left)))))

pub waits_encode_text : (alphabets : List ℕ) (here : Next) (after text count from coded : ℕ)
    → Waits (encode_text alphabets here after text count from coded)
unfolding encode_text
waits_encode_text alphabets here after text count from coded =
    waits_then _ _ (waits_form_at alphabets _ count) (λ form.
    waits_then _ _ (waits_write_bytes coded form) (λ _. waits_goes_on after here.fuel))
