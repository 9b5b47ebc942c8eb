-- A line and its words, given to a store that waits for them.
use Rattle.std.proofs.Common.{◌≡◌, ◌≢◌, ◌==◌, true, false, ◌∷◌, ℕ, ◌+◌, ◌*◌, ◌≤◌, List, [], length, slice_index, ap}
use Rattle.std.proofs.Common.{sym, ◌∙◌, subst, None, Result, Ok, Err}
use Rattle.std.specs.Prelude.{map, take, OnOk}
use Rattle.std.specs.List.{flat_map}
use Rattle.std.proofs.lemmas.Bool.{ne_eqb}
use Rattle.journal.specs.Recording.{Recording}
use Rattle.zcore.specs.declared.next.Next.{Next}
use Rattle.zcore.specs.Header.{static_base_of, dictionary_of}
use Rattle.zcore.specs.Parts.{test, store_result, goes_on, is_parse_buffer, test_parse_buffer}
use Rattle.zcore.specs.declared.place.Fault.TheVariants as faults
use Rattle.zcore.specs.declared.place.Place.TheVariants as places
use Rattle.zcore.specs.State.{Pending, State, Out, ◌>>=◌}
use Rattle.ztext.specs.Text.{lower_case}
use Rattle.zcore.specs.Turn.{with_bytes, with_letters, letters_for, with_line, given}
use Rattle.machine_frames.specs.Contents.{Contents, memory_of}
use Rattle.machine_lines.specs.Lines.{Filled, WaitsNoMore}
use Rattle.machine_frames.specs.States.{long_at, variable_of, state_of, IsSound}
use Rattle.machine_frames.specs.Went.{GoesOn, Went, Told}
use Rattle.machine_frames.specs.declared.end.End.{End}
use Rattle.machine_frames.specs.declared.end.End.TheVariants as ends
use Rattle.machine_lines.proofs.Lines.{pending_parts}
use Rattle.machine_frames.proofs.Steps.{goes_on_after, given_up_after, went_still, went_halt}
use Rattle.zcore.specs.Parsing.{first_words, word_bytes, parsed}
use Rattle.machine_frames.specs.Playing.{IsWaiting}
use Rattle.machine_lines.proofs.Filling.{filled_then}

-- The buffers of a store that waits

parts : (s : Contents) (w : IsWaiting s)
    → record {
      text_buffer = slice_index s.cells 6;
      parse_buffer = slice_index s.cells 7;
      result = variable_of
          (slice_index s.cells 8);
      return_address = long_at (slice_index s.cells) 9;
    } ≡ w.pending
parts s w = pending_parts (slice_index s.cells) w.pending w.waits

pub text_behind : (s : Contents) (buffer : ℕ) → IsWaiting s → buffer ≡ slice_index s.cells 6 → 64 ≤ buffer
text_behind s buffer w e = subst (λ (x : ℕ). 64 ≤ x) (sym (e ∙ ap (λ (p : Pending). p.text_buffer) (parts s w)))
    w.behind_header

pub text_room : (s : Contents) (buffer : ℕ) → IsWaiting s → buffer ≡ slice_index s.cells 6
    → buffer + 2 + slice_index (memory_of s) buffer ≤ static_base_of (memory_of s)
text_room s buffer w e =
    subst (λ (x : ℕ). x + 2 + slice_index (memory_of s) x ≤ static_base_of (memory_of s))
    (sym (e ∙ ap (λ (p : Pending). p.text_buffer) (parts s w))) w.room

pub words_behind : (s : Contents) (buffer : ℕ) → IsWaiting s → buffer ≡ slice_index s.cells 7 → buffer ≢ 0
    → 64 ≤ buffer
words_behind s buffer w e = subst (λ (x : ℕ). x ≢ 0 → 64 ≤ x)
    (sym (e ∙ ap (λ (p : Pending). p.parse_buffer) (parts s w))) w.words_behind_header

pub words_room : (s : Contents) (buffer : ℕ) → IsWaiting s → buffer ≡ slice_index s.cells 7 → buffer ≢ 0
    → buffer + 2 + 4 * slice_index (memory_of s) buffer ≤ static_base_of (memory_of s)
words_room s buffer w e =
    subst (λ (x : ℕ). x ≢ 0 → x + 2 + 4 * slice_index (memory_of s) x ≤ static_base_of (memory_of s))
    (sym (e ∙ ap (λ (p : Pending). p.parse_buffer) (parts s w))) w.words_room

-- What the line leads to

given_as : {R : Result Next End} {r s t : Recording Contents} (f g : State → Out Next) → GoesOn r s
    → f (state_of r.store []) ≡ g (state_of s.store []) → Went R s t g → Told R r [] t [] f
given_as {R = Ok a} f g goes e w = record { told = (goes_on_after goes w.did.0, e ∙ w.did.1 []) }
given_as {R = Err ends.Memory} f g goes e w = record { told = given_up_after goes w.did }
given_as {R = Err (ends.Stop x)} f g goes e w = record { told = (goes_on_after goes w.did.0, e ∙ w.did.1 []) }

pub line_told : {R : Result Next End} {r m s t : Recording Contents} (p : Pending) (line letters : List ℕ)
    (text parse fuel : ℕ) → text ≡ p.text_buffer → parse ≡ p.parse_buffer → letters
    ≡ letters_for (memory_of r.store) text line
    → Filled r m (with_line (memory_of r.store) text parse letters) → WaitsNoMore m s
    → Went R s t (store_result p.result 13 >>= λ _. goes_on p.return_address fuel)
    → Told R r [] t [] (given p line fuel)
unfolding given
line_told {R} {r} {m} {s} {t} p line letters text parse fuel is_text is_parse taken filled waits w =
    let k = memory_of r.store in
    let e : state_of s.store []
    ≡ record (state_of r.store []) { memory = with_line k text parse letters; pending = None } =
    waits.state [] ∙ ap (λ (x : State). record x { pending = None }) (filled.state []) in
    let memory : with_line k text parse letters ≡ with_line k p.text_buffer p.parse_buffer
    (letters_for k p.text_buffer line) =
    ap (with_line k text parse) taken ∙ ap (λ b. with_line k text b (letters_for k text line)) is_parse
    ∙ ap (λ b. with_line k b p.parse_buffer (letters_for k b line)) is_text in
    given_as (given p line fuel) (store_result p.result 13 >>= λ _. goes_on p.return_address fuel)
    (goes_on_after filled.goes_on waits.goes_on)
    (ap (λ (x : State). (store_result p.result 13 >>= λ _. goes_on p.return_address fuel) x)
    (sym (e ∙ ap (λ (l : List ℕ). record (state_of r.store []) { memory = l; pending = None }) memory))) w

-- Both buffers are filled

pub line_filled : {E : Type 0} (r s t : Recording Contents) (memory : List ℕ) (dictionary text parse count : ℕ)
    (letters bytes : List ℕ) (result : Result (Unit {0}) E) → parse ≢ 0
    → memory ≡ memory_of r.store → dictionary ≡ dictionary_of (memory_of r.store) → count
    ≡ length (first_words memory dictionary letters (slice_index memory parse))
    → bytes ≡ flat_map (word_bytes memory dictionary)
    (first_words memory dictionary letters (slice_index memory parse))
    → Filled r s (with_letters (memory_of r.store) text letters)
    → OnOk result (Filled s t (with_bytes (memory_of s.store) (parse + 1) (count ∷ bytes)))
    → OnOk result (Filled r t (with_line (memory_of r.store) text parse letters))
line_filled r s t memory dictionary text parse count letters bytes (Ok x) some is place number each first second =
    let m = memory_of r.store in
    let all : count ∷ bytes
    ≡ parsed m (dictionary_of m) (first_words m (dictionary_of m) letters (slice_index m parse)) =
    ap (λ n. n ∷ bytes) number
    ∙ ap (λ bs. length (first_words memory dictionary letters (slice_index memory parse)) ∷ bs) each
    ∙ ap (λ k. parsed k dictionary (first_words k dictionary letters (slice_index k parse))) is
    ∙ ap (λ d. parsed m d (first_words m d letters (slice_index m parse))) place in
    let both = filled_then r s t (with_letters m text letters) (λ k. with_bytes k (parse + 1) (count ∷ bytes)) first
    second in
    let none : (parse == 0) ≡ false = ne_eqb parse 0 some in
    let line : with_line m text parse letters ≡ with_bytes (with_letters m text letters) (parse + 1) (count ∷ bytes)
    = rw none (ap (with_bytes (with_letters m text letters) (parse + 1)) (sym all)) in
    subst (Filled r t) (sym line) both
line_filled r s t memory dictionary text parse count letters bytes (Err e) some is place number each first second = tt

pub letters_lower : (count : ℕ) (line letters : List ℕ) → length (take count line) ≡ count
    → take (length (take count line)) letters ≡ map lower_case (take count line) → take count letters
    ≡ map lower_case (take count line)
letters_lower count line letters long e = ap (λ n. take n letters) (sym long) ∙ e

-- Parse buffers, tested before the machine waits

pub parse_buffer_tested : (s : Recording Contents) (m : List ℕ) (buffer : ℕ) → IsSound s.store → m ≡ memory_of s.store
    → true ≡ is_parse_buffer m buffer → Went (Ok tt) s s (test_parse_buffer buffer)
unfolding test_parse_buffer
parse_buffer_tested s m buffer sound is holds =
    went_still s (test_parse_buffer buffer) sound (λ t. ap (λ b. test b faults.Buffer (state_of s.store t))
    (sym (holds ∙ ap (λ l. is_parse_buffer l buffer) is)))

pub parse_buffer_refused : (s : Recording Contents) (m : List ℕ) (buffer : ℕ) → IsSound s.store → m
    ≡ memory_of s.store → false ≡ is_parse_buffer m buffer → Went (Err (ends.Stop (places.Fault faults.Buffer))) s s
    (test_parse_buffer buffer)
unfolding test_parse_buffer
parse_buffer_refused s m buffer sound is fails =
    went_halt s (test_parse_buffer buffer) sound (λ t. ap (λ b. test b faults.Buffer (state_of s.store t))
    (sym (fails ∙ ap (λ l. is_parse_buffer l buffer) is)))
