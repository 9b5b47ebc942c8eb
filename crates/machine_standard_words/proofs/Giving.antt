-- What is given to a store that waits.
use Rattle.std.proofs.Common.{◌≡◌, ◌≢◌, ℕ, List, [], ap, sym, ◌∙◌, subst, refl, true, false, None, Option, Ok, Err, Result}
use Rattle.std.specs.Prelude.{◌==◌}
use Rattle.std.proofs.lemmas.Bool.{and_parts, ne_eqb, eq-eqb}
use Rattle.journal.specs.Recording.{Recording}
use Rattle.zcore.specs.declared.next.Next.{Next}
use Rattle.zcore.specs.Parts.{store_result, goes_on}
use Rattle.zcore.specs.State.{Pending, State, Out, done, ◌>>=◌}
use Rattle.zcore_standard.specs.Loaded.{Loaded}
use Rattle.zcore_standard.specs.Texts.{alphabets_of}
use Rattle.zcore_standard.specs.Reading.{has_room, has_slots_or_none, letters_with, with_line, can_take, memory_given}
use Rattle.zcore_standard.specs.Reading.{key_of_line, result_given, standard_given}
use Rattle.machine_frames.specs.Contents.{Contents, memory_of}
use Rattle.machine_frames.specs.States.{state_of, IsSound}
use Rattle.machine_frames.specs.Went.{GoesOn, Went, Told}
use Rattle.machine_frames.specs.declared.end.End.{End}
use Rattle.machine_frames.specs.declared.end.End.TheVariants as ends
use Rattle.machine_frames.proofs.Steps.{goes_on_still, goes_on_after, given_up_after, went_then, went_no_further}
use Rattle.machine_frames.proofs.Steps.{went_still, went_sound}
use Rattle.machine_lines.specs.Lines.{Filled, WaitsNoMore}
use Rattle.machine_standard_words.proofs.TypedLines.{or_false}

-- What a line is given to

pub record TakesLetters (memory : List ℕ) (text parse : ℕ) : Type 0 where
  pub room : has_room memory text ≡ true
  pub slots : has_slots_or_none memory parse ≡ true

pub takes_letters : (memory : List ℕ) (text parse : ℕ) → can_take memory text parse ≡ true → text ≢ 0
    → TakesLetters memory text parse
takes_letters memory text parse h some =
    let p = and_parts _ _ (or_false (text == 0) _ (ne_eqb text 0 some) h) in
    record { room = p.0; slots = p.1 }

pub key_filled : (s : Recording Contents) (loaded : Loaded) (text parse : ℕ) (line : List ℕ) → IsSound s.store → text ≡ 0
    → Filled s s (memory_given loaded text parse line (memory_of s.store))
key_filled s loaded text parse line sound none =
    let same : (text == 0) ≡ true = eq-eqb text 0 none in
    record { goes_on = goes_on_still s sound; state = λ x. rw same refl }

pub key_result : (extra : List ℕ) (text word : ℕ) (line : List ℕ) → text ≡ 0 → word ≡ key_of_line extra line
    → word ≡ result_given extra text line
key_result extra text word line none e =
    let same : (text == 0) ≡ true = eq-eqb text 0 none in
    rw same e

pub line_result : (extra : List ℕ) (text : ℕ) (line : List ℕ) → text ≢ 0 → 13 ≡ result_given extra text line
line_result extra text line some =
    let other : (text == 0) ≡ false = ne_eqb text 0 some in
    rw other refl

pub line_taken : (r t : Recording Contents) (loaded : Loaded) (text parse : ℕ) (line : List ℕ) → text ≢ 0
    → Filled r t (with_line (alphabets_of loaded) (memory_of r.store) text parse
    (letters_with loaded.characters (memory_of r.store) text line))
    → Filled r t (memory_given loaded text parse line (memory_of r.store))
line_taken r t loaded text parse line some filled =
    let other : (text == 0) ≡ false = ne_eqb text 0 some in
    rw other filled

-- What the line leads to

pub given_as : {R : Result Next End} {r s t : Recording Contents} (f g : State → Out Next) → GoesOn r s
    → f (state_of r.store []) ≡ g (state_of s.store []) → Went R s t g → Told R r [] t [] f
given_as {R = Ok a} f g goes e w = record { told = (goes_on_after goes w.did.0, e ∙ w.did.1 []) }
given_as {R = Err ends.Memory} f g goes e w = record { told = given_up_after goes w.did }
given_as {R = Err (ends.Stop x)} f g goes e w = record { told = (goes_on_after goes w.did.0, e ∙ w.did.1 []) }

pub given_told : {R : Result Next End} {r m s t : Recording Contents} (loaded : Loaded) (p : Pending) (line : List ℕ)
    (text parse word fuel : ℕ) → text ≡ p.text_buffer → parse ≡ p.parse_buffer → word ≡ result_given loaded.characters text line
    → Filled r m (memory_given loaded text parse line (memory_of r.store)) → WaitsNoMore m s
    → Went R s t (store_result p.result word >>= λ _. goes_on p.return_address fuel)
    → Told R r [] t [] (standard_given loaded p line fuel)
unfolding standard_given
given_told {R} {r} {m} {s} {t} loaded p line text parse word fuel is_text is_parse is_word filled waits w =
    let k = memory_of r.store in
    let goes : ℕ → State → Out Next = λ n. store_result p.result n >>= λ _. goes_on p.return_address fuel in
    let e : state_of s.store []
    ≡ record (state_of r.store []) { memory = memory_given loaded text parse line k; pending = None } =
    waits.state [] ∙ ap (λ (x : State). record x { pending = None }) (filled.state []) in
    let memory : memory_given loaded text parse line k ≡ memory_given loaded p.text_buffer p.parse_buffer line k =
    ap (λ b. memory_given loaded text b line k) is_parse ∙ ap (λ b. memory_given loaded b p.parse_buffer line k) is_text in
    let result : word ≡ result_given loaded.characters p.text_buffer line =
    is_word ∙ ap (λ b. result_given loaded.characters b line) is_text in
    given_as (standard_given loaded p line fuel) (goes word)
    (goes_on_after filled.goes_on waits.goes_on)
    (ap (λ n. goes n (record (state_of r.store []) {
      memory = memory_given loaded p.text_buffer p.parse_buffer line k;
      pending = None;
    })) (sym result)
    ∙ ap (goes word)
    (sym (e ∙ ap (λ (l : List ℕ). record (state_of r.store []) { memory = l; pending = None }) memory))) w

pub word_went : {s t : Recording Contents} (p : Pending) (v : Option ℕ) (word counter fuel : ℕ) → v ≡ p.result
    → counter ≡ p.return_address → Went (Ok tt) s t (store_result v word)
    → Went (Ok (record { program_counter = counter; fuel = fuel })) s t
    (store_result p.result word >>= λ _. goes_on p.return_address fuel)
word_went {s} {t} p v word counter fuel e q w =
    went_then (λ _. goes_on p.return_address fuel) (subst (λ x. Went (Ok tt) s t (store_result x word)) e w)
    (went_still t (goes_on p.return_address fuel) (went_sound w)
    (λ x. ap (λ k. done (record { program_counter = k; fuel = fuel }) (state_of t.store x)) (sym q)))

pub word_stops : {x : End} {s t : Recording Contents} (p : Pending) (v : Option ℕ) (word fuel : ℕ) → v ≡ p.result
    → Went {A = Unit {0}} (Err x) s t (store_result v word)
    → Went {A = Next} (Err x) s t (store_result p.result word >>= λ _. goes_on p.return_address fuel)
word_stops {x} {s} {t} p v word fuel e w = went_no_further (λ _. goes_on p.return_address fuel)
    (subst (λ k. Went {A = Unit {0}} (Err x) s t (store_result k word)) e w)
