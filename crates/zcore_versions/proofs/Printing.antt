-- The opcodes that print any ZSCII code: they make the weight fall, do not wait, and the profile answers M10 before them
-- in the same state.
use Rattle.std.proofs.Common.{◌≡◌, ℕ, ◌+◌, ◌^◌, ◌<◌, List, [], ◌∷◌, ◌++◌, refl, ap, sym, Bool, true, false, cond, arith}
use Rattle.std.proofs.Common.{Result, Ok, Err, drop}
use Rattle.std.specs.Prelude.{◌==◌, nat_le, nat_lt}
use Rattle.ztext.specs.Reading.{Cause, Lower}
use Rattle.ztext.specs.Results.{◌>>=◌}
use Rattle.ztext.specs.Words.{unpacked_text, last_word, three_of}
use Rattle.ztext.specs.Text.{z_text_at}
use Rattle.zcore.specs.declared.instruction.Operation.{Operation}
use Rattle.zcore.specs.declared.instruction.Operation.TheVariants as operations
use Rattle.zcore.specs.declared.next.Next.{Next}
use Rattle.zcore.specs.declared.place.Fault.{Fault}
use Rattle.zcore.specs.declared.place.Fault.TheVariants as faults
use Rattle.zcore.specs.declared.place.Place.TheVariants as places
use Rattle.zcore.specs.Effects.{read_text}
use Rattle.zcore.specs.Parts.{fault, unpacked}
use Rattle.zcore.specs.State.{State, Out, done, halt}
use Rattle.zcore.proofs.KeepingReads.{Keeps, keeps_done, keeps_halt, never, done_value}
use Rattle.zcore.proofs.KeepingReads.{keeps_read_byte}
use Rattle.zcore.proofs.Keeping.{keeps_test_return}
use Rattle.zcore.proofs.KeepingObjects.{keeps_test_object, keeps_property_table}
use Rattle.zcore.proofs.FallsOfParts.{FallsFrom, falls_given, falls_then, falls_either, goes_on_falls, give_back_falls}
use Rattle.zcore.proofs.WaitingTests.{Waits, waits_done, waits_fault, waits_then}
use Rattle.zcore.proofs.WaitingTests.{waits_chosen, waits_test_return}
use Rattle.zcore.proofs.WaitingParts.{waits_goes_on, waits_read_byte, waits_give_back}
use Rattle.zcore.proofs.WaitingObjectParts.{waits_test_object, waits_property_table}
use Rattle.zcore_versions.proofs.PrintedCodes.{keeps_print_codes, waits_print_codes}
use Rattle.zcore_versions.specs.StandardLaws.{ends_in_fault}
use Rattle.zcore_standard.specs.Loaded.{Loaded}
use Rattle.zcore_standard.specs.Texts.{abbreviation_codes, alphabets_of, codes_at, read_codes}
use Rattle.zcore_standard.specs.Printing.{any_text_at, print_any_character, print_any_address, print_any_packed}
use Rattle.zcore_standard.specs.Printing.{print_any_inline, print_any_return, print_any_object, perform_text}
use Rattle.zcore_standard.specs.Printing.{is_refused}

-- What is kept

pub keeps_read_text : (r : Result (List ℕ × ℕ) Cause) → Keeps (read_text r)
keeps_read_text (Ok text) = keeps_done text
keeps_read_text (Err cause) = keeps_halt _

keeps_any_text_at : (alphabets : List ℕ) (address : ℕ) → Keeps (any_text_at alphabets address)
unfolding any_text_at
keeps_any_text_at alphabets address s t a h = keeps_read_text (codes_at alphabets s.memory address) s t a h

-- The address after a text

-- two parts, one after the other, that were read
pub record Read {A B : Type 0} (r : Result A Cause) (k : A → Result B Cause) (b : B) : Type 0 where
  pub value : A
  pub first : r ≡ Ok value
  pub second : k value ≡ Ok b

pub read : {A B : Type 0} (r : Result A Cause) (k : A → Result B Cause) (b : B) → (r >>= k) ≡ Ok b → Read r k b
read (Ok a) k b h = record { value = a; first = refl; second = h }
read (Err cause) k b h = cc

picked : {A : Type 0} (P : Type 0) (b : Bool) (q r : Result A Cause) (a : A) → (q ≡ Ok a → P) → (r ≡ Ok a → P)
    → cond b q r ≡ Ok a → P
picked P true q r a v w h = v h
picked P false q r a v w h = w h

no_text : {A : Type 0} (cause : Cause) (a : A) → Err cause ≡ Ok a → ⊥
no_text cause a h = cc

pub ok_after : {A : Type 0} (a b : A) (at after : ℕ) → (let r : Result (A × ℕ) Cause = Ok (a, at) in r) ≡ Ok (b, after)
    → after ≡ at
ok_after {A} a b at after h = let after_of : Result (A × ℕ) Cause → ℕ = λ r. elim r [ Ok x ↦ x.1 | Err e ↦ 0 ] in
    sym (ap after_of h)

last_word_after : (at high low : ℕ) (x : List ℕ × ℕ) → last_word at high low ≡ Ok x → x.1 ≡ at + 2
last_word_after at high low x h =
    picked (x.1 ≡ at + 2) (nat_lt (at + 2) (2 ^ 32)) _ _ x (λ e. ok_after _ x.0 (at + 2) x.1 e)
    (λ e. absurd (no_text _ x e)) h

-- a text has a word at least
pub unpacked_ahead : (at : ℕ) (bytes : List ℕ) (x : List ℕ × ℕ) → unpacked_text at bytes ≡ Ok x → at < x.1
unfolding unpacked_text
unpacked_ahead at [] x h = absurd (no_text _ x h)
unpacked_ahead at (high ∷ []) x h = absurd (no_text _ x h)
unpacked_ahead at (high ∷ low ∷ bytes) x h =
    picked (at < x.1) (nat_le 128 high) _ _ x
    (λ e. let f = last_word_after at high low x e in omega arith)
    (λ e.
    let p = read (unpacked_text (at + 2) bytes) (λ y. Ok (three_of high low ++ y.0, y.1)) x e in
    let one = unpacked_ahead (at + 2) bytes p.value p.first in
    let two = ok_after _ x.0 p.value.1 x.1 p.second in
    omega arith) h

pub codes_ahead : (alphabets story : List ℕ) (at : ℕ) (x : List ℕ × ℕ) → codes_at alphabets story at ≡ Ok x → at < x.1
unfolding codes_at
codes_ahead alphabets story at x h =
    let p = read (z_text_at story at) _ x h in
    let q = read (read_codes alphabets (abbreviation_codes alphabets story) Lower p.value.0)
    (λ text. Ok (text, p.value.1)) x p.second in
    let one = unpacked_ahead at (drop at story) p.value p.first in
    let two = ok_after _ x.0 p.value.1 x.1 q.second in
    omega arith

pub read_ahead : (at : ℕ) (r : Result (List ℕ × ℕ) Cause) (s t : State) (x : List ℕ × ℕ)
    → ((y : List ℕ × ℕ) → r ≡ Ok y → at < y.1) → read_text r s ≡ done x t → at < x.1
read_ahead at (Ok y) s t x before h =
    let e = done_value y x s t h in
    let f = before y refl in
    rw e f
read_ahead at (Err cause) s t x before h = absurd (never _ x s t h)

any_text_ahead : (alphabets : List ℕ) (at : ℕ) (s t : State) (x : List ℕ × ℕ) → any_text_at alphabets at s ≡ done x t
    → at < x.1
unfolding any_text_at
any_text_ahead alphabets at s t x h = read_ahead at (codes_at alphabets s.memory at) s t x
    (λ y e. codes_ahead alphabets s.memory at y e) h

-- The weight falls

print_any_character_falls : (loaded : Loaded) (here : Next) (after character : ℕ) → here.program_counter < after
    → FallsFrom here (print_any_character loaded here after character)
unfolding print_any_character
print_any_character_falls loaded here after character past =
    falls_then here _ _ (keeps_print_codes loaded.characters (character ∷ [])) (λ _. goes_on_falls here after past)

print_any_address_falls : (loaded : Loaded) (here : Next) (after address : ℕ) → here.program_counter < after
    → FallsFrom here (print_any_address loaded here after address)
unfolding print_any_address
print_any_address_falls loaded here after address past =
    falls_then here _ _ (keeps_any_text_at (alphabets_of loaded) address) (λ text.
    falls_then here _ _ (keeps_print_codes loaded.characters text.0) (λ _. goes_on_falls here after past))

print_any_packed_falls : (loaded : Loaded) (here : Next) (after packed : ℕ) → here.program_counter < after
    → FallsFrom here (print_any_packed loaded here after packed)
unfolding print_any_packed
print_any_packed_falls loaded here after packed past s t next within h =
    print_any_address_falls loaded here after (unpacked s.memory packed) past s t next within h

print_any_inline_falls : (loaded : Loaded) (here : Next) (after : ℕ) → here.program_counter < after
    → FallsFrom here (print_any_inline loaded here after)
unfolding print_any_inline
print_any_inline_falls loaded here after past =
    falls_given (λ text. after < text.1) here _ _ (keeps_any_text_at (alphabets_of loaded) after) (any_text_ahead (alphabets_of loaded) after) (λ text p.
    falls_then here _ _ (keeps_print_codes loaded.characters text.0)
    (λ _. goes_on_falls here text.1 (omega arith)))

print_any_return_falls : (loaded : Loaded) (here : Next) (after : ℕ)
    → FallsFrom here (print_any_return loaded here after)
unfolding print_any_return
print_any_return_falls loaded here after =
    falls_then here _ _ (keeps_any_text_at (alphabets_of loaded) after) (λ text.
    falls_then here _ _ keeps_test_return (λ _.
    falls_then here _ _ (keeps_print_codes loaded.characters (text.0 ++ 13 ∷ [])) (λ _. give_back_falls here 1)))

print_any_object_falls : (loaded : Loaded) (here : Next) (after object : ℕ) → here.program_counter < after
    → FallsFrom here (print_any_object loaded here after object)
unfolding print_any_object
print_any_object_falls loaded here after object past =
    falls_then here _ _ (keeps_test_object object) (λ _.
    falls_then here _ _ (keeps_property_table object) (λ table.
    falls_then here _ _ (keeps_read_byte table) (λ words.
    falls_either (words == 0) here _ _ (λ _. goes_on_falls here after past)
    (print_any_address_falls loaded here after (table + 1) past))))

fault_falls : (here : Next) (cause : Fault) → FallsFrom here (fault cause)
fault_falls here cause s t next within h = absurd (never _ next s t h)

pub perform_text_falls : (loaded : Loaded) (operation : Operation) (here : Next) (after : ℕ) (values : List ℕ)
    → here.program_counter < after → FallsFrom here (perform_text loaded operation here after values)
unfolding perform_text
perform_text_falls loaded operations.Print here after values past = print_any_inline_falls loaded here after past
perform_text_falls loaded operations.PrintReturn here after values past = print_any_return_falls loaded here after
perform_text_falls loaded operations.PrintAddress here after values past = print_any_address_falls loaded here after _
    past
perform_text_falls loaded operations.PrintPacked here after values past = print_any_packed_falls loaded here after _
    past
perform_text_falls loaded operations.PrintObject here after values past = print_any_object_falls loaded here after _
    past
perform_text_falls loaded operations.PrintCharacter here after values past = print_any_character_falls loaded here
    after _ past
perform_text_falls loaded _ here after values past = fault_falls here faults.Opcode

-- None waits

pub waits_read_text : (r : Result (List ℕ × ℕ) Cause) → Waits (read_text r)
waits_read_text (Ok text) s t h = waits_done text s t h
waits_read_text (Err cause) s t h = waits_fault _ s t h

waits_any_text_at : (alphabets : List ℕ) (address : ℕ) → Waits (any_text_at alphabets address)
unfolding any_text_at
waits_any_text_at alphabets address s t h = waits_read_text (codes_at alphabets s.memory address) s t h

waits_print_any_address : (loaded : Loaded) (here : Next) (after address : ℕ)
    → Waits (print_any_address loaded here after address)
unfolding print_any_address
waits_print_any_address loaded here after address =
    waits_then _ _ (waits_any_text_at (alphabets_of loaded) address) (λ text.
    waits_then _ _ (waits_print_codes loaded.characters text.0)
    (λ _. waits_goes_on after here.fuel))

waits_print_any_packed : (loaded : Loaded) (here : Next) (after packed : ℕ)
    → Waits (print_any_packed loaded here after packed)
unfolding print_any_packed
waits_print_any_packed loaded here after packed s t h =
    waits_print_any_address loaded here after (unpacked s.memory packed) s t h

waits_print_any_character : (loaded : Loaded) (here : Next) (after character : ℕ)
    → Waits (print_any_character loaded here after character)
unfolding print_any_character
waits_print_any_character loaded here after character =
    waits_then _ _ (waits_print_codes loaded.characters (character ∷ []))
    (λ _. waits_goes_on after here.fuel)

waits_print_any_inline : (loaded : Loaded) (here : Next) (after : ℕ) → Waits (print_any_inline loaded here after)
unfolding print_any_inline
waits_print_any_inline loaded here after =
    waits_then _ _ (waits_any_text_at (alphabets_of loaded) after) (λ text.
    waits_then _ _ (waits_print_codes loaded.characters text.0)
    (λ _. waits_goes_on text.1 here.fuel))

waits_print_any_return : (loaded : Loaded) (here : Next) (after : ℕ) → Waits (print_any_return loaded here after)
unfolding print_any_return
waits_print_any_return loaded here after =
    waits_then _ _ (waits_any_text_at (alphabets_of loaded) after) (λ text.
    waits_then _ _ waits_test_return (λ _.
    waits_then _ _ (waits_print_codes loaded.characters (text.0 ++ 13 ∷ []))
    (λ _. waits_give_back here.fuel 1)))

waits_print_any_object : (loaded : Loaded) (here : Next) (after object : ℕ)
    → Waits (print_any_object loaded here after object)
unfolding print_any_object
waits_print_any_object loaded here after object =
    waits_then _ _ (waits_test_object object) (λ _.
    waits_then _ _ (waits_property_table object) (λ table.
    waits_then _ _ (waits_read_byte table) (λ words.
    waits_chosen (words == 0) _ _ (waits_goes_on after here.fuel)
    (waits_print_any_address loaded here after (table + 1)))))

pub waits_perform_text : (loaded : Loaded) (operation : Operation) (here : Next) (after : ℕ) (values : List ℕ)
    → Waits (perform_text loaded operation here after values)
unfolding perform_text
waits_perform_text loaded operations.Print here after values = waits_print_any_inline loaded here after
waits_perform_text loaded operations.PrintReturn here after values = waits_print_any_return loaded here after
waits_perform_text loaded operations.PrintAddress here after values = waits_print_any_address loaded here after _
waits_perform_text loaded operations.PrintPacked here after values = waits_print_any_packed loaded here after _
waits_perform_text loaded operations.PrintObject here after values = waits_print_any_object loaded here after _
waits_perform_text loaded operations.PrintCharacter here after values = waits_print_any_character loaded here after _
waits_perform_text loaded _ here after values = λ s t h. waits_fault faults.Opcode s t h

-- M10 is a fault
pub refused_faults : (o : Out Next) → is_refused o ≡ true → ends_in_fault o ≡ true
refused_faults (done next s) e = absurd (cc)
refused_faults (halt (places.Fault cause) s) e = refl
refused_faults (halt _ s) e = absurd (cc)
