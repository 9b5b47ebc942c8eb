-- The opcodes that print texts of any version: they make the weight fall, and do not wait.
use Rattle.std.proofs.Common.{◌≡◌, ℕ, ◌<◌, List, [], ◌∷◌, ◌++◌, Bool, true, false, cond, arith, drop, Result, Ok}
use Rattle.ztext.specs.Reading.{Cause}
use Rattle.ztext.specs.Text.{z_text_at}
use Rattle.zcore.specs.declared.next.Next.{Next}
use Rattle.zcore.specs.State.{State, done}
use Rattle.zcore.proofs.KeepingReads.{Keeps}
use Rattle.zcore.proofs.Keeping.{keeps_test_return}
use Rattle.zcore.proofs.FallsOfParts.{FallsFrom, falls_given, falls_then, goes_on_falls, give_back_falls}
use Rattle.zcore.proofs.WaitingTests.{Waits, waits_then, waits_test_return}
use Rattle.zcore.proofs.WaitingParts.{waits_goes_on, waits_give_back}
use Rattle.zcore_standard.specs.Texts.{alphabets_of}
use Rattle.zcore_versions.proofs.PrintedCodes.{keeps_print_codes, waits_print_codes}
use Rattle.zcore_versions.proofs.Printing.{keeps_read_text, waits_read_text, read, ok_after, unpacked_ahead}
use Rattle.zcore_versions.proofs.Printing.{codes_ahead, read_ahead}
use Rattle.zcore_versions.specs.LockedTexts.{Letter, read_locked, locked_abbreviation, locked_codes_at}
use Rattle.zcore_versions.specs.Printing.{codes_in, text_in, print_text, print_inline, print_return}
use Rattle.zcore_versions.specs.Versions.{Story, locks_alphabets}

keeps_text_in : (story : Story) (address : ℕ) → Keeps (text_in story address)
unfolding text_in
keeps_text_in story address s t a h = keeps_read_text (codes_in story s.memory address) s t a h

-- The address after a text

locked_ahead : (version : ℕ) (memory : List ℕ) (at : ℕ) (x : List ℕ × ℕ) → locked_codes_at version memory at ≡ Ok x
    → at < x.1
unfolding locked_codes_at
locked_ahead version memory at x h =
    let p = read (z_text_at memory at) _ x h in
    let q = read (read_locked version (locked_abbreviation version memory) 0 (Letter 0) p.value.0)
    (λ text. Ok (text, p.value.1)) x p.second in
    let one = unpacked_ahead at (drop at memory) p.value p.first in
    let two = ok_after _ x.0 p.value.1 x.1 q.second in
    omega arith

either_ahead : (b : Bool) (q r : Result (List ℕ × ℕ) Cause) (at : ℕ) (x : List ℕ × ℕ) → (q ≡ Ok x → at < x.1)
    → (r ≡ Ok x → at < x.1) → cond b q r ≡ Ok x → at < x.1
either_ahead true q r at x v w h = v h
either_ahead false q r at x v w h = w h

codes_in_ahead : (story : Story) (memory : List ℕ) (at : ℕ) (x : List ℕ × ℕ) → codes_in story memory at ≡ Ok x
    → at < x.1
codes_in_ahead story memory at x h =
    either_ahead (locks_alphabets story.version) _ _ at x (locked_ahead story.version.number memory at x)
    (codes_ahead (alphabets_of story.loaded) memory at x) h

text_ahead : (story : Story) (at : ℕ) (s t : State) (x : List ℕ × ℕ) → text_in story at s ≡ done x t → at < x.1
unfolding text_in
text_ahead story at s t x h =
    read_ahead at (codes_in story s.memory at) s t x (λ y e. codes_in_ahead story s.memory at y e) h

-- The weight falls

pub print_text_falls : (story : Story) (here : Next) (after address : ℕ) → here.program_counter < after
    → FallsFrom here (print_text story here after address)
unfolding print_text
print_text_falls story here after address past =
    falls_then here _ _ (keeps_text_in story address) (λ text.
    falls_then here _ _ (keeps_print_codes story.loaded.characters text.0) (λ _. goes_on_falls here after past))

pub print_inline_falls : (story : Story) (here : Next) (after : ℕ) → here.program_counter < after
    → FallsFrom here (print_inline story here after)
unfolding print_inline
print_inline_falls story here after past =
    falls_given (λ text. after < text.1) here _ _ (keeps_text_in story after) (text_ahead story after) (λ text p.
    falls_then here _ _ (keeps_print_codes story.loaded.characters text.0)
    (λ _. goes_on_falls here text.1 (omega arith)))

pub print_return_falls : (story : Story) (here : Next) (after : ℕ) → FallsFrom here (print_return story here after)
unfolding print_return
print_return_falls story here after =
    falls_then here _ _ (keeps_text_in story after) (λ text.
    falls_then here _ _ keeps_test_return (λ _.
    falls_then here _ _ (keeps_print_codes story.loaded.characters (text.0 ++ 13 ∷ [])) (λ _. give_back_falls here 1)))

-- None waits

waits_text_in : (story : Story) (address : ℕ) → Waits (text_in story address)
unfolding text_in
waits_text_in story address s t h = waits_read_text (codes_in story s.memory address) s t h

pub waits_print_text : (story : Story) (here : Next) (after address : ℕ) → Waits (print_text story here after address)
unfolding print_text
waits_print_text story here after address =
    waits_then _ _ (waits_text_in story address) (λ text.
    waits_then _ _ (waits_print_codes story.loaded.characters text.0) (λ _. waits_goes_on after here.fuel))

pub waits_print_inline : (story : Story) (here : Next) (after : ℕ) → Waits (print_inline story here after)
unfolding print_inline
waits_print_inline story here after =
    waits_then _ _ (waits_text_in story after) (λ text.
    waits_then _ _ (waits_print_codes story.loaded.characters text.0) (λ _. waits_goes_on text.1 here.fuel))

pub waits_print_return : (story : Story) (here : Next) (after : ℕ) → Waits (print_return story here after)
unfolding print_return
waits_print_return story here after =
    waits_then _ _ (waits_text_in story after) (λ text.
    waits_then _ _ waits_test_return (λ _.
    waits_then _ _ (waits_print_codes story.loaded.characters (text.0 ++ 13 ∷ []))
    (λ _. waits_give_back here.fuel 1)))
