-- `print_char` of a small constant.
use Rattle.std.proofs.Common.{◌≡◌, ◌<◌, ◌+◌, ℕ, List, [], ◌∷◌, length, slice_index, refl, arith, true, false, None, Ok}
use Rattle.std.proofs.lemmas.Bool.{lt-ltb}
use Rattle.journal.specs.Recording.{Recording}
use Rattle.zcore.specs.declared.instruction.Operand.TheVariants.{Small}
use Rattle.zcore.specs.declared.instruction.Operation.TheVariants as operations
use Rattle.zcore.specs.declared.next.Next.{Next}
use Rattle.zcore.specs.Execution as profile
use Rattle.zcore.specs.Execution.{perform}
use Rattle.zcore.specs.Instruction.{byte, operand, operands, result_variable, branch, variable_form}
use Rattle.zcore.specs.Parts.{operand_value, operand_values}
use Rattle.zcore.specs.State.{◌>>=◌}
use Rattle.zcore_standard.specs.Loaded.{Loaded}
use Rattle.zcore_standard.specs.Nothing.{perform_known}
use Rattle.zcore_standard.specs.Printing.{by_alphabets, perform_text, print_any_character}
use Rattle.machine_frames.specs.Contents.{Contents}
use Rattle.machine_frames.specs.States.{IsSound}
use Rattle.machine_frames.specs.Went.{Went, Told}
use Rattle.machine_frames.specs.declared.end.End.{End}
use Rattle.machine_frames.proofs.Steps.{told_went, told_then, went_still}
use Rattle.machine_decoding.specs.Decoded.{completed, plain}
use Rattle.machine_steps.proofs.Stepping.{one_value}
use Rattle.machine_standard_objects.proofs.Performing.{text_told}
use Rattle.std.proofs.Common.{Result}

-- how it is read
pub small_character_read : (story : List ℕ) (at : ℕ) → at + 1 < length story → slice_index story at ≡ 127
    → Ok (plain operations.PrintCharacter (Small (slice_index story (at + 1)) ∷ []) (at + 2))
    ≡ completed story (variable_form story 229 at)
unfolding operands operand byte result_variable branch
small_character_read story at lt types =
    let e : at + 1 + 1 ≡ at + 2 = omega arith in
    rw (lt-ltb at (length story) (omega (arith, lt)), types, lt-ltb (at + 1) (length story) lt, e) refl

small_value : (s : Recording Contents) (n : ℕ) → IsSound s.store
    → Went (Ok (n ∷ [])) s s (operand_values (Small n ∷ []))
unfolding operand_value
small_value s n sound = one_value (Small n) (went_still s (operand_value (Small n)) sound (λ t. refl))

-- what it prints
pub small_character_told : (loaded : Loaded) (r : Result Next End) {s t : Recording Contents} {x y : List ℕ}
    (here : Next) (after character : ℕ) → IsSound s.store
    → Told r s x t y (by_alphabets loaded.own_alphabets (profile.print_character here after character)
    (print_any_character loaded here after character))
    → Told r s x t y (operand_values (Small character ∷ []) >>= λ values.
    perform_known loaded operations.PrintCharacter here after None None values)
unfolding perform perform_text
small_character_told loaded r {s} {x = x} here after character sound told =
    told_then _ (told_went _ x (small_value s character sound))
    (text_told loaded operations.PrintCharacter here after None None (character ∷ []) r refl refl refl told)
