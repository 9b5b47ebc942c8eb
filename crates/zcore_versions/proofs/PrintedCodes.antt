-- Characters that are printed: memory and frames are kept, and no turn waits there.
use Rattle.std.proofs.Common.{ℕ, List, [], ◌∷◌, refl}
use Rattle.std.specs.List.{flat_map}
use Rattle.zcore.proofs.KeepingReads.{Keeps, keeps_then, keeps_done, tested}
use Rattle.zcore.proofs.WaitingTests.{Waits, waits_done, waits_limit, waits_either, waits_then}
use Rattle.zcore_standard.specs.Characters.{shown_by, print_each, print_codes}
use Rattle.zcore_standard.specs.Unicode.{print_whole}

keeps_print_whole : (bytes : List ℕ) → Keeps (print_whole bytes)
unfolding print_whole
keeps_print_whole bytes s t a h = tested _ tt a s t _ s _ (record { memory = refl; frames = refl }) h

keeps_print_each : (characters : List (List ℕ)) → Keeps (print_each characters)
unfolding print_each
keeps_print_each [] = keeps_done tt
keeps_print_each (bytes ∷ others) = keeps_then _ _ (keeps_print_whole bytes) (λ _. keeps_print_each others)

pub keeps_print_codes : (characters codes : List ℕ) → Keeps (print_codes characters codes)
keeps_print_codes characters codes = keeps_print_each (flat_map (shown_by characters) codes)

waits_print_whole : (bytes : List ℕ) → Waits (print_whole bytes)
unfolding print_whole
waits_print_whole bytes s t h = waits_either _ _ _ t (waits_done tt _ t) (waits_limit _ _ t) h

waits_print_each : (characters : List (List ℕ)) → Waits (print_each characters)
unfolding print_each
waits_print_each [] = λ s t h. waits_done tt s t h
waits_print_each (bytes ∷ others) = waits_then _ _ (waits_print_whole bytes) (λ _. waits_print_each others)

pub waits_print_codes : (characters codes : List ℕ) → Waits (print_codes characters codes)
waits_print_codes characters codes = waits_print_each (flat_map (shown_by characters) codes)
