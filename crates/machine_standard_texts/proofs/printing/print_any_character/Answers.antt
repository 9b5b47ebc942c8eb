use Rattle.std.proofs.Common.{refl, [], ◌∷◌}
use Rattle.zcore_standard.specs.Characters.{print_codes}
use Rattle.zcore_standard.specs.Printing.{print_any_character}
use Rattle.machine_frames.proofs.Steps.{told_then, told_no_further, told_err, told_still, told_sound}
use Rattle.machine_standard_texts.proofs.printing.print_any_character.Goals as goal

pub returns-in_err-print_code-clause-told : goal.returns-in_err-print_code-clause-told
unfolding print_any_character
returns-in_err-print_code-clause-told c = told_err _ c.from_residual.ensures.1
    (told_no_further {f = print_codes c.args.loaded.now.characters (c.args.character ∷ [])} _
    (rw c.characters.ensures at c.in_err-print_code.ensures.told))

pub returns-clause-told : goal.returns-clause-told
unfolding print_any_character
returns-clause-told c =
    let printing = print_codes c.args.loaded.now.characters (c.args.character ∷ []) in
    let told = rw c.characters.ensures at c.in_ok-print_code.ensures.told in
    told_then {f = printing} _ told (told_still _ _ _ (told_sound {f = printing} told) refl)
