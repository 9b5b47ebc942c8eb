use Rattle.std.proofs.Common.{◌++◌, subst, ◌∙◌}
use Rattle.ztext.specs.TextParts.{IsFilledKey}
use Rattle.machine_standard_words.proofs.form.put_spelling.Goals as goal

pub returns : goal.returns
returns c = λ zs h. subst (λ m. IsFilledKey (zs ++ m) c.put_characters.result c.put_characters.new.characters)
    (c.as_slice.ensures ∙ c.spelling.ensures) (c.put_characters.ensures zs h)
