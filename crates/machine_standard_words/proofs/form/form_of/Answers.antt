use Rattle.std.proofs.Common.{ap, ◌∙◌}
use Rattle.ztext.specs.TextParts.{filled}
use Rattle.ztext.specs.Words.{packed}
use Rattle.zcore_standard.specs.Words.{form_of}
use Rattle.machine_standard_words.proofs.form.form_of.Goals as goal

pub returns : goal.returns
unfolding form_of filled
returns c = c.packed.ensures ∙ ap packed c.nine_characters.ensures.nine
