use Rattle.std.proofs.Common.{◌∙◌}
use Rattle.ztext.proofs.Spelling.{is_sign_by, sign_spelling}
use Rattle.ztext.proofs.alphabets.spelling_of.Goals as goal

pub returns : goal.returns
returns c = c.sign_spelling.ensures ∙ sign_spelling c.args.c c.ranges.c.fits
    (is_sign_by c.args.c c.else-c-ge97.either c.else-c-ge65.either c.if-c-eq32.false c.if-c-eq13.false)
