use Rattle.machine_standard_words.proofs.Forms.{of_no_line}
use Rattle.machine_standard_words.proofs.form.spelling_in_third.Goals as goal

pub returns : goal.returns
returns c = of_no_line c.args.alphabets.now c.args.c _ c.if-c-eq13.false c.sign_spelling.ensures
