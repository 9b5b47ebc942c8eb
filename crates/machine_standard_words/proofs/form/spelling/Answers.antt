use Rattle.machine_standard_words.proofs.Forms.{of_space, of_no_space}
use Rattle.machine_standard_words.proofs.form.spelling.Goals as goal

pub returns-then-c-eq32 : goal.returns-then-c-eq32
returns-then-c-eq32 c = of_space c.args.alphabets.now c.args.c c.if-c-eq32.true

pub returns : goal.returns
returns c = of_no_space c.args.alphabets.now c.args.c _ c.if-c-eq32.false c.spelling_in_first.ensures
