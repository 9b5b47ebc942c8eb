use Rattle.std.proofs.Common.{◌+◌, refl, arith, slice_index}
use Rattle.machine_standard_words.proofs.TypedLines.{front_is, letters_are}
use Rattle.machine_standard_words.proofs.typed.put_letters.Goals as goal

pub returns-clause-letters : goal.returns-clause-letters
returns-clause-letters c =
    let memory = c.args.memory.now in
    let left = slice_index memory (c.args.text + 1) in
    letters_are c.args.extra.now memory c.args.text c.put_small_letters.result left _ c.args.line.now
    c.put.new.letters c.put_small_letters.new.letters refl refl
    (front_is memory c.args.text left c.put.new.letters refl (omega (arith, c.requires.within, c.requires.left))
    c.put.ensures) c.put_small_letters.ensures.letters
