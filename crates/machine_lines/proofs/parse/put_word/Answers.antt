use Rattle.std.proofs.Common.{◌+◌, ◌++◌, ◌∷◌, [], ◌/◌, ◌%◌, length, take, ap, ◌∙◌, arith}
use Rattle.zcore.specs.Dictionary.{number_of_key, entry_of}
use Rattle.zcore.specs.Parsing.{entry_for}
use Rattle.machine_lines.proofs.Words.{four_written}
use Rattle.machine_lines.proofs.parse.put_word.Goals as goal

pub returns-clause-written : goal.returns-clause-written
unfolding entry_for
returns-clause-written c =
    let w = c.args.word in
    four_written c.args.bytes.now c.args.at _ _ _ _ (omega (arith, c.requires.room))
    ∙ ap (λ x. take c.args.at c.args.bytes.now ++ (x / 256) ∷ (x % 256) ∷ length w.bytes.now ∷ ((w.place + 2) % 256)
    ∷ [])
    (c.find_entry-entry.ensures
    ∙ ap (λ k. entry_of c.args.memory.now c.args.dictionary (number_of_key k)) c.word_key.ensures)
