use Rattle.std.proofs.Common.{◌≡◌, arith, ◌++◌, ◌∷◌, []}
use Rattle.std.proofs.lemmas.List.{length-drop}
use Rattle.std.proofs.lemmas.Grind.{common_steps}
use Rattle.machine_opcodes.proofs.Transcripts.{prints_nothing, full_told, byte_told}
use Rattle.machine_opcodes.proofs.transcript.print_character.Goals as goal

pub returns-then-character-eq0-clause-told : goal.returns-then-character-eq0-clause-told
returns-then-character-eq0-clause-told c = prints_nothing _ _ _ c.requires.sound c.if-character-eq0.true
    (omega (arith, length-drop c.args.start c.args.text.now.items, c.requires.text.begun, c.requires.text.within))

pub returns-then-len-start-eq-TEXT_LIMIT-clause-told : goal.returns-then-len-start-eq-TEXT_LIMIT-clause-told
returns-then-len-start-eq-TEXT_LIMIT-clause-told c = full_told _ c.args.start _ c.args.character c.requires.sound
    c.if-character-eq0.false (omega arith)

pub returns-clause-told : goal.returns-clause-told
returns-clause-told c =
    let items : c.push.new.self.items ≡ c.args.text.now.items ++ c.transcribed.result
    ∷ [] = grind (arith, common_steps) in
    byte_told _ c.args.start _ _ c.args.character c.transcribed.result c.requires.sound c.requires.text
    (c.transcribed.ensures.only c.if-character-eq0.false) (omega (arith, c.requires.text.begun, c.requires.text.within)) items
