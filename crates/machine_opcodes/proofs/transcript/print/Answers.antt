use Rattle.std.proofs.Common.{refl, arith}
use Rattle.std.proofs.lemmas.List.{length-drop}
use Rattle.machine_opcodes.proofs.Transcripts.{prints_none, prints_all, print_more, print_stop, grew_still, grew_after}
use Rattle.machine_opcodes.proofs.Transcripts.{begun_after}
use Rattle.machine_frames.proofs.Steps.{told_sound, told_err}
use Rattle.machine_opcodes.proofs.transcript.print.Goals as goal

pub loop-character-init : goal.loop-character-init
loop-character-init c =
    record {
      told = prints_none _ _ c.requires.sound
          (omega (
            arith,
            length-drop c.args.start c.args.text.now.items,
            c.requires.text.begun,
            c.requires.text.within,
          ));
      grew = grew_still _ _ c.requires.text;
    }

pub print_character-requires-clause-sound : goal.print_character-requires-clause-sound
print_character-requires-clause-sound c = told_sound c.loop-character.invariant.told

pub print_character-requires-clause-text : goal.print_character-requires-clause-text
print_character-requires-clause-text c = begun_after c.requires.text c.loop-character.invariant.grew

pub returns-in_err-print_character-clause-told : goal.returns-in_err-print_character-clause-told
returns-in_err-print_character-clause-told c = told_err _ c.from_residual.ensures.1
    (print_stop c.args.characters.now c.loop-character.character-index _ (omega arith) refl
    c.loop-character.invariant.told c.in_err-print_character.ensures.told)

pub returns-in_err-print_character-clause-text : goal.returns-in_err-print_character-clause-text
returns-in_err-print_character-clause-text c = grew_after c.loop-character.invariant.grew
    c.print_character.ensures.text

pub loop-character-preserved : goal.loop-character-preserved
loop-character-preserved c = record {
  told = print_more c.args.characters.now c.loop-character.character-index _ (omega arith) refl
      c.loop-character.invariant.told c.in_ok-print_character.ensures.told;
  grew = grew_after c.loop-character.invariant.grew c.print_character.ensures.text;
}

pub returns-clause-told : goal.returns-clause-told
returns-clause-told c = prints_all c.args.characters.now c.loop-character.character-index (omega arith)
    c.loop-character.invariant.told
