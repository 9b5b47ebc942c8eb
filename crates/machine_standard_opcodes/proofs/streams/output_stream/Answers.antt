use Rattle.std.proofs.Common.{arith, sym, ◌∙◌}
use Rattle.machine_standard_windows.specs.TurnState.{place}
use Rattle.machine_standard_windows.proofs.TurnTexts.{keeps_still}
use Rattle.machine_standard_opcodes.proofs.Cuts.{selects_table, selects_closing, selects_transcript}
use Rattle.machine_standard_opcodes.proofs.Cuts.{transcript_missing, transcript_selected, transcript_left, selects_nothing}
use Rattle.machine_standard_opcodes.proofs.streams.output_stream.Goals as goal

pub returns-in-3-clause-told : goal.returns-in-3-clause-told
returns-in-3-clause-told c = selects_table _ c.args.loaded.now.characters
    c.args.loaded.now.has_transcript (place c.args.turn.now c.args.here) c.args.after c.args.values.now c.in-3.is c.open_table.ensures.told

pub returns-in-3-clause-text : goal.returns-in-3-clause-text
returns-in-3-clause-text c = keeps_still _ _ c.requires.text

pub returns-in-65533-clause-told : goal.returns-in-65533-clause-told
returns-in-65533-clause-told c = selects_closing _ c.args.loaded.now.characters
    c.args.loaded.now.has_transcript (place c.args.turn.now c.args.here) c.args.after c.args.values.now c.in-65533.is
    c.close_first.ensures.told

pub returns-in_default-clause-told : goal.returns-in_default-clause-told
returns-in_default-clause-told c = selects_nothing _ _ c.args.loaded.now.characters
    c.args.loaded.now.has_transcript (place c.args.turn.now c.args.here) c.args.after c.args.values.now c.requires.store.sound
    (λ h. absurd (omega (arith, c.in_default.in_default-own, h)))
    (λ h. absurd (omega (arith, c.in_default.in_default-own, h)))
    (λ h. absurd (omega (arith, c.in_default.in_default-own, h)))
    (λ h. absurd (omega (arith, c.in_default.in_default-own, h)))

pub returns-in_ok-set_transcript-in-2-clause-told : goal.returns-in_ok-set_transcript-in-2-clause-told
returns-in_ok-set_transcript-in-2-clause-told c =
    let characters = c.args.loaded.now.characters in
    let there = c.args.loaded.now.has_transcript in
    let here = place c.args.turn.now c.args.here in
    selects_transcript _ characters there here c.args.after 1 c.args.values.now c.in_ok-set_transcript-in-2.ensures.told
    (λ u. transcript_selected characters there here c.args.after c.args.values.now u c.in-2.is
    (sym c.has_transcript.ensures ∙ c.if-not-has_transcript.false))

pub returns-then-not-has_transcript-clause-told : goal.returns-then-not-has_transcript-clause-told
returns-then-not-has_transcript-clause-told c =
    transcript_missing c.args.store.now _ c.args.loaded.now.characters c.args.loaded.now.has_transcript
    (place c.args.turn.now c.args.here) c.args.after c.args.values.now c.requires.store.sound c.in-2.is
    (sym c.has_transcript.ensures ∙ c.if-not-has_transcript.true)

pub returns-then-not-has_transcript-clause-text : goal.returns-then-not-has_transcript-clause-text
returns-then-not-has_transcript-clause-text c = keeps_still _ _ c.requires.text

pub returns-in_ok-set_transcript-in-65534-clause-told : goal.returns-in_ok-set_transcript-in-65534-clause-told
returns-in_ok-set_transcript-in-65534-clause-told c = selects_transcript _ c.args.loaded.now.characters
    c.args.loaded.now.has_transcript (place c.args.turn.now c.args.here) c.args.after 0 c.args.values.now
    c.in_ok-set_transcript-in-65534.ensures.told
    (λ u. transcript_left c.args.loaded.now.characters c.args.loaded.now.has_transcript (place c.args.turn.now c.args.here) c.args.after
    c.args.values.now u c.in-65534.is)
