use Rattle.std.proofs.Common.{ap, arith, inl, length, ◌∙◌}
use Rattle.std.specs.Option.{option_map}
use Rattle.machine_frames.specs.Contents.{memory_of}
use Rattle.machine_standard_saves.proofs.Asking.{is_game, no_game}
use Rattle.machine_standard_saves.proofs.answers.saved_game.Goals as goal

pub returns-then-size-place : goal.returns-then-size-place
returns-then-size-place c =
    no_game c.args.loaded.now c.args.store.now.store c.place_in-place.result (omega (
      arith,
      ap length (c.memory-size.ensures ∙ ap memory_of c.store.ensures),
      c.if-size-place.true,
    )) c.place_in-place.ensures.place

pub file_of-requires-clause-dynamic : goal.file_of-requires-clause-dynamic
file_of-requires-clause-dynamic c = rw c.in-Some.ensures at c.requires.saves

pub returns-in-Some : goal.returns-in-Some
returns-in-Some c =
    is_game c.file_of.result (λ file. option_map (λ f. f.items) file) c.args.loaded.now c.in-Some.story.now
    c.args.store.now.store c.place_in-place.result c.in-Some.ensures (omega (
      arith,
      ap length (c.memory-size.ensures ∙ ap memory_of c.store.ensures),
      c.if-size-place.false,
    )) c.place_in-place.ensures.place c.file_of.ensures

pub returns-in-None : goal.returns-in-None
returns-in-None c = λ pending waits. inl c.in-None.ensures
