use Rattle.std.proofs.Common.{◌<◌, ◌++◌, [], ◌∷◌, length, take, arith, ap, sym, ◌∙◌}
use Rattle.std.proofs.lemmas.List.{length-map}
use Rattle.meaning.specs.Views.{program_of, routine_of}
use Rattle.code.specs.HeldProgram.{sizes_of}
use Rattle.story_file.specs.Written.{codes_in}
use Rattle.story_file.proofs.Laid.{code_next}
use Rattle.story_file.proofs.write.codes_of.Goals as goal

pub loop-routine-preserved : goal.loop-routine-preserved
loop-routine-preserved c =
    let count = length-map c.args.checked.now.routines routine_of in
    let within : c.loop-routine.routine < length (program_of c.args.checked.now).routines =
    omega (arith, count, c.loop-routine-test.true, c.routines-routine-end.ensures) in
    let next = code_next (sizes_of (program_of c.args.checked.now)) (program_of c.args.checked.now).routines
    c.loop-routine.routine within in
    let code = c.in_ok-code_at.ensures in
    c.in_ok-push.ensures.items
    ∙ ap (λ z. z ++ c.in_ok-code_at.field-0 ∷ []) c.loop-routine.invariant
    ∙ ap (λ x. take c.loop-routine.routine (codes_in (program_of c.args.checked.now)) ++ x ∷ []) code
    ∙ sym next
