use Rattle.std.proofs.Common.{◌<◌, ◌++◌, ◌*◌, [], ◌∷◌, length, nat_le, take, arith, ap, sym, ◌∙◌}
use Rattle.std.proofs.lemmas.List.{length-map}
use Rattle.zcore.specs.Header.{scale_of}
use Rattle.meaning.specs.Views.{program_of, routine_of}
use Rattle.code.specs.HeldProgram.{sizes_of}
use Rattle.story_file.specs.Written.{codes_in, end_from, part_size, part_sizes}
use Rattle.story_file.proofs.Laid.{code_next, end_goes_on, routine_beyond}
use Rattle.story_file.proofs.write.codes_within.Goals as goal

pub returns-in_default : goal.returns-in_default
returns-in_default c =
    let p = program_of c.args.checked.now in
    let count = length-map c.args.checked.now.routines routine_of in
    let there : c.loop-routine.routine < length p.routines =
    omega (arith, count, c.loop-routine-test.true, c.routines-routine-end.ensures) in
    ap (λ place. nat_le (end_from (scale_of c.args.version) place (part_sizes p)) (65535 * scale_of c.args.version))
    (sym c.requires.at)
    ∙ routine_beyond c.args.version p c.loop-routine.routine c.loop-routine.at c.length.result there
    (c.length.ensures ∙ ap part_size c.in_ok-code.ensures) _ c.loop-routine.invariant.1 c.in_default.ensures

pub loop-routine-preserved : goal.loop-routine-preserved
loop-routine-preserved c =
    let p = program_of c.args.checked.now in
    let count = length-map c.args.checked.now.routines routine_of in
    let there : c.loop-routine.routine < length p.routines =
    omega (arith, count, c.loop-routine-test.true, c.routines-routine-end.ensures) in
    let next = code_next (sizes_of p) p.routines c.loop-routine.routine there in
    let code = c.in_ok-code.ensures in (
      c.in_ok-push.ensures.items
          ∙ ap (λ z. z ++ c.in_ok-code.code ∷ []) c.loop-routine.invariant.0
          ∙ ap (λ x. take c.loop-routine.routine (codes_in p) ++ x ∷ []) code
          ∙ sym next,
      end_goes_on c.args.version p c.loop-routine.routine c.loop-routine.at c.length.result there
          (c.length.ensures ∙ ap part_size code) _ c.loop-routine.invariant.1 c.in-Some.end c.in-Some.ensures.0,
      c.in-Some.ensures.1,
    )
