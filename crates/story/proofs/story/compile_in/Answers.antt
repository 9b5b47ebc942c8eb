use Rattle.std.proofs.Common.{refl, sym, subst, ◌∙◌, Ok}
use Rattle.std.specs.Prelude.{IfOk}
use Rattle.syntax_lexer.specs.FaultNumbers.{no_memory}
use Rattle.syntax_lexer.specs.Placed.{nowhere}
use Rattle.syntax_lexer.specs.Token.{lexemes}
use Rattle.syntax_lexer.specs.Tokens.{Lexes, EndsOnce}
use Rattle.syntax_lexer.specs.Results.{source_tokens}
use Rattle.syntax.specs.Views.{program_tree}
use Rattle.syntax.proofs.Main.{unplaced_numbers}
use Rattle.syntax.proofs.Placing.{unfit_as, deep_less}
use Rattle.story.specs.Large.{limits_by, IsStoryWithin}
use Rattle.story.specs.Refused.{RefusesBy}
use Rattle.story.proofs.Compiling.{is_tree, unlexed, unparsed, unchecked, too_large, answered}
use Rattle.story.proofs.Compiling.{accepted, compiled, light, printable}
use Rattle.story.proofs.Standing.{stands_answered, refused_stands, unlexed_stands, unparsed_stands, unchecked_stands}
use Rattle.story.proofs.Standing.{too_large_stands}
use Rattle.story.proofs.story.compile_in.Goals as goal

pub returns-in_err-tokens-clause-compiles : goal.returns-in_err-tokens-clause-compiles
returns-in_err-tokens-clause-compiles c =
    answered (limits_by c.args.limit) c.args.version c.args.source.now c.from_residual.result c.in_err-tokens.field-0.0
    c.from_residual.ensures
    (unlexed c.args.source.now (limits_by c.args.limit) c.args.version c.in_err-tokens.field-0.0
    c.in_err-tokens.ensures.meets)

pub returns-in_err-program-clause-compiles : goal.returns-in_err-program-clause-compiles
returns-in_err-program-clause-compiles c =
    let lexed : Lexes 0 1 c.args.source.now (Ok (source_tokens c.deref.result.now)) =
    subst (λ ts. Lexes 0 1 c.args.source.now (Ok (source_tokens ts))) (sym c.deref.ensures.value)
    c.in_ok-tokens.ensures.meets in
    let once : EndsOnce (lexemes c.deref.result.now) =
    subst (λ ts. EndsOnce (lexemes ts)) (sym c.deref.ensures.value) c.in_ok-tokens.ensures.ends_once in
    let refused : RefusesBy (limits_by c.args.limit) c.args.version c.args.source.now c.in_err-program.field-0.0.fault =
    unparsed c.args.source.now c.deref.result.now lexed (limits_by c.args.limit) c.args.version c.in_err-program.field-0.0.fault
    c.in_err-program.ensures.grammar
    (λ ten. unfit_as (c.in_err-program.ensures.place ten once) (λ place at. at.0))
    (λ five. (c.in_err-program.ensures.deep five).1)
    (λ five. deep_less (c.in_err-program.ensures.deep_place five) (λ place at. at.0))
    (unplaced_numbers c.in_err-program.field-0.0 c.in_err-program.ensures.numbers) in
    answered (limits_by c.args.limit) c.args.version c.args.source.now c.from_residual-in_err-program.result c.in_err-program.field-0.0
    c.from_residual-in_err-program.ensures refused

pub returns-in-Err-clause-compiles : goal.returns-in-Err-clause-compiles
returns-in-Err-clause-compiles c =
    let lexed : Lexes 0 1 c.args.source.now (Ok (source_tokens c.deref.result.now)) =
    subst (λ ts. Lexes 0 1 c.args.source.now (Ok (source_tokens ts))) (sym c.deref.ensures.value)
    c.in_ok-tokens.ensures.meets in
    let found = c.in_ok-program.ensures.found in
    let p = program_tree c.in_ok-program.program in
    unchecked (limits_by c.args.limit) c.args.version c.args.source.now p c.in-Err.placed.fault
    (is_tree c.args.source.now c.deref.result.now lexed p found.0 found.1) c.in-Err.ensures.answers

pub returns-in-Err-sized-clause-compiles : goal.returns-in-Err-sized-clause-compiles
returns-in-Err-sized-clause-compiles c =
    let lexed : Lexes 0 1 c.args.source.now (Ok (source_tokens c.deref.result.now)) =
    subst (λ ts. Lexes 0 1 c.args.source.now (Ok (source_tokens ts))) (sym c.deref.ensures.value)
    c.in_ok-tokens.ensures.meets in
    let found = c.in_ok-program.ensures.found in
    let p = program_tree c.in_ok-program.program in
    let checked = c.in-Ok.ensures.answers in
    let large = subst (IsStoryWithin c.args.limit c.args.version c.in-Ok.checked) c.in-Err-sized.is
    (subst (λ r. IfOk r (IsStoryWithin c.args.limit c.args.version c.in-Ok.checked)) c.in_ok-sized.was
    c.story_by-found.ensures) in
    too_large c.args.limit c.args.version c.args.source.now p c.in-Ok.checked c.in-Err-sized.placed.fault
    (is_tree c.args.source.now c.deref.result.now lexed p found.0 found.1) checked.0 checked.1 large.0

pub story_by-found-requires : goal.story_by-found-requires
story_by-found-requires c =
    let lexed : Lexes 0 1 c.args.source.now (Ok (source_tokens c.deref.result.now)) =
    subst (λ ts. Lexes 0 1 c.args.source.now (Ok (source_tokens ts))) (sym c.deref.ensures.value)
    c.in_ok-tokens.ensures.meets in
    let parsed = c.in_ok-program.ensures.found.0 in
    let checked = c.in-Ok.ensures.answers in
    let tree = program_tree c.in_ok-program.program in
    record {
      accepted = accepted c.laws.ensures.accepted c.laws.ensures.tokens c.laws.ensures.trees
          c.laws.ensures.programs c.args.source.now c.deref.result.now tree c.in-Ok.checked lexed parsed
          checked.0 checked.1;
      printable = printable c.laws.ensures.accepted c.laws.ensures.tokens c.laws.ensures.trees
          c.laws.ensures.programs c.args.source.now c.deref.result.now tree c.in-Ok.checked lexed parsed
          checked.0 checked.1;
      light = light c.laws.ensures.accepted c.laws.ensures.tokens c.laws.ensures.trees
          c.laws.ensures.programs c.args.source.now c.deref.result.now tree c.in-Ok.checked lexed parsed
          checked.0 checked.1 c.laws.ensures.small c.args.version;
    }

pub returns-in-Ok-sized-clause-compiles : goal.returns-in-Ok-sized-clause-compiles
returns-in-Ok-sized-clause-compiles c =
    let lexed : Lexes 0 1 c.args.source.now (Ok (source_tokens c.deref.result.now)) =
    subst (λ ts. Lexes 0 1 c.args.source.now (Ok (source_tokens ts))) (sym c.deref.ensures.value)
    c.in_ok-tokens.ensures.meets in
    let found = c.in_ok-program.ensures.found in
    let checked = c.in-Ok.ensures.answers in
    let sized = subst (IsStoryWithin c.args.limit c.args.version c.in-Ok.checked) c.in-Ok-sized.is
    (subst (λ r. IfOk r (IsStoryWithin c.args.limit c.args.version c.in-Ok.checked)) c.in_ok-sized.was
    c.story_by-found.ensures) in
    compiled c.laws.ensures.accepted c.laws.ensures.tokens c.laws.ensures.trees
    c.laws.ensures.programs c.args.source.now c.deref.result.now (program_tree c.in_ok-program.program)
    c.in-Ok.checked lexed found.0 checked.0 checked.1
    c.laws.ensures.hold c.laws.ensures.plays c.args.limit c.args.version sized.0 sized.2
    c.of_bytes.result c.of_bytes.ensures.small (c.of_bytes.ensures.value ∙ sized.1) found.1

-- ---- the place of a fault

pub returns-in_err-tokens-clause-stands : goal.returns-in_err-tokens-clause-stands
returns-in_err-tokens-clause-stands c =
    stands_answered c.args.source.now c.from_residual.result c.in_err-tokens.field-0.0 c.from_residual.ensures
    (unlexed_stands c.args.source.now c.in_err-tokens.field-0.0 c.in_err-tokens.ensures.meets)

pub returns-in_err-program-clause-stands : goal.returns-in_err-program-clause-stands
returns-in_err-program-clause-stands c =
    let lexed : Lexes 0 1 c.args.source.now (Ok (source_tokens c.deref.result.now)) =
    subst (λ ts. Lexes 0 1 c.args.source.now (Ok (source_tokens ts))) (sym c.deref.ensures.value)
    c.in_ok-tokens.ensures.meets in
    let once : EndsOnce (lexemes c.deref.result.now) =
    subst (λ ts. EndsOnce (lexemes ts)) (sym c.deref.ensures.value) c.in_ok-tokens.ensures.ends_once in
    stands_answered c.args.source.now c.from_residual-in_err-program.result c.in_err-program.field-0.0
    c.from_residual-in_err-program.ensures
    (unparsed_stands c.args.source.now c.deref.result.now lexed c.in_err-program.field-0.0
    (λ ten. c.in_err-program.ensures.place ten once) c.in_err-program.ensures.deep_place
    c.in_err-program.ensures.numbers)

pub returns-in-Err-clause-stands : goal.returns-in-Err-clause-stands
returns-in-Err-clause-stands c =
    let lexed : Lexes 0 1 c.args.source.now (Ok (source_tokens c.deref.result.now)) =
    subst (λ ts. Lexes 0 1 c.args.source.now (Ok (source_tokens ts))) (sym c.deref.ensures.value)
    c.in_ok-tokens.ensures.meets in
    let found = c.in_ok-program.ensures.found in
    let p = program_tree c.in_ok-program.program in
    unchecked_stands c.args.source.now p c.in-Err.placed
    (is_tree c.args.source.now c.deref.result.now lexed p found.0 found.1) c.in-Err.ensures.stands

pub returns-in-Err-sized-clause-stands : goal.returns-in-Err-sized-clause-stands
returns-in-Err-sized-clause-stands c =
    let lexed : Lexes 0 1 c.args.source.now (Ok (source_tokens c.deref.result.now)) =
    subst (λ ts. Lexes 0 1 c.args.source.now (Ok (source_tokens ts))) (sym c.deref.ensures.value)
    c.in_ok-tokens.ensures.meets in
    let found = c.in_ok-program.ensures.found in
    let p = program_tree c.in_ok-program.program in
    let large = subst (IsStoryWithin c.args.limit c.args.version c.in-Ok.checked) c.in-Err-sized.is
    (subst (λ r. IfOk r (IsStoryWithin c.args.limit c.args.version c.in-Ok.checked)) c.in_ok-sized.was
    c.story_by-found.ensures) in
    too_large_stands c.args.source.now p c.in-Ok.checked c.in-Err-sized.placed
    (is_tree c.args.source.now c.deref.result.now lexed p found.0 found.1) c.in-Ok.ensures.answers.1 large.1

pub returns-in_err-sized-clause-stands : goal.returns-in_err-sized-clause-stands
returns-in_err-sized-clause-stands c =
    stands_answered c.args.source.now c.from_residual-in_err-sized.result (nowhere no_memory)
    c.from_residual-in_err-sized.ensures (refused_stands c.args.source.now (nowhere no_memory) refl)
