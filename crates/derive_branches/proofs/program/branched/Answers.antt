use Rattle.std.proofs.Common.{◌+◌, ◌∙◌, Ok, drop, ap, sym}
use Rattle.syntax_lexer.specs.Token.{lexemes}
use Rattle.derive_branches.specs.Branches.{branched, outcome, steps}
use Rattle.derive_branches.specs.Held.{state_of}
use Rattle.derive_branches.proofs.Steps.{step_on, step_stop}
use Rattle.derive_branches.proofs.program.branched.Goals.{then-is_plain+in_ok-keep, else-is_plain+in-Ok}
use Rattle.derive_branches.proofs.program.branched.Goals as goal

-- src/program.rt: a fault, or no memory
pub returns-in-Err : goal.returns-in-Err
returns-in-Err c =
    step_stop (state_of c.loop-token.brancher) c.args.tokens.now c.loop-token.token-index _ c.in-Err.fault
    (branched (lexemes c.args.tokens.now)) c.loop-token-test.true c.loop-token.invariant c.in-Err.ensures

-- src/program.rt: one token more
pub loop-token-preserved : goal.loop-token-preserved
loop-token-preserved c =
    elim c.if-is_plain.branch [
      | then-is_plain+in_ok-keep w ↦
          ap (λ b. outcome (steps (Ok (state_of b)) (lexemes (drop (c.loop-token.token-index + 1) c.args.tokens.now))))
          w.brancher-is
          ∙ step_on (state_of c.loop-token.brancher) (state_of w.keep.new.self) c.args.tokens.now c.loop-token.token-index _
          (branched (lexemes c.args.tokens.now)) c.loop-token-test.true
          (c.is_plain.ensures w.if-is_plain.true ∙ ap Ok (sym w.in_ok-keep.ensures)) c.loop-token.invariant
      | else-is_plain+in-Ok w ↦
          ap (λ b. outcome (steps (Ok (state_of b)) (lexemes (drop (c.loop-token.token-index + 1) c.args.tokens.now))))
          w.brancher-is
          ∙ step_on (state_of c.loop-token.brancher) (state_of w.read.new.self) c.args.tokens.now c.loop-token.token-index _
          (branched (lexemes c.args.tokens.now)) c.loop-token-test.true w.in-Ok.ensures c.loop-token.invariant
    ]
