use Rattle.std.proofs.Common.{◌≡◌, Ok, drop}
use Rattle.syntax_lexer.specs.Token.{lexemes}
use Rattle.derive_branches.specs.Branches.{branched, outcome, steps}
use Rattle.derive_branches.specs.Held.{state_of}
use Rattle.derive_branches.proofs.program.branched.Given as goal

abbrev pub invariant-loop-token : goal.invariant-loop-token
invariant-loop-token l =
    outcome (steps (Ok (state_of l.brancher)) (lexemes (drop l.token-index l.tokens)))
    ≡ branched (lexemes l.tokens)
