use Rattle.std.proofs.Common.{◌≡◌, ◌++◌, map, length}
use Rattle.syntax_lexer.specs.Token.{lexemes}
use Rattle.derive_tokens.specs.Pieces.{derived_all}
use Rattle.derive_constants.specs.Constants.{constants, program_from, starts}
use Rattle.derive_constants.specs.Cutting.{directives}
use Rattle.derive_constants.specs.Held.{buffer_of, known_of}
use Rattle.derive_constants.proofs.program.constants.Given as goal

abbrev pub invariant-loop-rest : goal.invariant-loop-rest
invariant-loop-rest l =
    derived_all l.out.items
    ++ program_from (starts (map buffer_of l.buffers.items)) (known_of l.known) (directives (lexemes l.rest))
    ≡ constants (lexemes l.tokens)

abbrev pub decreases-loop-rest : goal.decreases-loop-rest
decreases-loop-rest l = length l.rest
