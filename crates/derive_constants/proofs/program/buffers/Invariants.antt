use Rattle.std.proofs.Common.{◌≡◌, ◌++◌, map, length}
use Rattle.syntax_lexer.specs.Token.{lexemes}
use Rattle.derive_constants.specs.Constants.{buffers_from}
use Rattle.derive_constants.specs.Cutting.{directives}
use Rattle.derive_constants.specs.Held.{buffer_of, known_of}
use Rattle.derive_constants.specs.Values.{nothing_known}
use Rattle.derive_constants.proofs.program.buffers.Given as goal

abbrev pub invariant-loop-rest : goal.invariant-loop-rest
invariant-loop-rest l =
    map buffer_of l.found.items ++ buffers_from (known_of l.known) (directives (lexemes l.rest))
    ≡ buffers_from nothing_known (directives (lexemes l.tokens))

abbrev pub decreases-loop-rest : goal.decreases-loop-rest
decreases-loop-rest l = length l.rest
