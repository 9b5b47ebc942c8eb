use Rattle.std.proofs.Common.{◌≡◌, drop, fold}
use Rattle.syntax_lexer.specs.Token.{lexemes}
use Rattle.derive_constants.specs.Held.{known_of, read}
use Rattle.derive_constants.specs.Values.{at_end, reads, value_in}
use Rattle.derive_constants.proofs.reading.value_in.Given as goal

abbrev pub invariant-loop-token : goal.invariant-loop-token
invariant-loop-token l =
    at_end (fold (reads (known_of l.known)) (read l.reading) (lexemes (drop l.token-index l.tokens)))
    ≡ value_in (known_of l.known) (lexemes l.tokens)
