use Rattle.std.proofs.Common.{◌≡◌, ◌++◌, map, drop}
use Rattle.syntax_lexer.specs.Token.{lexemes}
use Rattle.derive_tokens.specs.Pieces.{derived_all}
use Rattle.derive_constants.specs.Constants.{after_first_semicolon, starts}
use Rattle.derive_constants.specs.Held.{buffer_of}
use Rattle.derive_constants.proofs.program.put_main.Given as goal

abbrev pub invariant-loop-at : goal.invariant-loop-at
invariant-loop-at l =
    derived_all l.out.items
    ++ after_first_semicolon (starts (map buffer_of l.buffers)) (lexemes (drop l.at l.directive))
    ≡ derived_all l.initial.out.items
    ++ after_first_semicolon (starts (map buffer_of l.buffers)) (lexemes l.directive)
