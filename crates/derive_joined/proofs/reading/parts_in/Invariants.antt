use Rattle.std.proofs.Common.{◌≡◌, ◌++◌, drop}
use Rattle.syntax_lexer.specs.Results.{source_tokens}
use Rattle.derive_joined.specs.Held.{state_of}
use Rattle.derive_joined.specs.Parts.{parts_from, parts_of}
use Rattle.derive_joined.proofs.reading.parts_in.Given as goal

abbrev pub invariant-loop-token : goal.invariant-loop-token
invariant-loop-token l =
    l.reader.parts.items ++ parts_from l.length (state_of l.reader) (source_tokens (drop l.token-index l.tokens))
    ≡ parts_of l.file l.length (source_tokens l.tokens)
