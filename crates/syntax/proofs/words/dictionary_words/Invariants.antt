use Rattle.std.proofs.Common.{◌≡◌, ◌++◌, drop}
use Rattle.std.specs.Prelude.{map}
use Rattle.syntax_lexer.specs.Token.{lexemes}
use Rattle.syntax.specs.Grammar as grammar
use Rattle.syntax.proofs.words.dictionary_words.Given as goal

abbrev pub invariant-loop-token : goal.invariant-loop-token
invariant-loop-token l =
    map (λ w. w.now) l.words.items ++ grammar.dictionary_words (lexemes (drop l.token-index l.tokens))
    ≡ grammar.dictionary_words (lexemes l.tokens)
