-- What `lex_placed` and `lex` return, by the relation.
use Rattle.std.specs.Prelude.{◌≡◌, ◌+◌, List, length, map, Result, Ok, Err, ◌⊎◌}
use Rattle.std.specs.Global.{Vec}
use Rattle.syntax_lexer.specs.declared.token.Token.{Token}
use Rattle.syntax_lexer.specs.declared.fault.SourceFault.{SourceFault}
use Rattle.syntax_lexer.specs.declared.fault.PlacedFault.{PlacedFault}
use Rattle.syntax_lexer.specs.Token.{lexeme}
use Rattle.syntax_lexer.specs.FaultNumbers.{no_memory}
use Rattle.syntax_lexer.specs.Placed.{nowhere}
use Rattle.syntax_lexer.specs.Tokens.{SourceToken, TokenOutcome}

abbrev pub source_token : Token → SourceToken
source_token t = record {
  lexeme = lexeme t;
  text = t.text.now;
  end = t.position.offset + length t.text.now;
}

abbrev pub source_tokens : List Token → List SourceToken
source_tokens ts = map source_token ts

abbrev pub Meets : Result (Vec Token) PlacedFault → (TokenOutcome → Type 0) → Type 0
Meets (Ok v) P = P (Ok (source_tokens v.items))
Meets (Err p) P = (p ≡ nowhere no_memory) ⊎ P (Err p)

-- the same without the place of the fault
abbrev pub MeetsUnplaced : Result (Vec Token) SourceFault → (TokenOutcome → Type 0) → Type 0
MeetsUnplaced (Ok v) P = P (Ok (source_tokens v.items))
MeetsUnplaced (Err e) P = (e ≡ no_memory) ⊎ ((p : PlacedFault) × (p.fault ≡ e) × P (Err p))
