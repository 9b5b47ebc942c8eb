-- What the code holds.
use Rattle.std.specs.Prelude.{◌≡◌, ◌⊎◌, List, Result, Ok, Err}
use Rattle.syntax_lexer.specs.declared.fault.PlacedFault.{PlacedFault}
use Rattle.syntax_lexer.specs.FaultNumbers.{no_memory}
use Rattle.syntax_lexer.specs.Placed.{nowhere}
use Rattle.syntax_lexer.specs.Token.{Lexeme}
use Rattle.derive_tokens.specs.Tokens.{Outcome}
use Rattle.derive_values.specs.Views.{reading_of}
use Rattle.derive_statements.specs.Views.{token_of}
use Rattle.derive_expressions.specs.declared.heads.Chain.{Chain as ChainHeld}
use Rattle.derive_expressions.specs.declared.roles.Calling.{Calling as CallingHeld}
use Rattle.derive_expressions.specs.Calls.{after_tokens}
use Rattle.derive_expressions.specs.Heads.{Chain}
use Rattle.derive_expressions.specs.Roles.{Calling}

abbrev pub calling_of : CallingHeld → Calling
calling_of c = record { reading = reading_of c.reading; role = c.role }

abbrev pub chain_held : ChainHeld → Chain
chain_held c = record { ahead = c.ahead; depth = c.depth; property = token_of c.property }

-- the tokens that are wanted are put, or the fault is given, or memory is refused
abbrev pub PutsAll : Result (Unit {0}) PlacedFault → List Lexeme → List Lexeme → Outcome → Type 0
PutsAll (Ok u) old new wanted = after_tokens old wanted ≡ Ok new
PutsAll (Err fault) old new wanted = (fault ≡ nowhere no_memory) ⊎ (wanted ≡ Err fault)
