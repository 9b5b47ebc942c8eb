-- What the code holds.
use Rattle.std.specs.Prelude.{◌≡◌, ◌⊎◌, reverse, Result, Ok, Err}
use Rattle.std.specs.Global.{Vec}
use Rattle.syntax_lexer.specs.declared.fault.PlacedFault.{PlacedFault}
use Rattle.syntax_lexer.specs.declared.token.Token.{Token}
use Rattle.syntax_lexer.specs.FaultNumbers.{no_memory}
use Rattle.syntax_lexer.specs.Placed.{nowhere}
use Rattle.syntax_lexer.specs.Token.{lexemes}
use Rattle.derive_tokens.specs.Tokens.{Outcome}
use Rattle.derive_tokens.specs.Held.{names_of}
use Rattle.derive_constants.specs.Held.{known_of}
use Rattle.derive_branches.specs.declared.kept.Kept.{Kept as KeptHeld}
use Rattle.derive_branches.specs.declared.brancher.Brancher.{Brancher}
use Rattle.derive_branches.specs.Kept.{Kept}
use Rattle.derive_branches.specs.Branches.{State, Step}

abbrev pub kept_of : KeptHeld → Kept
kept_of k = record {
  whole = lexemes k.whole.items;
  begun = lexemes k.begun.items;
  in_routine = k.in_routine;
  names = names_of k.names;
  known = known_of k.known;
}

abbrev pub state_of : Brancher → State
state_of s = record {
  kept = kept_of s.kept;
  branches = reverse s.branches.items;
  mode = s.mode;
  asked = lexemes s.asked.items;
}

-- the state that a step leads to, or its fault, or memory is refused
abbrev pub Steps : Result (Unit {0}) PlacedFault → Brancher → Step → Type 0
Steps (Ok u) new wanted = wanted ≡ Ok (state_of new)
Steps (Err fault) new wanted = (fault ≡ nowhere no_memory) ⊎ (wanted ≡ Err fault)

-- the tokens that a pass gives, or its fault, or memory is refused
abbrev pub GivesTokens : Result (Vec Token) PlacedFault → Outcome → Type 0
GivesTokens (Ok tokens) outcome = outcome ≡ Ok (lexemes tokens.items)
GivesTokens (Err fault) outcome = (fault ≡ nowhere no_memory) ⊎ (outcome ≡ Err fault)
