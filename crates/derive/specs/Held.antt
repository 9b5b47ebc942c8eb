-- What the code gives.
use Rattle.std.specs.Prelude.{◌≡◌, ◌⊎◌, ℕ, Result, Ok, Err}
use Rattle.std.specs.Global.{Vec}
use Rattle.syntax_lexer.specs.declared.fault.PlacedFault.{PlacedFault}
use Rattle.syntax_lexer.specs.FaultNumbers.{no_memory}
use Rattle.syntax_lexer.specs.Placed.{nowhere}
use Rattle.derive_constants.specs.Held.{known_of}
use Rattle.derive.specs.declared.passes.Signatures.{Signatures as SignaturesHeld}
use Rattle.derive.specs.Passes.{Derived, Signatures}

abbrev pub signatures_held : SignaturesHeld → Signatures
signatures_held s = record { arities = known_of s.arities; apart = s.apart }

-- what is derived meets a fact, or memory is refused
abbrev pub MeetsDerived : Result (Vec ℕ) PlacedFault → (Derived → Type 0) → Type 0
MeetsDerived (Ok text) P = P (Ok text.items)
MeetsDerived (Err fault) P = (fault ≡ nowhere no_memory) ⊎ P (Err fault)

-- what is derived, or memory is refused
abbrev pub GivesBytes : Result (Vec ℕ) PlacedFault → Derived → Type 0
GivesBytes (Ok text) derived = derived ≡ Ok text.items
GivesBytes (Err fault) derived = (fault ≡ nowhere no_memory) ⊎ (derived ≡ Err fault)
