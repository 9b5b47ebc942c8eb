-- What the code holds.
use Rattle.std.specs.Prelude.{◌≡◌, ◌⊎◌, ◌++◌, ℕ, List, [], Result, Ok, Err, drop, take}
use Rattle.syntax_lexer.specs.declared.fault.PlacedFault.{PlacedFault}
use Rattle.syntax_lexer.specs.FaultNumbers.{no_memory}
use Rattle.syntax_lexer.specs.Placed.{nowhere}
use Rattle.syntax_lexer.specs.Token.{Lexeme}
use Rattle.derive_tokens.specs.declared.piece.Piece.{Piece}
use Rattle.derive_tokens.specs.Pieces.{derived, derived_all}
use Rattle.derive_values.specs.declared.lifting.Lifting.{Lifting as LiftingHeld}
use Rattle.derive_tokens.specs.Held.{names_of}
use Rattle.derive_values.specs.declared.numbers.Numbers.{Numbers as NumbersHeld}
use Rattle.derive_values.specs.declared.scopes.Reading.{Reading as ReadingHeld}
use Rattle.derive_values.specs.declared.lifting.Level.{Level}
use Rattle.derive_values.specs.Lifted.{Lifting, lifted_from}
use Rattle.derive_values.specs.Places.{Reading}
use Rattle.derive_values.specs.Values.{Numbers}

abbrev pub reading_of : ReadingHeld → Reading
reading_of r = record { scope = r.scope; own = names_of r.own }

abbrev pub lifting_of : LiftingHeld → Lifting
lifting_of l = record { level = l.level; count = l.count; waiting = derived_all l.waiting.items }

-- The tokens that are put, and what a rest stands for, are what was put before, and what the tokens stand for.
abbrev pub Lifts : List Piece → Lifting → List Piece → List Piece → Lifting → List Piece → Type 0
Lifts old before pieces new later rest =
    derived_all new ++ lifted_from later (derived_all rest) ≡ derived_all old ++ lifted_from before (derived_all pieces)

-- where no routine waits
abbrev pub settled : Level → ℕ → Lifting
settled level count = record { level = level; count = count; waiting = [] }

-- So many tokens stay as they are, and another level is after them.
abbrev pub Passes : Level → List Piece → ℕ → Level → Type 0
Passes start pieces n level =
    (count : ℕ) → lifted_from (settled start count) (derived_all pieces)
    ≡ derived_all (take n pieces) ++ lifted_from (settled level count) (derived_all (drop n pieces))

abbrev pub numbers_held : NumbersHeld → Numbers
numbers_held n = record { texts = names_of n.texts; routines = names_of n.routines }

-- the token that is wanted, or the fault, or memory is refused
abbrev pub PutsOne : Result Piece PlacedFault → Result Lexeme PlacedFault → Type 0
PutsOne (Ok piece) wanted = wanted ≡ Ok (derived piece)
PutsOne (Err fault) wanted = (fault ≡ nowhere no_memory) ⊎ (wanted ≡ Err fault)
