-- Broken rules and their places, and which of several answers.
use Rattle.std.specs.Prelude.{◌≡◌, ◌&&◌, ◌||◌, ◌==◌, ℕ, nat_lt, Bool, false, List, [], ◌∷◌, Result, Ok, Err, ◌⊎◌}
use Rattle.syntax_lexer.specs.declared.token.Position.{Position}
use Rattle.syntax_lexer.specs.declared.fault.SourceFault.{SourceFault}
use Rattle.syntax_lexer.specs.FaultNumbers.{no_memory}
use Rattle.checker_values.specs.declared.breach.Breach.{Breach}

-- one broken rule
abbrev pub at : Position → ℕ → List Breach
at position number = record { position = position; number = number } ∷ []

-- at a smaller place, or at the same place with a smaller number
abbrev pub is_before : Breach → Breach → Bool
is_before a b =
    nat_lt a.position.offset b.position.offset
    || (a.position.offset == b.position.offset && nat_lt a.number b.number)

-- b is one of the list
abbrev pub IsAmong : Breach → List Breach → Type 0
IsAmong b [] = ⊥
IsAmong b (x ∷ xs) = (x ≡ b) ⊎ IsAmong b xs

-- none of the list is before b
abbrev pub IsFirst : Breach → List Breach → Type 0
IsFirst b [] = Unit {0}
IsFirst b (x ∷ xs) = (is_before x b ≡ false) × IsFirst b xs

-- An answer: where no rule is broken, what is handed out; else the number and the line of the first broken rule. E99
-- with line 0 tells of refused memory, and of nothing else.
abbrev pub AnswersBreaches : {X : Type 0} → Result X SourceFault → List Breach → (X → Type 0) → Type 0
AnswersBreaches (Ok x) breaches P = (breaches ≡ []) × P x
AnswersBreaches (Err fault) breaches P =
    (fault ≡ no_memory)
    ⊎ ((b : Breach) × IsAmong b breaches × IsFirst b breaches × (fault.number ≡ b.number)
    × (fault.line ≡ b.position.line))
