-- Where the fault of a program stands.
use Rattle.std.specs.Prelude.{◌≡◌, List, Some}
use Rattle.syntax_lexer.specs.declared.fault.PlacedFault.{PlacedFault}
use Rattle.checker_values.specs.declared.breach.Breach.{Breach}
use Rattle.checker_values.specs.Breaches.{IsAmong, IsFirst}

-- at the first of the broken rules, whose number and line are told
abbrev pub StandsAtFirst : PlacedFault → List Breach → Type 0
StandsAtFirst e breaches =
    (b : Breach) × IsAmong b breaches × IsFirst b breaches × (e.fault.number ≡ b.number)
    × (e.fault.line ≡ b.position.line) × (e.offset ≡ Some b.position.offset)
