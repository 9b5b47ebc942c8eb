-- The broken rules of a program after one that is known.
use Rattle.std.specs.Prelude.{◌≡◌, List, [], length, Option, Some, None}
use Rattle.checker_values.specs.declared.breach.Breach.{Breach}
use Rattle.checker_values.specs.Breaches.{IsAmong, IsFirst}
use Rattle.checker_values.specs.Noted.{later, counted}
use Rattle.checker.specs.declared.check_program.NextBreach.{NextBreach}

-- the first of these, and how many they are; or that there are none
abbrev pub IsNextOf : Option NextBreach → List Breach → Type 0
IsNextOf None breaches = breaches ≡ []
IsNextOf (Some next) breaches =
    IsAmong next.breach breaches × IsFirst next.breach breaches × (next.count ≡ counted (length breaches))

-- the first of those of a list after the known one
abbrev pub AnswersNext : Breach → Option NextBreach → List Breach → Type 0
AnswersNext known next breaches = IsNextOf next (later known breaches)
