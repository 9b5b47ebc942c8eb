use Rattle.std.proofs.Common.{◌≡◌, [], take, drop}
use Rattle.std.specs.Prelude.{map}
use Rattle.syntax_directives.specs.Views.{text_tree}
use Rattle.checker_values.specs.Noted.{noted}
use Rattle.checker.specs.Programs.{abbreviations_breaches}
use Rattle.checker.proofs.abbreviation_rules.abbreviation_rules.Given as goal

abbrev pub invariant-loop-i : goal.invariant-loop-i
invariant-loop-i l =
    noted l.tally (abbreviations_breaches (map text_tree (take l.i l.texts)) (map text_tree (drop l.i l.texts)))
    ≡ noted l.fn.tally (abbreviations_breaches [] (map text_tree l.texts))
