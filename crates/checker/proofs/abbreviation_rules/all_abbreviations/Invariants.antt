use Rattle.std.proofs.Common.{◌≡◌, ◌++◌, drop}
use Rattle.std.specs.Prelude.{map}
use Rattle.syntax_directives.specs.Views.{text_tree}
use Rattle.checker.proofs.Whole.{characters_of}
use Rattle.checker.proofs.abbreviation_rules.all_abbreviations.Given as goal

abbrev pub invariant-loop-text : goal.invariant-loop-text
invariant-loop-text l =
    l.found ++ map characters_of (map text_tree (drop l.text-index l.texts)) ≡ map characters_of (map text_tree l.texts)
