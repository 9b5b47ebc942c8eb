use Rattle.std.proofs.Common.{◌≡◌, drop}
use Rattle.std.specs.Prelude.{map}
use Rattle.syntax_directives.specs.Views.{text_tree}
use Rattle.checker.specs.Programs.{has_text}
use Rattle.checker.proofs.abbreviation_rules.has_text.Given as goal

abbrev pub invariant-loop-text : goal.invariant-loop-text
invariant-loop-text l = has_text (map text_tree (drop l.text-index l.texts)) l.bytes
    ≡ has_text (map text_tree l.texts) l.bytes
