-- What the code holds of print rules.
use Rattle.std.specs.Prelude.{Option, Some, None}
use Rattle.derive_tokens.specs.Pieces.{derived}
use Rattle.derive_statements.specs.declared.prints.Rule.{Rule as RuleHeld}
use Rattle.derive_statements.specs.declared.prints.Rule.TheVariants as rules
use Rattle.derive_statements.specs.declared.prints.Cut.{Cut as CutHeld}
use Rattle.derive_statements.specs.declared.prints.Cut.TheVariants as cuts
use Rattle.derive_statements.specs.declared.prints.Printing.{Printing as PrintingHeld}
use Rattle.derive_statements.specs.Prints.{Rule, Cut, Printing, call, article, whole, apart, ruled}

abbrev pub rule_held : RuleHeld → Rule
rule_held (rules.Call piece) = call (derived piece)
rule_held (rules.Article bytes p) = article bytes.now p

abbrev pub rule_found : Option RuleHeld → Option Rule
rule_found None = None
rule_found (Some rule) = Some (rule_held rule)

abbrev pub cut_held : CutHeld → Cut
cut_held cuts.Whole = whole
cut_held cuts.Apart = apart
cut_held (cuts.Ruled rule) = ruled (rule_held rule)

abbrev pub printing_held : PrintingHeld → Printing
printing_held q = record { cut = cut_held q.cut; returns = q.returns; passed = q.passed }
