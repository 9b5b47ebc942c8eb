use Rattle.std.proofs.Common.{ap, sym, ◌∙◌}
use Rattle.std.specs.Prelude.{option_copied}
use Rattle.code_drafts.proofs.Trees.{last_found}
use Rattle.code_drafts.proofs.operand.last_operator.Goals as goal

pub returns-in-Some : goal.returns-in-Some
returns-in-Some c =
    last_found c.args.operator c.args.links.now c.in-Some.link.now
    (ap option_copied (sym c.in-Some.is) ∙ c.last.ensures.value)
