use Rattle.std.proofs.Common.{sym, ◌∙◌, ap}
use Rattle.zcore_standard.specs.Rows.{said_in}
use Rattle.zcore_versions.proofs.Table.{missing_found, row_found, shape_found}
use Rattle.zcore_versions.proofs.version.StoryVersion.operation.Goals as goal

pub returns-in-None : goal.returns-in-None
returns-in-None c = missing_found c.args.self c.args.opcode c.no_operands.result (sym c.is_late.ensures ∙ c.if-is_late.false)
    (ap said_in (sym c.in-None.is) ∙ c.row.ensures.said) c.no_operands.ensures

pub otherwise-requires : goal.otherwise-requires
otherwise-requires c = shape_found c.args.self.number c.args.opcode c.in-Some.row.action c.in-Some.row.shape
    (ap said_in (sym c.in-Some.is) ∙ c.row.ensures.said)

pub returns-in-Some : goal.returns-in-Some
returns-in-Some c = row_found c.args.self c.args.opcode c.in-Some.row.action c.in-Some.row.shape c.otherwise.result
    (sym c.is_late.ensures ∙ c.if-is_late.false) (ap said_in (sym c.in-Some.is) ∙ c.row.ensures.said) c.otherwise.ensures
