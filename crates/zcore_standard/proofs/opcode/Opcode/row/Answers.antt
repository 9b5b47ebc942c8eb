use Rattle.std.proofs.Common.{ap, sym, ◌∙◌, arith}
use Rattle.std.proofs.lemmas.Bool.{le-leb}
use Rattle.zcore_standard.specs.Rows.{says}
use Rattle.zcore_standard.proofs.TableFacts.{row_said, older_said, none_yet, none_past, none_at_all}
use Rattle.zcore_standard.proofs.opcode.Opcode.row.Goals.{in_default-via-in-Some+then-row-version+else-version-le-LAST}
use Rattle.zcore_standard.proofs.opcode.Opcode.row.Goals.{in_default-via-in-Some+else-row-version}
use Rattle.zcore_standard.proofs.opcode.Opcode.row.Goals.{in_default-via-in_default}
use Rattle.zcore_standard.proofs.opcode.Opcode.row.Goals as goal

pub returns-in-Some-clause-said : goal.returns-in-Some-clause-said
returns-in-Some-clause-said c =
    row_said c.args.version c.args.self c.in-Some.row (ap says (sym c.in-Some.is) ∙ c.last_row.ensures)
    (le-leb c.in-Some.row.since c.args.version (omega (arith, c.if-row-version.true)))
    (le-leb c.args.version 8 (omega (arith, c.if-version-le-LAST.true)))

pub returns-in_default-clause-said : goal.returns-in_default-clause-said
returns-in_default-clause-said c =
    older_said c.args.version c.args.self c.last_row.result c.older_row.result c.last_row.ensures
    (elim c.in_default.branch [
      | in_default-via-in-Some+then-row-version+else-version-le-LAST w ↦
          none_past c.args.version c.last_row.result w.in-Some.row w.in-Some.is
          (omega (arith, w.if-version-le-LAST.false))
      | in_default-via-in-Some+else-row-version w ↦
          none_yet c.args.version c.last_row.result w.in-Some.row w.in-Some.is (omega (arith, w.if-row-version.false))
      | in_default-via-in_default w ↦ none_at_all c.args.version c.last_row.result w.in_default.is
    ])
    c.older_row.ensures.said
