use Rattle.std.proofs.Common.{sym, ◌∙◌}
use Rattle.zcore_versions.proofs.Table.{known_found, known_alike, split_found, split_alike, older_found}
use Rattle.zcore_versions.proofs.operations.otherwise.Goals as goal

pub returns-then-differs : goal.returns-then-differs
returns-then-differs c = known_found c.args.version c.args.action c.in-Profile.operation c.args.shape c.in-Profile.is
    c.requires (sym c.differs.ensures ∙ c.if-differs.true)

pub returns-else-differs : goal.returns-else-differs
returns-else-differs c = known_alike c.args.version c.args.action c.in-Profile.operation c.in-Profile.is
    (sym c.differs.ensures ∙ c.if-differs.false)

pub returns-then-empties : goal.returns-then-empties
returns-then-empties c = split_found c.args.version c.args.action c.in-Standard.operation c.args.shape c.in-Standard.is
    c.requires (sym c.empties.ensures ∙ c.if-empties.true)

pub returns-else-empties : goal.returns-else-empties
returns-else-empties c = split_alike c.args.version c.args.action c.in-Standard.operation c.in-Standard.is
    (sym c.empties.ensures ∙ c.if-empties.false)

pub returns-in-Older : goal.returns-in-Older
returns-in-Older c = older_found c.args.version c.args.action c.in-Older.operation c.args.shape c.in-Older.is c.requires
