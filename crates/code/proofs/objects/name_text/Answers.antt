use Rattle.std.proofs.Common.{sym, ◌∙◌, arith}
use Rattle.code.proofs.Names.{name_long}
use Rattle.code.proofs.objects.name_text.Goals as goal

pub returns-then-len-gt-NAME_LENGTH-clause-refused : goal.returns-then-len-gt-NAME_LENGTH-clause-refused
returns-then-len-gt-NAME_LENGTH-clause-refused c =
    name_long c.args.name.now c.in-Ok.text.items (sym c.is_empty.ensures ∙ c.if-is_empty.false)
    c.in-Ok.ensures.encodes.1
    (omega (arith, c.if-len-gt-NAME_LENGTH.true, c.len.ensures))
