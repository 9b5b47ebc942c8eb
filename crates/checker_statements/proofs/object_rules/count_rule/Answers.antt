use Rattle.std.proofs.Common.{List, sym, ap, ◌∙◌}
use Rattle.checker_values.specs.declared.breach.Breach.{Breach}
use Rattle.checker_values.specs.Noted.{noted}
use Rattle.checker_values.proofs.Noted.{noted_none}
use Rattle.checker_statements.proofs.ObjectLists.{counted_many, counted_few}
use Rattle.checker_statements.proofs.object_rules.count_rule.Goals as goal

pub returns-in-Some : goal.returns-in-Some
returns-in-Some c =
    c.note-in-Some.ensures
    ∙ ap (λ (bs : List Breach). noted c.args.tally.now bs)
    (sym (counted_many c.args.name.position c.args.values.now c.in-Some.value.now c.in-Some.ensures.lookup.0
    c.in-Some.ensures.lookup.1))

pub returns-in_default : goal.returns-in_default
returns-in_default c =
    sym (noted_none c.args.tally.now)
    ∙ ap (λ (bs : List Breach). noted c.args.tally.now bs)
    (sym (counted_few c.args.name.position c.args.values.now c.if-is_empty.ensures c.in_default.ensures.lookup.0))
