use Rattle.meaning.specs.Resolved as values
use Rattle.checker_values.specs.Scope.{seen_in}
use Rattle.checker_values.proofs.Walks.{two}
use Rattle.checker_statements.proofs.MadeActions.{made_give}
use Rattle.checker_statements.proofs.Forms.{flags_walked}
use Rattle.checker_statements.proofs.simple_rules.give.Goals as goal

pub returns : goal.returns
returns c around = rw (made_give c.in-Ok.object c.in-Ok-flags.changes, ← c.deref.ensures, ← c.deref-2.ensures.value)
    (two values.give_to c.in-Ok.ensures
    (flags_walked (seen_in c.args.scope.now) c.deref-2.result.now c.in-Ok-flags.changes.items c.in-Ok-flags.ensures))
